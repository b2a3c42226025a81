use Rattle.rv64_image_laws.proofs.Endings.{stopped_in_time, printed_in_time}
use Rattle.rv64_image_laws.proofs.laws.images_end_in_time.Goals as goal

pub returns : goal.returns
returns c = λ image p limits args implements fits n cost words end is_cost enough ended.
    let run = implements.implements.runs args fits in (
      stopped_in_time implements.homes image p limits args run n cost words end is_cost enough ended,
      printed_in_time implements.homes image p limits args run n cost words end is_cost enough ended,
    )
