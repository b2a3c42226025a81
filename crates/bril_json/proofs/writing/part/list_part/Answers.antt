use Rattle.std.proofs.Common.{◌<◌, length, arith}
use Rattle.std.proofs.lemmas.Grind.{common_steps}
use Rattle.bril_json.proofs.Lists.{list_view}
use Rattle.bril_json.proofs.writing.part.list_part.Goals as goal

pub returns : goal.returns
returns c =
    let some : 0 < length c.args.values.items = grind (arith, common_steps) in
    list_view c.args.values some
