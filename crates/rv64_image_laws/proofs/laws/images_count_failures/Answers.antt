use Rattle.rv64_image_laws.proofs.Endings.{failures_counted}
use Rattle.rv64_image_laws.proofs.laws.images_count_failures.Goals as goal

pub returns : goal.returns
returns c = λ image p limits args implements fits n words end how ended stopped.
    failures_counted implements.homes image p limits args (implements.implements.runs args fits) n words end how ended stopped
