use Rattle.rv64_image_laws.proofs.Endings.{shown}
use Rattle.rv64_image_laws.proofs.laws.images_show_programs.Goals as goal

pub returns : goal.returns
returns c = λ image p limits args implements fits words.
    shown implements.homes image p limits args (implements.implements.runs args fits) words
