-- The bytes are UTF-8 or not.
use Rattle.roolvist_lib.proofs.Pieces.{no_text, text_is}
use Rattle.roolvist_lib.proofs.given.text_of.Goals as goal

pub returns-in_ok-of-in-Ok-clause-utf8 : goal.returns-in_ok-of-in-Ok-clause-utf8
returns-in_ok-of-in-Ok-clause-utf8 c = text_is c.args.bytes.now c.in-Ok.ensures.cases.1

pub returns-in-Err-clause-misfit : goal.returns-in-Err-clause-misfit
returns-in-Err-clause-misfit c = λ e. no_text c.args.bytes.now c.in-Err.ensures.cases.0
