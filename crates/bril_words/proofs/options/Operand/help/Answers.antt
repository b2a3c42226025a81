-- The text has the number of the table.
use Rattle.std.proofs.Common.{refl}
use Rattle.std.specs.Fmt.{digits}
use Rattle.bril_words.proofs.options.Operand.help.Goals as goal

pub returns-in-Functions : goal.returns-in-Functions
unfolding digits
returns-in-Functions c = rw c.in-Functions.is refl
