-- Each text has the numbers of the table.
use Rattle.std.proofs.Common.{refl}
use Rattle.std.specs.Fmt.{digits}
use Rattle.bril_words.proofs.options.Setting.help.Goals as goal

pub returns-in-Frames : goal.returns-in-Frames
unfolding digits
returns-in-Frames c = rw c.in-Frames.is refl

pub returns-in-Cells : goal.returns-in-Cells
unfolding digits
returns-in-Cells c = rw c.in-Cells.is refl

pub returns-in-Steps : goal.returns-in-Steps
unfolding digits
returns-in-Steps c = rw c.in-Steps.is refl

pub returns-in-Hot : goal.returns-in-Hot
unfolding digits
returns-in-Hot c = rw c.in-Hot.is refl

pub returns-in-Most : goal.returns-in-Most
unfolding digits
returns-in-Most c = rw c.in-Most.is refl
