use Rattle.bril_nums.proofs.IntText.{int_of-sound, int_of-complete}
use Rattle.bril_nums.proofs.laws.int_text_law.Goals as goal

pub returns-clause-sound : goal.returns-clause-sound
returns-clause-sound c = λ bytes z e. (int_of-sound bytes z e).0

pub returns-clause-fits : goal.returns-clause-fits
returns-clause-fits c = λ bytes z e. (int_of-sound bytes z e).1

pub returns-clause-complete : goal.returns-clause-complete
returns-clause-complete c = int_of-complete
