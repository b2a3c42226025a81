use Rattle.trace_laws.proofs.lemmas.lines.Sound.{traces-well_laid}
use Rattle.trace_laws.proofs.lines.laws.traces_are_well_laid.Goals as goal

pub returns : goal.returns
returns c = traces-well_laid
