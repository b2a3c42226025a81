use Rattle.bril_names.proofs.Edits.{edited_faultless}
use Rattle.bril_names.proofs.laws.sound_edits_have_no_fault.Goals as goal

pub returns : goal.returns
returns c = edited_faultless
