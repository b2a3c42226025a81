use Rattle.trace_laws.proofs.Existing.{one-list}
use Rattle.trace_laws.proofs.laws.fitting_entries_are_one_list.Goals as goal

pub returns : goal.returns
returns c = one-list
