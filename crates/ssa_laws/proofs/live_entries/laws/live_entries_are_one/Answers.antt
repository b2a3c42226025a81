use Rattle.ssa_laws.proofs.lemmas.live_entries.Existing.{live-counts-one, live-counts-there, live-entries-one, live-entries-there, widths-there}
use Rattle.ssa_laws.proofs.live_entries.laws.live_entries_are_one.Goals as goal

pub returns-clause-one : goal.returns-clause-one
returns-clause-one c = live-entries-one

pub returns-clause-there : goal.returns-clause-there
returns-clause-there c = live-entries-there

pub returns-clause-count_one : goal.returns-clause-count_one
returns-clause-count_one c = live-counts-one

pub returns-clause-count_there : goal.returns-clause-count_there
returns-clause-count_there c = live-counts-there

pub returns-clause-width : goal.returns-clause-width
returns-clause-width c = widths-there
