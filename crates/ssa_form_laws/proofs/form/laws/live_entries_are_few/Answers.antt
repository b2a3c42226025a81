use Rattle.ssa_form_laws.proofs.lemmas.form.Entries.{live-entries-few}
use Rattle.ssa_form_laws.proofs.form.laws.live_entries_are_few.Goals as goal

pub returns : goal.returns
returns c = live-entries-few
