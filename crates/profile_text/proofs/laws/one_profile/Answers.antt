use Rattle.profile_text.proofs.Faults.{texts_differ}
use Rattle.profile_text.proofs.laws.one_profile.Goals as goal

pub returns : goal.returns
returns c = texts_differ
