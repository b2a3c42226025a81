-- The laws.
use Rattle.import_linker.proofs.Uniqueness.{lacking_not_linked, lacking_not_read}
use Rattle.import_linker.proofs.laws.lacking_is_told.Goals as goal

pub returns : goal.returns
returns c = record { tree = lacking_not_linked; refusal = lacking_not_read }
