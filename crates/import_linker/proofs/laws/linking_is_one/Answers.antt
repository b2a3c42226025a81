-- The laws.
use Rattle.import_linker.proofs.Trees.{linked_once}
use Rattle.import_linker.proofs.Uniqueness.{linked_not_refused, refused_once}
use Rattle.import_linker.proofs.laws.linking_is_one.Goals as goal

pub returns : goal.returns
returns c = record { tree = linked_once; never_both = linked_not_refused; refusal = refused_once }
