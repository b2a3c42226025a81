use Rattle.ssa_laws.proofs.lemmas.inserted_copies.Refines.{copies-refine}
use Rattle.ssa_laws.proofs.inserted_copies.laws.copies_refine.Goals as goal

pub returns : goal.returns
returns g c = λ P Q. copies-refine P Q (g.M.Copied.home P Q) (g.M.Copied.base P Q)
