-- A list to which an item was added is not empty.
use Rattle.std.specs.Prelude.{◌<◌, List, [], ◌∷◌, ◌++◌, length}
use Rattle.std.proofs.Common.{zero-lt-suc}

pub push-some : {A : Type 0} (xs : List A) (x : A) → 0 < length (xs ++ (x ∷ []))
push-some [] x = zero-lt-suc 0
push-some (y ∷ ys) x = zero-lt-suc (length (ys ++ (x ∷ [])))
