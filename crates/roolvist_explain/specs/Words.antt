-- The words that the system gives the program.
use Rattle.std.specs.Prelude.{◌≡◌, ℕ, List, map, string_bytes}
use Rattle.std.specs.Iterator.{Drains}
use Rattle.std.specs.Vec.Iter.{into_iter_steps}
use Rattle.std.specs.declared.string.String.{String}
use Rattle.std.specs.declared.vec.IntoIter.{IntoIter}

-- these are all words that the iterator gives, as they are
abbrev pub AreAllOf : {Z : Type 0} → IntoIter (String Z) Z → List (List ℕ) → Type 0
AreAllOf {Z} args words = (given : List (String Z)) × Drains (into_iter_steps {X = String Z} {Z = Z}) args given × (words ≡ map string_bytes given)
