-- Why words are no arguments of these types.
use Rattle.std.specs.Prelude.{◌≡◌, ◌≢◌, ℕ, ◌+◌, List, [], length, take, Option, Some, slice_get}
use Rattle.bril_tree.specs.declared.types.Ty.{Ty}
use Rattle.bril_tree.specs.declared.value.Value.{Value}
use Rattle.bril_arguments.specs.Spelled.{IsSpelled, AreSpelled}
use Rattle.bril_arguments.specs.declared.fault.ArgFault.{ArgFault}
use Rattle.bril_arguments.specs.declared.fault.ArgFault.TheVariants.{Count, Spelling, Memory}

-- the word at this place, counted from 1, spells no value of its type, and those before it do
pub record IsFirstMisspelled (types : List (Option Ty)) (words : List (List ℕ)) (place : ℕ) : Type 0 where
  pub index : ℕ
  pub counted : place ≡ index + 1
  pub ty : Option Ty
  pub word : List ℕ
  pub ty_here : slice_get types index ≡ Some ty
  pub word_here : slice_get words index ≡ Some word
  pub values : List Value
  pub before : AreSpelled (take index types) (take index words) values
  pub none : (value : Value) → ¬ IsSpelled ty word value

-- what a fault says of the words, by these types: memory runs out only where they spell values, and one at least
abbrev pub IsFaultOf : List (Option Ty) → List (List ℕ) → ArgFault → Type 0
IsFaultOf types words (Count given wanted) = (given ≡ length words) × (wanted ≡ length types) × (given ≢ wanted)
IsFaultOf types words (Spelling place) = (length words ≡ length types) × IsFirstMisspelled types words place
IsFaultOf types words Memory = (values : List Value) × AreSpelled types words values × (values ≢ [])
