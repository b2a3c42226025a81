-- Words that spell ints, where no program says what they spell.
use Rattle.std.specs.Prelude.{◌≡◌, ◌≢◌, ℕ, ℤ, List, [], map, Option, Some, FitsSigned}
use Rattle.std.specs.Int.{w64}
use native.Mathlib.Nat.{min-le_right}
use Rattle.bril_tree.specs.declared.types.Base.TheVariants as base
use Rattle.bril_tree.specs.declared.types.Ty.{Ty}
use Rattle.bril_tree.specs.declared.value.Value.{Value}
use Rattle.bril_tree.specs.declared.value.Value.TheVariants.{Int}
use Rattle.bril_arguments.specs.Spelled.{AreSpelled}
use Rattle.bril_arguments.specs.Faults.{IsFirstMisspelled}
use Rattle.bril_arguments.specs.declared.fault.ArgFault.{ArgFault}
use Rattle.bril_arguments.specs.declared.fault.ArgFault.TheVariants.{Count, Spelling, Memory}

-- the type of an int
abbrev pub int_type : Ty
int_type = record { depth = 0; base = base.Int; nests = min-le_right 0 32 }

-- the type of an int for each word
abbrev pub int_types : List (List ℕ) → List (Option Ty)
int_types words = map (λ _. Some int_type) words

-- each word spells the int at its place, as an argument of `main` of this type does
abbrev pub AreInts : List (List ℕ) → List Value → Type 0
AreInts words values = AreSpelled (int_types words) words values

-- an int of 64 bits
abbrev pub IsIntInRange : Value → Type 0
IsIntInRange value = (n : ℤ) × (value ≡ Int n) × FitsSigned w64 n

-- what a fault says of words that are to be ints: memory runs out only where they are, and there is one at least
abbrev pub IsIntFaultOf : List (List ℕ) → ArgFault → Type 0
IsIntFaultOf words (Count given wanted) = ⊥
IsIntFaultOf words (Spelling place) = IsFirstMisspelled (int_types words) words place
IsIntFaultOf words Memory = (values : List Value) × AreInts words values × (values ≢ [])
