-- What is known of a location: nothing is below each value, and each value is below many.
use Rattle.std.specs.Prelude.{◌≡◌, Bool, true, false, Option, Some, None}
use Rattle.bril_tree.specs.declared.value.Value.{Value}
use Rattle.constant_pass.specs.declared.constants.known.Known.{Known}
use Rattle.constant_pass.specs.declared.constants.known.Known.TheVariants.{Nothing, One, Many}

-- the first is below the second, or they are the same
abbrev pub IsBelow : Known → Known → Type 0
IsBelow Nothing l = Unit {0}
IsBelow (One v) Nothing = ⊥
IsBelow (One v) (One w) = v ≡ w
IsBelow (One v) Many = Unit {0}
IsBelow Many Nothing = ⊥
IsBelow Many (One w) = ⊥
IsBelow Many Many = Unit {0}

abbrev pub is_nothing : Known → Bool
is_nothing Nothing = true
is_nothing (One v) = false
is_nothing Many = false

abbrev pub is_many : Known → Bool
is_many Nothing = false
is_many (One v) = false
is_many Many = true

-- the value, where there is one alone
abbrev pub single : Known → Option Value
single Nothing = None
single (One v) = Some v
single Many = None
