-- What variables and shadows hold.
use Rattle.std.specs.Prelude.{◌≡◌, refl, Option, Some, None}
use Rattle.bril_tree.specs.declared.value.Value.{Value}
use Rattle.bril_tree.specs.declared.value.Value.TheVariants as value
use Rattle.bril_interpreter.specs.declared.entry.Held.{Held}
use Rattle.bril_interpreter.specs.declared.entry.Held.TheVariants.{Nothing, Int, Bool, Char, Ptr}

-- a value, or nothing
abbrev pub Content : Type 0
Content = Option Value

abbrev pub value_held : Held → Content
value_held Nothing = None
value_held (Int number) = Some (value.Int number)
value_held (Bool truth) = Some (value.Bool truth)
value_held (Char letter) = Some (value.Char letter)
value_held (Ptr block offset) = Some (value.Ptr block offset)

-- and back
abbrev pub held_as : Option Value → Held
held_as None = Nothing
held_as (Some (value.Int number)) = Int number
held_as (Some (value.Bool truth)) = Bool truth
held_as (Some (value.Char letter)) = Char letter
held_as (Some (value.Ptr block offset)) = Ptr block offset

pub held_back : (held : Held) → held_as (value_held held) ≡ held
held_back Nothing = refl
held_back (Int number) = refl
held_back (Bool truth) = refl
held_back (Char letter) = refl
held_back (Ptr block offset) = refl
