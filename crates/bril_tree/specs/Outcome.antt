-- What the operations compute from what they read: the Bril documentation's core language, its character
-- extension, the arithmetic of pointers, and `get` and `undef`.
use Rattle.std.specs.Prelude.{ℕ, Bool, true, false, not, ◌&&◌, ◌||◌, ◌==◌, nat_lt, nat_le, List, Option, Some, None, slice_index, if◌then◌else◌, ℤ, pos, negsuc, ◌+ℤ◌, ◌-ℤ◌, ◌*ℤ◌, int_lt, int_le, int_div}
use Rattle.std.specs.Int.{w64, int_wrap}
use Rattle.bril_tree.specs.declared.limits.Fault.{Fault}
use Rattle.bril_tree.specs.declared.limits.Fault.TheVariants.{DivZero, BadChar, PtrRange}
use Rattle.bril_tree.specs.declared.numbered.Instr.{Instr}
use Rattle.bril_tree.specs.declared.numbered.Instr.TheVariants.{Label, Const, Act}
use Rattle.bril_tree.specs.declared.operation.Op.{Op}
use Rattle.bril_tree.specs.declared.operation.Op.TheVariants as op
use Rattle.bril_tree.specs.declared.types.Ty.{Ty}
use Rattle.bril_tree.specs.declared.value.Value.{Value}
use Rattle.bril_tree.specs.declared.value.Value.TheVariants.{Int, Bool as Boolean, Char, Ptr}
use Rattle.bril_tree.specs.State.{Locals, read}
use Rattle.bril_tree.specs.Value.{zero_of, literal_value}

-- an operation's outcome: a value for its destination, a fault, or no such thing, where what it does is
-- more than to compute
pub data Outcome : Type 0 where
  Yields : (value : Value) → Outcome
  FaultsWith : (kind : Fault) → Outcome
  HasEffect : Outcome

-- what a value is as an int, a bool, a char and a pointer; the zero where it is none, which no accepted
-- program sees
abbrev pub int_of : Value → ℤ
int_of (Int n) = n
int_of (Boolean b) = pos 0
int_of (Char c) = pos 0
int_of (Ptr block offset) = pos 0

abbrev pub bool_of : Value → Bool
bool_of (Int n) = false
bool_of (Boolean b) = b
bool_of (Char c) = false
bool_of (Ptr block offset) = false

abbrev pub char_of : Value → ℕ
char_of (Int n) = 0
char_of (Boolean b) = 0
char_of (Char c) = c
char_of (Ptr block offset) = 0

abbrev pub block_of : Value → ℕ
block_of (Int n) = 0
block_of (Boolean b) = 0
block_of (Char c) = 0
block_of (Ptr block offset) = block

abbrev pub offset_of : Value → ℤ
offset_of (Int n) = pos 0
offset_of (Boolean b) = pos 0
offset_of (Char c) = pos 0
offset_of (Ptr block offset) = offset

-- equality of ints
abbrev pub int_same : ℤ → ℤ → Bool
int_same a b = not (int_lt a b) && not (int_lt b a)

-- the quotient rounded toward zero, modulo 2^64; none where the divisor is 0
abbrev pub divided : Bool → ℤ → ℤ → Outcome
divided true a b = FaultsWith DivZero
divided false a b = Yields (Int (int_wrap w64 (int_div a b)))

-- the number is a scalar value: 0 to 0xD7FF or 0xE000 to 0x10FFFF
abbrev pub is_scalar : ℕ → Bool
is_scalar n = nat_lt n 0xD800 || (nat_le 0xE000 n && nat_lt n 0x110000)

-- the char of a number, where it is a scalar value of Unicode
abbrev pub char_from : ℤ → Outcome
char_from (pos n) = if is_scalar n then Yields (Char n) else FaultsWith BadChar
char_from (negsuc n) = FaultsWith BadChar

-- the number lies in the signed range of 32 bits
abbrev pub fits_32 : ℤ → Bool
fits_32 (pos n) = nat_lt n 2147483648
fits_32 (negsuc n) = nat_lt n 2147483648

-- a pointer moved by a number of cells
abbrev pub moved : ℕ → ℤ → Outcome
moved block offset = if fits_32 offset then Yields (Ptr block offset) else FaultsWith PtrRange

-- the zero of a type
abbrev pub undefined : Option Ty → Outcome
undefined None = HasEffect
undefined (Some ty) = Yields (zero_of ty)

-- what an operation gives with its first and second argument, whose type is ty
abbrev pub computed : Op → Option Ty → Value → Value → Outcome
computed op.Add ty a b = Yields (Int (int_wrap w64 (int_of a +ℤ int_of b)))
computed op.Sub ty a b = Yields (Int (int_wrap w64 (int_of a -ℤ int_of b)))
computed op.Mul ty a b = Yields (Int (int_wrap w64 (int_of a *ℤ int_of b)))
computed op.Div ty a b = divided (int_same (int_of b) (pos 0)) (int_of a) (int_of b)
computed op.Eq ty a b = Yields (Boolean (int_same (int_of a) (int_of b)))
computed op.Lt ty a b = Yields (Boolean (int_lt (int_of a) (int_of b)))
computed op.Gt ty a b = Yields (Boolean (int_lt (int_of b) (int_of a)))
computed op.Le ty a b = Yields (Boolean (int_le (int_of a) (int_of b)))
computed op.Ge ty a b = Yields (Boolean (int_le (int_of b) (int_of a)))
computed op.Ceq ty a b = Yields (Boolean (char_of a == char_of b))
computed op.Clt ty a b = Yields (Boolean (nat_lt (char_of a) (char_of b)))
computed op.Cgt ty a b = Yields (Boolean (nat_lt (char_of b) (char_of a)))
computed op.Cle ty a b = Yields (Boolean (nat_le (char_of a) (char_of b)))
computed op.Cge ty a b = Yields (Boolean (nat_le (char_of b) (char_of a)))
computed op.Not ty a b = Yields (Boolean (not (bool_of a)))
computed op.And ty a b = Yields (Boolean (bool_of a && bool_of b))
computed op.Or ty a b = Yields (Boolean (bool_of a || bool_of b))
computed op.Id ty a b = Yields a
computed op.PtrAdd ty a b = moved (block_of a) (offset_of a +ℤ int_of b)
computed op.CharToInt ty a b = Yields (Int (pos (char_of a)))
computed op.IntToChar ty a b = char_from (int_of a)
computed op.Undef ty a b = undefined ty
computed op.Nop ty a b = HasEffect
computed op.Jmp ty a b = HasEffect
computed op.Br ty a b = HasEffect
computed op.Call ty a b = HasEffect
computed op.Ret ty a b = HasEffect
computed op.Print ty a b = HasEffect
computed op.Alloc ty a b = HasEffect
computed op.Free ty a b = HasEffect
computed op.Store ty a b = HasEffect
computed op.Load ty a b = HasEffect
computed op.Get ty a b = HasEffect
computed op.Set ty a b = HasEffect
computed op.Speculate ty a b = HasEffect
computed op.Commit ty a b = HasEffect
computed op.Guard ty a b = HasEffect

-- argument k of an operation
abbrev pub argument : Locals → List ℕ → ℕ → Value
argument locations args k = read locations.vars (slice_index args k)

-- what the shadow of a destination gives to `get`
abbrev pub shadow_given : Locals → Option ℕ → Outcome
shadow_given locations None = HasEffect
shadow_given locations (Some x) = Yields (read locations.shadows x)

abbrev pub action_outcome : Op → Option ℕ → Option Ty → List ℕ → Locals → Outcome
action_outcome op.Get dest ty args locations = shadow_given locations dest
action_outcome operation dest ty args locations = computed operation ty (argument locations args 0) (argument locations args 1)

-- The outcome of an instruction, which depends on the locations that it reads alone.
abbrev pub outcome_of : Instr → Locals → Outcome
outcome_of (Label l) locations = HasEffect
outcome_of (Const dest ty value) locations = Yields (literal_value value)
outcome_of (Act dest ty operation args funcs labels) locations = action_outcome operation dest ty args locations
