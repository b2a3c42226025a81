-- Values: their ranges, their types, what `print` shows of them, and their words in the machine.
use Rattle.std.specs.Prelude.{ℕ, zero, suc, ◌+◌, ◌*◌, ◌^◌, ◌<◌, Bool, true, false, List, [], pos, FitsSigned, codes}
use Rattle.std.specs.Int.{w32, w64, cast_unsigned, from_bool}
use Rattle.std.specs.Char.{IsScalar}
use Rattle.std.specs.Fmt.{signed_decimal}
use Rattle.std.specs.Prelude.{encode_utf8}
use Rattle.bril_tree.specs.declared.types.Base.{Base}
use Rattle.bril_tree.specs.declared.types.Base.TheVariants as base
use Rattle.bril_tree.specs.declared.types.Ty.{Ty}
use Rattle.bril_tree.specs.declared.value.Lit.{Lit}
use Rattle.bril_tree.specs.declared.value.Lit.TheVariants as literal
use Rattle.bril_tree.specs.declared.value.Value.{Value}
use Rattle.bril_tree.specs.declared.value.Value.TheVariants.{Int, Bool as Boolean, Char, Ptr}

-- an int of 64 bits, a scalar value, a block of 32 bits with a signed offset of 32 bits
abbrev pub IsInRange : Value → Type 0
IsInRange (Int n) = FitsSigned w64 n
IsInRange (Boolean b) = Unit {0}
IsInRange (Char c) = IsScalar c
IsInRange (Ptr block offset) = (block < 2 ^ 32) × FitsSigned w32 offset

-- the value of a literal
abbrev pub literal_value : Lit → Value
literal_value (literal.Int n) = Int n
literal_value (literal.Bool b) = Boolean b
literal_value (literal.Char c) = Char c

-- the zero of a type: 0, false, U+0000 or offset 0 of block 0, which no access accepts
abbrev pub zero_of_base : Base → Value
zero_of_base base.Int = Int (pos 0)
zero_of_base base.Bool = Boolean false
zero_of_base base.Char = Char 0

abbrev pub zero_at : ℕ → Base → Value
zero_at zero b = zero_of_base b
zero_at (suc depth) b = Ptr 0 (pos 0)

abbrev pub zero_of : Ty → Value
zero_of ty = zero_at ty.depth ty.base

-- the value is one of the type
abbrev pub IsOfBase : Base → Value → Type 0
IsOfBase base.Int (Int n) = Unit {0}
IsOfBase base.Int (Boolean b) = ⊥
IsOfBase base.Int (Char c) = ⊥
IsOfBase base.Int (Ptr block offset) = ⊥
IsOfBase base.Bool (Int n) = ⊥
IsOfBase base.Bool (Boolean b) = Unit {0}
IsOfBase base.Bool (Char c) = ⊥
IsOfBase base.Bool (Ptr block offset) = ⊥
IsOfBase base.Char (Int n) = ⊥
IsOfBase base.Char (Boolean b) = ⊥
IsOfBase base.Char (Char c) = Unit {0}
IsOfBase base.Char (Ptr block offset) = ⊥

abbrev pub IsPointer : Value → Type 0
IsPointer (Int n) = ⊥
IsPointer (Boolean b) = ⊥
IsPointer (Char c) = ⊥
IsPointer (Ptr block offset) = Unit {0}

abbrev pub IsOfDepth : ℕ → Base → Value → Type 0
IsOfDepth zero b value = IsOfBase b value
IsOfDepth (suc depth) b value = IsPointer value

abbrev pub IsOfType : Ty → Value → Type 0
IsOfType ty value = IsOfDepth ty.depth ty.base value

-- `true` or `false`
abbrev pub bool_text : Bool → List ℕ
bool_text false = codes "false"
bool_text true = codes "true"

-- what `print` shows of a value: an int in plain decimal, a bool by its word, a char in UTF-8
abbrev pub shown : Value → List ℕ
shown (Int n) = signed_decimal n
shown (Boolean b) = bool_text b
shown (Char c) = encode_utf8 c
shown (Ptr block offset) = []

-- The value's word in the machine: an int itself in two's complement, a bool 0 or 1, a char its scalar
-- value, a pointer its block times 2^32 plus its offset modulo 2^32.
abbrev pub word_of : Value → ℕ
word_of (Int n) = cast_unsigned w64 n
word_of (Boolean b) = from_bool b
word_of (Char c) = c
word_of (Ptr block offset) = block * 2 ^ 32 + cast_unsigned w32 offset
