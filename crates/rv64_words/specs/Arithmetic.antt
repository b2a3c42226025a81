-- What words compute of 64-bit numbers below 2^64: RV64I and RV64M of the RISC-V Unprivileged ISA manual.
use Rattle.std.specs.Prelude.{ℕ, ◌+◌, ◌-◌, ◌*◌, ◌/◌, ◌%◌, ◌^◌, Bool, not, ◌&&◌, ◌==◌, nat_lt, if◌then◌else◌, ℤ, int_lt, int_div, bit_and, bit_or, bit_xor}
use Rattle.std.specs.Int.{w64, cast_signed, cast_unsigned, from_bool}
use Rattle.rv64_words.specs.declared.word.Condition.{Condition}
use Rattle.rv64_words.specs.declared.word.Condition.TheVariants as condition
use Rattle.rv64_words.specs.declared.word.ImmediateOperation.{ImmediateOperation}
use Rattle.rv64_words.specs.declared.word.ImmediateOperation.TheVariants as immediate
use Rattle.rv64_words.specs.declared.word.RegisterOperation.{RegisterOperation}
use Rattle.rv64_words.specs.declared.word.RegisterOperation.TheVariants as register
use Rattle.rv64_words.specs.declared.word.ShiftOperation.{ShiftOperation}
use Rattle.rv64_words.specs.declared.word.ShiftOperation.TheVariants as shift

-- the 32 bits sign-extended to 64
abbrev pub extended_32 : ℕ → ℕ
extended_32 n = if nat_lt n (2 ^ 31) then n else n + (2 ^ 64 - 2 ^ 32)

-- a number plus a signed one, modulo 2^64
abbrev pub moved_by : ℕ → ℤ → ℕ
moved_by n i = (n + cast_unsigned w64 i) % 2 ^ 64

-- a is less than b, as signed numbers
abbrev pub less_signed : ℕ → ℕ → Bool
less_signed a b = int_lt (cast_signed w64 a) (cast_signed w64 b)

abbrev pub shifted_left : ℕ → ℕ → ℕ
shifted_left a k = a * 2 ^ k % 2 ^ 64

abbrev pub shifted_right : ℕ → ℕ → ℕ
shifted_right a k = a / 2 ^ k

-- with copies of the sign from above: of a negative number the complement is shifted
abbrev pub shifted_right_signed : ℕ → ℕ → ℕ
shifted_right_signed a k = if nat_lt a (2 ^ 63) then a / 2 ^ k else (2 ^ 64 - 1) - ((2 ^ 64 - 1) - a) / 2 ^ k

-- the quotient of signed numbers, rounded toward zero
abbrev pub rounded : ℕ → ℕ → ℕ
rounded a b = cast_unsigned w64 (int_div (cast_signed w64 a) (cast_signed w64 b))

-- DIV, by the table of the manual's chapter on multiplication and division: by zero all bits are set, -2^63 by -1 is -2^63,
-- and any other quotient is rounded toward zero
abbrev pub divided : ℕ → ℕ → ℕ
divided a b =
    if b == 0 then 2 ^ 64 - 1
    else if a == 2 ^ 63 && b == 2 ^ 64 - 1 then 2 ^ 63
    else rounded a b

-- the condition holds of a and b
abbrev pub holds : Condition → ℕ → ℕ → Bool
holds condition.Eq a b = a == b
holds condition.Ne a b = not (a == b)
holds condition.Lt a b = less_signed a b
holds condition.Ge a b = not (less_signed a b)
holds condition.Ltu a b = nat_lt a b
holds condition.Geu a b = not (nat_lt a b)

-- b is the sign-extended immediate
abbrev pub with_immediate : ImmediateOperation → ℕ → ℕ → ℕ
with_immediate immediate.Addi a b = (a + b) % 2 ^ 64
with_immediate immediate.Slti a b = from_bool (less_signed a b)
with_immediate immediate.Sltiu a b = from_bool (nat_lt a b)
with_immediate immediate.Xori a b = bit_xor a b
with_immediate immediate.Ori a b = bit_or a b
with_immediate immediate.Andi a b = bit_and a b

abbrev pub shifted : ShiftOperation → ℕ → ℕ → ℕ
shifted shift.Slli a k = shifted_left a k
shifted shift.Srli a k = shifted_right a k
shifted shift.Srai a k = shifted_right_signed a k

abbrev pub computed : RegisterOperation → ℕ → ℕ → ℕ
computed register.Add a b = (a + b) % 2 ^ 64
computed register.Sll a b = shifted_left a (b % 64)
computed register.Slt a b = from_bool (less_signed a b)
computed register.Sltu a b = from_bool (nat_lt a b)
computed register.Xor a b = bit_xor a b
computed register.Srl a b = shifted_right a (b % 64)
computed register.Or a b = bit_or a b
computed register.And a b = bit_and a b
computed register.Sub a b = (a + (2 ^ 64 - b)) % 2 ^ 64
computed register.Sra a b = shifted_right_signed a (b % 64)
computed register.Mul a b = a * b % 2 ^ 64
computed register.Div a b = divided a b
