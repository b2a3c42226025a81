-- What the operands of an operation are in an accepted program, and what its words come to.
use Rattle.std.specs.Prelude.{◌≡◌, ℕ, ◌+◌, ◌^◌, ◌<◌, ◌≤◌, ◌==◌, ◌||◌, Bool, IsTrue, FitsSigned}
use Rattle.std.specs.Char.{IsScalar}
use Rattle.std.specs.Int.{w32, w64}
use Rattle.bril_tree.specs.declared.limits.End.{End}
use Rattle.bril_tree.specs.declared.operators.BinaryOp.{BinaryOp}
use Rattle.bril_tree.specs.declared.operators.BinaryOp.TheVariants as binary
use Rattle.bril_tree.specs.declared.operators.UnaryOp.{UnaryOp}
use Rattle.bril_tree.specs.declared.operators.UnaryOp.TheVariants as unary
use Rattle.bril_tree.specs.declared.value.Value.{Value}
use Rattle.bril_tree.specs.declared.value.Value.TheVariants.{Int, Bool as Boolean, Char, Ptr}
use Rattle.bril_tree.specs.Home.{is_home_register}
use Rattle.rv64_words.specs.declared.image.Image.{Image}
use Rattle.rv64_words.specs.Region.{Sizes}
use Rattle.rv64_words_laws.specs.stretches.Core.{Core, Keeps, KeepsBut}
use Rattle.rv64_words_laws.specs.stretches.Runs.{Runs, Ends}

-- ---- operands

abbrev pub IsInt : Value → Type 0
IsInt (Int n) = FitsSigned w64 n
IsInt (Boolean b) = ⊥
IsInt (Char c) = ⊥
IsInt (Ptr block offset) = ⊥

abbrev pub IsBool : Value → Type 0
IsBool (Int n) = ⊥
IsBool (Boolean b) = Unit {0}
IsBool (Char c) = ⊥
IsBool (Ptr block offset) = ⊥

abbrev pub IsChar : Value → Type 0
IsChar (Int n) = ⊥
IsChar (Boolean b) = ⊥
IsChar (Char c) = IsScalar c
IsChar (Ptr block offset) = ⊥

abbrev pub IsPtr : Value → Type 0
IsPtr (Int n) = ⊥
IsPtr (Boolean b) = ⊥
IsPtr (Char c) = ⊥
IsPtr (Ptr block offset) = (block < 2 ^ 32) × FitsSigned w32 offset

-- the operands are of the types that the operation takes, and in their ranges
abbrev pub UnarySuits : UnaryOp → Value → Type 0
UnarySuits unary.Not a = IsBool a
UnarySuits unary.CharToInt a = IsChar a
UnarySuits unary.IntToChar a = IsInt a

abbrev pub BinarySuits : BinaryOp → Value → Value → Type 0
BinarySuits binary.Add a b = IsInt a × IsInt b
BinarySuits binary.Sub a b = IsInt a × IsInt b
BinarySuits binary.Mul a b = IsInt a × IsInt b
BinarySuits binary.Div a b = IsInt a × IsInt b
BinarySuits binary.Eq a b = IsInt a × IsInt b
BinarySuits binary.Lt a b = IsInt a × IsInt b
BinarySuits binary.Gt a b = IsInt a × IsInt b
BinarySuits binary.Le a b = IsInt a × IsInt b
BinarySuits binary.Ge a b = IsInt a × IsInt b
BinarySuits binary.Ceq a b = IsChar a × IsChar b
BinarySuits binary.Clt a b = IsChar a × IsChar b
BinarySuits binary.Cgt a b = IsChar a × IsChar b
BinarySuits binary.Cle a b = IsChar a × IsChar b
BinarySuits binary.Cge a b = IsChar a × IsChar b
BinarySuits binary.And a b = IsBool a × IsBool b
BinarySuits binary.Or a b = IsBool a × IsBool b
BinarySuits binary.PtrAdd a b = IsPtr a × IsInt b

-- ---- registers

-- a register for results: 5, or one in which locations may be
abbrev pub is_result_register : ℕ → Bool
is_result_register d = (d == 5) || is_home_register d

-- the operation goes from register a, or registers a and b, to register d
abbrev pub UnaryTakes : UnaryOp → (d a : ℕ) → Type 0
UnaryTakes unary.Not d a = IsTrue (is_result_register d)
UnaryTakes unary.CharToInt d a = (d ≡ 5) × (a ≡ 5)
UnaryTakes unary.IntToChar d a = (d ≡ 5) × (a ≡ 5)

abbrev pub BinaryTakes : BinaryOp → (d a b : ℕ) → Type 0
BinaryTakes binary.PtrAdd d a b = (d ≡ 5) × ((a ≡ 5) × (b ≡ 7))
BinaryTakes _ d a b = IsTrue (is_result_register d)

-- ---- what words come to

-- From word k with core c, at most so many steps lead over so many words; then register d has v, and the rest is kept.
pub record Gives (image : Image) (z : Sizes) (k : ℕ) (c : Core) (d size v : ℕ) : Type 0 where
  pub steps : ℕ
  pub within : steps ≤ size
  pub core : Core
  pub keeps : KeepsBut d c core
  pub result : core.registers d ≡ v
  pub runs : Runs image z k c steps (k + size) core

-- From there at most so many steps, within the words, lead to an end, and until then the rest is kept.
pub record EndsSo (image : Image) (z : Sizes) (k : ℕ) (c : Core) (size : ℕ) (how : End) : Type 0 where
  pub steps : ℕ
  pub within : steps ≤ size
  pub core : Core
  pub keeps : Keeps c core
  pub ends : Ends image z k c steps (k + size) how core
