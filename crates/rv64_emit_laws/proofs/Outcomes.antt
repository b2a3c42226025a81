-- What the operations compute, of operands that suit them.
use Rattle.std.proofs.Common.{◌≡◌, ℕ, ◌≤◌, Bool, true, false, cond, refl, sym, ap, ◌∙◌, arith, None, Some, ℤ, pos, negsuc, ◌+ℤ◌}
use Rattle.bril_tree.specs.declared.limits.Fault.TheVariants as fault
use Rattle.bril_tree.specs.declared.operators.BinaryOp.{BinaryOp}
use Rattle.bril_tree.specs.declared.operators.BinaryOp.TheVariants as binary
use Rattle.bril_tree.specs.declared.operators.UnaryOp.{UnaryOp}
use Rattle.bril_tree.specs.declared.operators.UnaryOp.TheVariants as unary
use Rattle.bril_tree.specs.declared.value.Value.{Value}
use Rattle.bril_tree.specs.declared.value.Value.TheVariants.{Int, Bool as Boolean, Char, Ptr}
use Rattle.bril_tree.specs.Operators.{binary_operation, unary_operation}
use Rattle.bril_tree.specs.Outcome.{Yields, FaultsWith, HasEffect, block_of, char_from, computed, divided, fits_32, int_of, is_scalar, moved, offset_of}
use Rattle.bril_tree.specs.State.{Locals}
use Rattle.bril_tree.proofs.Outcomes.{div-never_acts, int2char-never_acts, ptradd-never_acts}
use Rattle.rv64_words_laws.specs.sequences.Operations.{binary_size, unary_size}
use Rattle.rv64_words_laws.specs.values.Operands.{BinarySuits, UnarySuits}
use Rattle.rv64_emit_laws.proofs.Ready.{BinaryFinds, UnaryFinds}

-- ---- operands

pub record UnaryOperand (locations : Locals) (operation : UnaryOp) (x : ℕ) : Type 0 where
  pub value : Value
  pub is : locations.vars x ≡ Some value
  pub suits : UnarySuits operation value

pub unary_operand : (locations : Locals) (operation : UnaryOp) (x : ℕ) → UnaryFinds locations operation x → UnaryOperand locations operation x
unary_operand locations unary.Not x h = record { value = Boolean h.truth; is = h.is; suits = tt }
unary_operand locations unary.CharToInt x h = record { value = Char h.number; is = h.is; suits = h.scalar }
unary_operand locations unary.IntToChar x h = record { value = Int h.number; is = h.is; suits = h.fits }

pub record BinaryOperands (locations : Locals) (operation : BinaryOp) (x y : ℕ) : Type 0 where
  pub first : Value
  pub first_is : locations.vars x ≡ Some first
  pub second : Value
  pub second_is : locations.vars y ≡ Some second
  pub suits : BinarySuits operation first second

pub binary_operands : (locations : Locals) (operation : BinaryOp) (x y : ℕ) → BinaryFinds locations operation x y → BinaryOperands locations operation x y
binary_operands locations binary.Add x y h = record { first = Int h.0.number; first_is = h.0.is; second = Int h.1.number; second_is = h.1.is; suits = (h.0.fits, h.1.fits) }
binary_operands locations binary.Sub x y h = record { first = Int h.0.number; first_is = h.0.is; second = Int h.1.number; second_is = h.1.is; suits = (h.0.fits, h.1.fits) }
binary_operands locations binary.Mul x y h = record { first = Int h.0.number; first_is = h.0.is; second = Int h.1.number; second_is = h.1.is; suits = (h.0.fits, h.1.fits) }
binary_operands locations binary.Div x y h = record { first = Int h.0.number; first_is = h.0.is; second = Int h.1.number; second_is = h.1.is; suits = (h.0.fits, h.1.fits) }
binary_operands locations binary.Eq x y h = record { first = Int h.0.number; first_is = h.0.is; second = Int h.1.number; second_is = h.1.is; suits = (h.0.fits, h.1.fits) }
binary_operands locations binary.Lt x y h = record { first = Int h.0.number; first_is = h.0.is; second = Int h.1.number; second_is = h.1.is; suits = (h.0.fits, h.1.fits) }
binary_operands locations binary.Gt x y h = record { first = Int h.0.number; first_is = h.0.is; second = Int h.1.number; second_is = h.1.is; suits = (h.0.fits, h.1.fits) }
binary_operands locations binary.Le x y h = record { first = Int h.0.number; first_is = h.0.is; second = Int h.1.number; second_is = h.1.is; suits = (h.0.fits, h.1.fits) }
binary_operands locations binary.Ge x y h = record { first = Int h.0.number; first_is = h.0.is; second = Int h.1.number; second_is = h.1.is; suits = (h.0.fits, h.1.fits) }
binary_operands locations binary.Ceq x y h = record { first = Char h.0.number; first_is = h.0.is; second = Char h.1.number; second_is = h.1.is; suits = (h.0.scalar, h.1.scalar) }
binary_operands locations binary.Clt x y h = record { first = Char h.0.number; first_is = h.0.is; second = Char h.1.number; second_is = h.1.is; suits = (h.0.scalar, h.1.scalar) }
binary_operands locations binary.Cgt x y h = record { first = Char h.0.number; first_is = h.0.is; second = Char h.1.number; second_is = h.1.is; suits = (h.0.scalar, h.1.scalar) }
binary_operands locations binary.Cle x y h = record { first = Char h.0.number; first_is = h.0.is; second = Char h.1.number; second_is = h.1.is; suits = (h.0.scalar, h.1.scalar) }
binary_operands locations binary.Cge x y h = record { first = Char h.0.number; first_is = h.0.is; second = Char h.1.number; second_is = h.1.is; suits = (h.0.scalar, h.1.scalar) }
binary_operands locations binary.And x y h = record { first = Boolean h.0.truth; first_is = h.0.is; second = Boolean h.1.truth; second_is = h.1.is; suits = (tt, tt) }
binary_operands locations binary.Or x y h = record { first = Boolean h.0.truth; first_is = h.0.is; second = Boolean h.1.truth; second_is = h.1.is; suits = (tt, tt) }
binary_operands locations binary.PtrAdd x y h = record { first = Ptr h.0.block h.0.offset; first_is = h.0.is; second = Int h.1.number; second_is = h.1.is; suits = ((h.0.small, h.0.fits), h.1.fits) }

-- ---- outcomes

plain_block : (u v : Value) (n : ℕ) → block_of u ≡ 0 → Yields u ≡ Yields v → block_of v ≤ n
plain_block u v n none e = let same : u ≡ v = cc in let h : block_of v ≡ 0 = ap block_of (sym same) ∙ none in omega arith

divided_block : (t : Bool) (x y : ℤ) (v : Value) (n : ℕ) → divided t x y ≡ Yields v → block_of v ≤ n
divided_block true x y v n e = absurd cc
divided_block false x y v n e = plain_block _ v n refl e

char_block : (x : ℤ) (v : Value) (n : ℕ) → char_from x ≡ Yields v → block_of v ≤ n
char_block (pos m) v n e = by_test (is_scalar m) e
  where
    by_test : (t : Bool) → cond t (Yields (Char m)) (FaultsWith fault.BadChar) ≡ Yields v → block_of v ≤ n
    by_test true e = plain_block _ v n refl e
    by_test false e = absurd cc
char_block (negsuc m) v n e = absurd cc

moved_block : (block : ℕ) (offset : ℤ) (v : Value) → moved block offset ≡ Yields v → block_of v ≤ block
moved_block block offset v e = by_test (fits_32 offset) e
  where
    by_test : (t : Bool) → cond t (Yields (Ptr block offset)) (FaultsWith fault.PtrRange) ≡ Yields v → block_of v ≤ block
    by_test true e = let same : Ptr block offset ≡ v = cc in let h : block_of v ≡ block = ap block_of (sym same) in omega arith
    by_test false e = absurd cc

-- what is computed points to no other block than the first operand
pub unary_block : (operation : UnaryOp) (a v : Value) → computed (unary_operation operation) None a a ≡ Yields v → block_of v ≤ block_of a
unary_block unary.Not a v e = plain_block _ v (block_of a) refl e
unary_block unary.CharToInt a v e = plain_block _ v (block_of a) refl e
unary_block unary.IntToChar a v e = char_block (int_of a) v (block_of a) e

pub binary_block : (operation : BinaryOp) (a b v : Value) → computed (binary_operation operation) None a b ≡ Yields v → block_of v ≤ block_of a
binary_block binary.Div a b v e = divided_block _ _ _ v (block_of a) e
binary_block binary.PtrAdd a b v e = moved_block (block_of a) (offset_of a +ℤ int_of b) v e
binary_block _ a b v e = plain_block _ v (block_of a) refl e

yields_clash : (u : Value) → Yields u ≡ HasEffect → ⊥
yields_clash u e = cc

-- and each operation computes something
pub unary_computes : (operation : UnaryOp) (a : Value) → computed (unary_operation operation) None a a ≡ HasEffect → ⊥
unary_computes unary.Not a e = yields_clash _ e
unary_computes unary.CharToInt a e = yields_clash _ e
unary_computes unary.IntToChar a e = int2char-never_acts None a a e

pub binary_computes : (operation : BinaryOp) (a b : Value) → computed (binary_operation operation) None a b ≡ HasEffect → ⊥
binary_computes binary.Div a b e = div-never_acts None a b e
binary_computes binary.PtrAdd a b e = ptradd-never_acts None a b e
binary_computes _ a b e = yields_clash _ e

-- ---- how many words they have

pub unary_most : (operation : UnaryOp) → unary_size operation ≤ 16
unary_most unary.Not = omega arith
unary_most unary.CharToInt = omega arith
unary_most unary.IntToChar = omega arith

pub binary_most : (operation : BinaryOp) → binary_size operation ≤ 16
binary_most binary.Add = omega arith
binary_most binary.Sub = omega arith
binary_most binary.Mul = omega arith
binary_most binary.Div = omega arith
binary_most binary.Eq = omega arith
binary_most binary.Lt = omega arith
binary_most binary.Gt = omega arith
binary_most binary.Le = omega arith
binary_most binary.Ge = omega arith
binary_most binary.Ceq = omega arith
binary_most binary.Clt = omega arith
binary_most binary.Cgt = omega arith
binary_most binary.Cle = omega arith
binary_most binary.Cge = omega arith
binary_most binary.And = omega arith
binary_most binary.Or = omega arith
binary_most binary.PtrAdd = omega arith

-- and each has one
pub binary_some : (operation : BinaryOp) → 1 ≤ binary_size operation
binary_some binary.Add = omega arith
binary_some binary.Sub = omega arith
binary_some binary.Mul = omega arith
binary_some binary.Div = omega arith
binary_some binary.Eq = omega arith
binary_some binary.Lt = omega arith
binary_some binary.Gt = omega arith
binary_some binary.Le = omega arith
binary_some binary.Ge = omega arith
binary_some binary.Ceq = omega arith
binary_some binary.Clt = omega arith
binary_some binary.Cgt = omega arith
binary_some binary.Cle = omega arith
binary_some binary.Cge = omega arith
binary_some binary.And = omega arith
binary_some binary.Or = omega arith
binary_some binary.PtrAdd = omega arith
