-- The operations on one and on two variables are found by their operations, and by no others.
use Rattle.std.proofs.Common.{◌≡◌, Some, refl, sym, ap, ◌∙◌}
use Rattle.std.specs.Prelude.{◌↔◌}
use Rattle.std.proofs.lemmas.Option.{same_Some}
use Rattle.bril_tree.specs.declared.operation.Op.{Op}
use Rattle.bril_tree.specs.declared.operation.Op.TheVariants as op
use Rattle.bril_tree.specs.declared.operators.BinaryOp.{BinaryOp}
use Rattle.bril_tree.specs.declared.operators.BinaryOp.TheVariants as binary
use Rattle.bril_tree.specs.declared.operators.UnaryOp.{UnaryOp}
use Rattle.bril_tree.specs.declared.operators.UnaryOp.TheVariants as unary
use Rattle.bril_tree.specs.Operators.{binary_of, binary_operation, unary_of, unary_operation}

unary_found : (u : UnaryOp) → unary_of (unary_operation u) ≡ Some u
unary_found unary.Not = refl
unary_found unary.CharToInt = refl
unary_found unary.IntToChar = refl

unary_is : (o : Op) (u : UnaryOp) → unary_of o ≡ Some u → unary_operation u ≡ o
unary_is op.Not u e = ap unary_operation (sym (same_Some unary.Not u e))
unary_is op.CharToInt u e = ap unary_operation (sym (same_Some unary.CharToInt u e))
unary_is op.IntToChar u e = ap unary_operation (sym (same_Some unary.IntToChar u e))
unary_is _ u e = absurd (cc)

pub unary_are : (o : Op) (u : UnaryOp) → (unary_of o ≡ Some u) ↔ (unary_operation u ≡ o)
unary_are o u = (unary_is o u, λ e. ap unary_of (sym e) ∙ unary_found u)

binary_found : (b : BinaryOp) → binary_of (binary_operation b) ≡ Some b
binary_found binary.Add = refl
binary_found binary.Sub = refl
binary_found binary.Mul = refl
binary_found binary.Div = refl
binary_found binary.Eq = refl
binary_found binary.Lt = refl
binary_found binary.Gt = refl
binary_found binary.Le = refl
binary_found binary.Ge = refl
binary_found binary.Ceq = refl
binary_found binary.Clt = refl
binary_found binary.Cgt = refl
binary_found binary.Cle = refl
binary_found binary.Cge = refl
binary_found binary.And = refl
binary_found binary.Or = refl
binary_found binary.PtrAdd = refl

binary_is : (o : Op) (b : BinaryOp) → binary_of o ≡ Some b → binary_operation b ≡ o
binary_is op.Add b e = ap binary_operation (sym (same_Some binary.Add b e))
binary_is op.Sub b e = ap binary_operation (sym (same_Some binary.Sub b e))
binary_is op.Mul b e = ap binary_operation (sym (same_Some binary.Mul b e))
binary_is op.Div b e = ap binary_operation (sym (same_Some binary.Div b e))
binary_is op.Eq b e = ap binary_operation (sym (same_Some binary.Eq b e))
binary_is op.Lt b e = ap binary_operation (sym (same_Some binary.Lt b e))
binary_is op.Gt b e = ap binary_operation (sym (same_Some binary.Gt b e))
binary_is op.Le b e = ap binary_operation (sym (same_Some binary.Le b e))
binary_is op.Ge b e = ap binary_operation (sym (same_Some binary.Ge b e))
binary_is op.Ceq b e = ap binary_operation (sym (same_Some binary.Ceq b e))
binary_is op.Clt b e = ap binary_operation (sym (same_Some binary.Clt b e))
binary_is op.Cgt b e = ap binary_operation (sym (same_Some binary.Cgt b e))
binary_is op.Cle b e = ap binary_operation (sym (same_Some binary.Cle b e))
binary_is op.Cge b e = ap binary_operation (sym (same_Some binary.Cge b e))
binary_is op.And b e = ap binary_operation (sym (same_Some binary.And b e))
binary_is op.Or b e = ap binary_operation (sym (same_Some binary.Or b e))
binary_is op.PtrAdd b e = ap binary_operation (sym (same_Some binary.PtrAdd b e))
binary_is _ b e = absurd (cc)

pub binary_are : (o : Op) (b : BinaryOp) → (binary_of o ≡ Some b) ↔ (binary_operation b ≡ o)
binary_are o b = (binary_is o b, λ e. ap binary_of (sym e) ∙ binary_found b)
