-- The operations on one and on two variables, and which operation each of them is.
use Rattle.std.specs.Prelude.{◌≡◌, ◌↔◌, Option, Some, None}
use Rattle.bril_tree.specs.declared.operation.Op.{Op}
use Rattle.bril_tree.specs.declared.operation.Op.TheVariants as op
use Rattle.bril_tree.specs.declared.operators.BinaryOp.{BinaryOp}
use Rattle.bril_tree.specs.declared.operators.BinaryOp.TheVariants as binary
use Rattle.bril_tree.specs.declared.operators.UnaryOp.{UnaryOp}
use Rattle.bril_tree.specs.declared.operators.UnaryOp.TheVariants as unary

-- the operations that compute from one variable
abbrev pub unary_of : Op → Option UnaryOp
unary_of op.Not = Some unary.Not
unary_of op.CharToInt = Some unary.CharToInt
unary_of op.IntToChar = Some unary.IntToChar
unary_of _ = None

-- the operations that compute from two variables
abbrev pub binary_of : Op → Option BinaryOp
binary_of op.Add = Some binary.Add
binary_of op.Sub = Some binary.Sub
binary_of op.Mul = Some binary.Mul
binary_of op.Div = Some binary.Div
binary_of op.Eq = Some binary.Eq
binary_of op.Lt = Some binary.Lt
binary_of op.Gt = Some binary.Gt
binary_of op.Le = Some binary.Le
binary_of op.Ge = Some binary.Ge
binary_of op.Ceq = Some binary.Ceq
binary_of op.Clt = Some binary.Clt
binary_of op.Cgt = Some binary.Cgt
binary_of op.Cle = Some binary.Cle
binary_of op.Cge = Some binary.Cge
binary_of op.And = Some binary.And
binary_of op.Or = Some binary.Or
binary_of op.PtrAdd = Some binary.PtrAdd
binary_of _ = None

-- the operation that one on one variable is
abbrev pub unary_operation : UnaryOp → Op
unary_operation unary.Not = op.Not
unary_operation unary.CharToInt = op.CharToInt
unary_operation unary.IntToChar = op.IntToChar

-- the operation that one on two variables is
abbrev pub binary_operation : BinaryOp → Op
binary_operation binary.Add = op.Add
binary_operation binary.Sub = op.Sub
binary_operation binary.Mul = op.Mul
binary_operation binary.Div = op.Div
binary_operation binary.Eq = op.Eq
binary_operation binary.Lt = op.Lt
binary_operation binary.Gt = op.Gt
binary_operation binary.Le = op.Le
binary_operation binary.Ge = op.Ge
binary_operation binary.Ceq = op.Ceq
binary_operation binary.Clt = op.Clt
binary_operation binary.Cgt = op.Cgt
binary_operation binary.Cle = op.Cle
binary_operation binary.Cge = op.Cge
binary_operation binary.And = op.And
binary_operation binary.Or = op.Or
binary_operation binary.PtrAdd = op.PtrAdd

-- an operation on one variable is found by its operation, and by no other
abbrev pub UnaryAreOperations : Type 0
UnaryAreOperations = (o : Op) (u : UnaryOp) → (unary_of o ≡ Some u) ↔ (unary_operation u ≡ o)

-- an operation on two variables is found by its operation, and by no other
abbrev pub BinaryAreOperations : Type 0
BinaryAreOperations = (o : Op) (b : BinaryOp) → (binary_of o ≡ Some b) ↔ (binary_operation b ≡ o)
