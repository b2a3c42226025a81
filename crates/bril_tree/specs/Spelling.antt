-- How operations, base types and truth values are spelled, in text and in JSON.
use Rattle.std.specs.Prelude.{ℕ, Bool, true, false, List, [], ◌∷◌, codes, bytes_eq, Option, Some, None, if◌then◌else◌}
use Rattle.bril_tree.specs.declared.operation.Op.{Op}
use Rattle.bril_tree.specs.declared.operation.Op.TheVariants as op
use Rattle.bril_tree.specs.declared.types.Base.{Base}
use Rattle.bril_tree.specs.declared.types.Base.TheVariants as base

-- how an operation is spelled
abbrev pub operation_text : Op → List ℕ
operation_text op.Add = codes "add"
operation_text op.Sub = codes "sub"
operation_text op.Mul = codes "mul"
operation_text op.Div = codes "div"
operation_text op.Eq = codes "eq"
operation_text op.Lt = codes "lt"
operation_text op.Gt = codes "gt"
operation_text op.Le = codes "le"
operation_text op.Ge = codes "ge"
operation_text op.Ceq = codes "ceq"
operation_text op.Clt = codes "clt"
operation_text op.Cgt = codes "cgt"
operation_text op.Cle = codes "cle"
operation_text op.Cge = codes "cge"
operation_text op.Not = codes "not"
operation_text op.And = codes "and"
operation_text op.Or = codes "or"
operation_text op.Id = codes "id"
operation_text op.Nop = codes "nop"
operation_text op.Jmp = codes "jmp"
operation_text op.Br = codes "br"
operation_text op.Call = codes "call"
operation_text op.Ret = codes "ret"
operation_text op.Print = codes "print"
operation_text op.Alloc = codes "alloc"
operation_text op.Free = codes "free"
operation_text op.Store = codes "store"
operation_text op.Load = codes "load"
operation_text op.PtrAdd = codes "ptradd"
operation_text op.CharToInt = codes "char2int"
operation_text op.IntToChar = codes "int2char"
operation_text op.Get = codes "get"
operation_text op.Set = codes "set"
operation_text op.Undef = codes "undef"
operation_text op.Speculate = codes "speculate"
operation_text op.Commit = codes "commit"
operation_text op.Guard = codes "guard"

-- how a base type is spelled
abbrev pub base_text : Base → List ℕ
base_text base.Int = codes "int"
base_text base.Bool = codes "bool"
base_text base.Char = codes "char"

-- how a bool is spelled
abbrev pub truth_text : Bool → List ℕ
truth_text true = codes "true"
truth_text false = codes "false"

-- all operations
abbrev pub operations : List Op
operations =
    op.Add ∷ op.Sub ∷ op.Mul ∷ op.Div ∷ op.Eq ∷ op.Lt ∷ op.Gt ∷ op.Le ∷ op.Ge ∷ op.Ceq ∷ op.Clt ∷ op.Cgt ∷ op.Cle ∷ op.Cge
    ∷ op.Not ∷ op.And ∷ op.Or ∷ op.Id ∷ op.Nop ∷ op.Jmp ∷ op.Br ∷ op.Call ∷ op.Ret ∷ op.Print ∷ op.Alloc ∷ op.Free
    ∷ op.Store ∷ op.Load ∷ op.PtrAdd ∷ op.CharToInt ∷ op.IntToChar ∷ op.Get ∷ op.Set ∷ op.Undef ∷ op.Speculate ∷ op.Commit
    ∷ op.Guard ∷ []

-- the operations on floats
abbrev pub float_operations : List (List ℕ)
float_operations =
    codes "fadd" ∷ codes "fsub" ∷ codes "fmul" ∷ codes "fdiv" ∷ codes "feq" ∷ codes "flt" ∷ codes "fgt" ∷ codes "fle"
    ∷ codes "fge" ∷ []

-- the first of the operations with this name
abbrev pub operation_among : List Op → List ℕ → Option Op
operation_among [] name = None
operation_among (o ∷ os) name = if bytes_eq name (operation_text o) then Some o else operation_among os name

-- the operation of a name
unfoldable pub operation_of : List ℕ → Option Op
operation_of name = operation_among operations name
