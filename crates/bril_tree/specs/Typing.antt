-- The types of an instruction's operands.
use Rattle.std.specs.Prelude.{ℕ, ◌+◌, Bool, true, false, ◌&&◌, ◌==◌, nat_lt, List, [], ◌∷◌, length, map, Option, Some, None, slice_get, slice_index, is_some, if◌then◌else◌}
use Rattle.bril_tree.specs.declared.numbered.Instr.{Instr}
use Rattle.bril_tree.specs.declared.numbered.Instr.TheVariants.{Label, Const, Act}
use Rattle.bril_tree.specs.declared.numbered.VarInfo.{VarInfo}
use Rattle.bril_tree.specs.declared.numbered_function.Func.{Func}
use Rattle.bril_tree.specs.declared.operation.Op.{Op}
use Rattle.bril_tree.specs.declared.operation.Op.TheVariants as op
use Rattle.bril_tree.specs.declared.program.Prog.{Prog}
use Rattle.bril_tree.specs.declared.types.Base.{Base}
use Rattle.bril_tree.specs.declared.types.Base.TheVariants as base
use Rattle.bril_tree.specs.declared.types.Ty.{Ty}
use Rattle.bril_tree.specs.declared.value.Lit.{Lit}
use Rattle.bril_tree.specs.declared.value.Lit.TheVariants as literal
use Rattle.bril_tree.specs.Run.{types_of}
use Rattle.bril_tree.specs.Shape.{same}

-- ---- types

abbrev pub same_base : Base → Base → Bool
same_base base.Int base.Int = true
same_base base.Bool base.Bool = true
same_base base.Char base.Char = true
same_base _ _ = false

abbrev pub same_type : Ty → Ty → Bool
same_type s t = (s.depth == t.depth) && same_base s.base t.base

-- the type is this base, not behind a pointer
abbrev pub is_plain : Base → Ty → Bool
is_plain b t = (t.depth == 0) && same_base b t.base

abbrev pub is_pointer : Ty → Bool
is_pointer t = nat_lt 0 t.depth

-- the first type points to values of the second
abbrev pub points_to : Ty → Ty → Bool
points_to p t = (p.depth == t.depth + 1) && same_base p.base t.base

-- there is a type, and it is so
abbrev pub if_typed : (Ty → Bool) → Option Ty → Bool
if_typed is None = false
if_typed is (Some t) = is t

-- there are two types, and they go together so
abbrev pub both_typed : (Ty → Ty → Bool) → Option Ty → Option Ty → Bool
both_typed go None u = false
both_typed go (Some t) None = false
both_typed go (Some t) (Some u) = go t u

-- ---- operands

-- the type of a variable, where it has one
abbrev pub variable_type : List VarInfo → ℕ → Option Ty
variable_type vars x = type_in (slice_get vars x)
  where
    type_in : Option VarInfo → Option Ty
    type_in None = None
    type_in (Some v) = v.ty

-- the type of the argument at a place
abbrev pub argument_type : List VarInfo → List ℕ → ℕ → Option Ty
argument_type vars args k = variable_type vars (slice_index args k)

-- the arguments at places 0 and 1 are of these bases, and the destination is of the last one
abbrev pub unary : Base → Base → List VarInfo → List ℕ → Option Ty → Bool
unary a to vars args ty = if_typed (is_plain a) (argument_type vars args 0) && if_typed (is_plain to) ty

abbrev pub binary : Base → Base → List VarInfo → List ℕ → Option Ty → Bool
binary a to vars args ty =
    if_typed (is_plain a) (argument_type vars args 0) && if_typed (is_plain a) (argument_type vars args 1) && if_typed (is_plain to) ty

-- each argument has the type at its place
abbrev pub are_typed : List (Option Ty) → List (Option Ty) → Bool
are_typed [] [] = true
are_typed [] (t ∷ ts) = false
are_typed (s ∷ ss) [] = false
are_typed (s ∷ ss) (t ∷ ts) = both_typed same_type s t && are_typed ss ts

-- neither is a type, or both are the same
abbrev pub same_result : Option Ty → Option Ty → Bool
same_result None None = true
same_result None (Some t) = false
same_result (Some s) None = false
same_result (Some s) (Some t) = same_type s t

abbrev pub return_type : Option Func → Option Ty
return_type None = None
return_type (Some f) = f.ret

-- the arguments of a call have the types of the called function's, and the destination that of its result
abbrev pub is_call_typed : Option Func → List VarInfo → List ℕ → Option Ty → Bool
is_call_typed callee vars args ty =
    are_typed (map (variable_type vars) args) (types_of callee) && same_result ty (return_type callee)

abbrev pub is_return_typed : Option Ty → List VarInfo → List ℕ → Bool
is_return_typed None vars args = true
is_return_typed (Some t) vars args = if_typed (same_type t) (argument_type vars args 0)

-- `set x y`: y has a type, which is that of x where x has one
abbrev pub is_set_typed : Option Ty → Option Ty → Bool
is_set_typed shadowed None = false
is_set_typed None (Some t) = true
is_set_typed (Some s) (Some t) = same_type s t

module _ (p : Prog) (f : Func) where
  -- the operands of an operation other than `print`, whose shape is its operation's, have the types of its row
  abbrev pub is_action_typed : Op → Option Ty → List ℕ → List ℕ → Bool
  is_action_typed op.Add ty args funcs = binary base.Int base.Int f.vars args ty
  is_action_typed op.Sub ty args funcs = binary base.Int base.Int f.vars args ty
  is_action_typed op.Mul ty args funcs = binary base.Int base.Int f.vars args ty
  is_action_typed op.Div ty args funcs = binary base.Int base.Int f.vars args ty
  is_action_typed op.Eq ty args funcs = binary base.Int base.Bool f.vars args ty
  is_action_typed op.Lt ty args funcs = binary base.Int base.Bool f.vars args ty
  is_action_typed op.Gt ty args funcs = binary base.Int base.Bool f.vars args ty
  is_action_typed op.Le ty args funcs = binary base.Int base.Bool f.vars args ty
  is_action_typed op.Ge ty args funcs = binary base.Int base.Bool f.vars args ty
  is_action_typed op.Ceq ty args funcs = binary base.Char base.Bool f.vars args ty
  is_action_typed op.Clt ty args funcs = binary base.Char base.Bool f.vars args ty
  is_action_typed op.Cgt ty args funcs = binary base.Char base.Bool f.vars args ty
  is_action_typed op.Cle ty args funcs = binary base.Char base.Bool f.vars args ty
  is_action_typed op.Cge ty args funcs = binary base.Char base.Bool f.vars args ty
  is_action_typed op.Not ty args funcs = unary base.Bool base.Bool f.vars args ty
  is_action_typed op.And ty args funcs = binary base.Bool base.Bool f.vars args ty
  is_action_typed op.Or ty args funcs = binary base.Bool base.Bool f.vars args ty
  is_action_typed op.Id ty args funcs = both_typed same_type (argument_type f.vars args 0) ty
  is_action_typed op.Nop ty args funcs = true
  is_action_typed op.Jmp ty args funcs = true
  is_action_typed op.Br ty args funcs = if_typed (is_plain base.Bool) (argument_type f.vars args 0)
  is_action_typed op.Call ty args funcs = is_call_typed (slice_get p.funcs (slice_index funcs 0)) f.vars args ty
  is_action_typed op.Ret ty args funcs = is_return_typed f.ret f.vars args
  is_action_typed op.Print ty args funcs = true
  is_action_typed op.Alloc ty args funcs = if_typed (is_plain base.Int) (argument_type f.vars args 0) && if_typed is_pointer ty
  is_action_typed op.Free ty args funcs = if_typed is_pointer (argument_type f.vars args 0)
  is_action_typed op.Store ty args funcs = both_typed points_to (argument_type f.vars args 0) (argument_type f.vars args 1)
  is_action_typed op.Load ty args funcs = both_typed points_to (argument_type f.vars args 0) ty
  is_action_typed op.PtrAdd ty args funcs =
      if_typed is_pointer (argument_type f.vars args 0) && if_typed (is_plain base.Int) (argument_type f.vars args 1)
      && both_typed same_type (argument_type f.vars args 0) ty
  is_action_typed op.CharToInt ty args funcs = unary base.Char base.Int f.vars args ty
  is_action_typed op.IntToChar ty args funcs = unary base.Int base.Char f.vars args ty
  is_action_typed op.Get ty args funcs = true
  is_action_typed op.Set ty args funcs = is_set_typed (argument_type f.vars args 0) (argument_type f.vars args 1)
  is_action_typed op.Undef ty args funcs = true
  is_action_typed op.Speculate ty args funcs = true
  is_action_typed op.Commit ty args funcs = true
  is_action_typed op.Guard ty args funcs = if_typed (is_plain base.Bool) (argument_type f.vars args 0)

  -- the destination, where there is one, has the type of its variable
  abbrev pub is_dest_typed : Option ℕ → Option Ty → Bool
  is_dest_typed None ty = true
  is_dest_typed (Some x) ty = both_typed same_type ty (variable_type f.vars x)

  -- the number of arguments of a `call`, and whether it has a destination, are as the called function wants
  abbrev pub call_fits : Option Func → Option ℕ → List ℕ → Bool
  call_fits callee dest args = (length args == length (types_of callee)) && same (is_some (return_type callee)) (is_some dest)

  abbrev pub action_call_fits : Op → Option ℕ → List ℕ → List ℕ → Bool
  action_call_fits op.Call dest args funcs = call_fits (slice_get p.funcs (slice_index funcs 0)) dest args
  action_call_fits _ dest args funcs = true

  abbrev pub is_call_shaped : Instr → Bool
  is_call_shaped (Label l) = true
  is_call_shaped (Const dest ty value) = true
  is_call_shaped (Act dest ty operation args funcs labels) = action_call_fits operation dest args funcs

-- ---- faults

-- an operand that isn't of its type, or a pointer that is printed
pub data TypeFault : Type 0 where
  WrongType : TypeFault
  PrintsPointer : TypeFault

abbrev pub wrong_unless : Bool → Option TypeFault
wrong_unless typed = if typed then None else Some WrongType

-- the first argument of a `print` that has no type, or is a pointer
abbrev pub print_fault : List (Option Ty) → Option TypeFault
print_fault [] = None
print_fault (None ∷ ts) = Some WrongType
print_fault (Some t ∷ ts) = if is_pointer t then Some PrintsPointer else print_fault ts

-- the literal is of the type
abbrev pub is_literal_typed : Lit → Ty → Bool
is_literal_typed (literal.Int n) ty = is_plain base.Int ty
is_literal_typed (literal.Bool b) ty = is_plain base.Bool ty
is_literal_typed (literal.Char c) ty = is_plain base.Char ty

abbrev pub action_type_fault : Prog → Func → Op → Option ℕ → Option Ty → List ℕ → List ℕ → Option TypeFault
action_type_fault p f op.Print dest ty args funcs = print_fault (map (variable_type f.vars) args)
action_type_fault p f operation dest ty args funcs =
    wrong_unless (is_dest_typed p f dest ty && is_action_typed p f operation ty args funcs)

-- the fault of an item's types, where it has one
abbrev pub type_fault : Prog → Func → Instr → Option TypeFault
type_fault p f (Label l) = None
type_fault p f (Const dest ty value) = wrong_unless (is_dest_typed p f (Some dest) (Some ty) && is_literal_typed value ty)
type_fault p f (Act dest ty operation args funcs labels) = action_type_fault p f operation dest ty args funcs
