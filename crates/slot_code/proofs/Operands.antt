-- What an item over slots reads is what its instruction reads.
use Rattle.std.proofs.Common.{◌≡◌, ℕ, Bool, true, false, cond, List, [], ◌∷◌, length, map, Option, Some, None, refl, ap, arith}
use Rattle.std.specs.Prelude.{is_some, slice_get, slice_index}
use Rattle.std.proofs.lemmas.Bool.{false≢true}
use Rattle.bril_tree.specs.declared.numbered.Instr.{Instr}
use Rattle.bril_tree.specs.declared.numbered.Instr.TheVariants.{Label, Const, Act}
use Rattle.bril_tree.specs.declared.numbered.VarInfo.{VarInfo}
use Rattle.bril_tree.specs.declared.numbered_function.Func.{Func}
use Rattle.bril_tree.specs.declared.operation.Op.{Op}
use Rattle.bril_tree.specs.declared.operation.Op.TheVariants as op
use Rattle.bril_tree.specs.declared.types.Ty.{Ty}
use Rattle.bril_tree.specs.FunctionForm.{both_or_neither, dest_is_typed, listed}
use Rattle.bril_tree.specs.Operand.{Variable, locations_read, reading_of, reads_of}
use Rattle.bril_tree.specs.Shape.{is_action_shaped, is_shaped, shape_of}
use Rattle.bril_tree.proofs.Shapes.{shape-parts}
use Rattle.slot_code.specs.Flow.{slot_reads}
use Rattle.slot_code.specs.Lowered.{lowered_action, lowered_item, printed_as}

-- ---- lists of arguments

none_read : (args : List ℕ) → length args ≡ 0 → [] ≡ map Variable args
none_read [] n = refl
none_read (x ∷ args) n = absurd (omega arith)

one_read : (args : List ℕ) → length args ≡ 1 → Variable (slice_index args 0) ∷ [] ≡ map Variable args
one_read [] n = absurd (omega arith)
one_read (x ∷ []) n = refl
one_read (x ∷ y ∷ args) n = absurd (omega arith)

two_read : (args : List ℕ) → length args ≡ 2 → Variable (slice_index args 0) ∷ Variable (slice_index args 1) ∷ [] ≡ map Variable args
two_read [] n = absurd (omega arith)
two_read (x ∷ []) n = absurd (omega arith)
two_read (x ∷ y ∷ []) n = refl
two_read (x ∷ y ∷ z ∷ args) n = absurd (omega arith)

-- a `ret` has one argument or none
returned_read : (returns : Bool) (args : List ℕ) → length args ≡ cond returns 1 0 → map Variable (listed (slice_get args 0)) ≡ map Variable args
returned_read returns [] n = refl
returned_read returns (x ∷ []) n = refl
returned_read true (x ∷ y ∷ args) n = absurd (omega arith)
returned_read false (x ∷ y ∷ args) n = absurd (omega arith)

printed_read : (vars : List VarInfo) (args : List ℕ) → map (λ a. Variable a.variable) (map (printed_as vars) args) ≡ map Variable args
printed_read vars [] = refl
printed_read vars (x ∷ args) = ap (λ l. Variable x ∷ l) (printed_read vars args)

module _ (f : Func) where
  action_reads : (operation : Op) (dest : Option ℕ) (ty : Option Ty) (args funcs labels : List ℕ) → is_action_shaped (is_some f.ret) operation (is_some dest) (length args) (length funcs) (length labels) ≡ true → both_or_neither dest ty ≡ true →
      slot_reads (lowered_action f operation dest ty args funcs labels) ≡ locations_read (reading_of operation) dest args
  action_reads op.Add (Some x) ty args funcs labels h typed = two_read args (shape-parts (shape_of (is_some f.ret) op.Add) true (length args) (length funcs) (length labels) h).args_are
  action_reads op.Add None ty args funcs labels h typed = absurd (false≢true h)
  action_reads op.Sub (Some x) ty args funcs labels h typed = two_read args (shape-parts (shape_of (is_some f.ret) op.Sub) true (length args) (length funcs) (length labels) h).args_are
  action_reads op.Sub None ty args funcs labels h typed = absurd (false≢true h)
  action_reads op.Mul (Some x) ty args funcs labels h typed = two_read args (shape-parts (shape_of (is_some f.ret) op.Mul) true (length args) (length funcs) (length labels) h).args_are
  action_reads op.Mul None ty args funcs labels h typed = absurd (false≢true h)
  action_reads op.Div (Some x) ty args funcs labels h typed = two_read args (shape-parts (shape_of (is_some f.ret) op.Div) true (length args) (length funcs) (length labels) h).args_are
  action_reads op.Div None ty args funcs labels h typed = absurd (false≢true h)
  action_reads op.Eq (Some x) ty args funcs labels h typed = two_read args (shape-parts (shape_of (is_some f.ret) op.Eq) true (length args) (length funcs) (length labels) h).args_are
  action_reads op.Eq None ty args funcs labels h typed = absurd (false≢true h)
  action_reads op.Lt (Some x) ty args funcs labels h typed = two_read args (shape-parts (shape_of (is_some f.ret) op.Lt) true (length args) (length funcs) (length labels) h).args_are
  action_reads op.Lt None ty args funcs labels h typed = absurd (false≢true h)
  action_reads op.Gt (Some x) ty args funcs labels h typed = two_read args (shape-parts (shape_of (is_some f.ret) op.Gt) true (length args) (length funcs) (length labels) h).args_are
  action_reads op.Gt None ty args funcs labels h typed = absurd (false≢true h)
  action_reads op.Le (Some x) ty args funcs labels h typed = two_read args (shape-parts (shape_of (is_some f.ret) op.Le) true (length args) (length funcs) (length labels) h).args_are
  action_reads op.Le None ty args funcs labels h typed = absurd (false≢true h)
  action_reads op.Ge (Some x) ty args funcs labels h typed = two_read args (shape-parts (shape_of (is_some f.ret) op.Ge) true (length args) (length funcs) (length labels) h).args_are
  action_reads op.Ge None ty args funcs labels h typed = absurd (false≢true h)
  action_reads op.Ceq (Some x) ty args funcs labels h typed = two_read args (shape-parts (shape_of (is_some f.ret) op.Ceq) true (length args) (length funcs) (length labels) h).args_are
  action_reads op.Ceq None ty args funcs labels h typed = absurd (false≢true h)
  action_reads op.Clt (Some x) ty args funcs labels h typed = two_read args (shape-parts (shape_of (is_some f.ret) op.Clt) true (length args) (length funcs) (length labels) h).args_are
  action_reads op.Clt None ty args funcs labels h typed = absurd (false≢true h)
  action_reads op.Cgt (Some x) ty args funcs labels h typed = two_read args (shape-parts (shape_of (is_some f.ret) op.Cgt) true (length args) (length funcs) (length labels) h).args_are
  action_reads op.Cgt None ty args funcs labels h typed = absurd (false≢true h)
  action_reads op.Cle (Some x) ty args funcs labels h typed = two_read args (shape-parts (shape_of (is_some f.ret) op.Cle) true (length args) (length funcs) (length labels) h).args_are
  action_reads op.Cle None ty args funcs labels h typed = absurd (false≢true h)
  action_reads op.Cge (Some x) ty args funcs labels h typed = two_read args (shape-parts (shape_of (is_some f.ret) op.Cge) true (length args) (length funcs) (length labels) h).args_are
  action_reads op.Cge None ty args funcs labels h typed = absurd (false≢true h)
  action_reads op.And (Some x) ty args funcs labels h typed = two_read args (shape-parts (shape_of (is_some f.ret) op.And) true (length args) (length funcs) (length labels) h).args_are
  action_reads op.And None ty args funcs labels h typed = absurd (false≢true h)
  action_reads op.Or (Some x) ty args funcs labels h typed = two_read args (shape-parts (shape_of (is_some f.ret) op.Or) true (length args) (length funcs) (length labels) h).args_are
  action_reads op.Or None ty args funcs labels h typed = absurd (false≢true h)
  action_reads op.PtrAdd (Some x) ty args funcs labels h typed = two_read args (shape-parts (shape_of (is_some f.ret) op.PtrAdd) true (length args) (length funcs) (length labels) h).args_are
  action_reads op.PtrAdd None ty args funcs labels h typed = absurd (false≢true h)
  action_reads op.Not (Some x) ty args funcs labels h typed = one_read args (shape-parts (shape_of (is_some f.ret) op.Not) true (length args) (length funcs) (length labels) h).args_are
  action_reads op.Not None ty args funcs labels h typed = absurd (false≢true h)
  action_reads op.Id (Some x) ty args funcs labels h typed = one_read args (shape-parts (shape_of (is_some f.ret) op.Id) true (length args) (length funcs) (length labels) h).args_are
  action_reads op.Id None ty args funcs labels h typed = absurd (false≢true h)
  action_reads op.Alloc (Some x) ty args funcs labels h typed = one_read args (shape-parts (shape_of (is_some f.ret) op.Alloc) true (length args) (length funcs) (length labels) h).args_are
  action_reads op.Alloc None ty args funcs labels h typed = absurd (false≢true h)
  action_reads op.Load (Some x) ty args funcs labels h typed = one_read args (shape-parts (shape_of (is_some f.ret) op.Load) true (length args) (length funcs) (length labels) h).args_are
  action_reads op.Load None ty args funcs labels h typed = absurd (false≢true h)
  action_reads op.CharToInt (Some x) ty args funcs labels h typed = one_read args (shape-parts (shape_of (is_some f.ret) op.CharToInt) true (length args) (length funcs) (length labels) h).args_are
  action_reads op.CharToInt None ty args funcs labels h typed = absurd (false≢true h)
  action_reads op.IntToChar (Some x) ty args funcs labels h typed = one_read args (shape-parts (shape_of (is_some f.ret) op.IntToChar) true (length args) (length funcs) (length labels) h).args_are
  action_reads op.IntToChar None ty args funcs labels h typed = absurd (false≢true h)
  action_reads op.Br None ty args funcs labels h typed = one_read args (shape-parts (shape_of (is_some f.ret) op.Br) false (length args) (length funcs) (length labels) h).args_are
  action_reads op.Br (Some x) ty args funcs labels h typed = absurd (false≢true h)
  action_reads op.Free None ty args funcs labels h typed = one_read args (shape-parts (shape_of (is_some f.ret) op.Free) false (length args) (length funcs) (length labels) h).args_are
  action_reads op.Free (Some x) ty args funcs labels h typed = absurd (false≢true h)
  action_reads op.Guard None ty args funcs labels h typed = one_read args (shape-parts (shape_of (is_some f.ret) op.Guard) false (length args) (length funcs) (length labels) h).args_are
  action_reads op.Guard (Some x) ty args funcs labels h typed = absurd (false≢true h)
  action_reads op.Store None ty args funcs labels h typed = two_read args (shape-parts (shape_of (is_some f.ret) op.Store) false (length args) (length funcs) (length labels) h).args_are
  action_reads op.Store (Some x) ty args funcs labels h typed = absurd (false≢true h)
  action_reads op.Nop None ty args funcs labels h typed = none_read args (shape-parts (shape_of (is_some f.ret) op.Nop) false (length args) (length funcs) (length labels) h).args_are
  action_reads op.Nop (Some x) ty args funcs labels h typed = absurd (false≢true h)
  action_reads op.Jmp None ty args funcs labels h typed = none_read args (shape-parts (shape_of (is_some f.ret) op.Jmp) false (length args) (length funcs) (length labels) h).args_are
  action_reads op.Jmp (Some x) ty args funcs labels h typed = absurd (false≢true h)
  action_reads op.Speculate None ty args funcs labels h typed = none_read args (shape-parts (shape_of (is_some f.ret) op.Speculate) false (length args) (length funcs) (length labels) h).args_are
  action_reads op.Speculate (Some x) ty args funcs labels h typed = absurd (false≢true h)
  action_reads op.Commit None ty args funcs labels h typed = none_read args (shape-parts (shape_of (is_some f.ret) op.Commit) false (length args) (length funcs) (length labels) h).args_are
  action_reads op.Commit (Some x) ty args funcs labels h typed = absurd (false≢true h)
  action_reads op.Call dest ty args funcs labels h typed = refl
  action_reads op.Print None ty args funcs labels h typed = printed_read f.vars args
  action_reads op.Print (Some x) ty args funcs labels h typed = absurd (false≢true h)
  action_reads op.Ret None ty args funcs labels h typed = returned_read (is_some f.ret) args (shape-parts (shape_of (is_some f.ret) op.Ret) false (length args) (length funcs) (length labels) h).args_are
  action_reads op.Ret (Some x) ty args funcs labels h typed = absurd (false≢true h)
  action_reads op.Get (Some x) ty args funcs labels h typed = refl
  action_reads op.Get None ty args funcs labels h typed = absurd (false≢true h)
  action_reads op.Set None ty args funcs labels h typed = refl
  action_reads op.Set (Some x) ty args funcs labels h typed = absurd (false≢true h)
  action_reads op.Undef (Some x) (Some type) args funcs labels h typed = none_read args (shape-parts (shape_of (is_some f.ret) op.Undef) true (length args) (length funcs) (length labels) h).args_are
  action_reads op.Undef (Some x) None args funcs labels h typed = absurd (false≢true typed)
  action_reads op.Undef None ty args funcs labels h typed = absurd (false≢true h)

  pub item_reads : (item : Instr) → is_shaped (is_some f.ret) item ≡ true → dest_is_typed item ≡ true → slot_reads (lowered_item f item) ≡ reads_of item
  item_reads (Label l) h typed = refl
  item_reads (Const dest ty value) h typed = refl
  item_reads (Act dest ty operation args funcs labels) h typed = action_reads operation dest ty args funcs labels h typed
