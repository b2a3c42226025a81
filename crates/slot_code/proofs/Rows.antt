-- What an item over slots assigns, and where control goes from it, is that of its instruction.
use Rattle.std.proofs.Common.{◌≡◌, ℕ, suc, true, false, List, [], ◌∷◌, length, Option, Some, None, refl, arith}
use Rattle.std.specs.Prelude.{is_some}
use Rattle.std.proofs.lemmas.Bool.{false≢true}
use Rattle.bril_tree.specs.declared.numbered.Instr.{Instr}
use Rattle.bril_tree.specs.declared.numbered.Instr.TheVariants.{Label, Const, Act}
use Rattle.bril_tree.specs.declared.numbered_function.Func.{Func}
use Rattle.bril_tree.specs.declared.operation.Op.{Op}
use Rattle.bril_tree.specs.declared.operation.Op.TheVariants as op
use Rattle.bril_tree.specs.declared.types.Ty.{Ty}
use Rattle.bril_tree.specs.Assigned.{assigns_of, operation_assigns}
use Rattle.bril_tree.specs.Edge.{action_branches, item_branches}
use Rattle.bril_tree.specs.FunctionForm.{both_or_neither, dest_is_typed}
use Rattle.bril_tree.specs.Shape.{Shape, fits_shape, is_action_shaped, is_shaped, shape_of}
use Rattle.bril_tree.proofs.Shapes.{shape-parts}
use Rattle.slot_code.specs.Flow.{slot_assigns, slot_branches}
use Rattle.slot_code.specs.Lowered.{lowered_action, lowered_item}

module _ (f : Func) where
  -- ---- what is assigned

  action_assigns : (operation : Op) (dest : Option ℕ) (ty : Option Ty) (args funcs labels : List ℕ) → is_action_shaped (is_some f.ret) operation (is_some dest) (length args) (length funcs) (length labels) ≡ true → both_or_neither dest ty ≡ true →
      slot_assigns (lowered_action f operation dest ty args funcs labels) ≡ operation_assigns operation dest args
  action_assigns op.Call dest ty args funcs labels h typed = refl
  action_assigns op.Nop None ty args funcs labels h typed = refl
  action_assigns op.Nop (Some x) ty args funcs labels h typed = absurd (false≢true h)
  action_assigns op.Free None ty args funcs labels h typed = refl
  action_assigns op.Free (Some x) ty args funcs labels h typed = absurd (false≢true h)
  action_assigns op.Store None ty args funcs labels h typed = refl
  action_assigns op.Store (Some x) ty args funcs labels h typed = absurd (false≢true h)
  action_assigns op.Set None ty args funcs labels h typed = refl
  action_assigns op.Set (Some x) ty args funcs labels h typed = absurd (false≢true h)
  action_assigns op.Speculate None ty args funcs labels h typed = refl
  action_assigns op.Speculate (Some x) ty args funcs labels h typed = absurd (false≢true h)
  action_assigns op.Commit None ty args funcs labels h typed = refl
  action_assigns op.Commit (Some x) ty args funcs labels h typed = absurd (false≢true h)
  action_assigns op.Jmp None ty args funcs labels h typed = refl
  action_assigns op.Jmp (Some x) ty args funcs labels h typed = absurd (false≢true h)
  action_assigns op.Br None ty args funcs labels h typed = refl
  action_assigns op.Br (Some x) ty args funcs labels h typed = absurd (false≢true h)
  action_assigns op.Guard None ty args funcs labels h typed = refl
  action_assigns op.Guard (Some x) ty args funcs labels h typed = absurd (false≢true h)
  action_assigns op.Ret None ty args funcs labels h typed = refl
  action_assigns op.Ret (Some x) ty args funcs labels h typed = absurd (false≢true h)
  action_assigns op.Print None ty args funcs labels h typed = refl
  action_assigns op.Print (Some x) ty args funcs labels h typed = absurd (false≢true h)
  action_assigns op.Undef (Some x) None args funcs labels h typed = absurd (false≢true typed)
  action_assigns op.Undef (Some x) (Some type) args funcs labels h typed = refl
  action_assigns _ None ty args funcs labels h typed = absurd (false≢true h)
  action_assigns _ (Some x) ty args funcs labels h typed = refl

  pub item_assigns : (item : Instr) → is_shaped (is_some f.ret) item ≡ true → dest_is_typed item ≡ true → slot_assigns (lowered_item f item) ≡ assigns_of item
  item_assigns (Label l) h typed = refl
  item_assigns (Const dest ty value) h typed = refl
  item_assigns (Act dest ty operation args funcs labels) h typed = action_assigns operation dest ty args funcs labels h typed

  -- ---- where control goes

  -- another number of labels than an operation takes
  labels_differ : (shape : Shape) (args funcs labels : ℕ) → (labels ≡ shape.labels → ⊥) → fits_shape shape false args funcs labels ≡ true → ⊥
  labels_differ shape args funcs labels differ h = differ (shape-parts shape false args funcs labels h).labels_are

  module _ (point : ℕ) where
    action_goes : (operation : Op) (dest : Option ℕ) (ty : Option Ty) (args funcs labels : List ℕ) → is_action_shaped (is_some f.ret) operation (is_some dest) (length args) (length funcs) (length labels) ≡ true →
        slot_branches point (lowered_action f operation dest ty args funcs labels) ≡ action_branches f.code point operation labels
    action_goes op.Jmp None ty args funcs [] h = absurd (labels_differ (shape_of (is_some f.ret) op.Jmp) (length args) (length funcs) 0 (λ e. absurd (omega arith)) h)
    action_goes op.Jmp None ty args funcs (l ∷ []) h = refl
    action_goes op.Jmp None ty args funcs (l ∷ m ∷ labels) h = absurd (labels_differ (shape_of (is_some f.ret) op.Jmp) (length args) (length funcs) (suc (suc (length labels))) (λ e. absurd (omega arith)) h)
    action_goes op.Jmp (Some x) ty args funcs labels h = absurd (false≢true h)
    action_goes op.Br None ty args funcs [] h = absurd (labels_differ (shape_of (is_some f.ret) op.Br) (length args) (length funcs) 0 (λ e. absurd (omega arith)) h)
    action_goes op.Br None ty args funcs (l ∷ []) h = absurd (labels_differ (shape_of (is_some f.ret) op.Br) (length args) (length funcs) 1 (λ e. absurd (omega arith)) h)
    action_goes op.Br None ty args funcs (l ∷ m ∷ []) h = refl
    action_goes op.Br None ty args funcs (l ∷ m ∷ n ∷ labels) h = absurd (labels_differ (shape_of (is_some f.ret) op.Br) (length args) (length funcs) (suc (suc (suc (length labels)))) (λ e. absurd (omega arith)) h)
    action_goes op.Br (Some x) ty args funcs labels h = absurd (false≢true h)
    action_goes op.Guard None ty args funcs [] h = absurd (labels_differ (shape_of (is_some f.ret) op.Guard) (length args) (length funcs) 0 (λ e. absurd (omega arith)) h)
    action_goes op.Guard None ty args funcs (l ∷ []) h = refl
    action_goes op.Guard None ty args funcs (l ∷ m ∷ labels) h = absurd (labels_differ (shape_of (is_some f.ret) op.Guard) (length args) (length funcs) (suc (suc (length labels))) (λ e. absurd (omega arith)) h)
    action_goes op.Guard (Some x) ty args funcs labels h = absurd (false≢true h)
    action_goes op.Call dest ty args funcs labels h = refl
    action_goes op.Ret dest ty args funcs labels h = refl
    action_goes op.Print dest ty args funcs labels h = refl
    action_goes op.Undef (Some x) None args funcs labels h = refl
    action_goes op.Undef (Some x) (Some type) args funcs labels h = refl
    action_goes _ None ty args funcs labels h = refl
    action_goes _ (Some x) ty args funcs labels h = refl

    pub item_goes : (item : Instr) → is_shaped (is_some f.ret) item ≡ true → slot_branches point (lowered_item f item) ≡ item_branches f.code point item
    item_goes (Label l) h = refl
    item_goes (Const dest ty value) h = refl
    item_goes (Act dest ty operation args funcs labels) h = action_goes operation dest ty args funcs labels h
