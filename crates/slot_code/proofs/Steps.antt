-- The code over slots of an accepted program makes the program's steps, in every state.
use Rattle.std.proofs.Common.{◌≡◌, ℕ, zero, suc, Bool, true, false, cond, List, [], ◌∷◌, length, map, Option, Some, None, refl, sym, ap, ◌∙◌}
use Rattle.std.specs.Prelude.{slice_get, slice_index, is_some, option_map, IsSomeAnd, MatchOption}
use Rattle.std.specs.List.{AllZip}
use Rattle.std.proofs.lemmas.Bool.{false≢true}
use Rattle.std.proofs.lemmas.Option.{slice_get-map}
use Rattle.std.proofs.lemmas.Slice.Zip.{AllZip-left, AllZip-right}
use Rattle.simulation.specs.System.{after}
use Rattle.bril_tree.specs.declared.limits.End.{End}
use Rattle.bril_tree.specs.declared.limits.Limits.{Limits}
use Rattle.bril_tree.specs.declared.numbered.Instr.{Instr}
use Rattle.bril_tree.specs.declared.numbered.Instr.TheVariants.{Label, Const, Act}
use Rattle.bril_tree.specs.declared.numbered_function.Func.{Func}
use Rattle.bril_tree.specs.declared.operation.Op.{Op}
use Rattle.bril_tree.specs.declared.operation.Op.TheVariants as op
use Rattle.bril_tree.specs.declared.program.Prog.{Prog}
use Rattle.bril_tree.specs.declared.types.Ty.{Ty}
use Rattle.bril_tree.specs.declared.value.Value.{Value}
use Rattle.bril_tree.specs.Accepted.{IsAccepted}
use Rattle.bril_tree.specs.Operand.{dest_of}
use Rattle.bril_tree.specs.Outcome.{Outcome, Yields, FaultsWith, HasEffect, computed, argument, bool_of}
use Rattle.bril_tree.specs.Shape.{is_action_shaped, is_shaped}
use Rattle.bril_tree.specs.State.{read, no_values, Frame, State}
use Rattle.bril_tree.specs.Step.{items_of, code_of, item_at, point_of, at_point, goes_on, gives, advances, awaited, returns, prints, jumps, guards, saved, dropped, with_failure, by_outcome, acts_at, item_step, frames_step, running_step, step}
use Rattle.bril_tree.specs.Typing.{action_type_fault, type_fault}
use Rattle.bril_tree.proofs.Acceptance.{accepted_function, shaped_at, typed_at}
use Rattle.slot_code.specs.declared.item.SlotItem.{SlotItem}
use Rattle.slot_code.specs.declared.slots.SlotFunction.{SlotFunction}
use Rattle.slot_code.specs.declared.slots.Slots.{Slots}
use Rattle.slot_code.specs.Lowered.{IsLowered, IsLoweredFunction, lowered_action, lowered_item, printed_as}
use Rattle.slot_code.specs.Meaning.{slot_items_of, slot_item_at, slot_dest_of, slot_awaited, slot_returns, slot_guards, slot_item_step, slot_point_step, slot_frames_step, slot_running_step, slot_step, read_printed, read_returned, computes, goes_to}

-- ---- destinations

module _ (p : Prog) (func : Func) where
  -- a resolved operation assigns the variable of its own
  action_dest : (operation : Op) (dest : Option ℕ) (ty : Option Ty) (args funcs labels : List ℕ) → is_action_shaped (is_some func.ret) operation (is_some dest) (length args) (length funcs) (length labels) ≡ true → action_type_fault p func operation dest ty args funcs ≡ None → slot_dest_of (lowered_action func operation dest ty args funcs labels) ≡ dest
  action_dest op.Add (Some x) ty args funcs labels h t = refl
  action_dest op.Add None ty args funcs labels h t = absurd (false≢true h)
  action_dest op.Sub (Some x) ty args funcs labels h t = refl
  action_dest op.Sub None ty args funcs labels h t = absurd (false≢true h)
  action_dest op.Mul (Some x) ty args funcs labels h t = refl
  action_dest op.Mul None ty args funcs labels h t = absurd (false≢true h)
  action_dest op.Div (Some x) ty args funcs labels h t = refl
  action_dest op.Div None ty args funcs labels h t = absurd (false≢true h)
  action_dest op.Eq (Some x) ty args funcs labels h t = refl
  action_dest op.Eq None ty args funcs labels h t = absurd (false≢true h)
  action_dest op.Lt (Some x) ty args funcs labels h t = refl
  action_dest op.Lt None ty args funcs labels h t = absurd (false≢true h)
  action_dest op.Gt (Some x) ty args funcs labels h t = refl
  action_dest op.Gt None ty args funcs labels h t = absurd (false≢true h)
  action_dest op.Le (Some x) ty args funcs labels h t = refl
  action_dest op.Le None ty args funcs labels h t = absurd (false≢true h)
  action_dest op.Ge (Some x) ty args funcs labels h t = refl
  action_dest op.Ge None ty args funcs labels h t = absurd (false≢true h)
  action_dest op.Ceq (Some x) ty args funcs labels h t = refl
  action_dest op.Ceq None ty args funcs labels h t = absurd (false≢true h)
  action_dest op.Clt (Some x) ty args funcs labels h t = refl
  action_dest op.Clt None ty args funcs labels h t = absurd (false≢true h)
  action_dest op.Cgt (Some x) ty args funcs labels h t = refl
  action_dest op.Cgt None ty args funcs labels h t = absurd (false≢true h)
  action_dest op.Cle (Some x) ty args funcs labels h t = refl
  action_dest op.Cle None ty args funcs labels h t = absurd (false≢true h)
  action_dest op.Cge (Some x) ty args funcs labels h t = refl
  action_dest op.Cge None ty args funcs labels h t = absurd (false≢true h)
  action_dest op.Not (Some x) ty args funcs labels h t = refl
  action_dest op.Not None ty args funcs labels h t = absurd (false≢true h)
  action_dest op.And (Some x) ty args funcs labels h t = refl
  action_dest op.And None ty args funcs labels h t = absurd (false≢true h)
  action_dest op.Or (Some x) ty args funcs labels h t = refl
  action_dest op.Or None ty args funcs labels h t = absurd (false≢true h)
  action_dest op.Id (Some x) ty args funcs labels h t = refl
  action_dest op.Id None ty args funcs labels h t = absurd (false≢true h)
  action_dest op.Nop None ty args funcs labels h t = refl
  action_dest op.Nop (Some x) ty args funcs labels h t = absurd (false≢true h)
  action_dest op.Jmp None ty args funcs labels h t = refl
  action_dest op.Jmp (Some x) ty args funcs labels h t = absurd (false≢true h)
  action_dest op.Br None ty args funcs labels h t = refl
  action_dest op.Br (Some x) ty args funcs labels h t = absurd (false≢true h)
  action_dest op.Call dest ty args funcs labels h t = refl
  action_dest op.Ret None ty args funcs labels h t = refl
  action_dest op.Ret (Some x) ty args funcs labels h t = absurd (false≢true h)
  action_dest op.Print None ty args funcs labels h t = refl
  action_dest op.Print (Some x) ty args funcs labels h t = absurd (false≢true h)
  action_dest op.Alloc (Some x) ty args funcs labels h t = refl
  action_dest op.Alloc None ty args funcs labels h t = absurd (false≢true h)
  action_dest op.Free None ty args funcs labels h t = refl
  action_dest op.Free (Some x) ty args funcs labels h t = absurd (false≢true h)
  action_dest op.Store None ty args funcs labels h t = refl
  action_dest op.Store (Some x) ty args funcs labels h t = absurd (false≢true h)
  action_dest op.Load (Some x) ty args funcs labels h t = refl
  action_dest op.Load None ty args funcs labels h t = absurd (false≢true h)
  action_dest op.PtrAdd (Some x) ty args funcs labels h t = refl
  action_dest op.PtrAdd None ty args funcs labels h t = absurd (false≢true h)
  action_dest op.CharToInt (Some x) ty args funcs labels h t = refl
  action_dest op.CharToInt None ty args funcs labels h t = absurd (false≢true h)
  action_dest op.IntToChar (Some x) ty args funcs labels h t = refl
  action_dest op.IntToChar None ty args funcs labels h t = absurd (false≢true h)
  action_dest op.Get (Some x) ty args funcs labels h t = refl
  action_dest op.Get None ty args funcs labels h t = absurd (false≢true h)
  action_dest op.Set None ty args funcs labels h t = refl
  action_dest op.Set (Some x) ty args funcs labels h t = absurd (false≢true h)
  action_dest op.Undef (Some x) (Some type) args funcs labels h t = refl
  action_dest op.Undef (Some x) None args funcs labels h t = absurd (cc)
  action_dest op.Undef None ty args funcs labels h t = absurd (false≢true h)
  action_dest op.Speculate None ty args funcs labels h t = refl
  action_dest op.Speculate (Some x) ty args funcs labels h t = absurd (false≢true h)
  action_dest op.Commit None ty args funcs labels h t = refl
  action_dest op.Commit (Some x) ty args funcs labels h t = absurd (false≢true h)
  action_dest op.Guard None ty args funcs labels h t = refl
  action_dest op.Guard (Some x) ty args funcs labels h t = absurd (false≢true h)

  pub item_dest : (item : Instr) → is_shaped (is_some func.ret) item ≡ true → type_fault p func item ≡ None → slot_dest_of (lowered_item func item) ≡ dest_of item
  item_dest (Label l) h t = refl
  item_dest (Const dest ty value) h t = refl
  item_dest (Act dest ty operation args funcs labels) h t = action_dest operation dest ty args funcs labels h t

-- ---- items by number

-- the items of a function over slots
abbrev lowered_items : Option Func → List SlotItem
lowered_items None = []
lowered_items (Some f) = map (lowered_item f) f.code

items_are : (fs : List Func) (gs : List SlotFunction) → AllZip IsLoweredFunction fs gs → (k : ℕ) → slot_items_of (slice_get gs k) ≡ lowered_items (slice_get fs k)
items_are fs gs h k = by (slice_get fs k) (slice_get gs k) (AllZip-left IsLoweredFunction fs gs h k) (AllZip-right IsLoweredFunction fs gs h k)
  where
    by : (f : Option Func) (g : Option SlotFunction) → MatchOption f (Unit {0}) (λ x. IsSomeAnd g (IsLoweredFunction x)) → MatchOption g (Unit {0}) (λ y. IsSomeAnd f (λ x. IsLoweredFunction x y)) → slot_items_of g ≡ lowered_items f
    by None None l r = refl
    by None (Some g) l r = absurd r
    by (Some f) None l r = absurd l
    by (Some f) (Some g) l r = l.code

-- What stands at a point: the function and its item, or nothing, where the function has no such item or is none of the
-- program's.
data Stands (p : Prog) (slots : Slots) (k point : ℕ) : Type 0 where
  AtItem : (func : Func) (item : Instr) → slice_get p.funcs k ≡ Some func → slice_get func.code point ≡ Some item → slot_item_at slots k point ≡ Some (lowered_item func item) → Stands p slots k point
  Nowhere : item_at p k point ≡ None → slot_item_at slots k point ≡ None → Stands p slots k point

module _ (p : Prog) (slots : Slots) (accepted : IsAccepted p) (lowered : IsLowered p slots) where
  stands : (k point : ℕ) → Stands p slots k point
  stands k point = by_function (slice_get p.funcs k) refl
    where
      at_is : (o : Option Func) → slice_get p.funcs k ≡ o → slot_item_at slots k point ≡ slice_get (lowered_items o) point
      at_is o e = ap (λ items. slice_get items point) (items_are p.funcs slots.funcs lowered.funcs k ∙ ap lowered_items e)

      by_item : (func : Func) → slice_get p.funcs k ≡ Some func → (o : Option Instr) → slice_get func.code point ≡ o → Stands p slots k point
      by_item func e (Some item) here = AtItem func item e here (at_is (Some func) e ∙ slice_get-map (lowered_item func) func.code point ∙ ap (option_map (lowered_item func)) here)
      by_item func e None here = Nowhere (ap (λ o. slice_get (items_of o) point) e ∙ here) (at_is (Some func) e ∙ slice_get-map (lowered_item func) func.code point ∙ ap (option_map (lowered_item func)) here)

      by_function : (o : Option Func) → slice_get p.funcs k ≡ o → Stands p slots k point
      by_function None e = Nowhere (ap (λ o. slice_get (items_of o) point) e) (at_is None e)
      by_function (Some func) e = by_item func e (slice_get func.code point) refl

  module _ (limits : Limits) where
    awaited_is : (k point : ℕ) → slot_awaited (slot_item_at slots k point) ≡ awaited p limits (item_at p k point)
    awaited_is k point = by (stands k point)
      where
        by : Stands p slots k point → slot_awaited (slot_item_at slots k point) ≡ awaited p limits (item_at p k point)
        by (Nowhere none lacks) = ap slot_awaited lacks ∙ sym (ap (awaited p limits) none)
        by (AtItem func item e here at) =
            let known = accepted_function p k func accepted e in
            ap slot_awaited at
            ∙ item_dest p func item (shaped_at p func known point item here) (typed_at p func known point item here)
            ∙ sym (ap (awaited p limits) (ap (λ o. slice_get (items_of o) point) e ∙ here))

    returns_are : (v : Value) (older : List Frame) (s : State) → slot_returns p slots limits v older s ≡ returns p limits v older s
    returns_are v [] s = refl
    returns_are v (caller ∷ older) s = ap (λ dest. gives p limits dest v caller older s) (awaited_is caller.function caller.point)

    -- ---- rows

    module _ (func : Func) (f : Frame) (same : code_of p f.function ≡ func.code) (older : List Frame) (s : State) where
      abbrev Alike : Instr → SlotItem → Type 0
      Alike item slot_item = slot_item_step p slots limits slot_item f older s ≡ item_step p limits (Some item) f older s

      outcome_row : (o : Outcome) (x : ℕ) (item : Instr) → dest_of item ≡ Some x → acts_at p limits item f older s ≡ advances p limits f older s → computes p slots limits o x f older s ≡ by_outcome p limits o item f older s
      outcome_row (Yields v) x item d a = ap (λ dest. gives p limits dest v f older s) (sym d)
      outcome_row (FaultsWith kind) x item d a = refl
      outcome_row HasEffect x item d a = sym a

      jump_is : (g : Frame) (t : State) → code_of p g.function ≡ func.code → (l : ℕ) → goes_to p slots limits (point_of l func.code) g older t ≡ jumps p limits l g older t
      jump_is g t alike l = ap (λ code. goes_on p limits (at_point (point_of l code) g) older t) (sym alike)

      goes : (l : ℕ) → goes_to p slots limits (point_of l func.code) f older s ≡ jumps p limits l f older s
      goes l = jump_is f s same l

      branch_ways : (b : Bool) (labels : List ℕ) → goes_to p slots limits (cond b (point_of (slice_index labels 0) func.code) (point_of (slice_index labels 1) func.code)) f older s ≡ jumps p limits (slice_index labels (cond b 0 1)) f older s
      branch_ways true labels = goes (slice_index labels 0)
      branch_ways false labels = goes (slice_index labels 1)

      guard_row : (b : Bool) (l : ℕ) → slot_guards p slots limits b (point_of l func.code) f older s ≡ guards p limits b l f older s
      guard_row true l = refl
      guard_row false l = jump_is (record f { locations = saved f.saves f.locations; saves = dropped f.saves }) (with_failure p limits f s) same l

      return_row : (args : List ℕ) → slot_returns p slots limits (read_returned f.locations (slice_get args 0)) older s ≡ returns p limits (argument f.locations args 0) older s
      return_row [] = returns_are (read f.locations.vars 0) older s
      return_row (x ∷ args) = returns_are (read f.locations.vars x) older s

      printed_values : (args : List ℕ) → map (read_printed f.locations) (map (printed_as func.vars) args) ≡ map (read f.locations.vars) args
      printed_values [] = refl
      printed_values (x ∷ args) = ap (λ vs. read f.locations.vars x ∷ vs) (printed_values args)

      action_row : (operation : Op) (dest : Option ℕ) (ty : Option Ty) (args funcs labels : List ℕ) → is_action_shaped (is_some func.ret) operation (is_some dest) (length args) (length funcs) (length labels) ≡ true → action_type_fault p func operation dest ty args funcs ≡ None → Alike (Act dest ty operation args funcs labels) (lowered_action func operation dest ty args funcs labels)
      action_row op.Add (Some x) ty args funcs labels h t = refl
      action_row op.Add None ty args funcs labels h t = absurd (false≢true h)
      action_row op.Sub (Some x) ty args funcs labels h t = refl
      action_row op.Sub None ty args funcs labels h t = absurd (false≢true h)
      action_row op.Mul (Some x) ty args funcs labels h t = refl
      action_row op.Mul None ty args funcs labels h t = absurd (false≢true h)
      action_row op.Div (Some x) ty args funcs labels h t = outcome_row (computed op.Div ty (argument f.locations args 0) (argument f.locations args 1)) x (Act (Some x) ty op.Div args funcs labels) refl refl
      action_row op.Div None ty args funcs labels h t = absurd (false≢true h)
      action_row op.Eq (Some x) ty args funcs labels h t = refl
      action_row op.Eq None ty args funcs labels h t = absurd (false≢true h)
      action_row op.Lt (Some x) ty args funcs labels h t = refl
      action_row op.Lt None ty args funcs labels h t = absurd (false≢true h)
      action_row op.Gt (Some x) ty args funcs labels h t = refl
      action_row op.Gt None ty args funcs labels h t = absurd (false≢true h)
      action_row op.Le (Some x) ty args funcs labels h t = refl
      action_row op.Le None ty args funcs labels h t = absurd (false≢true h)
      action_row op.Ge (Some x) ty args funcs labels h t = refl
      action_row op.Ge None ty args funcs labels h t = absurd (false≢true h)
      action_row op.Ceq (Some x) ty args funcs labels h t = refl
      action_row op.Ceq None ty args funcs labels h t = absurd (false≢true h)
      action_row op.Clt (Some x) ty args funcs labels h t = refl
      action_row op.Clt None ty args funcs labels h t = absurd (false≢true h)
      action_row op.Cgt (Some x) ty args funcs labels h t = refl
      action_row op.Cgt None ty args funcs labels h t = absurd (false≢true h)
      action_row op.Cle (Some x) ty args funcs labels h t = refl
      action_row op.Cle None ty args funcs labels h t = absurd (false≢true h)
      action_row op.Cge (Some x) ty args funcs labels h t = refl
      action_row op.Cge None ty args funcs labels h t = absurd (false≢true h)
      action_row op.Not (Some x) ty args funcs labels h t = refl
      action_row op.Not None ty args funcs labels h t = absurd (false≢true h)
      action_row op.And (Some x) ty args funcs labels h t = refl
      action_row op.And None ty args funcs labels h t = absurd (false≢true h)
      action_row op.Or (Some x) ty args funcs labels h t = refl
      action_row op.Or None ty args funcs labels h t = absurd (false≢true h)
      action_row op.Id (Some x) ty args funcs labels h t = refl
      action_row op.Id None ty args funcs labels h t = absurd (false≢true h)
      action_row op.Nop None ty args funcs labels h t = refl
      action_row op.Nop (Some x) ty args funcs labels h t = absurd (false≢true h)
      action_row op.Jmp None ty args funcs labels h t = goes (slice_index labels 0)
      action_row op.Jmp (Some x) ty args funcs labels h t = absurd (false≢true h)
      action_row op.Br None ty args funcs labels h t = branch_ways (bool_of (argument f.locations args 0)) labels
      action_row op.Br (Some x) ty args funcs labels h t = absurd (false≢true h)
      action_row op.Call dest ty args funcs labels h t = refl
      action_row op.Ret None ty args funcs labels h t = return_row args
      action_row op.Ret (Some x) ty args funcs labels h t = absurd (false≢true h)
      action_row op.Print None ty args funcs labels h t = ap (λ vs. prints p limits vs f older s) (printed_values args)
      action_row op.Print (Some x) ty args funcs labels h t = absurd (false≢true h)
      action_row op.Alloc (Some x) ty args funcs labels h t = refl
      action_row op.Alloc None ty args funcs labels h t = absurd (false≢true h)
      action_row op.Free None ty args funcs labels h t = refl
      action_row op.Free (Some x) ty args funcs labels h t = absurd (false≢true h)
      action_row op.Store None ty args funcs labels h t = refl
      action_row op.Store (Some x) ty args funcs labels h t = absurd (false≢true h)
      action_row op.Load (Some x) ty args funcs labels h t = refl
      action_row op.Load None ty args funcs labels h t = absurd (false≢true h)
      action_row op.PtrAdd (Some x) ty args funcs labels h t = outcome_row (computed op.PtrAdd ty (argument f.locations args 0) (argument f.locations args 1)) x (Act (Some x) ty op.PtrAdd args funcs labels) refl refl
      action_row op.PtrAdd None ty args funcs labels h t = absurd (false≢true h)
      action_row op.CharToInt (Some x) ty args funcs labels h t = refl
      action_row op.CharToInt None ty args funcs labels h t = absurd (false≢true h)
      action_row op.IntToChar (Some x) ty args funcs labels h t = outcome_row (computed op.IntToChar ty (argument f.locations args 0) (argument f.locations args 1)) x (Act (Some x) ty op.IntToChar args funcs labels) refl refl
      action_row op.IntToChar None ty args funcs labels h t = absurd (false≢true h)
      action_row op.Get (Some x) ty args funcs labels h t = refl
      action_row op.Get None ty args funcs labels h t = absurd (false≢true h)
      action_row op.Set None ty args funcs labels h t = refl
      action_row op.Set (Some x) ty args funcs labels h t = absurd (false≢true h)
      action_row op.Undef (Some x) (Some type) args funcs labels h t = refl
      action_row op.Undef (Some x) None args funcs labels h t = absurd (cc)
      action_row op.Undef None ty args funcs labels h t = absurd (false≢true h)
      action_row op.Speculate None ty args funcs labels h t = refl
      action_row op.Speculate (Some x) ty args funcs labels h t = absurd (false≢true h)
      action_row op.Commit None ty args funcs labels h t = refl
      action_row op.Commit (Some x) ty args funcs labels h t = absurd (false≢true h)
      action_row op.Guard None ty args funcs labels h t = guard_row (bool_of (argument f.locations args 0)) (slice_index labels 0)
      action_row op.Guard (Some x) ty args funcs labels h t = absurd (false≢true h)

      item_row : (item : Instr) → is_shaped (is_some func.ret) item ≡ true → type_fault p func item ≡ None → Alike item (lowered_item func item)
      item_row (Label l) h t = refl
      item_row (Const dest ty value) h t = refl
      item_row (Act dest ty operation args funcs labels) h t = action_row operation dest ty args funcs labels h t

    -- ---- steps

    point_step : (f : Frame) (older : List Frame) (s : State) → slot_point_step p slots limits (slot_item_at slots f.function f.point) f older s ≡ item_step p limits (item_at p f.function f.point) f older s
    point_step f older s = by (stands f.function f.point)
      where
        by : Stands p slots f.function f.point → slot_point_step p slots limits (slot_item_at slots f.function f.point) f older s ≡ item_step p limits (item_at p f.function f.point) f older s
        by (Nowhere none lacks) =
            ap (λ item. slot_point_step p slots limits item f older s) lacks
            ∙ returns_are (read no_values 0) older s
            ∙ sym (ap (λ item. item_step p limits item f older s) none)
        by (AtItem func item e here at) =
            let known = accepted_function p f.function func accepted e in
            ap (λ found. slot_point_step p slots limits found f older s) at
            ∙ item_row func f (ap items_of e) older s item (shaped_at p func known f.point item here) (typed_at p func known f.point item here)
            ∙ sym (ap (λ found. item_step p limits found f older s) (ap (λ o. slice_get (items_of o) f.point) e ∙ here))

    frames_steps : (frames : List Frame) (s : State) → slot_frames_step p slots limits frames s ≡ frames_step p limits frames s
    frames_steps [] s = refl
    frames_steps (f ∷ older) s = point_step f older s

    running_steps : (ended : Option End) (s : State) → slot_running_step p slots limits ended s ≡ running_step p limits ended s
    running_steps None s = frames_steps s.frames s
    running_steps (Some how) s = refl

    -- the step of the code over slots is the program's, in every state
    pub steps_are : (s : State) → slot_step p slots limits s ≡ step p limits s
    steps_are s = running_steps s.ended s

    pub states_are : (n : ℕ) (s : State) → after (slot_step p slots limits) n s ≡ after (step p limits) n s
    states_are zero s = refl
    states_are (suc n) s = ap (after (slot_step p slots limits) n) (steps_are s) ∙ states_are n (step p limits s)
