-- Where the newest frame of a running program is, and what its item finds there.
use Rattle.std.proofs.Common.{◌≡◌, ℕ, zero, suc, ◌<◌, ◌≤◌, false, List, [], ◌∷◌, length, map, Option, Some, None, refl, sym, ap, ◌∙◌, subst, arith}
use Rattle.std.specs.Prelude.{All, IsSome, is_some, option_map, slice_get}
use Rattle.std.proofs.lemmas.List.{length-map}
use Rattle.std.proofs.lemmas.Option.{same_Some, slice_get-map}
use Rattle.bril_tree.specs.declared.numbered.Instr.{Instr}
use Rattle.bril_tree.specs.declared.numbered.Instr.TheVariants.{Label, Const, Act}
use Rattle.bril_tree.specs.declared.numbered_function.Func.{Func}
use Rattle.bril_tree.specs.declared.operation.Op.{Op}
use Rattle.bril_tree.specs.declared.operation.Op.TheVariants as op
use Rattle.bril_tree.specs.declared.program.Prog.{Prog}
use Rattle.bril_tree.specs.declared.types.Ty.{Ty}
use Rattle.program_numbers.specs.Cost.{item_passes, longest_in, longest_arguments}
use Rattle.program_numbers.specs.ProgramNumbers.{greatest}
use Rattle.bril_tree.specs.Run.{state_after}
use Rattle.bril_tree.specs.State.{Frame}
use Rattle.bril_tree.specs.Typing.{return_type}
use Rattle.slot_code.specs.declared.item.SlotItem.{SlotItem}
use Rattle.slot_code.specs.declared.item.SlotItem.TheVariants.{Call, Print}
use Rattle.slot_code.specs.declared.slots.SlotFunction.{SlotFunction}
use Rattle.slot_code.specs.Laws.{IsSlotOf, slots_used}
use Rattle.slot_code.specs.Lowered.{IsLoweredFunction, lowered_action, lowered_item, printed_as}
use Rattle.slot_code.proofs.Uses.{items_use_slots}
use Rattle.type_soundness.specs.WellTyped.{IsWellTyped}
use Rattle.type_soundness.proofs.Soundness.{runs_are_well_typed}
use Rattle.rv64_emit_laws.proofs.Finding.{item_finds}
use Rattle.rv64_emit_laws.proofs.Ready.{Finds, gives_back}
use Rattle.rv64_emit_laws.proofs.Setting.{Setting}
use Rattle.rv64_emit_laws.proofs.Sources.{SourceAt, source_at}

-- ---- lists of arguments

-- a list of arguments is no longer than the longest of the program
abbrev pub ListFits : ℕ → SlotItem → Type 0
ListFits longest (Call dest function args) = length args ≤ longest
ListFits longest (Print args) = length args ≤ longest
ListFits longest _ = Unit {0}

greatest_in : (ns : List ℕ) (k n : ℕ) → slice_get ns k ≡ Some n → n ≤ greatest ns
greatest_in [] k n e = absurd cc
greatest_in (m ∷ ns) zero n e = let same : m ≡ n = same_Some m n e in omega arith
greatest_in (m ∷ ns) (suc k) n e = let h = greatest_in ns k n e in omega arith

module _ (f : Func) (longest : ℕ) where
  action_fits : (o : Op) (dest : Option ℕ) (ty : Option Ty) (args funcs labels : List ℕ) → item_passes (Act dest ty o args funcs labels) ≤ longest → ListFits longest (lowered_action f o dest ty args funcs labels)
  action_fits op.Call dest ty args funcs labels h = h
  action_fits op.Print dest ty args funcs labels h = subst (λ n. n ≤ longest) (sym (length-map args (printed_as f.vars))) h
  action_fits op.Undef (Some x) None args funcs labels h = tt
  action_fits op.Undef (Some x) (Some type) args funcs labels h = tt
  action_fits _ None ty args funcs labels h = tt
  action_fits _ (Some x) ty args funcs labels h = tt

  item_fits : (item : Instr) → item_passes item ≤ longest → ListFits longest (lowered_item f item)
  item_fits (Label l) h = tt
  item_fits (Const dest ty value) h = tt
  item_fits (Act dest ty o args funcs labels) h = action_fits o dest ty args funcs labels h

list_fits : (p : Prog) (k : ℕ) (f : Func) (point : ℕ) (item : Instr) → slice_get p.funcs k ≡ Some f → slice_get f.code point ≡ Some item → ListFits (longest_arguments p) (lowered_item f item)
list_fits p k f point item there here =
    let own = greatest_in (map item_passes f.code) point (item_passes item) (slice_get-map item_passes f.code point ∙ ap (option_map item_passes) here) in
    let all = greatest_in (map longest_in p.funcs) k (longest_in f) (slice_get-map longest_in p.funcs k ∙ ap (option_map longest_in) there) in
    item_fits f (longest_arguments p) item (omega arith)

-- ---- where a frame is

pub data FrameAt (S : Setting) (f : Frame) (g : SlotFunction) : Type 0 where
  AtItem : (item : SlotItem) → slice_get g.code f.point ≡ Some item → Finds S.p S.slots f item → All (IsSlotOf g) (slots_used item) → ListFits (longest_arguments S.p) item → FrameAt S f g
  AtEnd : slice_get g.code f.point ≡ None → gives_back S.p f.function ≡ false → FrameAt S f g

module _ (S : Setting) (f : Frame) (g : SlotFunction) (there : slice_get S.slots.funcs f.function ≡ Some g) (w : IsWellTyped S.p f) where
  source : SourceAt S.p f.function g
  source = source_at S.p S.slots S.lowered f.function g there

  same_function : source.function ≡ w.function
  same_function = same_Some source.function w.function (sym source.there ∙ w.there)

  pub is_lowered : IsLoweredFunction w.function g
  is_lowered = subst (λ func. IsLoweredFunction func g) same_function source.is

  made : slice_get g.code f.point ≡ option_map (lowered_item w.function) (slice_get w.function.code f.point)
  made = ap (λ code. slice_get code f.point) is_lowered.code ∙ slice_get-map (lowered_item w.function) w.function.code f.point

  pub frame_at : FrameAt S f g
  frame_at = by (slice_get w.function.code f.point) refl
    where
      past : (xs : List Instr) (i : ℕ) → slice_get xs i ≡ None → i < length xs → ⊥
      past [] i e lt = absurd (omega arith)
      past (x ∷ xs) zero e lt = cc
      past (x ∷ xs) (suc i) e lt = past xs i e (omega arith)

      by_type : (o : Option Ty) → (IsSome o → f.point < length w.function.code) → slice_get w.function.code f.point ≡ None → is_some o ≡ false
      by_type None before none = refl
      by_type (Some ty) before none = absurd (past w.function.code f.point none (before refl))

      by : (o : Option Instr) → slice_get w.function.code f.point ≡ o → FrameAt S f g
      by None e = AtEnd (made ∙ ap (option_map (lowered_item w.function)) e) (ap (λ o. is_some (return_type o)) w.there ∙ by_type w.function.ret w.returns e)
      by (Some item) e =
          let here = made ∙ ap (option_map (lowered_item w.function)) e in
          AtItem (lowered_item w.function item) here
          (item_finds S.p S.slots S.accepted S.literals S.lowered f w item e)
          (items_use_slots S.p f.function w.function g S.accepted w.there is_lowered f.point (lowered_item w.function item) here)
          (list_fits S.p f.function w.function f.point item w.there e)

-- the newest frame of a run is well typed
pub well_typed : (S : Setting) (n : ℕ) (f : Frame) (older : List Frame) → (state_after S.p S.limits S.args n).frames ≡ f ∷ older → IsWellTyped S.p f
well_typed S n f older frames =
    let w = runs_are_well_typed S.p S.limits S.args S.accepted S.literals S.fit n in
    subst (IsWellTyped S.p) (same_head w.0 f w.1 older (sym w.2 ∙ frames)) w.3
  where
    same_head : (f g : Frame) (fs gs : List Frame) → f ∷ fs ≡ g ∷ gs → f ≡ g
    same_head f g fs gs e = cc
