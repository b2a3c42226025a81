-- A location that is live somewhere is a slot of its function, and a point where one is live is an item's.
use Rattle.std.proofs.Common.{◌≡◌, ℕ, ◌<◌, ◌≤◌, true, List, [], ◌∷◌, length, map, Option, Some, None, refl, sym, ap, ◌∙◌, subst, arith, inl, inr}
use Rattle.std.specs.Prelude.{All, is_some, option_map, slice_get, slice_index}
use Rattle.std.specs.List.{Contains}
use Rattle.std.proofs.lemmas.Bool.{false≢true}
use Rattle.std.proofs.lemmas.Option.{slice_get-map, slice_get_within}
use Rattle.bril_tree.specs.declared.numbered.Instr.{Instr}
use Rattle.bril_tree.specs.declared.numbered.Instr.TheVariants.{Label, Const, Act}
use Rattle.bril_tree.specs.declared.numbered_function.Func.{Func}
use Rattle.bril_tree.specs.declared.operation.Op.{Op}
use Rattle.bril_tree.specs.declared.operation.Op.TheVariants as op
use Rattle.bril_tree.specs.declared.program.Prog.{Prog}
use Rattle.bril_tree.specs.declared.types.Ty.{Ty}
use Rattle.bril_tree.specs.Accepted.{IsAccepted}
use Rattle.bril_tree.specs.Edge.{Branch, branches_at}
use Rattle.bril_tree.specs.FunctionForm.{listed}
use Rattle.bril_tree.specs.Leaving.{Leaves}
use Rattle.bril_tree.specs.Live.{IsLive, Here, Later}
use Rattle.bril_tree.specs.Membership.{In}
use Rattle.bril_tree.specs.Operand.{Location, Variable, Shadow, reads_of}
use Rattle.bril_tree.specs.Shape.{is_action_shaped}
use Rattle.bril_tree.proofs.Acceptance.{accepted_function, shaped_at}
use Rattle.bril_tree.proofs.Branches.{branch_at_item}
use Rattle.bril_tree.proofs.Elements.{All-at, in_index}
use Rattle.bril_tree.proofs.Formed.{variable_below}
use Rattle.bril_tree.proofs.Members.{in_append_right, in_contains, in_map_source, contains_one}
use Rattle.bril_tree.proofs.Replays.{sites-inside}
use Rattle.slot_code.specs.declared.item.Slot.TheVariants as slot
use Rattle.slot_code.specs.declared.slots.SlotFunction.{SlotFunction}
use Rattle.slot_code.specs.Laws.{IsSlotOf, slots_used}
use Rattle.slot_code.specs.Lowered.{IsLoweredFunction, lowered_item}
use Rattle.slot_code.proofs.Uses.{items_use_slots}
use Rattle.type_soundness.proofs.Locals.{counted}
use Rattle.placement_laws.specs.Homes.{slot_of}

-- a branch leaves from an item
leaves_within : (code : List Instr) (point : ℕ) (branch : Branch) → Leaves code point branch → point ≤ length code
leaves_within code point branch (inl plain) = let less = branch_at_item code point branch (in_contains branch (branches_at code point) plain.0) in omega arith
leaves_within code point branch (inr aborts) = let less = sites-inside code aborts.walk aborts.is 0 point (ap (λ sites. slice_get sites 0) aborts.sites) in omega arith

-- a location is live at points of the function alone
pub live_within : (code : List Instr) (x : Location) (point : ℕ) → IsLive code x point → point ≤ length code
live_within code x point (Here _ item at reads) = let less = slice_get_within code point item at in omega arith
live_within code x point (Later _ branch leaves none live) = leaves_within code point branch leaves

module _ (p : Prog) (k : ℕ) (f : Func) (g : SlotFunction) (accepted : IsAccepted p) (there : slice_get p.funcs k ≡ Some f) (is : IsLoweredFunction f g) where
  -- what is among the arguments of an item is a slot
  among : (point : ℕ) (dest : Option ℕ) (ty : Option Ty) (o : Op) (args funcs labels : List ℕ) → slice_get f.code point ≡ Some (Act dest ty o args funcs labels) → (y : ℕ) → In y args → IsSlotOf g (slot.Variable y)
  among point dest ty o args funcs labels at y i =
      subst (λ n. y < n) (sym is.variables) (variable_below f point (Act dest ty o args funcs labels) at y (in_append_right y (listed dest) args i))

  in_arguments : (location : Location) (args : List ℕ) → Contains (map Variable args) location → (x : ℕ) × In x args × (location ≡ Variable x)
  in_arguments location args c = in_map_source Variable location args (in_contains location (map Variable args) c)

  by_arguments : (point : ℕ) (dest : Option ℕ) (ty : Option Ty) (o : Op) (args funcs labels : List ℕ) (location : Location) → slice_get f.code point ≡ Some (Act dest ty o args funcs labels) → Contains (map Variable args) location → IsSlotOf g (slot_of location)
  by_arguments point dest ty o args funcs labels location at c =
      let found = in_arguments location args c in
      subst (λ l. IsSlotOf g (slot_of l)) (sym found.2) (among point dest ty o args funcs labels at found.0 found.1)

  act_reads : (point : ℕ) (dest : Option ℕ) (ty : Option Ty) (o : Op) (args funcs labels : List ℕ) (location : Location) → slice_get f.code point ≡ Some (Act dest ty o args funcs labels) →
      is_action_shaped (is_some f.ret) o (is_some dest) (length args) (length funcs) (length labels) ≡ true → All (IsSlotOf g) (slots_used (lowered_item f (Act dest ty o args funcs labels))) →
      Contains (reads_of (Act dest ty o args funcs labels)) location → IsSlotOf g (slot_of location)
  act_reads point None ty op.Get args funcs labels location at h used c = absurd (false≢true h)
  act_reads point (Some x) ty op.Get args funcs labels location at h used c =
      subst (λ l. IsSlotOf g (slot_of l)) (sym (contains_one location (Shadow x) c)) (All-at (IsSlotOf g) (slot.Variable x ∷ slot.Shadow x ∷ []) 1 (slot.Shadow x) used refl)
  act_reads point (Some x) ty op.Set args funcs labels location at h used c = absurd (false≢true h)
  act_reads point None ty op.Set args funcs labels location at h used c =
      let two = counted p f op.Set None args funcs labels h in
      subst (λ l. IsSlotOf g (slot_of l)) (sym (contains_one location (Variable (slice_index args 1)) c)) (among point None ty op.Set args funcs labels at (slice_index args 1) (in_index args 1 (omega arith)))
  act_reads point dest ty o args funcs labels location at h used c = by_arguments point dest ty o args funcs labels location at c

  item_reads : (point : ℕ) (item : Instr) (location : Location) → slice_get f.code point ≡ Some item → Contains (reads_of item) location → IsSlotOf g (slot_of location)
  item_reads point (Label l) location at c = absurd (in_contains location [] c)
  item_reads point (Const dest ty value) location at c = absurd (in_contains location [] c)
  item_reads point (Act dest ty o args funcs labels) location at c =
      let item = Act dest ty o args funcs labels in
      let here : slice_get g.code point ≡ Some (lowered_item f item) = ap (λ code. slice_get code point) is.code ∙ (slice_get-map (lowered_item f) f.code point ∙ ap (option_map (lowered_item f)) at) in
      act_reads point dest ty o args funcs labels location at (shaped_at p f (accepted_function p k f accepted there) point item at)
      (items_use_slots p k f g accepted there is point (lowered_item f item) here) c

  pub live_slot : (location : Location) (point : ℕ) → IsLive f.code location point → IsSlotOf g (slot_of location)
  live_slot location point (Here _ item at reads) = item_reads point item location at reads
  live_slot location point (Later _ branch leaves none live) = live_slot location branch.to live
