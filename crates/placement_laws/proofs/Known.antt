-- What is live, assigned or an argument in a function of an accepted program is one of its slots; and what opens or closes a
-- speculation assigns nothing.
use Rattle.std.proofs.Common.{◌≡◌, ℕ, inl, inr, Bool, true, refl, sym, ap, ◌∙◌, subst, arith, List, [], ◌∷◌, ◌++◌, length, map, Option, Some, None}
use Rattle.std.specs.Prelude.{All, is_some, option_map, slice_get}
use Rattle.std.specs.List.{Contains}
use Rattle.std.proofs.lemmas.List.Elements.{All-head}
use Rattle.std.proofs.lemmas.Option.{slice_get-map}
use Rattle.bril_tree.specs.declared.numbered.Instr.{Instr}
use Rattle.bril_tree.specs.declared.numbered_function.Func.{Func}
use Rattle.bril_tree.specs.declared.program.Prog.{Prog}
use Rattle.bril_tree.specs.Accepted.{IsAccepted}
use Rattle.bril_tree.specs.Assigned.{assigns_at}
use Rattle.bril_tree.specs.Edge.{Branch, branches_at}
use Rattle.bril_tree.specs.FunctionForm.{listed}
use Rattle.bril_tree.specs.Membership.{In}
use Rattle.bril_tree.specs.Operand.{Location, Variable}
use Rattle.bril_tree.specs.Sites.{Closes, Keeps, Opens, item_change}
use Rattle.bril_tree.proofs.Acceptance.{accepted_function, shaped_at}
use Rattle.bril_tree.proofs.Branches.{aborts-close}
use Rattle.bril_tree.proofs.Formed.{typed_destination}
use Rattle.bril_tree.proofs.Members.{in_contains}
use Rattle.bril_tree.proofs.Replays.{open-sites}
use Rattle.bril_tree.proofs.Shapes.{none_assigned}
use Rattle.slot_code.specs.declared.item.Slot.{Slot}
use Rattle.slot_code.specs.declared.item.Slot.TheVariants as slot
use Rattle.slot_code.specs.declared.item.SlotItem.{SlotItem}
use Rattle.slot_code.specs.declared.item.SlotItem.TheVariants.{Pass, Constant, Copy, Unary, Binary, Jump, Branch as Branches, Call, Return, Print, Alloc, Free, Store, Load, Speculate, Commit, Guard}
use Rattle.slot_code.specs.declared.slots.SlotFunction.{SlotFunction}
use Rattle.slot_code.specs.Flow.{slot_assigns, slot_location}
use Rattle.slot_code.specs.Laws.{IsSlotOf, slots_used}
use Rattle.slot_code.specs.Lowered.{IsLoweredFunction, lowered_item}
use Rattle.slot_code.proofs.Rows.{item_assigns}
use Rattle.slot_code.proofs.Uses.{items_use_slots}
use Rattle.placement_laws.specs.Homes.{IsSlotIn, slot_of}
use Rattle.placement_laws.specs.Spans.{AreKnown, SitesAssignNothing}
use Rattle.placement_laws.proofs.Living.{live_slot}

location_slot : (s : Slot) → slot_of (slot_location s) ≡ s
location_slot (slot.Variable x) = refl
location_slot (slot.Shadow x) = refl

middle : (newer older : List ℕ) (site : ℕ) → slice_get (newer ++ site ∷ older) (length newer) ≡ Some site
middle [] older site = refl
middle (n ∷ newer) older site = middle newer older site

not_keeps : Opens ≡ Keeps → ⊥
not_keeps e = cc

closes_not_keeps : Closes ≡ Keeps → ⊥
closes_not_keeps e = cc

-- ---- openings and closings

module _ (p : Prog) (k : ℕ) (f : Func) (accepted : IsAccepted p) (there : slice_get p.funcs k ≡ Some f) where
  -- a site assigns nothing
  pub sites_assign_nothing : SitesAssignNothing f.code
  sites_assign_nothing walk newer older site is sites =
      let o = open-sites f.code walk (length newer) site (ap (λ s. slice_get s (length newer)) sites ∙ middle newer older site) in
      by (slice_get f.code site) refl o.0 o.1
    where
      by : (i : Option Instr) → slice_get f.code site ≡ i → (b : Bool) → item_change i b ≡ Opens → assigns_at i ≡ []
      by None e b h = refl
      by (Some item) e b h = none_assigned (is_some f.ret) item b (shaped_at p f (accepted_function p k f accepted there) site item e) (λ same. not_keeps (sym h ∙ same))

  -- an item that aborts assigns nothing
  pub aborting_assigns_nothing : (point : ℕ) (branch : Branch) → In branch (branches_at f.code point) → branch.aborts ≡ true → assigns_at (slice_get f.code point) ≡ []
  aborting_assigns_nothing point branch i aborts = by (slice_get f.code point) refl (aborts-close f.code point (slice_get f.code point) branch i aborts)
    where
      by : (o : Option Instr) → slice_get f.code point ≡ o → item_change o true ≡ Closes → assigns_at o ≡ []
      by None e h = refl
      by (Some item) e h = none_assigned (is_some f.ret) item true (shaped_at p f (accepted_function p k f accepted there) point item e) (λ same. closes_not_keeps (sym h ∙ same))

-- ---- slots

module _ (p : Prog) (k : ℕ) (f : Func) (g : SlotFunction) (accepted : IsAccepted p) (there : slice_get p.funcs k ≡ Some f) (lowered : IsLoweredFunction f g) where
  first_used : (s : Slot) (rest : List Slot) → All (IsSlotOf g) (s ∷ rest) → (x : Location) → In x (slot_location s ∷ []) → IsSlotIn g x
  first_used s rest all x (inl e) = subst (IsSlotOf g) (sym (ap slot_of e ∙ location_slot s)) (All-head (IsSlotOf g) s rest all)
  first_used s rest all x (inr h) = absurd h

  listed_used : (dest : Option ℕ) (rest : List ℕ) → All (IsSlotOf g) (map slot.Variable (listed dest ++ rest)) → (x : Location) → In x (map Variable (listed dest)) → IsSlotIn g x
  listed_used None rest all x h = absurd h
  listed_used (Some y) rest all x h = first_used (slot.Variable y) (map slot.Variable rest) all x h

  assigned_used : (s : SlotItem) → All (IsSlotOf g) (slots_used s) → (x : Location) → In x (slot_assigns s) → IsSlotIn g x
  assigned_used (Constant dest value) all x h = first_used (slot.Variable dest) [] all x h
  assigned_used (Copy dest from) all x h = first_used dest (from ∷ []) all x h
  assigned_used (Unary operation dest operand) all x h = first_used (slot.Variable dest) (slot.Variable operand ∷ []) all x h
  assigned_used (Binary operation dest first second) all x h = first_used (slot.Variable dest) (slot.Variable first ∷ slot.Variable second ∷ []) all x h
  assigned_used (Call dest function args) all x h = listed_used dest args all x h
  assigned_used (Alloc dest count) all x h = first_used (slot.Variable dest) (slot.Variable count ∷ []) all x h
  assigned_used (Load dest pointer) all x h = first_used (slot.Variable dest) (slot.Variable pointer ∷ []) all x h
  assigned_used Pass all x h = absurd h
  assigned_used (Jump to) all x h = absurd h
  assigned_used (Branches condition then_to else_to) all x h = absurd h
  assigned_used (Return value) all x h = absurd h
  assigned_used (Print args) all x h = absurd h
  assigned_used (Free pointer) all x h = absurd h
  assigned_used (Store pointer value) all x h = absurd h
  assigned_used Speculate all x h = absurd h
  assigned_used Commit all x h = absurd h
  assigned_used (Guard condition abort_to) all x h = absurd h

  -- what an item assigns is a slot
  pub assigned_slot : (point : ℕ) (x : Location) → Contains (assigns_at (slice_get f.code point)) x → IsSlotIn g x
  assigned_slot point x c = by (slice_get f.code point) refl (in_contains x (assigns_at (slice_get f.code point)) c)
    where
      by : (o : Option Instr) → slice_get f.code point ≡ o → In x (assigns_at o) → IsSlotIn g x
      by None e h = absurd h
      by (Some item) e h =
          let here : slice_get g.code point ≡ Some (lowered_item f item) = ap (λ code. slice_get code point) lowered.code ∙ (slice_get-map (lowered_item f) f.code point ∙ ap (option_map (lowered_item f)) e) in
          let same = item_assigns f item (shaped_at p f (accepted_function p k f accepted there) point item e) (typed_destination f point item e) in
          assigned_used (lowered_item f item) (items_use_slots p k f g accepted there lowered point (lowered_item f item) here) x (subst (In x) (sym same) h)

  pub are_known : AreKnown f.code f.args (IsSlotIn g)
  are_known = record { live = λ point x live. live_slot p k f g accepted there lowered x point live; assigned = assigned_slot; arguments = λ j lt. (let few = f.formed.few_args in let e = lowered.variables in omega arith) }
