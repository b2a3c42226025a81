-- What an item of code over slots reads and assigns, and where control goes from it, in the program.
use Rattle.std.proofs.Common.{◌≡◌, ℕ, false, List, [], ◌∷◌, map, Some, refl, sym, ap, ◌∙◌, subst, inl, inr}
use Rattle.std.specs.Prelude.{slice_get}
use Rattle.std.specs.List.{AllByRecursion, Contains}
use Rattle.bril_tree.specs.declared.numbered.Instr.{Instr}
use Rattle.bril_tree.specs.Assigned.{assigns_at}
use Rattle.bril_tree.specs.Edge.{Branch, branches_at, branches_from, item_branches, onward}
use Rattle.bril_tree.specs.Live.{IsLive, Here}
use Rattle.bril_tree.specs.Membership.{In}
use Rattle.bril_tree.specs.Operand.{Location, Variable, reads_of}
use Rattle.bril_tree.specs.State as bril
use Rattle.bril_tree.specs.Step.{code_of, items_of}
use Rattle.bril_tree.proofs.Acceptance.{accepted_function, shaped_at}
use Rattle.bril_tree.proofs.Formed.{typed_destination}
use Rattle.bril_tree.proofs.Members.{contains_in, in_contains}
use Rattle.rv64_emit_laws.proofs.lemmas.layout.Bounding.{instruction_at}
use Rattle.slot_code.specs.declared.item.Printed.{Printed}
use Rattle.slot_code.specs.declared.item.Slot.{Slot}
use Rattle.slot_code.specs.declared.item.SlotItem.{SlotItem}
use Rattle.slot_code.specs.declared.slots.SlotFunction.{SlotFunction}
use Rattle.slot_code.specs.Flow.{slot_assigns, slot_branches, slot_location, slot_reads}
use Rattle.slot_code.proofs.Operands.{item_reads}
use Rattle.slot_code.proofs.Rows.{item_assigns, item_goes}
use Rattle.rv64_emit_laws.proofs.Setting.{Setting}
use Rattle.rv64_emit_laws.proofs.Sources.{SourceAt, source_at}

module _ (S : Setting) (f : bril.Frame) (g : SlotFunction) (there : slice_get S.slots.funcs f.function ≡ Some g) (item : SlotItem) (here : slice_get g.code f.point ≡ Some item) where
  origin : SourceAt S.p f.function g
  origin = source_at S.p S.slots S.lowered f.function g there

  -- the instruction that became the item
  pub record Made : Type 0 where
    pub instr : Instr
    pub at : slice_get (code_of S.p f.function) f.point ≡ Some instr
    pub branches : branches_at (code_of S.p f.function) f.point ≡ slot_branches f.point item
    pub assigns : assigns_at (slice_get (code_of S.p f.function) f.point) ≡ slot_assigns item
    pub reads : reads_of instr ≡ slot_reads item

  pub made : Made
  made =
      let o = origin in
      let w = instruction_at o.function g o.is f.point item here in
      let code : code_of S.p f.function ≡ o.function.code = ap items_of o.there in
      let at : slice_get (code_of S.p f.function) f.point ≡ Some w.0 = ap (λ c. slice_get c f.point) code ∙ w.1 in
      let shaped = shaped_at S.p o.function (accepted_function S.p f.function o.function S.accepted o.there) f.point w.0 w.1 in
      let typed = typed_destination o.function f.point w.0 w.1 in
      record {
        instr = w.0;
        at = at;
        branches = ap (branches_from (code_of S.p f.function) f.point) at ∙ (ap (λ c. item_branches c f.point w.0) code ∙ (sym (item_goes o.function f.point w.0 shaped) ∙ ap (slot_branches f.point) (sym w.2)));
        assigns = ap assigns_at at ∙ (sym (item_assigns o.function w.0 shaped typed) ∙ ap slot_assigns (sym w.2));
        reads = sym (item_reads o.function w.0 shaped typed) ∙ ap slot_reads (sym w.2);
      }

  -- what the item reads is live
  pub reads_live : (x : Location) → In x (slot_reads item) → IsLive (code_of S.p f.function) x f.point
  reads_live x i = let m = made in Here f.point m.instr m.at (contains_in x (reads_of m.instr) (subst (In x) (sym m.reads) i))

  -- control can go along a branch of the item
  pub goes : (b : Branch) → In b (slot_branches f.point item) → Contains (branches_at (code_of S.p f.function) f.point) b
  goes b i = let m = made in contains_in b (branches_at (code_of S.p f.function) f.point) (subst (In b) (sym m.branches) i)

  pub assigned_in : (x : Location) → Contains (assigns_at (slice_get (code_of S.p f.function) f.point)) x → In x (slot_assigns item)
  assigned_in x c = let m = made in subst (In x) m.assigns (in_contains x (assigns_at (slice_get (code_of S.p f.function) f.point)) c)

  pub assigns_it : (x : Location) → In x (slot_assigns item) → Contains (assigns_at (slice_get (code_of S.p f.function) f.point)) x
  assigns_it x i = let m = made in contains_in x (assigns_at (slice_get (code_of S.p f.function) f.point)) (subst (In x) (sym m.assigns) i)

-- lists of what is read
pub each_live : (P : Location → Type 0) (xs : List ℕ) → ((x : Location) → In x (map Variable xs) → P x) → AllByRecursion (λ x. P (Variable x)) xs
each_live P [] all = tt
each_live P (x ∷ xs) all = (all (Variable x) (inl refl), each_live P xs (λ y i. all y (inr i)))

pub each_printed : (P : Location → Type 0) (xs : List Printed) → ((x : Location) → In x (map (λ a. Variable a.variable) xs) → P x) → AllByRecursion (λ a. P (Variable a.variable)) xs
each_printed P [] all = tt
each_printed P (a ∷ xs) all = (all (Variable a.variable) (inl refl), each_printed P xs (λ y i. all y (inr i)))

-- ---- where control goes from the newest frame's item

-- along a branch, from an item that assigns nothing
pub record Leads (S : Setting) (f : bril.Frame) (point : ℕ) : Type 0 where
  pub branch : Branch
  pub at : Contains (branches_at (code_of S.p f.function) f.point) branch
  pub to : branch.to ≡ point
  pub plain : branch.aborts ≡ false
  pub none : (x : Location) → Contains (assigns_at (slice_get (code_of S.p f.function) f.point)) x → ⊥

-- on to the next point, from an item that assigns a slot alone
pub record Fills (S : Setting) (f : bril.Frame) (dest : Slot) : Type 0 where
  pub at : Contains (branches_at (code_of S.p f.function) f.point) (onward f.point)
  pub assigns : Contains (assigns_at (slice_get (code_of S.p f.function) f.point)) (slot_location dest)
  pub only : (x : Location) → Contains (assigns_at (slice_get (code_of S.p f.function) f.point)) x → x ≡ slot_location dest

in_none : (xs : List Location) → xs ≡ [] → (x : Location) → In x xs → ⊥
in_none [] e x i = i
in_none (y ∷ xs) e x i = absurd cc

in_one : (xs : List Location) (y : Location) → xs ≡ y ∷ [] → (x : Location) → In x xs → x ≡ y
in_one xs y e x i = by (subst (In x) e i)
  where
    by : In x (y ∷ []) → x ≡ y
    by (inl same) = same
    by (inr none) = absurd none

module _ (S : Setting) (f : bril.Frame) (g : SlotFunction) (there : slice_get S.slots.funcs f.function ≡ Some g) (item : SlotItem) (here : slice_get g.code f.point ≡ Some item) where
  pub leads : (b : Branch) → In b (slot_branches f.point item) → b.aborts ≡ false → slot_assigns item ≡ [] → Leads S f b.to
  leads b i plain nothing = record {
    branch = b;
    at = goes S f g there item here b i;
    to = refl;
    plain = plain;
    none = λ x c. in_none (slot_assigns item) nothing x (assigned_in S f g there item here x c);
  }

  pub fills_slot : (dest : Slot) → In (onward f.point) (slot_branches f.point item) → slot_assigns item ≡ slot_location dest ∷ [] → Fills S f dest
  fills_slot dest i one = record {
    at = goes S f g there item here (onward f.point) i;
    assigns = assigns_it S f g there item here (slot_location dest) (subst (In (slot_location dest)) (sym one) (inl refl));
    only = λ x c. in_one (slot_assigns item) (slot_location dest) one x (assigned_in S f g there item here x c);
  }
