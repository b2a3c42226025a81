-- Frames whose locations hold what their walks assigned.
use Rattle.std.proofs.Common.{◌≡◌, ◌⊎◌, ℕ, suc, false, List, [], ◌∷◌, ◌++◌, map, Option, Some, None, refl, sym, ap, subst, ◌∙◌, inl, inr, ⊎_elim}
use Rattle.std.specs.Prelude.{slice_get}
use Rattle.std.specs.List.{AllZip}
use Rattle.bril_tree.specs.declared.numbered.Instr.{Instr}
use Rattle.bril_tree.specs.declared.numbered_function.Func.{Func}
use Rattle.bril_tree.specs.declared.program.Prog.{Prog}
use Rattle.bril_tree.specs.declared.value.Value.{Value}
use Rattle.bril_tree.specs.Assigned.{Assigned, assigned_of, assigned_behind, assigned_changed, assigns_at, assigns_of}
use Rattle.bril_tree.specs.Edge.{Branch, branches_at, branches_from, item_branches, onward}
use Rattle.bril_tree.specs.FunctionForm.{listed}
use Rattle.bril_tree.specs.Operand.{Location, Variable, Shadow}
use Rattle.bril_tree.specs.Sites.{Keeps, item_change}
use Rattle.bril_tree.specs.State.{Locals, Frame}
use Rattle.bril_tree.specs.Step.{assigned, shadowed}
use Rattle.bril_tree.specs.Typing.{variable_type}
use Rattle.bril_tree.specs.Walk.{IsWalk, end_of}
use Rattle.bril_tree.specs.Membership.{In}
use Rattle.bril_tree.proofs.Members.{contains_in}
use Rattle.bril_tree.specs.Locals.{location_type, location_value}
use Rattle.bril_tree.proofs.Assignments.{same_location}
use Rattle.bril_tree.proofs.HeldValues.{assigned-same, assigned-other, shadowed-same, shadowed-other}
use Rattle.type_soundness.proofs.Typed.{Cell, HasType, HasType-more, Extends}

-- a location holds a value of its type
pub record Holds (heap : List Cell) (f : Func) (locations : Locals) (location : Location) : Type 0 where
  pub value : Value
  pub is : location_value locations location ≡ Some value
  pub typed : HasType heap (location_type f location) value

-- each of the locations does
abbrev pub Covers : List Cell → Func → Locals → List Location → Type 0
Covers heap f locations list = (location : Location) → In location list → Holds heap f locations location

-- each save covers what had been assigned at its site
abbrev pub AllCover : List Cell → Func → List Locals → List (List Location) → Type 0
AllCover heap f saves saved = AllZip (Covers heap f) saves saved

-- ---- more blocks

Holds-more : (heap more : List Cell) (f : Func) (locations : Locals) (location : Location) → Extends heap more → Holds heap f locations location → Holds more f locations location
Holds-more heap more f locations location x h = record { value = h.value; is = h.is; typed = HasType-more heap more (location_type f location) h.value x h.typed }

pub Covers-more : (heap more : List Cell) (f : Func) (locations : Locals) (list : List Location) → Extends heap more → Covers heap f locations list → Covers more f locations list
Covers-more heap more f locations list x h location i = Holds-more heap more f locations location x (h location i)

pub AllCover-more : (heap more : List Cell) (f : Func) (saves : List Locals) (saved : List (List Location)) → Extends heap more → AllCover heap f saves saved → AllCover more f saves saved
AllCover-more heap more f [] [] x h = tt
AllCover-more heap more f [] (s ∷ saved) x h = absurd h
AllCover-more heap more f (p ∷ saves) [] x h = absurd h
AllCover-more heap more f (p ∷ saves) (s ∷ saved) x h = (Covers-more heap more f p s x h.0, AllCover-more heap more f saves saved x h.1)

-- ---- assignments

module _ (heap : List Cell) (f : Func) where
  after-assigned : (location : Location) (x : ℕ) (v : Value) (locations : Locals) → HasType heap (variable_type f.vars x) v → (location ≡ Variable x) ⊎ Holds heap f locations location → Holds heap f (assigned (Some x) v locations) location
  after-assigned location x v locations t h = ⊎_elim same other (same_location location (Variable x))
    where
      same : location ≡ Variable x → Holds heap f (assigned (Some x) v locations) location
      same e = record { value = v; is = assigned-same x v locations location e; typed = subst (λ l. HasType heap (location_type f l) v) (sym e) t }

      other : (location ≡ Variable x → ⊥) → Holds heap f (assigned (Some x) v locations) location
      other n = ⊎_elim (λ e. absurd (n e)) (λ k. record { value = k.value; is = assigned-other x v locations location n ∙ k.is; typed = k.typed }) h

  after-shadowed : (location : Location) (x : ℕ) (v : Value) (locations : Locals) → HasType heap (variable_type f.vars x) v → (location ≡ Shadow x) ⊎ Holds heap f locations location → Holds heap f (shadowed x v locations) location
  after-shadowed location x v locations t h = ⊎_elim same other (same_location location (Shadow x))
    where
      same : location ≡ Shadow x → Holds heap f (shadowed x v locations) location
      same e = record { value = v; is = shadowed-same x v locations location e; typed = subst (λ l. HasType heap (location_type f l) v) (sym e) t }

      other : (location ≡ Shadow x → ⊥) → Holds heap f (shadowed x v locations) location
      other n = ⊎_elim (λ e. absurd (n e)) (λ k. record { value = k.value; is = shadowed-other x v locations location n ∙ k.is; typed = k.typed }) h

  -- what the first of a list or the others give
  either-holds : (location first : Location) (list : List Location) (locations : Locals) → Covers heap f locations list → In location (first ∷ list) → (location ≡ first) ⊎ Holds heap f locations location
  either-holds location first list locations h (inl e) = inl e
  either-holds location first list locations h (inr i) = inr (h location i)

  -- a value of its type for a destination
  pub Covers-assigned : (dest : Option ℕ) (v : Value) (locations : Locals) (list : List Location) → ((x : ℕ) → dest ≡ Some x → HasType heap (variable_type f.vars x) v) → Covers heap f locations list
      → Covers heap f (assigned dest v locations) (map Variable (listed dest) ++ list)
  Covers-assigned None v locations list t h location i = h location i
  Covers-assigned (Some x) v locations list t h location i = after-assigned location x v locations (t x refl) (either-holds location (Variable x) list locations h i)

  pub Covers-shadowed : (x : ℕ) (v : Value) (locations : Locals) (list : List Location) → HasType heap (variable_type f.vars x) v → Covers heap f locations list
      → Covers heap f (shadowed x v locations) (Shadow x ∷ list)
  Covers-shadowed x v locations list t h location i = after-shadowed location x v locations t (either-holds location (Shadow x) list locations h i)

-- ---- frames

-- The frame stands at the end of a walk of its function, with what the walk assigned, and with what had been
-- assigned at each open site in its saves.
pub record Sits (p : Prog) (heap : List Cell) (f : Func) (frame : Frame) : Type 0 where
  pub there : slice_get p.funcs frame.function ≡ Some f
  pub walk : List Branch
  pub is : IsWalk f.code walk
  pub ends : end_of walk ≡ frame.point
  pub locations : Covers heap f frame.locations (assigned_of f.code f.args walk).locations
  pub saves : AllCover heap f frame.saves (assigned_of f.code f.args walk).saved

pub Sits-more : (p : Prog) (heap more : List Cell) (f : Func) (frame : Frame) → Extends heap more → Sits p heap f frame → Sits p more f frame
Sits-more p heap more f frame x s = record {
  there = s.there;
  walk = s.walk;
  is = s.is;
  ends = s.ends;
  locations = Covers-more heap more f frame.locations (assigned_of f.code f.args s.walk).locations x s.locations;
  saves = AllCover-more heap more f frame.saves (assigned_of f.code f.args s.walk).saved x s.saves;
}

module _ (p : Prog) (heap : List Cell) (f : Func) (frame : Frame) (s : Sits p heap f frame) where
  -- what was assigned before the item at which the frame stands
  abbrev pub before : Assigned
  before = assigned_of f.code f.args s.walk

  -- one branch further from an item
  pub goes : (item : Instr) (branch : Branch) (locations : Locals) (saves : List Locals) → slice_get f.code frame.point ≡ Some item → branch.from ≡ frame.point → In branch (item_branches f.code frame.point item)
      → Covers heap f locations (assigned_changed (item_change (Some item) branch.aborts) (assigns_of item) branch.aborts before).locations
      → AllCover heap f saves (assigned_changed (item_change (Some item) branch.aborts) (assigns_of item) branch.aborts before).saved
      → Sits p heap f (record { function = frame.function; point = branch.to; locations = locations; saves = saves })
  goes item branch locations saves at from among covers all =
      let here : slice_get f.code branch.from ≡ Some item = ap (slice_get f.code) from ∙ at in
      let behind : assigned_changed (item_change (Some item) branch.aborts) (assigns_of item) branch.aborts before ≡ assigned_behind f.code branch before =
      ap (λ o. assigned_changed (item_change o branch.aborts) (assigns_at o) branch.aborts before) (sym here) in
      let among_here : In branch (branches_at f.code frame.point) = subst (λ o. In branch (branches_from f.code frame.point o)) (sym at) among in
      record {
        there = s.there;
        walk = branch ∷ s.walk;
        is = (contains_in branch (branches_at f.code (end_of s.walk)) (subst (λ n. In branch (branches_at f.code n)) (sym s.ends) among_here), s.is);
        ends = refl;
        locations = subst (λ (a : Assigned). Covers heap f locations a.locations) behind covers;
        saves = subst (λ (a : Assigned). AllCover heap f saves a.saved) behind all;
      }

  -- on to the next point, with more assigned
  pub goes-onward : (item : Instr) (locations : Locals) → slice_get f.code frame.point ≡ Some item → In (onward frame.point) (item_branches f.code frame.point item) → item_change (Some item) false ≡ Keeps
      → Covers heap f locations (assigns_of item ++ before.locations) → Sits p heap f (record { function = frame.function; point = suc frame.point; locations = locations; saves = frame.saves })
  goes-onward item locations at among keeps covers =
      goes item (onward frame.point) locations frame.saves at refl among
      (subst (λ c. Covers heap f locations (assigned_changed c (assigns_of item) false before).locations) (sym keeps) covers)
      (subst (λ c. AllCover heap f frame.saves (assigned_changed c (assigns_of item) false before).saved) (sym keeps) s.saves)
