-- The branches from a point.
use Rattle.std.proofs.Common.{◌≡◌, ℕ, ◌<◌, ◌≤◌, List, [], ◌++◌, Bool, true, false, Option, Some, None, length, refl, sym, ap, ◌∙◌}
use Rattle.std.specs.Prelude.{slice_get}
use Rattle.std.specs.List.{Contains}
use Rattle.std.specs.Option.{option_to_list}
use Rattle.bril_tree.specs.Assigned.{Assigned, assigned_changed, assigns_at}
use Rattle.bril_tree.specs.Edge.{Branch, branches_at}
use Rattle.bril_tree.specs.Shape.{is_shaped, shape_fault_of}
use Rattle.bril_tree.specs.Sites.{Change, Opens, Closes, Keeps, item_change, needs_site}
use Rattle.bril_tree.specs.declared.numbered.Instr.{Instr}
use Rattle.bril_tree.proofs.Elements.{get_in, passes_in}
use Rattle.bril_tree.proofs.Members.{in_contains}
use Rattle.bril_tree.proofs.Shapes.{closing_needs, none_assigned}
use Rattle.bril_tree.proofs.Branches.{branch_from, branch_inside, branch_at_item, aborts-close}
use Rattle.flow_graph.specs.Location.{location_at}
use Rattle.flow_graph.proofs.BranchRows.{all_shaped}
use Rattle.flow_graph.proofs.Locations.{assigns-one}

-- an abort is of an item that closes a site and needs one
pub record IsAbort (item : Option Instr) : Type 0 where
  pub closes : item_change item true ≡ Closes
  pub needs : needs_site item ≡ true

-- a branch leaves its point, goes to a point, and aborts only at a guard
pub record IsBranchOf (code : List Instr) (p : ℕ) (item : Option Instr) (branch : Branch) : Type 0 where
  pub from : branch.from ≡ p
  pub to : (p < length code) → branch.to ≤ length code
  pub aborts : branch.aborts ≡ true → IsAbort item

pub branch-is : (code : List Instr) (p : ℕ) (branch : Branch) → Contains (branches_at code p) branch → IsBranchOf code p (slice_get code p) branch
branch-is code p branch h =
    let among = in_contains branch (branches_at code p) h in
    record {
      from = branch_from code p branch among;
      to = λ low. branch_inside code p branch among;
      aborts = λ yes. let closes = aborts-close code p (slice_get code p) branch among yes in record { closes = closes; needs = closing_needs (slice_get code p) true closes };
    }

-- only items have branches
pub branch-inside : (code : List Instr) (p : ℕ) (branch : Branch) → Contains (branches_at code p) branch → p < length code
branch-inside code p branch h = branch_at_item code p branch (in_contains branch (branches_at code p) h)

-- ---- items that open or close sites assign nothing

module _ (returns : Bool) (code : List Instr) (shaped : shape_fault_of returns code ≡ None) (point : ℕ) where
  item-shaped : (item : Instr) → slice_get code point ≡ Some item → is_shaped returns item ≡ true
  item-shaped item e = passes_in (is_shaped returns) code item (all_shaped returns code shaped) (get_in code point item e)

  -- where the item opens or closes a site, it assigns nothing
  nothing-assigned : (aborts : Bool) → (item_change (slice_get code point) aborts ≡ Keeps → ⊥) → assigns_at (slice_get code point) ≡ []
  nothing-assigned aborts changes = by (slice_get code point) refl changes
    where
      by : (o : Option Instr) → slice_get code point ≡ o → (item_change o aborts ≡ Keeps → ⊥) → assigns_at o ≡ []
      by None e n = refl
      by (Some item) e n = none_assigned returns item aborts (item-shaped item e) n

  pub opens-nothing : (aborts : Bool) → item_change (slice_get code point) aborts ≡ Opens → location_at (slice_get code point) ≡ None
  opens-nothing aborts e = ap (λ l. slice_get l 0) (nothing-assigned aborts (λ k. let h : Opens ≡ Keeps = sym e ∙ k in cc))

  -- what is assigned behind a branch that isn't an abort
  pub locations-passed : (a : Assigned) →
      (assigned_changed (item_change (slice_get code point) false) (assigns_at (slice_get code point)) false a).locations ≡ option_to_list (location_at (slice_get code point)) ++ a.locations
  locations-passed a = by (item_change (slice_get code point) false) refl ∙ ap (λ l. l ++ a.locations) (assigns-one (slice_get code point))
    where
      by : (c : Change) → item_change (slice_get code point) false ≡ c → (assigned_changed (item_change (slice_get code point) false) (assigns_at (slice_get code point)) false a).locations ≡ assigns_at (slice_get code point) ++ a.locations
      by Keeps e = ap (λ c. (assigned_changed c (assigns_at (slice_get code point)) false a).locations) e
      by Opens e = ap (λ c. (assigned_changed c (assigns_at (slice_get code point)) false a).locations) e ∙ ap (λ l. l ++ a.locations) (sym (nothing-assigned false (λ k. let h : Opens ≡ Keeps = sym e ∙ k in cc)))
      by Closes e = ap (λ c. (assigned_changed c (assigns_at (slice_get code point)) false a).locations) e ∙ ap (λ l. l ++ a.locations) (sym (nothing-assigned false (λ k. let h : Closes ≡ Keeps = sym e ∙ k in cc)))
