-- A location gets a value, and its home the word of that.
use Rattle.std.proofs.Common.{◌≡◌, ◌≢◌, ℕ, ◌⊎◌, inl, inr, Bool, false, refl, sym, ap, ◌∙◌, subst, List, ◌∷◌, Some}
use Rattle.std.specs.Prelude.{slice_get}
use Rattle.std.specs.List.{Contains}
use Rattle.std.proofs.lemmas.Option.{same_Some}
use Rattle.bril_tree.specs.declared.numbered.Instr.{Instr}
use Rattle.bril_tree.specs.declared.value.Value.{Value}
use Rattle.bril_tree.specs.Assigned.{assigns_at}
use Rattle.bril_tree.specs.Edge.{Branch, branches_at}
use Rattle.bril_tree.specs.Locals.{location_value}
use Rattle.bril_tree.specs.Operand.{Location}
use Rattle.bril_tree.specs.Sites.{AreSitesSound}
use Rattle.bril_tree.specs.State.{Locals}
use Rattle.bril_tree.specs.Walk.{IsWalk, end_of}
use Rattle.placement_laws.specs.Holding.{HomesHold}
use Rattle.placement_laws.specs.Needed.{IsNeeded, Live, Unsaved}
use Rattle.placement_laws.specs.Placed.{IsPlaced}
use Rattle.placement_laws.specs.Saved.{HasAllSaved}
use Rattle.placement_laws.proofs.Needing.{needed_before}
use Rattle.placement_laws.proofs.Opening.{open_at, opened}
use Rattle.placement_laws.proofs.Sites.{way_of_site}

module _ (code : List Instr) (args : ℕ) (sound : AreSitesSound code) {H : Type 0} (homes : Location → H) (saved : ℕ → Location → Bool) (tells : HasAllSaved code saved) (placed : IsPlaced code args homes saved) where
  module _ (walk : List Branch) (branch : Branch) (is : IsWalk code walk) (at : Contains (branches_at code (end_of walk)) branch) where
    -- what the next point needs has another home than what the item assigns
    pub other_home : (x y : Location) → Contains (assigns_at (slice_get code (end_of walk))) x → IsNeeded code saved branch.to y → y ≢ x → homes y ≢ homes x
    other_home x y c (Live live) ne = placed.assigned walk branch x y is at c live ne
    other_home x y c (Unsaved level u) ne =
        let le = opened code sound level branch.to (open_at code level u.out.way.from branch.to u.out.stays) (branch ∷ walk) (at, is) refl in
        let w = way_of_site code sound (branch ∷ walk) (at, is) level y le u.out in
        placed.kept walk branch x y w.0 w.2 w.1 u.out.way is at w.3 c w.5 u.out.live (subst (λ site. saved site y ≡ false) w.6 u.unsaved) ne

  -- ---- the item assigns a location, whose home gets the word of its value

  module _ (Has : Value → ℕ → Type 0) (equal : (x y : Location) → (x ≡ y) ⊎ (x ≢ y)) where
    pub homes_filled : (walk : List Branch) (branch : Branch) → IsWalk code walk → Contains (branches_at code (end_of walk)) branch → branch.aborts ≡ false →
        (dest : Location) (v : Value) (before behind : Locals) (word after : H → ℕ) → Contains (assigns_at (slice_get code (end_of walk))) dest → ((x : Location) → Contains (assigns_at (slice_get code (end_of walk))) x → x ≡ dest) →
        location_value behind dest ≡ Some v → ((x : Location) → x ≢ dest → location_value behind x ≡ location_value before x) →
        Has v (after (homes dest)) → ((x : Location) → IsNeeded code saved branch.to x → homes x ≢ homes dest → after (homes x) ≡ word (homes x)) → HomesHold code homes saved Has (end_of walk) before word → HomesHold code homes saved Has branch.to behind after
    homes_filled walk branch is at plain dest v before behind word after assigns only value same here other h = record { at = holds }
      where
        holds : (x : Location) (u : Value) → IsNeeded code saved branch.to x → location_value behind x ≡ Some u → Has u (after (homes x))
        holds x u needed held = by (equal x dest)
          where
            by : (x ≡ dest) ⊎ (x ≢ dest) → Has u (after (homes x))
            by (inl e) =
                let one : v ≡ u = same_Some v u (sym value ∙ (ap (location_value behind) (sym e) ∙ held)) in
                subst (λ y. Has u (after (homes y))) (sym e) (subst (λ y. Has y (after (homes dest))) one here)
            by (inr ne) =
                let apart = other_home walk branch is at dest x assigns needed ne in
                let before_needed = needed_before code sound saved tells walk branch is at plain x needed (λ c. ne (only x c)) in
                subst (Has u) (sym (other x needed apart)) (h.at x u before_needed (sym (same x ne) ∙ held))
