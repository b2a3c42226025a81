-- A frame waits at a call, and goes on after it. Nothing is saved there.
use Rattle.std.proofs.Common.{◌≡◌, ◌≢◌, ℕ, ◌<◌, ◌≤◌, ◌⊎◌, inl, inr, Bool, false, refl, sym, ap, ◌∙◌, subst, arith, List, ◌∷◌, length, Option, Some}
use Rattle.std.specs.Prelude.{slice_get}
use Rattle.std.specs.List.{Contains}
use Rattle.bril_tree.specs.declared.numbered.Instr.{Instr}
use Rattle.bril_tree.specs.declared.value.Value.{Value}
use Rattle.bril_tree.specs.Assigned.{assigns_at}
use Rattle.bril_tree.specs.Edge.{Branch, branches_at}
use Rattle.bril_tree.specs.Live.{IsLive, Later}
use Rattle.bril_tree.specs.Locals.{location_value}
use Rattle.bril_tree.specs.Operand.{Location, Variable}
use Rattle.bril_tree.specs.Sites.{AreSitesSound, sites_of}
use Rattle.bril_tree.specs.State.{Locals}
use Rattle.bril_tree.specs.Walk.{IsWalk, end_of}
use Rattle.placement_laws.specs.Holding.{HomesHold}
use Rattle.placement_laws.specs.Needed.{IsNeeded, Live, Unsaved}
use Rattle.placement_laws.specs.Placed.{IsPlaced}
use Rattle.placement_laws.specs.Saved.{HasAllSaved}
use Rattle.placement_laws.proofs.Opening.{open_at, opened}

module _ (code : List Instr) (args : ℕ) (sound : AreSitesSound code) {H : Type 0} (homes : Location → H) (saved : ℕ → Location → Bool) (tells : HasAllSaved code saved) (placed : IsPlaced code args homes saved) (Has : Value → ℕ → Type 0) where
  -- where no site is open, what is needed is live
  pub needed_alone : (walk : List Branch) → IsWalk code walk → length (sites_of code walk) ≤ 0 → (x : Location) → IsNeeded code saved (end_of walk) x → IsLive code x (end_of walk)
  needed_alone walk is none x (Live live) = live
  needed_alone walk is none x (Unsaved level u) =
      let le = opened code sound level (end_of walk) (open_at code level u.out.way.from (end_of walk) u.out.stays) walk is refl in
      let some = u.out.out.some in
      absurd (omega arith)

  module _ (walk : List Branch) (branch : Branch) (is : IsWalk code walk) (at : Contains (branches_at code (end_of walk)) branch) (plain : branch.aborts ≡ false) (none : length (sites_of code (branch ∷ walk)) ≤ 0) where
    -- what is live after the call, its destination apart, has its word where the call kept it
    pub record KeptHold (assigned : Location → Type 0) (locations : Locals) (kept : Location → ℕ) : Type 0 where
      pub at_kept : (x : Location) (v : Value) → IsLive code x branch.to → (assigned x → ⊥) → location_value locations x ≡ Some v → Has v (kept x)

    abbrev pub Own : Location → Type 0
    Own x = Contains (assigns_at (slice_get code (end_of walk))) x

    -- the call keeps what is live after it, from its homes
    pub call_keeps : (locations : Locals) (word : H → ℕ) (kept : Location → ℕ) → ((x : Location) → IsLive code x branch.to → (Own x → ⊥) → kept x ≡ word (homes x)) →
        HomesHold code homes saved Has (end_of walk) locations word → KeptHold Own locations kept
    call_keeps locations word kept keeps h = record { at_kept = λ x v live not_own held. subst (Has v) (sym (keeps x live not_own)) (h.at x v (Live (Later (end_of walk) branch (inl (at, plain)) not_own live)) held) }

    -- after the return it is at its homes again, and the destination has its value there
    pub call_returns : (equal : (x y : Location) → (x ≡ y) ⊎ (x ≢ y)) (dest : Location) (v : Value) (before behind : Locals) (kept : Location → ℕ) (word after : H → ℕ) → Own dest → ((x : Location) → Own x → x ≡ dest) →
        location_value behind dest ≡ Some v → ((x : Location) → x ≢ dest → location_value behind x ≡ location_value before x) →
        ((x : Location) → IsLive code x branch.to → x ≢ dest → word (homes x) ≡ kept x) →
        Has v (after (homes dest)) → ((x : Location) → IsLive code x branch.to → homes x ≢ homes dest → after (homes x) ≡ word (homes x)) → KeptHold Own before kept → HomesHold code homes saved Has branch.to behind after
    call_returns equal dest v before behind kept word after own only value same reloaded here other k = record { at = holds }
      where
        same_value : (u w : Value) (o : Option Value) → o ≡ Some u → o ≡ Some w → u ≡ w
        same_value u w o a b = cc

        holds : (x : Location) (u : Value) → IsNeeded code saved branch.to x → location_value behind x ≡ Some u → Has u (after (homes x))
        holds x u needed held = by (equal x dest)
          where
            live : IsLive code x branch.to
            live = needed_alone (branch ∷ walk) (at, is) none x needed

            by : (x ≡ dest) ⊎ (x ≢ dest) → Has u (after (homes x))
            by (inl e) =
                let one : v ≡ u = same_value v u (location_value behind dest) value (ap (location_value behind) (sym e) ∙ held) in
                subst (λ y. Has u (after (homes y))) (sym e) (subst (λ y. Has y (after (homes dest))) one here)
            by (inr ne) =
                let apart = placed.assigned walk branch dest x is at own live ne in
                subst (Has u) (sym (other x live apart)) (subst (Has u) (sym (reloaded x live ne)) (k.at_kept x u live (λ c. ne (only x c)) (sym (same x ne) ∙ held)))

    -- a call that takes no result
    pub call_goes_on : (locations : Locals) (kept : Location → ℕ) (word : H → ℕ) → ((x : Location) → Own x → ⊥) → ((x : Location) → IsLive code x branch.to → word (homes x) ≡ kept x) → KeptHold Own locations kept → HomesHold code homes saved Has branch.to locations word
    call_goes_on locations kept word not_own reloaded k = record { at = λ x v needed held. (let live = needed_alone (branch ∷ walk) (at, is) none x needed in subst (Has v) (sym (reloaded x live)) (k.at_kept x v live (not_own x) held)) }

  -- the arguments of a new frame came to their homes
  pub begins : (locations : Locals) (word : H → ℕ) → ((x : Location) (v : Value) → location_value locations x ≡ Some v → (k : ℕ) × (k < args) × (x ≡ Variable k) × Has v (word (homes x))) → HomesHold code homes saved Has 0 locations word
  begins locations word holds = record { at = λ x v needed held. (holds x v held).3 }
