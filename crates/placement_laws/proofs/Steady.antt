-- What a frame holds of open speculations, from point to point.
use Rattle.std.proofs.Common.{◌≡◌, ℕ, suc, ◌<◌, ◌≤◌, Bool, false, sym, ◌∙◌, subst, arith, List, [], ◌∷◌, length}
use Rattle.std.specs.Prelude.{slice_get}
use Rattle.std.specs.List.{Contains}
use Rattle.bril_tree.specs.declared.numbered.Instr.{Instr}
use Rattle.bril_tree.specs.declared.value.Value.{Value}
use Rattle.bril_tree.specs.Assigned.{assigns_at}
use Rattle.bril_tree.specs.Edge.{Branch, branches_at}
use Rattle.bril_tree.specs.Locals.{location_value}
use Rattle.bril_tree.specs.Operand.{Location}
use Rattle.bril_tree.specs.Sites.{AreSitesSound, sites_of}
use Rattle.bril_tree.specs.State.{Locals}
use Rattle.bril_tree.specs.Walk.{IsWalk, end_of}
use Rattle.placement_laws.specs.Holding.{HomesHold, IsSteady, SavesHold}
use Rattle.placement_laws.specs.Needed.{IsLiveOut, IsUnsaved}
use Rattle.placement_laws.specs.Saved.{HasAllSaved}
use Rattle.placement_laws.proofs.Needing.{needed_before, out_before, unsaved_before, unsaved_unassigned}

module _ (code : List Instr) (sound : AreSitesSound code) {H : Type 0} (homes : Location → H) (saved : ℕ → Location → Bool) (tells : HasAllSaved code saved) (Has : Value → ℕ → Type 0) where
  module _ (walk : List Branch) (branch : Branch) (is : IsWalk code walk) (at : Contains (branches_at code (end_of walk)) branch) where
    -- the item changes only what it assigns
    abbrev pub ChangesAssigned : Locals → Locals → Type 0
    ChangesAssigned before behind = (x : Location) → (Contains (assigns_at (slice_get code (end_of walk))) x → ⊥) → location_value behind x ≡ location_value before x

    -- ---- what is steady stays so

    pub steady_on : (before behind : Locals) (saves : List Locals) → length saves ≤ length (sites_of code walk) → ChangesAssigned before behind → IsSteady code homes saved Has (end_of walk) before saves → IsSteady code homes saved Has branch.to behind saves
    steady_on before behind [] few changes h = tt
    steady_on before behind (save ∷ older) few changes h = (
      λ level x le u. (let here : level ≤ length (sites_of code walk) = omega arith in changes x (unsaved_unassigned code sound saved tells walk branch is at level x here u) ∙ h.0 level x le (unsaved_before code sound saved tells walk branch is at level x here u)),
      steady_on before behind older (omega arith) changes h.1,
    )

    -- what was saved at the newest speculation is put back
    pub steady_back : (before newest : Locals) (saves : List Locals) → length saves < length (sites_of code walk) → ((level : ℕ) (x : Location) → level ≤ length (sites_of code walk) → IsUnsaved code saved level (end_of walk) x → location_value before x ≡ location_value newest x) →
        IsSteady code homes saved Has (end_of walk) before saves → IsSteady code homes saved Has branch.to newest saves
    steady_back before newest [] few back h = tt
    steady_back before newest (save ∷ older) few back h = (
      λ level x le u. (let here : level ≤ length (sites_of code walk) = omega arith in let u_before = unsaved_before code sound saved tells walk branch is at level x here u in sym (back level x here u_before) ∙ h.0 level x le u_before),
      steady_back before newest older (omega arith) back h.1,
    )

    -- ---- so do the shadow words

    pub saves_on : (saves : List Locals) (shadow after : ℕ → Location → ℕ) → length saves ≤ length (sites_of code walk) → ((level : ℕ) (x : Location) → 1 ≤ level → level ≤ length saves → IsLiveOut code level branch.to x → after level x ≡ shadow level x) →
        SavesHold code homes saved Has (end_of walk) saves shadow → SavesHold code homes saved Has branch.to saves after
    saves_on [] shadow after few same h = tt
    saves_on (save ∷ older) shadow after few same h = (
      λ x v o told held. subst (Has v) (sym (same (suc (length older)) x (omega arith) (omega arith) o)) (h.0 x v (out_before code sound saved tells walk branch is at (suc (length older)) x (omega arith) o) told held),
      saves_on older shadow after (omega arith) (λ level x some le. same level x some (omega arith)) h.1,
    )

    -- ---- homes

    -- the item assigns nothing, and goes on
    pub homes_on : branch.aborts ≡ false → (locations : Locals) (word : H → ℕ) → ((x : Location) → Contains (assigns_at (slice_get code (end_of walk))) x → ⊥) → HomesHold code homes saved Has (end_of walk) locations word → HomesHold code homes saved Has branch.to locations word
    homes_on plain locations word none h = record { at = λ x v needed held. h.at x v (needed_before code sound saved tells walk branch is at plain x needed (none x)) held }
