-- A speculation begins, and is taken back.
use Rattle.std.proofs.Common.{◌≡◌, ◌≢◌, ℕ, suc, ◌≤◌, Bool, true, false, refl, sym, ap, ◌∙◌, subst, arith, List, ◌∷◌, length, le_trans, Some}
use Rattle.std.specs.Prelude.{slice_get, slice_index}
use Rattle.std.specs.List.{Contains}
use Rattle.bril_tree.specs.declared.numbered.Instr.{Instr}
use Rattle.bril_tree.specs.declared.value.Value.{Value}
use Rattle.bril_tree.specs.Assigned.{assigns_at}
use Rattle.bril_tree.specs.Edge.{Branch, branches_at}
use Rattle.bril_tree.specs.Live.{IsLive}
use Rattle.bril_tree.specs.Locals.{location_value}
use Rattle.bril_tree.specs.Operand.{Location}
use Rattle.bril_tree.specs.Membership.{In}
use Rattle.bril_tree.specs.Sites.{AreSitesSound, Closes, change_of, item_change, sites_changed, sites_of}
use Rattle.bril_tree.specs.State.{Locals}
use Rattle.bril_tree.specs.Walk.{IsWalk, end_of}
use Rattle.bril_tree.proofs.Branches.{aborts-close, branch_from}
use Rattle.bril_tree.proofs.Members.{in_contains}
use Rattle.placement_laws.specs.Holding.{FrameHolds}
use Rattle.placement_laws.specs.Needed.{IsLiveOut, IsNeeded, IsUnsaved, Live, Unsaved}
use Rattle.placement_laws.specs.Open.{Already, newest_site, site_left}
use Rattle.placement_laws.specs.Placed.{IsPlaced}
use Rattle.placement_laws.specs.Saved.{HasAllSaved}
use Rattle.placement_laws.proofs.Needing.{live_before_opening, opened_here, unsaved_before, without_most}
use Rattle.placement_laws.proofs.Opening.{open_at, opened}
use Rattle.placement_laws.proofs.Steady.{homes_on, saves_on, steady_on, steady_back}

module _ (code : List Instr) (args : ℕ) (sound : AreSitesSound code) {H : Type 0} (homes : Location → H) (saved : ℕ → Location → Bool) (tells : HasAllSaved code saved) (placed : IsPlaced code args homes saved) (Has : Value → ℕ → Type 0)
    (walk : List Branch) (branch : Branch) (is : IsWalk code walk) (at : Contains (branches_at code (end_of walk)) branch) where
  -- A `speculate`: each location that is live here, and that it saves, got its word in its shadow word of the new level.
  pub speculates : branch.aborts ≡ false → ((x : Location) → Contains (assigns_at (slice_get code (end_of walk))) x → ⊥) → (locations : Locals) (saves : List Locals) (word : H → ℕ) (shadow after : ℕ → Location → ℕ) → length saves ≡ length (sites_of code walk) →
      ((x : Location) → IsLive code x (end_of walk) → saved (end_of walk) x ≡ true → after (suc (length saves)) x ≡ word (homes x)) →
      ((level : ℕ) (x : Location) → 1 ≤ level → level ≤ length saves → IsLiveOut code level branch.to x → after level x ≡ shadow level x) →
      FrameHolds code homes saved Has (end_of walk) locations saves word shadow → FrameHolds code homes saved Has branch.to locations (locations ∷ saves) word after
  speculates plain none locations saves word shadow after deep copied same h = record {
    homes_hold = homes_on code sound homes saved tells Has walk branch is at plain locations word none h.homes_hold;
    saves_hold = (new, saves_on code sound homes saved tells Has walk branch is at saves shadow after (omega arith) same h.saves_hold);
    steady = (λ level x le u. refl, steady_on code sound homes saved tells Has walk branch is at locations locations saves (omega arith) (λ x n. refl) h.steady);
  }
    where
      new : (x : Location) (v : Value) → (o : IsLiveOut code (suc (length saves)) branch.to x) → saved (site_left code (suc (length saves)) o.way o.out) x ≡ true → location_value locations x ≡ Some v → Has v (after (suc (length saves)) x)
      new x v o told held =
          let live = live_before_opening code sound saved tells walk branch is at (suc (length saves)) x (omega arith) o (none x) in
          let own : site_left code (suc (length saves)) o.way o.out ≡ end_of walk = ap (λ sites. slice_index sites 0) (opened_here code sound saved tells walk branch is at (suc (length saves)) x (omega arith) o) in
          subst (Has v) (sym (copied x live (subst (λ site. saved site x ≡ true) own told))) (h.homes_hold.at x v (Live live) held)

  -- A guard fails: each location that is live at its label, and that its newest speculation saved, got its word back at its home, and
  -- no other home changed.
  pub aborts : branch.aborts ≡ true → (locations newest : Locals) (saves : List Locals) (word after : H → ℕ) (shadow : ℕ → Location → ℕ) (back : Location → Bool) → suc (length saves) ≡ length (sites_of code walk) →
      ((x : Location) → back x ≡ true → IsLive code x branch.to × (saved (newest_site code walk) x ≡ true)) → ((x : Location) → IsLive code x branch.to → saved (newest_site code walk) x ≡ true → back x ≡ true) →
      ((x : Location) → back x ≡ true → after (homes x) ≡ shadow (suc (length saves)) x) →
      ((x : Location) → IsNeeded code saved branch.to x → ((y : Location) → back y ≡ true → homes y ≢ homes x) → after (homes x) ≡ word (homes x)) →
      FrameHolds code homes saved Has (end_of walk) locations (newest ∷ saves) word shadow → FrameHolds code homes saved Has branch.to newest saves after shadow
  aborts aborting locations newest saves word after shadow back deep backs all_back restored others h = record {
    homes_hold = record { at = holds };
    saves_hold = saves_on code sound homes saved tells Has walk branch is at saves shadow shadow (omega arith) (λ level x some le o. refl) h.saves_hold.1;
    steady = steady_back code sound homes saved tells Has walk branch is at locations newest saves (omega arith) (λ level x le u. h.steady.0 level x (omega arith) u) h.steady.1;
  }
    where
      own : In branch (branches_at code (end_of walk))
      own = in_contains branch (branches_at code (end_of walk)) at

      from_here : branch.from ≡ end_of walk
      from_here = branch_from code (end_of walk) branch own

      closes : change_of code branch ≡ Closes
      closes = ap (λ n. item_change (slice_get code n) branch.aborts) from_here ∙ (ap (item_change (slice_get code (end_of walk))) aborting ∙ aborts-close code (end_of walk) (slice_get code (end_of walk)) branch own aborting)

      fewer : length (sites_of code (branch ∷ walk)) ≤ length (sites_of code walk)
      fewer = subst (λ c. length (sites_changed c branch.from (sites_of code walk)) ≤ length (sites_of code walk)) (sym closes) (without_most (sites_of code walk))

      -- what is live at the label is live out here
      out : (x : Location) → IsLive code x branch.to → IsLiveOut code (suc (length saves)) (end_of walk) x
      out x live = record {
        way = branch;
        out = record { aborts = aborting; walk = walk; is = is; at = at; deep = sym deep; some = omega arith };
        stays = Already (end_of walk) (sym from_here) (record { walk = walk; is = is; ends = refl; has = omega arith });
        live = live;
      }

      not_both : (b : Bool) → b ≡ false → b ≡ true → ⊥
      not_both b e f = cc

      -- a location that the label needs, and that isn't put back, is at its home, and as it was
      unmoved : (x : Location) (v : Value) → IsNeeded code saved branch.to x → (level : ℕ) → level ≤ suc (length saves) → IsUnsaved code saved level (end_of walk) x → back x ≡ false → location_value newest x ≡ Some v → Has v (after (homes x))
      unmoved x v needed level le u not_put held =
          subst (Has v) (sym (others x needed apart)) (h.homes_hold.at x v (Unsaved level u) (h.steady.0 level x le u ∙ held))
        where
          apart : (y : Location) → back y ≡ true → homes y ≢ homes x
          apart y told = placed.needed (branch ∷ walk) y x (at, is) (Live (backs y told).0) needed (λ e. not_both (back x) not_put (ap back (sym e) ∙ told))

      put : (x : Location) (v : Value) → back x ≡ true → location_value newest x ≡ Some v → Has v (after (homes x))
      put x v told held = let b = backs x told in subst (Has v) (sym (restored x told)) (h.saves_hold.0 x v (out x b.0) b.1 held)

      live_left : (x : Location) (v : Value) → IsLive code x branch.to → back x ≡ false → (b : Bool) → saved (newest_site code walk) x ≡ b → location_value newest x ≡ Some v → Has v (after (homes x))
      live_left x v live not_put true told held = absurd (not_both (back x) not_put (all_back x live told))
      live_left x v live not_put false told held = unmoved x v (Live live) (suc (length saves)) (omega arith) (record { out = out x live; unsaved = told }) not_put held

      left : (x : Location) (v : Value) → IsNeeded code saved branch.to x → back x ≡ false → location_value newest x ≡ Some v → Has v (after (homes x))
      left x v (Live live) not_put held = live_left x v live not_put (saved (newest_site code walk) x) refl held
      left x v (Unsaved m u) not_put held =
          let deeper = opened code sound m branch.to (open_at code m u.out.way.from branch.to u.out.stays) (branch ∷ walk) (at, is) refl in
          let le : m ≤ length (sites_of code walk) = le_trans deeper fewer in
          unmoved x v (Unsaved m u) m (omega arith) (unsaved_before code sound saved tells walk branch is at m x le u) not_put held

      holds : (x : Location) (v : Value) → IsNeeded code saved branch.to x → location_value newest x ≡ Some v → Has v (after (homes x))
      holds x v needed held = by (back x) refl
        where
          by : (b : Bool) → back x ≡ b → Has v (after (homes x))
          by true told = put x v told held
          by false told = left x v needed told held

  -- A `commit`: the newest save is dropped.
  pub commits : branch.aborts ≡ false → ((x : Location) → Contains (assigns_at (slice_get code (end_of walk))) x → ⊥) → (locations newest : Locals) (saves : List Locals) (word : H → ℕ) (shadow : ℕ → Location → ℕ) → suc (length saves) ≡ length (sites_of code walk) →
      FrameHolds code homes saved Has (end_of walk) locations (newest ∷ saves) word shadow → FrameHolds code homes saved Has branch.to locations saves word shadow
  commits plain none locations newest saves word shadow deep h = record {
    homes_hold = homes_on code sound homes saved tells Has walk branch is at plain locations word none h.homes_hold;
    saves_hold = saves_on code sound homes saved tells Has walk branch is at saves shadow shadow (omega arith) (λ level x some le o. refl) h.saves_hold.1;
    steady = steady_on code sound homes saved tells Has walk branch is at locations locations saves (omega arith) (λ x n. refl) h.steady.1;
  }
