-- What a point needs is needed before it.
use Rattle.std.proofs.Common.{◌≡◌, ℕ, suc, ◌<◌, ◌≤◌, ◌⊎◌, inl, inr, Bool, false, refl, sym, ap, ◌∙◌, subst, arith, List, [], ◌∷◌, length}
use Rattle.std.specs.Prelude.{IsTrue, slice_get}
use Rattle.std.specs.List.{Contains}
use Rattle.bril_tree.specs.declared.numbered.Instr.{Instr}
use Rattle.bril_tree.specs.Assigned.{assigns_at}
use Rattle.bril_tree.specs.Edge.{Branch, branches_at}
use Rattle.bril_tree.specs.Live.{IsLive, Later}
use Rattle.bril_tree.specs.Operand.{Location}
use Rattle.bril_tree.specs.Sites.{AreSitesSound, Change, Opens, Closes, Keeps, change_of, sites_changed, sites_of, without_newest}
use Rattle.bril_tree.specs.Walk.{IsWalk, end_of}
use Rattle.bril_tree.proofs.Branches.{branch_from}
use Rattle.bril_tree.proofs.Members.{in_contains}
use Rattle.placement_laws.specs.Needed.{IsLiveOut, IsNeeded, IsUnsaved, Live, Unsaved}
use Rattle.placement_laws.specs.Open.{StaysOpen, site_left}
use Rattle.placement_laws.specs.Saved.{HasAllSaved}
use Rattle.placement_laws.proofs.Opening.{alone, base_kept, open_at, opened, stays_before}

le_or_more : (m n : ℕ) → (m ≤ n) ⊎ (n < m)
le_or_more m n = grind arith

pub without_most : (sites : List ℕ) → length (without_newest sites) ≤ length sites
without_most [] = omega arith
without_most (s ∷ sites) = omega arith

-- where a branch leads to more open sites, it opened one
opens_one : (change : Change) (site : ℕ) (sites : List ℕ) (level : ℕ) → length sites < level → level ≤ length (sites_changed change site sites) → (sites_changed change site sites ≡ site ∷ sites) × (level ≡ suc (length sites))
opens_one Opens site sites level more le = (refl, omega arith)
opens_one Closes site sites level more le = let most = without_most sites in absurd (omega arith)
opens_one Keeps site sites level more le = absurd (omega arith)

module _ (code : List Instr) (sound : AreSitesSound code) (saved : ℕ → Location → Bool) (tells : HasAllSaved code saved) where
  module _ (walk : List Branch) (branch : Branch) (is : IsWalk code walk) (at : Contains (branches_at code (end_of walk)) branch) where
    abbrev pub out_before : (level : ℕ) (x : Location) → level ≤ length (sites_of code walk) → IsLiveOut code level branch.to x → IsLiveOut code level (end_of walk) x
    out_before level x le o = record { way = o.way; out = o.out; stays = stays_before code sound level o.way.from walk branch is at le o.stays; live = o.live }

    pub unsaved_before : (level : ℕ) (x : Location) → level ≤ length (sites_of code walk) → IsUnsaved code saved level branch.to x → IsUnsaved code saved level (end_of walk) x
    unsaved_before level x le u = record { out = out_before level x le u.out; unsaved = u.unsaved }

    -- what is live out without a shadow word isn't assigned
    pub unsaved_unassigned : (level : ℕ) (x : Location) → level ≤ length (sites_of code walk) → IsUnsaved code saved level branch.to x → Contains (assigns_at (slice_get code (end_of walk))) x → ⊥
    unsaved_unassigned level x le u c = clash (subst IsTrue u.unsaved told)
      where
        told : IsTrue (saved (site_left code level u.out.way u.out.out) x)
        told = tells (site_left code level u.out.way u.out.out) x (record { level = level; way = u.out.way; out = u.out.out; left = refl; live = u.out.live; walk = walk; is = is; has = le; assigns = c; on = branch; at = at; stays = u.out.stays })

        clash : IsTrue false → ⊥
        clash e = cc

    -- the branch opened a site, and a walk leads out of it: that is the item's
    pub opened_here : (level : ℕ) (x : Location) → length (sites_of code walk) < level → (o : IsLiveOut code level branch.to x) → sites_of code o.out.walk ≡ end_of walk ∷ sites_of code walk
    opened_here level x more o =
        let has_open = open_at code level o.way.from branch.to o.stays in
        let le = opened code sound level branch.to has_open (branch ∷ walk) (at, is) refl in
        let opens = opens_one (change_of code branch) branch.from (sites_of code walk) level more le in
        let base = branch.from ∷ sites_of code walk in
        let stays = subst (λ n. StaysOpen code n o.way.from branch.to) opens.1 o.stays in
        let from_guard : o.way.from ≡ end_of o.out.walk = branch_from code (end_of o.out.walk) o.way (in_contains o.way (branches_at code (end_of o.out.walk)) o.out.at) in
        let kept = base_kept code sound base o.way.from branch.to stays (branch ∷ walk) o.out.walk (at, is) refl (record { newer = []; are = opens.0 }) o.out.is (sym from_guard) in
        let all : sites_of code o.out.walk ≡ base = alone base (sites_of code o.out.walk) kept (o.out.deep ∙ opens.1) in
        let from_here : branch.from ≡ end_of walk = branch_from code (end_of walk) branch (in_contains branch (branches_at code (end_of walk)) at) in
        all ∙ ap (λ n. n ∷ sites_of code walk) from_here

    -- a location that is live out of it is live here
    pub live_before_opening : (level : ℕ) (x : Location) → length (sites_of code walk) < level → IsLiveOut code level branch.to x → (Contains (assigns_at (slice_get code (end_of walk))) x → ⊥) → IsLive code x (end_of walk)
    live_before_opening level x more o none =
        Later (end_of walk) o.way (inr (record { aborts = o.out.aborts; walk = o.out.walk; is = o.out.is; at = o.out.at; older = sites_of code walk; sites = opened_here level x more o })) none o.live

    -- what the next point needs, and the item doesn't assign, is needed
    pub needed_before : branch.aborts ≡ false → (x : Location) → IsNeeded code saved branch.to x → (Contains (assigns_at (slice_get code (end_of walk))) x → ⊥) → IsNeeded code saved (end_of walk) x
    needed_before plain x (Live live) none = Live (Later (end_of walk) branch (inl (at, plain)) none live)
    needed_before plain x (Unsaved level u) none = by (le_or_more level (length (sites_of code walk)))
      where
        by : (level ≤ length (sites_of code walk)) ⊎ (length (sites_of code walk) < level) → IsNeeded code saved (end_of walk) x
        by (inl le) = Unsaved level (unsaved_before level x le u)
        by (inr more) = Live (live_before_opening level x more u.out none)
