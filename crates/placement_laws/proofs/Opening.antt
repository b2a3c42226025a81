-- Sites that stay open along walks.
use Rattle.std.proofs.Common.{◌≡◌, ℕ, suc, ◌+◌, ◌≤◌, refl, sym, ap, ◌∙◌, subst, arith, List, [], ◌∷◌, ◌++◌, length}
use Rattle.std.proofs.lemmas.List.{length-append}
use Rattle.std.specs.List.{Contains}
use Rattle.bril_tree.specs.declared.numbered.Instr.{Instr}
use Rattle.bril_tree.specs.Edge.{Branch, branches_at}
use Rattle.bril_tree.specs.Sites.{AreSitesSound, Change, Opens, Closes, Keeps, change_of, sites_behind, sites_changed, sites_of, without_newest}
use Rattle.bril_tree.specs.Walk.{IsWalk, end_of}
use Rattle.flow_graph.proofs.Told.{same_sites}
use Rattle.placement_laws.specs.Open.{Already, IsOpen, Onward, StaysOpen}

-- ---- lists of sites

-- an open site stays, under those that are newer, unless it is closed
pub record Above (base sites : List ℕ) : Type 0 where
  pub newer : List ℕ
  pub are : sites ≡ newer ++ base

closed_base : (newer base : List ℕ) → length base ≤ length (without_newest (newer ++ base)) → Above base (without_newest (newer ++ base))
closed_base [] [] le = record { newer = []; are = refl }
closed_base [] (b ∷ base) le = absurd (omega arith)
closed_base (n ∷ newer) base le = record { newer = newer; are = refl }

base_behind : (change : Change) (site : ℕ) (newer base : List ℕ) → length base ≤ length (sites_changed change site (newer ++ base)) → Above base (sites_changed change site (newer ++ base))
base_behind Opens site newer base le = record { newer = site ∷ newer; are = refl }
base_behind Closes site newer base le = closed_base newer base le
base_behind Keeps site newer base le = record { newer = newer; are = refl }

-- as many as there are of them are all
pub alone : (base sites : List ℕ) → Above base sites → length sites ≡ length base → sites ≡ base
alone base sites a e = by a.newer a.are
  where
    by : (newer : List ℕ) → sites ≡ newer ++ base → sites ≡ base
    by [] is = is
    by (n ∷ newer) is =
        let long : length sites ≡ suc (length (newer ++ base)) = ap length is in
        let sum : length (newer ++ base) ≡ length newer + length base = length-append newer base in
        absurd (omega arith)

-- ---- walks

pub open_at : (code : List Instr) (level last point : ℕ) → StaysOpen code level last point → IsOpen code level point
open_at code level last point (Already _ e o) = o
open_at code level last point (Onward _ branch o at rest) = o

module _ (code : List Instr) (sound : AreSitesSound code) where
  -- every walk to the point has the site open
  pub opened : (level point : ℕ) → IsOpen code level point → (walk : List Branch) → IsWalk code walk → end_of walk ≡ point → level ≤ length (sites_of code walk)
  opened level point o walk is ends = subst (λ s. level ≤ length s) (same_sites code sound o.walk walk o.is is (o.ends ∙ sym ends)) o.has

  pub open_last : (level last point : ℕ) → StaysOpen code level last point → IsOpen code level last
  open_last level last point (Already _ e o) = subst (IsOpen code level) e o
  open_last level last point (Onward _ branch o at rest) = open_last level last branch.to rest

  -- the sites up to the level are those of the point all the way
  pub base_kept : (base : List ℕ) (last point : ℕ) → StaysOpen code (length base) last point → (v w : List Branch) → IsWalk code v → end_of v ≡ point → Above base (sites_of code v) →
      IsWalk code w → end_of w ≡ last → Above base (sites_of code w)
  base_kept base last point (Already _ e o) v w is_v ends_v a is_w ends_w = subst (Above base) (same_sites code sound v w is_v is_w (ends_v ∙ (e ∙ sym ends_w))) a
  base_kept base last point (Onward _ branch o at rest) v w is_v ends_v a is_w ends_w =
      let at_v : Contains (branches_at code (end_of v)) branch = subst (λ n. Contains (branches_at code n) branch) (sym ends_v) at in
      let has_open = open_at code (length base) last branch.to rest in
      let le = opened (length base) branch.to has_open (branch ∷ v) (at_v, is_v) refl in
      let split : sites_behind code branch (sites_of code v) ≡ sites_changed (change_of code branch) branch.from (a.newer ++ base) = ap (sites_changed (change_of code branch) branch.from) a.are in
      let kept = base_behind (change_of code branch) branch.from a.newer base (subst (λ s. length base ≤ length s) split le) in
      base_kept base last branch.to rest (branch ∷ v) w (at_v, is_v) refl (subst (Above base) (sym split) kept) is_w ends_w

  -- ---- one branch back

  pub stays_before : (level last : ℕ) (walk : List Branch) (branch : Branch) → IsWalk code walk → Contains (branches_at code (end_of walk)) branch → level ≤ length (sites_of code walk) →
      StaysOpen code level last branch.to → StaysOpen code level last (end_of walk)
  stays_before level last walk branch is at le stays = Onward (end_of walk) branch (record { walk = walk; is = is; ends = refl; has = le }) at stays
