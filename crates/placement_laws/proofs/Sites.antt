-- The site of a level, and the guards that are its ways out.
use Rattle.std.proofs.Common.{◌≡◌, ℕ, suc, ◌≤◌, ◌⊎◌, inl, inr, refl, sym, ap, ◌∙◌, subst, arith, List, [], ◌∷◌, ◌++◌, length}
use Rattle.std.specs.Prelude.{slice_index}
use Rattle.bril_tree.specs.declared.numbered.Instr.{Instr}
use Rattle.bril_tree.specs.Edge.{Branch, branches_at}
use Rattle.bril_tree.specs.Operand.{Location}
use Rattle.bril_tree.specs.Sites.{AreSitesSound, sites_of}
use Rattle.bril_tree.specs.Walk.{IsWalk, end_of}
use Rattle.bril_tree.proofs.Branches.{branch_from}
use Rattle.bril_tree.proofs.Members.{in_contains}
use Rattle.placement_laws.specs.Needed.{IsLiveOut}
use Rattle.placement_laws.specs.Open.{IsWayOutOf, StaysOpen, site_left}
use Rattle.placement_laws.proofs.Opening.{alone, base_kept}

-- the oldest of a list, so many
record Split (level : ℕ) (xs : List ℕ) : Type 0 where
  newer : List ℕ
  base : List ℕ
  are : xs ≡ newer ++ base
  long : length base ≡ level

split_more : (level x : ℕ) (xs : List ℕ) → (suc (length xs) ≡ level) ⊎ (level ≤ length xs) → (level ≤ length xs → Split level xs) → Split level (x ∷ xs)
split_more level x xs (inl e) rest = record { newer = []; base = x ∷ xs; are = refl; long = e }
split_more level x xs (inr le) rest = let s = rest le in record { newer = x ∷ s.newer; base = s.base; are = ap (λ ys. x ∷ ys) s.are; long = s.long }

one_more : (level n : ℕ) → level ≤ suc n → (suc n ≡ level) ⊎ (level ≤ n)
one_more level n h = grind arith

split_at : (level : ℕ) (xs : List ℕ) → level ≤ length xs → Split level xs
split_at level [] le = record { newer = []; base = []; are = refl; long = omega arith }
split_at level (x ∷ xs) le = split_more level x xs (one_more level (length xs) le) (λ h. split_at level xs h)

module _ (code : List Instr) (sound : AreSitesSound code) where
  module _ (walk : List Branch) (is : IsWalk code walk) where
    -- the guard to which a walk leads, on which the site stays open, has the site of that level
    pub way_of_site : (level : ℕ) (x : Location) → level ≤ length (sites_of code walk) → (o : IsLiveOut code level (end_of walk) x) → (newer : List ℕ) × (site : ℕ) × (older : List ℕ) × (sites_of code walk ≡ newer ++ site ∷ older) × (length (site ∷ older) ≡ level) × IsWayOutOf code site older o.way × (site_left code level o.way o.out ≡ site)
    way_of_site level x le o = by s.base s.are s.long
      where
        s : Split level (sites_of code walk)
        s = split_at level (sites_of code walk) le

        by : (base : List ℕ) → sites_of code walk ≡ s.newer ++ base → length base ≡ level → (newer : List ℕ) × (site : ℕ) × (older : List ℕ) × (sites_of code walk ≡ newer ++ site ∷ older) × (length (site ∷ older) ≡ level) × IsWayOutOf code site older o.way × (site_left code level o.way o.out ≡ site)
        by [] are long = let some = o.out.some in absurd (omega arith)
        by (site ∷ older) are long =
            let stays = subst (λ n. StaysOpen code n o.way.from (end_of walk)) (sym long) o.stays in
            let from_guard : o.way.from ≡ end_of o.out.walk = branch_from code (end_of o.out.walk) o.way (in_contains o.way (branches_at code (end_of o.out.walk)) o.out.at) in
            let kept = base_kept code sound (site ∷ older) o.way.from (end_of walk) stays walk o.out.walk is refl (record { newer = s.newer; are = are }) o.out.is (sym from_guard) in
            let all = alone (site ∷ older) (sites_of code o.out.walk) kept (o.out.deep ∙ sym long) in (
              s.newer,
              site,
              older,
              are,
              long,
              record {
                out = record { aborts = o.out.aborts; walk = o.out.walk; is = o.out.is; at = o.out.at; deep = o.out.deep ∙ sym long; some = omega arith };
                sites = all;
              },
              ap (λ sites. slice_index sites 0) all,
            )
