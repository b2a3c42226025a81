-- Open sites of walks: each was opened where a walk led to it, with the older ones open.
use Rattle.std.proofs.Common.{◌≡◌, ℕ, List, [], ◌∷◌, ◌++◌, refl, sym, ap, subst, ◌∙◌}
use Rattle.bril_tree.specs.declared.numbered.Instr.{Instr}
use Rattle.bril_tree.specs.Edge.{Branch, branches_at}
use Rattle.bril_tree.specs.Sites.{AreFirstSites, AreSitesSound, Change, Closes, Keeps, Opens, change_of, sites_changed, sites_of}
use Rattle.bril_tree.specs.Walk.{IsWalk, end_of}
use Rattle.bril_tree.proofs.Branches.{branch_from}
use Rattle.bril_tree.proofs.Members.{in_contains}
use Rattle.flow_graph.proofs.OpenSites.{sound_walks_agree}
use Rattle.flow_graph.proofs.Told.{first_sites}

-- all walks to one point have one list of sites
pub walks-agree : (code : List Instr) → AreSitesSound code → (v w : List Branch) → IsWalk code v → IsWalk code w → end_of v ≡ end_of w → sites_of code v ≡ sites_of code w
walks-agree code sound v w is_v is_w ends =
    sound_walks_agree code sound v is_v (sites_of code w) (subst (λ n. AreFirstSites code n (sites_of code w)) (sym ends) (first_sites code w sound is_w))

module _ (code : List Instr) (s : ℕ) (older : List ℕ) where
  -- a walk to the site, with these open
  pub record OpenedBy : Type 0 where
    pub walk : List Branch
    pub is : IsWalk code walk
    pub ends : end_of walk ≡ s
    pub sites : sites_of code walk ≡ older

  nothing-there : (newer : List ℕ) → [] ≡ newer ++ s ∷ older → ⊥
  nothing-there [] e = cc
  nothing-there (y ∷ ys) e = cc

  by-change : (w : List Branch) → IsWalk code w → (from : ℕ) → from ≡ end_of w → (c : Change) (ss newer : List ℕ) → sites_of code w ≡ ss → sites_changed c from ss ≡ newer ++ s ∷ older → ((newer : List ℕ) → sites_of code w ≡ newer ++ s ∷ older → OpenedBy) → OpenedBy
  by-change w is from at Opens ss [] here e again = let p : from ≡ s = cc in let q : ss ≡ older = cc in record { walk = w; is = is; ends = sym at ∙ p; sites = here ∙ q }
  by-change w is from at Opens ss (y ∷ ys) here e again = let q : ss ≡ ys ++ s ∷ older = cc in again ys (here ∙ q)
  by-change w is from at Closes [] newer here e again = absurd (nothing-there newer e)
  by-change w is from at Closes (t ∷ ss) newer here e again = again (t ∷ newer) (here ∙ ap (λ l. t ∷ l) e)
  by-change w is from at Keeps ss newer here e again = again newer (here ∙ e)

  pub opened-by : (w : List Branch) → IsWalk code w → (newer : List ℕ) → sites_of code w ≡ newer ++ s ∷ older → OpenedBy
  opened-by [] is newer e = absurd (nothing-there newer e)
  opened-by (b ∷ w) is newer e =
      by-change w is.1 b.from (branch_from code (end_of w) b (in_contains b (branches_at code (end_of w)) is.0)) (change_of code b) (sites_of code w) newer refl e (λ n. opened-by w is.1 n)
