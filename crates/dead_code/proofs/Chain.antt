-- Removable items become `nop`, one after another: walks stay, and what became `nop` at a reached point computed what isn't
-- live in the end.
use Rattle.std.proofs.Common.{◌≡◌, ◌⊎◌, ℕ, suc, true, false, List, [], ◌∷◌, Some, refl, sym, ap, subst, ◌∙◌, inl, inr, ⊎_elim}
use Rattle.std.specs.Prelude.{slice_get}
use Rattle.std.proofs.lemmas.Bool.{cases_eq}
use Rattle.std.proofs.lemmas.Option.{same_Some}
use Rattle.bril_tree.specs.declared.numbered.Instr.{Instr}
use Rattle.bril_tree.specs.Assigned.{assigns_of}
use Rattle.bril_tree.specs.Edge.{Branch, branches_at, branches_from, onward}
use Rattle.bril_tree.specs.Live.{IsLive}
use Rattle.bril_tree.specs.Membership.{In}
use Rattle.bril_tree.specs.Numbered.{nop}
use Rattle.bril_tree.specs.Operand.{Location}
use Rattle.bril_tree.specs.Sites.{sites_of}
use Rattle.bril_tree.specs.Step.{point_of}
use Rattle.bril_tree.specs.Walk.{IsWalk, IsReached}
use Rattle.bril_tree.proofs.Branches.{reached_on}
use Rattle.bril_tree.proofs.Members.{contains_in}
use Rattle.dead_code.specs.Emptied.{emptied, WereRemovable}
use Rattle.dead_code.specs.Removable.{is_computation, is_silent, IsUnused, IsIdle, IsRemovable}
use Rattle.dead_code.proofs.Step.{now, now-here, now-other, now-points, reached-unused, same_branches, walk-now, walk-was, sites-same, live-was}

module _ (code : List Instr) where
  -- a computation at a reached point of what isn't live after it in the end
  pub record Computed (made : List Instr) (point : ℕ) (item : Instr) : Type 0 where
    pub computes : is_computation item ≡ true
    pub unused : (x : Location) → In x (assigns_of item) → IsLive made x (suc point) → ⊥

  -- the item at the point became `nop`
  pub record Gone (made : List Instr) (point : ℕ) : Type 0 where
    pub item : Instr
    pub was : slice_get code point ≡ Some item
    pub is : slice_get made point ≡ Some nop
    pub why : IsReached code point → Computed made point item

  abbrev pub Became : List Instr → ℕ → Type 0
  Became made point = (slice_get made point ≡ slice_get code point) ⊎ Gone made point

  pub record Chain (made : List Instr) : Type 0 where
    pub became : (point : ℕ) → Became made point
    pub labels : (l : ℕ) → point_of l made ≡ point_of l code
    pub branches : (point : ℕ) → IsReached code point → branches_at made point ≡ branches_at code point
    pub walks : (w : List Branch) → IsWalk code w → IsWalk made w
    pub were : (w : List Branch) → IsWalk made w → IsWalk code w
    pub sites : (w : List Branch) → IsWalk code w → sites_of made w ≡ sites_of code w

  pub still_reached : (made : List Instr) → Chain made → (point : ℕ) → IsReached code point → IsReached made point
  still_reached made c point h = record { walk = h.walk; is = c.walks h.walk h.is; ends = h.ends }

  pub was_reached : (made : List Instr) → Chain made → (point : ℕ) → IsReached made point → IsReached code point
  was_reached made c point h = record { walk = h.walk; is = c.were h.walk h.is; ends = h.ends }

  -- a `nop` goes on
  goes_past : (made : List Instr) (point : ℕ) → slice_get made point ≡ Some nop → IsReached made point → IsReached made (suc point)
  goes_past made point at reached = reached_on made point (onward point) reached (subst (λ o. In (onward point) (branches_from made point o)) (sym at) (inl refl))

  module _ (made : List Instr) (c : Chain made) (j : ℕ) (r : IsRemovable made j) where
    here-now : Became made j → Gone (now made j r) j
    here-now (inl same) = record {
      item = r.item;
      was = sym same ∙ r.here;
      is = now-here made j r;
      why = λ reached.
          let there = still_reached made c j reached in
          let u = reached-unused made j r there in
          record {
            computes = u.computes;
            unused = λ x i live. u.unused x (contains_in x (assigns_of r.item) i)
                (live-was made j r x (suc j) (reached_on made j (onward j) there (subst (In (onward j)) (same_branches made j r j there) (subst (λ o. In (onward j) (branches_from (now made j r) j o)) (sym (now-here made j r)) (inl refl)))) live);
          };
    }
    here-now (inr g) = absurd (silent r.item (same_Some nop r.item (sym g.is ∙ r.here)) r.why)
      where
        silent : (item : Instr) → nop ≡ item → IsUnused made j item ⊎ IsIdle made j item → ⊥
        silent item e (inl u) = let k = ap is_computation e ∙ u.computes in let f : false ≡ true = k in cc
        silent item e (inr u) = let k = ap is_silent e ∙ u.does in let f : true ≡ false = k in cc

    other-now : (p : ℕ) → (p ≡ j → ⊥) → Became made p → Became (now made j r) p
    other-now p d (inl same) = inl (now-other made j r p d ∙ same)
    other-now p d (inr g) = inr (record {
      item = g.item;
      was = g.was;
      is = now-other made j r p d ∙ g.is;
      why = λ reached.
          let k = g.why reached in
          record { computes = k.computes; unused = λ x i live. k.unused x i (live-was made j r x (suc p) (goes_past made p g.is (still_reached made c p reached)) live) };
    })

    further : Chain (now made j r)
    further = record {
      became = λ p. ⊎_elim (λ e. inr (subst (Gone (now made j r)) (sym e) (here-now (c.became j)))) (λ d. other-now p d (c.became p)) (cases_eq p j);
      labels = λ l. now-points made j r l ∙ c.labels l;
      branches = λ p reached. same_branches made j r p (still_reached made c p reached) ∙ c.branches p reached;
      walks = λ w is. walk-now made j r w (c.walks w is);
      were = λ w is. c.were w (walk-was made j r w is);
      sites = λ w is. sites-same made j r w (c.walks w is) ∙ c.sites w is;
    }

  pub chain : (points : List ℕ) → WereRemovable code points → Chain (emptied code points)
  chain [] were = record { became = λ p. inl refl; labels = λ l. refl; branches = λ p reached. refl; walks = λ w is. is; were = λ w is. is; sites = λ w is. refl }
  chain (j ∷ points) were = further (emptied code points) (chain points were.1) j were.0
