-- Where a run begins, and where none does.
use Rattle.std.proofs.Common.{◌≡◌, ℕ, suc, ◌+◌, ◌<◌, true, false, List, ◌∷◌, [], None, sym, subst, ◌∙◌, ⊎_elim, arith}
use Rattle.std.specs.Prelude.{slice_get}
use Rattle.std.proofs.lemmas.Bool.{cases_lt}
use Rattle.bril_tree.specs.declared.numbered.Instr.{Instr}
use Rattle.side_laws.specs.Paired.{Run, IsRun, Within, Commits, is_guard, item_place, labels_of_item}
use Rattle.side_pairs.specs.Runs.{HasRun, IsBail, IsSize}

module _ (code : List Instr) (k : ℕ) where
  -- so many items within
  abbrev pub IsWithin : ℕ → Type 0
  IsWithin count = (n : ℕ) → n < count → item_place (slice_get code (suc (k + n))) ≡ Within

  -- no guard among so many items
  abbrev pub HasNoGuard : ℕ → Type 0
  HasNoGuard count = (n : ℕ) → n < count → is_guard (slice_get code (suc (k + n))) ≡ false

  one-size : (s t : ℕ) → IsSize code k s → IsSize code k t → s ≡ t
  one-size s t a b = ⊎_elim (λ l. let z : Commits ≡ Within = sym a.closes ∙ b.within s l in absurd cc)
      (λ g. ⊎_elim (λ l. let z : Commits ≡ Within = sym b.closes ∙ a.within t l in absurd cc) (λ h. omega (arith, g, h)) (cases_lt t s)) (cases_lt s t)

  -- what a run from the point has
  size-of : (r : Run) → r.start ≡ k → IsRun code r → IsSize code k r.size
  size-of r e is = record {
    few = is.few;
    within = λ n l. subst (λ z. item_place (slice_get code (suc (z + n))) ≡ Within) e (is.within n l);
    closes = subst (λ z. item_place (slice_get code (suc (z + r.size))) ≡ Commits) e is.closes;
  }

  bail-of : (r : Run) → r.start ≡ k → IsRun code r → IsBail code k r.size r.bail
  bail-of r e is = record {
    first = record {
      guard = is.guard;
      guard_in = is.guard_in;
      guard_is = subst (λ z. is_guard (slice_get code (suc (z + is.guard))) ≡ true) e is.guard_is;
      names = subst (λ z. labels_of_item (slice_get code (suc (z + is.guard))) ≡ r.bail ∷ []) e (is.guards is.guard is.guard_in is.guard_is);
    };
    guards = λ n l. subst (λ z. is_guard (slice_get code (suc (z + n))) ≡ true → labels_of_item (slice_get code (suc (z + n))) ≡ r.bail ∷ []) e (is.guards n l);
  }

  -- where the guards name no label, no run begins
  pub no-bail : (size : ℕ) → IsSize code k size → ((bail : ℕ) → IsBail code k size bail → ⊥) → HasRun code k None
  no-bail size sized n r e is = n r.bail (subst (λ s. IsBail code k s r.bail) (one-size r.size size (size-of r e is) sized) (bail-of r e is))
