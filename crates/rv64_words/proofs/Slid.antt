-- What is read of the cells and of the block table after the live blocks slid.
use Rattle.std.proofs.Common.{◌≡◌, ◌≢◌, ℕ, zero, suc, ◌+◌, ◌-◌, ◌*◌, ◌<◌, ◌≤◌, Bool, true, false, ◌&&◌, cond, eqb, leb, ltb, refl, sym, ap, ◌∙◌, subst, ⊎_elim, arith}
use Rattle.std.proofs.lemmas.Bool.{cases_eq, ne_eqb}
use Rattle.std.proofs.lemmas.Bool.Decides.{nat_tests}
use Rattle.rv64_words.specs.Region.{cells_base}
use Rattle.rv64_words.specs.State.{assigned}
use Rattle.rv64_words.proofs.Assigned.{assigned_here, assigned_other}
use Rattle.rv64_words.specs.Environment.{live_cells, first_word, slid_cells, slid_table}
use Rattle.rv64_words.proofs.Live.{live_rising}

-- ---- the block table

-- sizes stay
pub slid_odd : (table : ℕ → ℕ) (n k : ℕ) → slid_table table n (2 * k + 1) ≡ table (2 * k + 1)
slid_odd table zero k = refl
slid_odd table (suc b) k = by (slid_odd table b k) (eqb (table (2 * suc b + 1)) 0)
  where
    by : slid_table table b (2 * k + 1) ≡ table (2 * k + 1) → (t : Bool) → cond t (slid_table table b) (assigned (slid_table table b) (2 * suc b) (cells_base + 16 * live_cells table b)) (2 * k + 1) ≡ table (2 * k + 1)
    by rest true = rest
    by rest false = assigned_other (slid_table table b) (2 * suc b) (cells_base + 16 * live_cells table b) (2 * k + 1) (λ e. absurd (omega arith)) ∙ rest

-- the address of another block
slid_even_other : (table : ℕ → ℕ) (n k : ℕ) → k ≢ suc n → slid_table table (suc n) (2 * k) ≡ slid_table table n (2 * k)
slid_even_other table n k ne = by (eqb (table (2 * suc n + 1)) 0)
  where
    by : (t : Bool) → cond t (slid_table table n) (assigned (slid_table table n) (2 * suc n) (cells_base + 16 * live_cells table n)) (2 * k) ≡ slid_table table n (2 * k)
    by true = refl
    by false = assigned_other (slid_table table n) (2 * suc n) (cells_base + 16 * live_cells table n) (2 * k) (λ e. ne (omega arith))

-- a live block has the address after the live ones before it
pub slid_even : (table : ℕ → ℕ) (n a : ℕ) → a < n → table (2 * suc a + 1) ≢ 0 → slid_table table n (2 * suc a) ≡ cells_base + 16 * live_cells table a
slid_even table zero a lt live = absurd (omega arith)
slid_even table (suc n) a lt live = ⊎_elim same (other (λ h. slid_even table n a h live)) (cases_eq a n)
  where
    same : a ≡ n → slid_table table (suc n) (2 * suc a) ≡ cells_base + 16 * live_cells table a
    same e = subst (λ x. slid_table table (suc n) (2 * suc x) ≡ cells_base + 16 * live_cells table x) (sym e) (
        ap (λ t. cond t (slid_table table n) (assigned (slid_table table n) (2 * suc n) (cells_base + 16 * live_cells table n)) (2 * suc n)) (ne_eqb (table (2 * suc n + 1)) 0 (subst (λ x. table (2 * suc x + 1) ≢ 0) e live))
        ∙ assigned_here (slid_table table n) (2 * suc n) (cells_base + 16 * live_cells table n))

    other : (a < n → slid_table table n (2 * suc a) ≡ cells_base + 16 * live_cells table a) → a ≢ n → slid_table table (suc n) (2 * suc a) ≡ cells_base + 16 * live_cells table a
    other rest ne = slid_even_other table n (suc a) (λ e. ne (omega arith)) ∙ rest (omega arith)

-- one that isn't live keeps the one that it had
pub slid_even_dead : (table : ℕ → ℕ) (n k : ℕ) → table (2 * k + 1) ≡ 0 → slid_table table n (2 * k) ≡ table (2 * k)
slid_even_dead table zero k dead = refl
slid_even_dead table (suc n) k dead = by (slid_even_dead table n k dead) (eqb (table (2 * suc n + 1)) 0) refl
  where
    by : slid_table table n (2 * k) ≡ table (2 * k) → (t : Bool) → eqb (table (2 * suc n + 1)) 0 ≡ t → cond t (slid_table table n) (assigned (slid_table table n) (2 * suc n) (cells_base + 16 * live_cells table n)) (2 * k) ≡ table (2 * k)
    by rest true e = rest
    by rest false e =
        assigned_other (slid_table table n) (2 * suc n) (cells_base + 16 * live_cells table n) (2 * k) (λ same. absurd (live (let at : k ≡ suc n = omega arith in ap (λ x. table (2 * x + 1)) (sym at) ∙ dead) e)) ∙ rest
      where
        live : table (2 * suc n + 1) ≡ 0 → eqb (table (2 * suc n + 1)) 0 ≡ false → ⊥
        live none is = grind (arith, nat_tests)

-- ---- the cells

-- a word of a block that slid is what it was where the block stood
pub slid_at : (table cells : ℕ → ℕ) (n a k : ℕ) → a < n → k < 2 * table (2 * suc a + 1) → slid_cells table cells n (2 * live_cells table a + k) ≡ cells (first_word table (suc a) + k)
slid_at table cells zero a k lt inside = absurd (omega arith)
slid_at table cells (suc n) a k lt inside = ⊎_elim same (other (λ h. slid_at table cells n a k h inside)) (cases_eq a n)
  where
    here : k < 2 * table (2 * suc n + 1) → (leb (2 * live_cells table n) (2 * live_cells table n + k) && ltb (2 * live_cells table n + k) (2 * live_cells table n + 2 * table (2 * suc n + 1))) ≡ true
    here below = grind (arith, nat_tests)

    same : a ≡ n → slid_cells table cells (suc n) (2 * live_cells table a + k) ≡ cells (first_word table (suc a) + k)
    same e = subst (λ x. slid_cells table cells (suc n) (2 * live_cells table x + k) ≡ cells (first_word table (suc x) + k)) (sym e) (
        let back : (2 * live_cells table n + k) - 2 * live_cells table n ≡ k = omega arith in
        ap (λ t. cond t (cells (first_word table (suc n) + ((2 * live_cells table n + k) - 2 * live_cells table n))) (slid_cells table cells n (2 * live_cells table n + k))) (here (subst (λ x. k < 2 * table (2 * suc x + 1)) e inside))
        ∙ ap (λ x. cells (first_word table (suc n) + x)) back)

    before : 2 * live_cells table a + k < 2 * live_cells table n → (leb (2 * live_cells table n) (2 * live_cells table a + k) && ltb (2 * live_cells table a + k) (2 * live_cells table n + 2 * table (2 * suc n + 1))) ≡ false
    before below = grind (arith, nat_tests)

    other : (a < n → slid_cells table cells n (2 * live_cells table a + k) ≡ cells (first_word table (suc a) + k)) → a ≢ n → slid_cells table cells (suc n) (2 * live_cells table a + k) ≡ cells (first_word table (suc a) + k)
    other rest ne =
        let rising : live_cells table (suc a) ≤ live_cells table n = live_rising table (suc a) n (omega arith) in
        ap (λ t. cond t (cells (first_word table (suc n) + ((2 * live_cells table a + k) - 2 * live_cells table n))) (slid_cells table cells n (2 * live_cells table a + k))) (before (omega arith)) ∙ rest (omega arith)

-- after the live blocks there is 0
pub slid_after : (table cells : ℕ → ℕ) (n i : ℕ) → 2 * live_cells table n ≤ i → slid_cells table cells n i ≡ 0
slid_after table cells zero i le = refl
slid_after table cells (suc n) i le = ap (λ t. cond t (cells (first_word table (suc n) + (i - 2 * live_cells table n))) (slid_cells table cells n i)) past ∙ slid_after table cells n i (omega arith)
  where
    past : (leb (2 * live_cells table n) i && ltb i (2 * live_cells table n + 2 * table (2 * suc n + 1))) ≡ false
    past = grind (arith, nat_tests)
