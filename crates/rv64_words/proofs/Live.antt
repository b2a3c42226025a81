-- How many cells are live: by the block table and by the program's blocks.
use Rattle.std.proofs.Common.{◌≡◌, ◌≢◌, ℕ, zero, suc, ◌≤◌, sym, subst, ⊎_elim, arith}
use Rattle.std.proofs.lemmas.Bool.{cases_eq}
use Rattle.rv64_words.specs.Environment.{live_cells}

-- up to a later block there are no fewer
pub live_rising : (table : ℕ → ℕ) (m n : ℕ) → m ≤ n → live_cells table m ≤ live_cells table n
live_rising table m zero le = let e : m ≡ 0 = omega arith in subst (λ x. live_cells table x ≤ 0) (sym e) (omega arith)
live_rising table m (suc n) le = ⊎_elim same (earlier (λ h. live_rising table m n h)) (cases_eq m (suc n))
  where
    same : m ≡ suc n → live_cells table m ≤ live_cells table (suc n)
    same e = subst (λ x. live_cells table x ≤ live_cells table (suc n)) (sym e) (omega arith)

    earlier : (m ≤ n → live_cells table m ≤ live_cells table n) → m ≢ suc n → live_cells table m ≤ live_cells table (suc n)
    earlier before ne = let rest = before (omega arith) in omega arith
