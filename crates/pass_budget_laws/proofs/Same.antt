-- Passes that mean the same are within the same rows.
use Rattle.std.proofs.Common.{ℕ, Bool, List, ap, ◌∙◌}
use Rattle.pass_law.specs.Meaning.{Meaning, SameMeaning}
use Rattle.pass_law.proofs.Same.{Link-same}
use Rattle.pass_budget_laws.specs.Laws.{IsWithinRows}
use Rattle.pass_budget_laws.specs.Rows.{Row}

pub IsWithinRows-same : (rows : List Row) (m n : Meaning) → SameMeaning m n → IsWithinRows rows m → IsWithinRows rows n
IsWithinRows-same rows m n same within_rows name e =
    let row = within_rows name (ap (λ (f : List ℕ → Bool). f name) same.answers ∙ e) in
    record {
      factor = λ p profile numbers k accepted within is. row.factor p profile numbers k accepted within ((same.factor p profile k).1 is);
      after = λ p q profile numbers accepted within link. row.after p q profile numbers accepted within (Link-same m n same profile p q link);
    }
