-- The shipped passes are within the rows of their names, by which a budget is computed.
use Rattle.std.proofs.Common.{List, [], ◌∷◌}
use Rattle.std.proofs.lemmas.List.Elements.{All-nil, All-cons}
use Rattle.std.specs.List.{All}
use Rattle.pass_budget_laws.specs.Laws.{IsWithinRows}
use Rattle.pass_budget_laws.specs.Rows.{Row}
use Rattle.pass_budget_laws.specs.Shipped.{Shipped}
use Rattle.pass_budget_laws.proofs.Same.{IsWithinRows-same}
use Rattle.pass_budget_laws.proofs.Shipping.{AreWithinEach, within-rows}
use Rattle.pass_law.specs.Meaning.{Meaning}
use Rattle.shipped_passes.specs.Shipped.{shipped, shipped_rows, MeanEach, AreShipped}
use Rattle.shipped_passes.proofs.Making.{shipped-apart}

module _ {B : Type 0} (meaning : B → Meaning) where
  each-within : (rows : List Row) (some : List Shipped) (passes : List B) → AreWithinEach rows some → MeanEach meaning some passes → All (λ p. IsWithinRows rows (meaning p)) passes
  each-within rows [] [] within means = All-nil _
  each-within rows [] (p ∷ passes) within means = absurd means
  each-within rows (s ∷ some) [] within means = absurd means
  each-within rows (s ∷ some) (p ∷ passes) within means =
      All-cons (λ (q : B). IsWithinRows rows (meaning q)) p passes (IsWithinRows-same rows s.meaning (meaning p) means.0 within.0) (each-within rows some passes within.1 means.1)

  pub AreShipped-within : (passes : List B) → AreShipped meaning passes → All (λ p. IsWithinRows shipped_rows (meaning p)) passes
  AreShipped-within passes are = each-within shipped_rows shipped passes (within-rows shipped shipped-apart) are.each
