-- The pass as it comes with the program: its row, and that what it makes is within it.
use Rattle.std.proofs.Common.{refl}
use Rattle.std.specs.Prelude.{codes}
use Rattle.coalesce.specs.Merge.{merge_meaning}
use Rattle.pass_budget_laws.specs.Rows.{keeps}
use Rattle.pass_budget_laws.specs.Shipped.{Shipped}
use Rattle.pass_budget_laws.proofs.Keeping.{keeps-row}

-- no number grows
abbrev pub merge_shipped : Shipped
merge_shipped = record {
  meaning = merge_meaning;
  row = keeps (codes "merge");
  answers = λ name. refl;
  within = keeps-row merge_meaning (codes "merge") (record { factor = λ P profile k is. is; bound = λ P profile k is. is }) (λ P Q profile accepted link. link.makes.numbers);
}
