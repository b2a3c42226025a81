-- The pass as it comes with the program: its row, and that what it makes is within it.
use Rattle.std.proofs.Common.{refl}
use Rattle.std.specs.Prelude.{codes}
use Rattle.pass_budget_laws.specs.Rows.{keeps}
use Rattle.pass_budget_laws.specs.Shipped.{Shipped}
use Rattle.pass_budget_laws.proofs.Keeping.{keeps-row}
use Rattle.variable_coloring.specs.Color.{color_meaning}

-- no number grows
abbrev pub color_shipped : Shipped
color_shipped = record {
  meaning = color_meaning;
  row = keeps (codes "color");
  answers = λ name. refl;
  within = keeps-row color_meaning (codes "color") (record { factor = λ P profile k is. is; bound = λ P profile k is. is }) (λ P Q profile accepted link. link.makes.numbers);
}
