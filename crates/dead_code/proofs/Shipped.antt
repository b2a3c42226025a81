-- The pass as it comes with the program: its row, and that what it makes is within it.
use Rattle.std.proofs.Common.{refl}
use Rattle.std.specs.Prelude.{codes}
use Rattle.dead_code.specs.Dead.{dead_meaning}
use Rattle.pass_budget_laws.specs.Rows.{keeps}
use Rattle.pass_budget_laws.specs.Shipped.{Shipped}
use Rattle.pass_budget_laws.proofs.Keeping.{keeps-row}

-- no number grows
abbrev pub dead_shipped : Shipped
dead_shipped = record {
  meaning = dead_meaning;
  row = keeps (codes "dead");
  answers = λ name. refl;
  within = keeps-row dead_meaning (codes "dead") (record { factor = λ P profile k is. is; bound = λ P profile k is. is }) (λ P Q profile accepted link. link.makes.numbers);
}
