-- The pass as it comes with the program: its row, and that what it makes is within it.
use Rattle.std.proofs.Common.{refl}
use Rattle.std.specs.Prelude.{codes}
use Rattle.tidy_code.specs.Tidy.{tidy_meaning}
use Rattle.pass_budget_laws.specs.Rows.{widens}
use Rattle.pass_budget_laws.specs.Shipped.{Shipped}
use Rattle.pass_budget_laws.proofs.Keeping.{widens-row}

-- a `nop` that is dropped may bring a label behind the item before it
abbrev pub tidy_shipped : Shipped
tidy_shipped = record {
  meaning = tidy_meaning;
  row = widens 1 (codes "tidy");
  answers = λ name. refl;
  within = widens-row tidy_meaning (codes "tidy") 1 (record { factor = λ P profile k is. is; bound = λ P profile k is. is }) (λ P Q profile accepted link. link.makes.numbers);
}
