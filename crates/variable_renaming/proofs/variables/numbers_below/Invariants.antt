use Rattle.std.proofs.Common.{◌≡◌, ℕ, length}
use Rattle.variable_renaming.specs.Classes.{class_of}
use Rattle.variable_renaming.proofs.variables.numbers_below.Given as goal

abbrev pub invariant-loop-x : goal.invariant-loop-x
invariant-loop-x l = record {
  long : length l.numbers.items ≡ l.x;
  own : (x : ℕ) → class_of l.numbers.items x ≡ x;
}
