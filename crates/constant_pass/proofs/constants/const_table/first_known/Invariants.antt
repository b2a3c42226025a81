use Rattle.std.proofs.Common.{◌≡◌, ◌⊎◌, ◌<◌, ◌*◌, ℕ, length}
use Rattle.bril_tree.specs.Operand.{Location, Variable}
use Rattle.constant_pass.specs.declared.constants.known.Known.TheVariants.{Many, Nothing}
use Rattle.constant_pass.specs.constants.Kept.{kept}
use Rattle.constant_pass.proofs.constants.const_table.first_known.Given as goal

abbrev pub invariant-loop-x : goal.invariant-loop-x
invariant-loop-x l = record {
  long : length l.known.items ≡ 2 * l.fn.variables;
  arguments : (y : ℕ) → y < l.x → kept l.known.items (Variable y) ≡ Many;
  others : (a : Location) → (kept l.known.items a ≡ Nothing) ⊎ ((y : ℕ) × (y < l.x) × (a ≡ Variable y));
}
