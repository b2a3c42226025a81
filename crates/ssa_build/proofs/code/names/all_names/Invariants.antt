use Rattle.std.proofs.Common.{◌≡◌, ◌-◌, ◌<◌, ℕ, [], length}
use Rattle.std.specs.Prelude.{slice_index, slice_index_or}
use Rattle.bril_tree.specs.Numbered.{variable_names}
use Rattle.ssa_build.specs.fresh_names.Names.{definition_name}
use Rattle.ssa_build.proofs.code.names.all_names.Given as goal

abbrev pub invariant-loop-definition : goal.invariant-loop-definition
invariant-loop-definition l = record {
  long : length l.names.items ≡ l.definition;
  each : (y : ℕ) → y < l.definition → slice_index_or l.names.items y [] ≡ definition_name (variable_names l.vars) l.args l.front (λ z. slice_index l.variables (z - l.args)) y;
}
