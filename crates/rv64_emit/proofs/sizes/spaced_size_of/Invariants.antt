use Rattle.std.proofs.Common.{◌≡◌, ◌+◌, drop}
use Rattle.rv64_emit_laws.specs.layout.Items.{spaced_size}
use Rattle.rv64_emit.specs.Placed.{homes_in}
use Rattle.rv64_emit.proofs.sizes.spaced_size_of.Given as goal

abbrev pub invariant-loop-arg : goal.invariant-loop-arg
invariant-loop-arg l = l.size + spaced_size (homes_in l.homes) (drop l.arg-index l.args) ≡ spaced_size (homes_in l.homes) l.args
