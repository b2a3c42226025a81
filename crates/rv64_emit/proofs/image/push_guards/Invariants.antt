use Rattle.std.proofs.Common.{◌≡◌, ◌++◌}
use Rattle.rv64_emit_laws.specs.layout.Image.{joined, guard_at}
use Rattle.rv64_emit.specs.Placed.{all_homes}
use Rattle.rv64_emit.proofs.image.push_guards.Given as goal

abbrev pub invariant-loop-point : goal.invariant-loop-point
invariant-loop-point l = l.guards ≡ l.initial.guards ++ joined (guard_at (all_homes l.homes) l.slots l.number l.func) l.point
