use Rattle.std.proofs.Common.{◌≡◌, ◌+◌, ◌*◌, ◌≤◌, drop}
use Rattle.rv64_emit.specs.PassingParts.{part_size}
use Rattle.rv64_emit.specs.Placed.{homes_in}
use Rattle.rv64_emit.proofs.passing.size_of_part.Given as goal

abbrev pub invariant-loop-k : goal.invariant-loop-k
invariant-loop-k l =
    (l.size + part_size l.part (homes_in l.homes) l.func l.function l.k (drop l.k l.args) ≡ part_size l.part (homes_in l.homes) l.func l.function 0 l.args) × (l.size ≤ 6 * l.k)
