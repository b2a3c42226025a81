use Rattle.std.proofs.Common.{◌≡◌, ◌++◌, map, drop}
use Rattle.flow_graph.specs.Branches.{branches_of, branches_from_on}
use Rattle.flow_graph.proofs.branches.all_branches.Given as goal

abbrev pub invariant-loop-point : goal.invariant-loop-point
invariant-loop-point l = map branches_of l.rows.items ++ branches_from_on l.code l.point (drop l.point l.code) ≡ branches_from_on l.code 0 l.code
