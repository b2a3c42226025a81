use Rattle.flow_graph.specs.Faults.{IsLeastOf, FailsBefore}
use Rattle.flow_graph.proofs.sites.least_failing.Given as goal

abbrev pub invariant-loop-point : goal.invariant-loop-point
invariant-loop-point l = IsLeastOf (FailsBefore l.code l.rows l.visits l.point) l.least
