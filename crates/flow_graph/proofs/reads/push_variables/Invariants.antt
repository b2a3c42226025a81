use Rattle.std.proofs.Common.{◌≡◌, ◌++◌, map, take}
use Rattle.bril_tree.specs.Operand.{Variable}
use Rattle.flow_graph.specs.Reads.{access_at}
use Rattle.flow_graph.proofs.reads.push_variables.Given as goal

abbrev pub invariant-loop-x : goal.invariant-loop-x
invariant-loop-x l = l.reads.items ≡ l.fn.reads.items ++ map (access_at l.item) (map Variable (take l.x-index l.args))
