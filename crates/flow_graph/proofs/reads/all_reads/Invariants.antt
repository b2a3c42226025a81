use Rattle.std.proofs.Common.{◌≡◌, ◌++◌, drop}
use Rattle.flow_graph.specs.Reads.{reads_from}
use Rattle.flow_graph.proofs.reads.all_reads.Given as goal

abbrev pub invariant-loop-item : goal.invariant-loop-item
invariant-loop-item l = l.reads.items ++ reads_from l.item (drop l.item l.code) ≡ reads_from 0 l.code
