use Rattle.std.proofs.Common.{◌≡◌, drop}
use Rattle.bril_tree.specs.Spelling.{operation_among}
use Rattle.bril_tree.proofs.operation.first_named.Given as goal

abbrev pub invariant-operations : goal.invariant-operations
invariant-operations l = operation_among (drop l.op-index l.operations) l.name ≡ operation_among l.operations l.name
