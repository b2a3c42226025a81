use Rattle.std.proofs.Common.{take, Some}
use Rattle.bril_names.specs.Numbering.{FindsAll}
use Rattle.bril_names.proofs.numbering.items.find_all.Given as goal

-- the numbers of the names so far
abbrev pub invariant-loop-name : goal.invariant-loop-name
invariant-loop-name l = FindsAll l.known (take l.name-index l.names) (Some l.numbers)
