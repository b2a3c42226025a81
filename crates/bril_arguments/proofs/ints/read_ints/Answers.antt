use Rattle.bril_arguments.proofs.IntWords.{ints, len, reads, faults}
use Rattle.bril_arguments.proofs.ints.read_ints.Goals as goal

pub returns-clause-ints : goal.returns-clause-ints
returns-clause-ints c = ints c.args.words.now c.read_each.result c.read_each.ensures.ok

pub returns-clause-len : goal.returns-clause-len
returns-clause-len c = len c.args.words.now c.read_each.result c.read_each.ensures.ok

pub returns-clause-reads : goal.returns-clause-reads
returns-clause-reads c = reads c.args.words.now c.read_each.result c.read_each.ensures.ok c.read_each.ensures.fault

pub returns-clause-faults : goal.returns-clause-faults
returns-clause-faults c = faults c.args.words.now c.read_each.result c.read_each.ensures.ok c.read_each.ensures.fault
