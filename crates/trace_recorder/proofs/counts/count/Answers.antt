use Rattle.std.proofs.Common.{◌<◌, length, arith}
use Rattle.trace_recorder.proofs.Moving.{count_row}
use Rattle.trace_recorder.proofs.counts.count.Goals as goal

pub returns-then-func-len : goal.returns-then-func-len
returns-then-func-len c =
    let less : c.args.arrival.func < length c.args.counts.now.items = (let a = c.if-func-len.true in let b = c.len.ensures in omega arith) in
    count_row (λ r. r.items) c.args.counts.now.items c.args.arrival c.index_mut.result.now c.count_label.new.counts less c.index_mut.ensures.value c.count_label.ensures
