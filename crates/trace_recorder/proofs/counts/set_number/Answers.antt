use Rattle.std.proofs.Common.{◌<◌, length, arith}
use Rattle.trace_recorder.proofs.Moving.{number_row}
use Rattle.trace_recorder.proofs.counts.set_number.Goals as goal

pub returns-then-func-len : goal.returns-then-func-len
returns-then-func-len c =
    let less : c.args.arrival.func < length c.args.numbers.now.items = (let a = c.if-func-len.true in let b = c.len.ensures in omega arith) in
    number_row (λ r. r.items) c.args.numbers.now.items c.args.arrival c.args.number c.index_mut.result.now c.set_at.new.numbers less c.index_mut.ensures.value c.set_at.ensures
