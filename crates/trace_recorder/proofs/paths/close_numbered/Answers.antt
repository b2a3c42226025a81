use Rattle.std.proofs.Common.{◌⊎◌, inl, inr, ◌<◌, length, arith}
use Rattle.trace_recorder.proofs.AllEntries.{closes_same, none_here, one_closes, one_here}
use Rattle.trace_recorder.proofs.paths.close_numbered.Goals as goal
use Rattle.trace_recorder.proofs.paths.close_numbered.Goals.{else-number-gt0-via-then-number-gt0+else-number-len, else-number-gt0-via-else-number-gt0}

pub returns-then-number-len-clause-closed : goal.returns-then-number-len-clause-closed
returns-then-number-len-clause-closed c =
    one_closes c.args.arrival c.args.number c.args.end c.args.held.now.items c.index_mut.result.now c.close_at.new.self
    (let a = c.if-number-gt0.true in omega arith) (let a = c.if-number-len.true in let b = c.len.ensures in omega arith) c.index_mut.ensures.value c.close_at.ensures

pub returns-then-number-len-clause-own : goal.returns-then-number-len-clause-own
returns-then-number-len-clause-own c =
    one_here c.args.arrival c.args.number c.args.end c.args.held.now.items c.index_mut.result.now c.close_at.new.self
    (let a = c.if-number-gt0.true in omega arith) (let a = c.if-number-len.true in let b = c.len.ensures in omega arith) c.index_mut.ensures.value c.close_at.ensures

pub returns-else-number-gt0-clause-closed : goal.returns-else-number-gt0-clause-closed
returns-else-number-gt0-clause-closed c = closes_same c.args.end c.args.held.now.items

pub returns-else-number-gt0-clause-own : goal.returns-else-number-gt0-clause-own
returns-else-number-gt0-clause-own c =
    let out : (c.args.number < 1) ⊎ (length c.args.held.now.items < c.args.number) =
    elim c.else-number-gt0.branch [ else-number-gt0-via-then-number-gt0+else-number-len w ↦ inr (let a = w.if-number-len.false in let b = w.len.ensures in omega arith) | else-number-gt0-via-else-number-gt0 w ↦ inl (let a = w.if-number-gt0.false in omega arith) ] in
    none_here c.args.arrival c.args.number c.args.end c.args.held.now.items out
