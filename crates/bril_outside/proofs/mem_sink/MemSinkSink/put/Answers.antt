-- Where there is no room for the whole piece, its first bytes were written.
use Rattle.std.proofs.Common.{◌-◌, length, arith, rules}
use Rattle.bril_outside.proofs.MemoryWrites.{TookSome-held}
use Rattle.bril_outside.proofs.mem_sink.MemSinkSink.put.Goals as goal

pub returns-then-left-piece-clause-err : goal.returns-then-left-piece-clause-err
returns-then-left-piece-clause-err c =
    let inside = c.self.inside in
    let left = inside.room - length inside.held.items in
    rw (← c.self.view_is)
    (TookSome-held inside.held.items c.args.piece.now c.append_within.new.held.items inside.puts c.count_after-self-inside.result left inside.faults c.saturating_add-self-inside-then-left-piece.result (grind (arith, rules)) (omega (arith, c.append_within.new.held.ok.0)) (omega arith), omega arith)
