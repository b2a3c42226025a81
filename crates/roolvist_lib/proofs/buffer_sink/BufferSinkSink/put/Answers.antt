-- Where there is no room for the whole piece, its first bytes were written.
use Rattle.std.proofs.Common.{◌+◌, ◌-◌, length, arith, rules}
use Rattle.bril_outside.proofs.MemoryWrites.{TookSome-held}
use Rattle.roolvist_lib.proofs.buffer_sink.BufferSinkSink.put.Goals as goal

pub returns-clause-err : goal.returns-clause-err
returns-clause-err g c =
    let inside = c.self.inside in
    let left = inside.room + 1 - length inside.held.items in
    rw (← c.self.view_is)
    (TookSome-held inside.held.items c.args.piece.now c.append_within-2.new.held.items inside.puts c.one_more-self-inside.result left inside.faults c.saturating_add-self-inside.result (grind (arith, rules)) (omega (arith, c.append_within-2.new.held.ok.0)) (omega arith), omega arith)
