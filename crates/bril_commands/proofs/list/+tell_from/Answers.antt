-- The lines of the passes from a place on are that of the pass there, and those after it.
use Rattle.std.proofs.Common.{arith}
use Rattle.bril_commands.proofs.Tallies.{tells_next}
use Rattle.bril_commands.proofs.list.+tell_from.Goals as goal

pub returns : goal.returns
returns g t c =
    tells_next (λ p. (g.dyn-1.0.entry p.vtable).1.meaning p.value) (λ p. (g.dyn-1.0.entry p.vtable).1.counts p.value) c.args.names.now c.args.passes.now c.args.place g.E.Sink.seen _ _ _ c.index-passes-place.result (omega arith) c.index-passes-place.is c.tell_used.ensures c.tell_from.ensures
