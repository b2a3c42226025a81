use Rattle.std.proofs.Common.{◌≡◌, length, None, refl, sym, subst, arith}
use Rattle.trace_recorder.specs.Kept.{AreKept}
use Rattle.trace_recorder.proofs.AllEntries.{begins_kept}
use Rattle.trace_recorder.proofs.paths.Paths.begin.Goals as goal

pub returns-clause-kept : goal.returns-clause-kept
returns-clause-kept c =
    let p = c.args.self.now in
    let start : c.len.result ≡ length c.args.self.now.log.items = (let e = c.len.ensures in omega arith) in
    subst (AreKept (length p.log.items) p.items p.laid p.front) (sym c.push_reserved.ensures.items)
    (begins_kept (length p.log.items) p.items p.laid p.front p.held.items (record { named = c.args.named; items = p.items; laid = p.laid; start = c.len.result; end = None }) c.requires.kept c.requires.few refl refl start refl)
