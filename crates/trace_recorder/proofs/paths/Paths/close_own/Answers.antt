use Rattle.std.proofs.Common.{◌≡◌, length, subst, arith}
use Rattle.trace_recorder.specs.Kept.{ClosesSome}
use Rattle.trace_recorder.proofs.AllEntries.{closes_kept, closes_places}
use Rattle.trace_recorder.proofs.paths.Paths.close_own.Goals as goal

pub returns-clause-kept : goal.returns-clause-kept
returns-clause-kept c =
    let p = c.args.self.now in
    let end : c.len-end.result ≡ length c.args.self.now.log.items = (let e = c.len-end.ensures in omega arith) in
    closes_kept (length p.log.items) p.items p.laid p.front p.held.items c.close_numbered.new.held.items (subst (λ n. ClosesSome n p.held.items c.close_numbered.new.held.items) end c.close_numbered.ensures.closed) c.requires

pub returns-clause-places : goal.returns-clause-places
returns-clause-places c = closes_places c.len-end.result c.args.self.now.held.items c.close_numbered.new.held.items c.close_numbered.ensures.closed
