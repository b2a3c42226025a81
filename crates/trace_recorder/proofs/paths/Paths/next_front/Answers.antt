use Rattle.std.proofs.Common.{◌≡◌, ◌<◌, ◌+◌, suc, length, sym, subst, ◌∙◌, arith}
use Rattle.trace_recorder.proofs.AllEntries.{AreGone, at_some, ended_long, gone_all, gone_first, gone_more, gone_parted}
use Rattle.trace_recorder.proofs.paths.Paths.next_front.Goals as goal

pub ended-init : goal.ended-init
ended-init c =
    let p = c.args.self.now in
    record {
      gone = gone_first c.args.passing p.items p.laid p.front p.held.items c.requires.ended;
      within = ended_long p.front p.held.items c.requires.ended;
    }

pub ended-preserved : goal.ended-preserved
ended-preserved c =
    let p = c.args.self.now in
    let less : c.ended.front < length c.args.self.now.held.items = (let a = c.ended-test.true in let b = c.len.ensures in omega arith) in
    let one : suc c.ended.front ≡ c.ended.front + 1 = omega arith in
    record {
      gone = subst (λ n. AreGone c.args.passing p.items p.laid n p.held.items) one
          (at_some p.held.items c.ended.front less (λ k at. gone_more c.args.passing p.items p.laid c.ended.front p.held.items k at (sym (c.has_ended.ensures k at) ∙ c.if-has_ended.true) c.ended.invariant.gone));
      within = omega arith;
    }

pub returns-else-has_ended : goal.returns-else-has_ended
returns-else-has_ended c =
    let p = c.args.self.now in
    let less : c.ended.front < length c.args.self.now.held.items = (let a = c.ended-test.true in let b = c.len.ensures in omega arith) in
    at_some p.held.items c.ended.front less (λ k at. gone_parted c.args.passing p.items p.laid c.ended.front p.held.items k c.ended.invariant.gone c.requires.order at (sym (c.has_ended.ensures k at) ∙ c.if-has_ended.false))

pub returns-after-ended : goal.returns-after-ended
returns-after-ended c =
    let p = c.args.self.now in
    gone_all c.args.passing p.items p.laid c.ended.front p.held.items c.ended.invariant.gone (let a = c.ended-test.false in let b = c.len.ensures in omega arith)
