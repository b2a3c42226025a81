use Rattle.std.proofs.Common.{sym, true≢false}
use Rattle.side_pairs.proofs.Choosing.{turned-tells}
use Rattle.side_pairs.proofs.meeting.inverts.Goals as goal

pub returns-in_default : goal.returns-in_default
returns-in_default c = ((λ e. absurd (true≢false (sym e))), (λ t. absurd (c.in_default.ensures t.n t.nots)))

pub returns : goal.returns
returns c =
    turned-tells c.args.code.now c.args.item c.args.condition c.in-Some.n c.in-Some.ensures c.if-n-condition.false (c.is_guard_on_at.ensures.0 c.if-not-is_guard_on_at.false) c.is_alone.result (c.is_alone.ensures c.args.code.now c.requires.readers)
