use Rattle.std.proofs.Common.{sym, true≢false}
use Rattle.side_pairs.proofs.meeting.is_guard_on_at.Goals as goal

pub returns-in-None : goal.returns-in-None
returns-in-None c = ((λ e. absurd (true≢false (sym e))), (λ g. absurd (c.in-None.ensures c.args.condition g)))
