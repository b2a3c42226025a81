use Rattle.shadow_place.proofs.Widening.{widen_span}
use Rattle.shadow_place.proofs.spans.cover_span.Goals as goal

pub returns : goal.returns
returns c = widen_span c.args.number c.args.span c.args.spans.now.items c.cover.new.spans.items c.cover-2.new.spans.items c.cover.ensures c.cover-2.ensures
