use Rattle.std.proofs.Common.{◌∙◌, arith}
use Rattle.shadow_place.proofs.Widening.{sites_more}
use Rattle.shadow_place.proofs.spans.site_spans.Goals as goal

pub loop-point-preserved : goal.loop-point-preserved
loop-point-preserved c = record {
  long = c.cover_sites.ensures.long ∙ c.loop-point.invariant.long;
  open_there = sites_more c.args.graph.now.sites c.loop-point.point c.loop-point.spans.items c.cover_sites.new.spans.items c.loop-point.invariant.open_there c.cover_sites.ensures;
}

pub returns-clause-open : goal.returns-clause-open
returns-clause-open c = λ at site point less is. c.loop-point.invariant.open_there at site point (omega (arith, less, c.loop-point-test.false)) is
