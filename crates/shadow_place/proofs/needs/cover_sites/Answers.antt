use Rattle.std.proofs.Common.{get_or}
use Rattle.std.proofs.lemmas.Option.{slice_get-get_or}
use Rattle.shadow_place.specs.declared.spans.Span.{Span}
use Rattle.shadow_place.proofs.Needing.{open_more}
use Rattle.shadow_place.proofs.needs.cover_sites.Goals as goal

pub loop-site-preserved : goal.loop-site-preserved
loop-site-preserved c =
    let sites = c.args.sites.now in
    let i = c.loop-site.site in
    let none : Span = record { first = 0; last = 0 } in
    open_more c.args.live.now c.args.numbers.now sites i (get_or sites i none) c.args.spans.now.items c.loop-site.spans.items c.cover_site.new.spans.items
    (slice_get-get_or sites i none c.loop-site-test.true) c.loop-site.invariant c.cover_site.ensures
