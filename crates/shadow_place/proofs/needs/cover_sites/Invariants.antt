use Rattle.shadow_place.specs.Spans.{IsOpenSlot, Widens}
use Rattle.shadow_place.proofs.needs.cover_sites.Given as goal

-- the sites so far
abbrev pub invariant-loop-site : goal.invariant-loop-site
invariant-loop-site l = Widens (IsOpenSlot l.live l.numbers l.sites l.site) l.fn.spans.items l.spans.items
