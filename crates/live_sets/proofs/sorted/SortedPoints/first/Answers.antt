use Rattle.std.proofs.Common.{ap, sym, ◌∙◌}
use Rattle.std.specs.Prelude.{slice_get}
use Rattle.live_sets.proofs.Sets.{first-is}
use Rattle.live_sets.proofs.sorted.SortedPoints.first.Goals as goal

pub returns-in-Some : goal.returns-in-Some
returns-in-Some c =
    first-is c.args.self.now.points.items c.in-Some.point.now c.args.self.now.rising
    (ap (λ l. slice_get l 0) (sym c.as_slice.ensures.value) ∙ sym c.in-Some.ensures.value)
