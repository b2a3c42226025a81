use Rattle.std.proofs.Common.{◌-◌, ap, length, sym, ◌∙◌}
use Rattle.std.specs.Prelude.{slice_get}
use Rattle.live_sets.proofs.Sets.{last-is}
use Rattle.live_sets.proofs.sorted.SortedPoints.last.Goals as goal

pub returns-in-Some : goal.returns-in-Some
returns-in-Some c =
    last-is c.args.self.now.points.items c.in-Some.point.now c.args.self.now.rising
    (ap (λ l. slice_get l (length l - 1)) (sym c.as_slice.ensures.value) ∙ sym c.in-Some.ensures.value)
