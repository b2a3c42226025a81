use Rattle.std.proofs.Common.{◌≡◌, ◌-◌, subst, arith}
use Rattle.variable_renaming.specs.Clashes.{Clashes}
use Rattle.variable_coloring.specs.LiveWords.{variable_in}
use Rattle.variable_coloring.proofs.Pairing.{adds-one, adds-there, clash-below}
use Rattle.variable_coloring.proofs.pairs.Meetings.add_at.Goals as goal

pub add-requires-clause-y : goal.add-requires-clause-y
add-requires-clause-y c =
    let low = clash-below c.args.related.func.now (c.args.point - 1) c.in-Some.y (variable_in c.args.block c.args.k) (c.in-Some.ensures.some (c.args.point - 1) (let h = c.in-Some.ensures.after in omega (arith, h))) in
    let long = c.requires.done.long in
    omega (arith, low, long)

pub returns-in-None-clause-adds : goal.returns-in-None-clause-adds
returns-in-None-clause-adds c =
    let F = c.args.related.func.now in
    adds-there F c.args.block c.args.self.now.list.items (λ j p. (j ≡ c.args.k) × (p ≡ c.args.point)) (λ item y j h clash.
    let here = subst (λ i. Clashes F.code item y (variable_in c.args.block i)) h.0 clash in
    absurd (c.in-None.ensures.none item y h.1 (c.requires.prepared.marked y (clash-below F item y (variable_in c.args.block c.args.k) here)) here))

pub returns-in_ok-add-in-Some-clause-adds : goal.returns-in_ok-add-in-Some-clause-adds
returns-in_ok-add-in-Some-clause-adds c =
    let F = c.args.related.func.now in
    adds-one F c.args.block c.args.self.now.list.items c.add.new.self.list.items c.args.k c.args.point c.in-Some.y (c.requires.prepared.below (variable_in c.args.block c.args.k) c.args.point c.requires.live) c.in-Some.ensures.after c.in-Some.ensures.some c.in-Some.ensures.alone c.in_ok-add-in-Some.ensures.adds
