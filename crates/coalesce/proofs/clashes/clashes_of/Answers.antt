use Rattle.std.proofs.Common.{arith, ◌∙◌}
use Rattle.coalesce.proofs.Finding.{more-below, all-clashes}
use Rattle.coalesce.proofs.clashes.clashes_of.Goals as goal

pub loop-x-preserved : goal.loop-x-preserved
loop-x-preserved c = record {
  nodes = c.push_variable.ensures.points ∙ c.loop-x.invariant.nodes;
  below = more-below c.args.related.func.now.code c.args.related.marks.now c.loop-x.x c.loop-x.list.items c.push_variable.new.list.items c.loop-x.invariant.below c.in_ok-push_variable.ensures.adds;
}

pub returns : goal.returns
returns c = all-clashes c.args.related.func.now.code c.args.related.marks.now c.loop-x.x c.loop-x.list.items (let h = c.loop-x-test.false in omega (arith, h)) c.loop-x.invariant.below
