use Rattle.ssa_build.specs.code.Layout.{view_of}
use Rattle.ssa_build.proofs.lemmas.code.Pushing.{leaving-more}
use Rattle.std.proofs.Common.{get_or, refl}
use Rattle.ssa_build.proofs.code.sweep.push_leaving.Goals as goal

pub loop-label-preserved : goal.loop-label-preserved
loop-label-preserved c =
    leaving-more (view_of c.args.layout.now) c.args.now.now c.args.labels.now c.loop-label.label-index (get_or c.args.labels.now c.loop-label.label-index 0) c.args.code.now c.loop-label.code c.push_sets_to.new.code c.loop-label-test.true refl c.loop-label.invariant c.in_ok-push_sets_to.ensures
