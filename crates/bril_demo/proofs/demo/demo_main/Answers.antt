use Rattle.std.proofs.Common.{◌∙◌}
use Rattle.bril_demo.proofs.Lists.{called_more}
use Rattle.bril_demo.proofs.demo.demo_main.Goals as goal

pub loop-j-preserved : goal.loop-j-preserved
loop-j-preserved c = c.in_ok-add_call.ensures ∙ called_more _ c.loop-j.invariant
