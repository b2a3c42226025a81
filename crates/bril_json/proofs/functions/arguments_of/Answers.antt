use Rattle.bril_json.proofs.Each.{goes_on}
use Rattle.bril_json.proofs.functions.arguments_of.Goals as goal

pub arguments-preserved : goal.arguments-preserved
arguments-preserved c = goes_on _ _ _ _ _ _ _ c.arguments.invariant c.arguments-test.true c.value-item.is c.in_ok-argument_of.ensures.ok c.in_ok-push.ensures.ok
