use Rattle.bril_json.proofs.Each.{goes_on_numbered}
use Rattle.bril_json.proofs.functions.functions_of.Goals as goal

pub functions-preserved : goal.functions-preserved
functions-preserved c = goes_on_numbered _ _ _ _ _ _ _ _ c.functions.invariant c.functions-test.true c.index-list-index.is c.in_ok-number_of.ensures.ok c.in_ok-function_of.ensures.ok c.in_ok-push.ensures.ok
