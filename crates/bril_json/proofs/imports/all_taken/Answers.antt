use Rattle.bril_json.proofs.Each.{goes_on}
use Rattle.bril_json.proofs.imports.all_taken.Goals as goal

pub taken-preserved : goal.taken-preserved
taken-preserved c = goes_on _ _ _ _ _ _ _ c.taken.invariant c.taken-test.true c.value-item.is c.in_ok-taken_of.ensures.ok c.in_ok-push.ensures.ok
