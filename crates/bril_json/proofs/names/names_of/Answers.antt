use Rattle.bril_json.proofs.Each.{goes_on}
use Rattle.bril_json.proofs.names.names_of.Goals as goal

pub names-preserved : goal.names-preserved
names-preserved c = goes_on _ _ _ _ _ _ _ c.names.invariant c.names-test.true c.value-item.is c.in_ok-name_of.ensures.ok c.in_ok-push.ensures.ok
