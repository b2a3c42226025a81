use Rattle.bril_json.proofs.Each.{goes_on}
use Rattle.bril_json.proofs.imports.imports_of.Goals as goal

pub imports-preserved : goal.imports-preserved
imports-preserved c = goes_on _ _ _ _ _ _ _ c.imports.invariant c.imports-test.true c.value-item.is c.in_ok-import_of.ensures.ok c.in_ok-push.ensures.ok
