use Rattle.bril_json.proofs.Each.{goes_on_numbered}
use Rattle.bril_json.proofs.items.items_of.Goals as goal

pub items-preserved : goal.items-preserved
items-preserved c = goes_on_numbered _ _ _ _ _ _ _ _ c.items.invariant c.items-test.true c.index-list-index.is c.in_ok-number_of.ensures.ok c.in_ok-item_of.ensures.ok c.in_ok-push.ensures.ok
