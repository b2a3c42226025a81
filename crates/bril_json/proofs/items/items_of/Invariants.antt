use Rattle.bril_json.specs.Form.{item_of}
use Rattle.bril_json.proofs.Each.{HasRead}
use Rattle.bril_json.proofs.items.items_of.Given as goal

abbrev pub invariant-items : goal.invariant-items
invariant-items l = HasRead (item_of l.func) l.list l.items l.index
