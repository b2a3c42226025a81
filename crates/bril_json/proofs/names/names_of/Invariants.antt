use Rattle.bril_json.specs.Form.{name_of}
use Rattle.bril_json.proofs.Each.{HasRead}
use Rattle.bril_json.proofs.names.names_of.Given as goal

abbrev pub invariant-names : goal.invariant-names
invariant-names l = HasRead (λ n. name_of l.position) l.list l.names l.value-index
