use Rattle.bril_json.specs.Form.{argument_of}
use Rattle.bril_json.proofs.Each.{HasRead}
use Rattle.bril_json.proofs.functions.arguments_of.Given as goal

abbrev pub invariant-arguments : goal.invariant-arguments
invariant-arguments l = HasRead (λ n. argument_of l.position) l.list l.args l.value-index
