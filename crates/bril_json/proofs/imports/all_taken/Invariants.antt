use Rattle.bril_json.specs.Form.{taken_of}
use Rattle.bril_json.proofs.Each.{HasRead}
use Rattle.bril_json.proofs.imports.all_taken.Given as goal

abbrev pub invariant-taken : goal.invariant-taken
invariant-taken l = HasRead (λ n. taken_of) l.list l.names l.value-index
