use Rattle.bril_json.specs.Form.{import_of}
use Rattle.bril_json.proofs.Each.{HasRead}
use Rattle.bril_json.proofs.imports.imports_of.Given as goal

abbrev pub invariant-imports : goal.invariant-imports
invariant-imports l = HasRead (λ n. import_of) l.list l.imports l.value-index
