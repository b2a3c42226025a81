use Rattle.bril_json.specs.Form.{function_of}
use Rattle.bril_json.proofs.Each.{HasRead}
use Rattle.bril_json.proofs.functions.functions_of.Given as goal

abbrev pub invariant-functions : goal.invariant-functions
invariant-functions l = HasRead function_of l.list l.funcs l.index
