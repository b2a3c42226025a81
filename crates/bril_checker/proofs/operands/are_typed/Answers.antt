use Rattle.bril_tree.specs.Typing.{variable_type}
use Rattle.bril_checker.proofs.Typing.{other_length}
use Rattle.bril_checker.proofs.operands.are_typed.Goals as goal

pub returns-then-args-parameters : goal.returns-then-args-parameters
returns-then-args-parameters c = other_length (variable_type c.args.func.now.vars) c.args.args.now c.args.parameters.now c.if-args-parameters.true
