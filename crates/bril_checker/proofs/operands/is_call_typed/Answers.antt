use Rattle.std.proofs.Common.{sym, ◌∙◌, refl}
use Rattle.bril_tree.specs.Typing.{variable_type}
use Rattle.bril_checker.proofs.Typing.{some_given}
use Rattle.bril_checker.proofs.operands.is_call_typed.Goals as goal

pub returns-else-is_empty : goal.returns-else-is_empty
returns-else-is_empty c =
    let none = c.in-None.ensures in
    let wrong = some_given (variable_type c.args.func.now.vars) c.args.args.now (sym c.is_empty.ensures ∙ c.if-is_empty.false) in
    rw (← none, c.if-is_empty.false, ← wrong) refl
