use Rattle.std.proofs.lemmas.Result.{IfOk-weaker}
use Rattle.constant_pass.specs.constants.Kept.{told}
use Rattle.constant_pass.specs.Edit.{IsMadeByTable}
use Rattle.constant_pass.proofs.edit.folded_function.Goals as goal

pub returns : goal.returns
returns c =
    IfOk-weaker c.folded_by.result _ (IsMadeByTable c.args.func.now c.args.function)
    (λ made e. record { table = told c.in_ok-table.table; least = record { consistent = c.in_ok-table.ensures.consistent; least = c.in_ok-table.ensures.least }; by_table = e }) c.folded_by.ensures
