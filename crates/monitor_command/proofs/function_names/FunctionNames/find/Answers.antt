use Rattle.std.proofs.Common.{◌≡◌, map, None, Some, sym, subst}
use Rattle.bril_names.specs.Numbering.{Finds}
use Rattle.bril_names.proofs.Tables.{find_some, find_none}
use Rattle.monitor_command.proofs.function_names.FunctionNames.find.Goals as goal

pub returns-in_err-number : goal.returns-in_err-number
returns-in_err-number c =
    let keys = c.self.inside.held.keys in
    let view : map (λ k. k.now) keys ≡ c.args.self.now = c.self.view_is in
    subst (λ r. Finds c.args.self.now c.args.name.now r) (sym c.from_residual.ensures)
    (subst (λ names. Finds names c.args.name.now None) view
    (find_none (λ k. k.now) c.args.name.now keys (sym c.in_err-number.ensures.found)))

pub returns : goal.returns
returns c =
    let keys = c.self.inside.held.keys in
    let view : map (λ k. k.now) keys ≡ c.args.self.now = c.self.view_is in
    subst (λ names. Finds names c.args.name.now (Some c.in_ok-number.number)) view
    (find_some (λ k. k.now) c.args.name.now keys c.in_ok-number.number c.in_ok-number.ensures.index)
