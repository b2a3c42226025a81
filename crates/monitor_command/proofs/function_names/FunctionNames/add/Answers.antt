use Rattle.std.proofs.Common.{◌≡◌, map, subst}
use Rattle.bril_names.specs.Numbering.{Adds}
use Rattle.bril_names.proofs.Tables.{added}
use Rattle.pass_make.proofs.Taking.{added-new}
use Rattle.monitor_command.proofs.function_names.FunctionNames.add.Goals as goal

pub returns : goal.returns
returns c =
    let before = c.self.inside.held.keys in
    let after = c.insert.new.self.keys in
    let view : map (λ k. k.now) before ≡ c.args.self.now = c.self.view_is in
    added-new c.args.self.now c.args.name.now (map (λ k. k.now) after) c.in_ok-insert.field-0
    (subst (λ names. Adds names c.args.name.now (map (λ k. k.now) after) c.in_ok-insert.field-0) view
    (added (λ k. k.now) before c.args.name after c.in_ok-insert.field-0 c.in_ok-insert.ensures.added c.in_ok-insert.ensures.keys)) c.requires
