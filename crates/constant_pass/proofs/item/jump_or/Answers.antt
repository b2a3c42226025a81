use Rattle.std.proofs.Common.{Some, sym, ap, ◌∙◌}
use Rattle.bril_tree.specs.Numbered.{item_tree, variable_names}
use Rattle.constant_pass.specs.Items.{jump_or}
use Rattle.constant_pass.proofs.item.jump_or.Goals as goal

pub returns-in-Some-true : goal.returns-in-Some-true
returns-in-Some-true c = λ fs instr e.
    let F = c.args.func.now in
    c.in_ok-made-in-Some-true.ensures fs ∙ ap (λ o. item_tree fs (variable_names F.vars) F.labels (jump_or o c.args.labels.now instr)) (sym (c.in-Some-true.is ∙ ap Some c.in-Some-true.field-0-test))

pub returns : goal.returns
returns c = λ fs instr e.
    let F = c.args.func.now in
    c.in_ok-made-in-Some-false.ensures fs ∙ ap (λ o. item_tree fs (variable_names F.vars) F.labels (jump_or o c.args.labels.now instr)) (sym (c.in-Some-false.is ∙ ap Some c.in-Some-false.field-0-test))
