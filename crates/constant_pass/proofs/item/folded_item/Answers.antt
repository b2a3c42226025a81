use Rattle.std.proofs.Common.{sym, ap, ◌∙◌}
use Rattle.bril_tree.specs.Numbered.{item_tree, variable_names}
use Rattle.constant_pass.specs.constants.Answer.{answer}
use Rattle.constant_pass.specs.constants.Kept.{told}
use Rattle.constant_pass.specs.Edit.{constant_tree}
use Rattle.constant_pass.specs.Items.{constant_or, literal_of}
use Rattle.constant_pass.proofs.Editing.{constant-by, folds-other}
use Rattle.constant_pass.proofs.item.folded_item.Goals as goal

pub returns-in_default-op : goal.returns-in_default-op
returns-in_default-op c = λ fs e.
    let F = c.args.func.now in
    let V = variable_names F.vars in
    let k = (told c.args.table.now).known in
    let a = c.args.instr.now in
    let act = c.in-Act in
    let l = literal_of (answer k a) in
    c.constant_or.ensures ∙ ap (λ z. constant_tree z c.args.item) (c.literal_of.ensures ∙ ap literal_of c.answer.ensures) ∙ ap (constant_tree l) (e ∙ ap (item_tree fs V F.labels) act.is)
    ∙ constant-by fs V F.labels l act.dest act.ty act.op act.args act.funcs act.labels ∙ ap (λ z. item_tree fs V F.labels (constant_or l act.dest act.ty z)) (sym act.is)
    ∙ ap (item_tree fs V F.labels) (sym (folds-other k a act.dest act.ty act.op act.args act.funcs act.labels act.is c.in_default-op.not-Br c.in_default-op.not-Guard))
