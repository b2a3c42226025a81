use Rattle.std.proofs.Common.{◌≡◌, ◌<◌, length, get_or, sym, subst, ◌∙◌, cond}
use Rattle.bril_names.specs.Range.{AreInRange}
use Rattle.bril_names.proofs.Items.{AreInRange-at}
use Rattle.bril_tree.specs.Numbered.{item_tree, nop_item}
use Rattle.pass_edit_laws.proofs.lemmas.plan.Marked.{nops-nil}
use Rattle.graph_search.specs.Marks.{is_marked}
use Rattle.variable_renaming.proofs.Editing.{nops-next}
use Rattle.variable_renaming.proofs.edit.made_items.Goals as goal

pub loop-point-init : goal.loop-point-init
loop-point-init c = c.new-code.ensures ∙ sym (nops-nil nop_item c.args.marks.now)

pub made_item-requires : goal.made_item-requires
made_item-requires c =
    let code = c.as_slice-item-items.result.now in
    let labels = c.as_slice-labels.result.now in
    let all = subst (λ l. AreInRange (length c.args.funcs.now) (length c.args.vars.now) (length l) code) (sym c.as_slice-labels.ensures) (subst (AreInRange (length c.args.funcs.now) (length c.args.vars.now) (length c.args.func.now.labels)) (sym c.as_slice-item-items.ensures) c.requires.range) in
    AreInRange-at (length c.args.funcs.now) (length c.args.vars.now) (length labels) code c.loop-point.point c.item-item.result c.loop-point-test.true c.item-item.is all

pub loop-point-preserved : goal.loop-point-preserved
loop-point-preserved c =
    let F = c.args.func.now in
    let code = c.as_slice-item-items.result.now in
    let T = item_tree c.args.funcs.now c.args.vars.now F.labels in
    let same = c.as_slice-item-items.ensures in
    let one : c.in_ok-made_item.field-0 ≡ cond (is_marked c.args.marks.now c.loop-point.point) nop_item (T c.item-item.result) =
    c.in_ok-made_item.ensures ∙ (λ i. cond (c.is_marked-empty.ensures i) nop_item (item_tree c.args.funcs.now c.args.vars.now (c.as_slice-labels.ensures i) c.item-item.result)) in
    nops-next nop_item T c.args.marks.now F.code c.loop-point.point c.item-item.result c.loop-point.code c.push.new.self c.in_ok-made_item.field-0 (subst (λ l. c.loop-point.point < length l) same c.loop-point-test.true) (subst (λ l. c.item-item.result ≡ get_or l c.loop-point.point c.item-item.result) same c.item-item.is) c.loop-point.invariant one c.in_ok-push.ensures.ok
