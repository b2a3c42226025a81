use Rattle.std.proofs.Common.{◌≡◌, ◌+◌, ap, ◌∙◌, subst, arith, length}
use Rattle.shadow_place.specs.Marks.{AddsAll, IsMarkedBefore}
use Rattle.shadow_place.proofs.Saving.{more_labels}
use Rattle.shadow_place.proofs.saved.mark_labels.Goals as goal

pub loop-label-preserved : goal.loop-label-preserved
loop-label-preserved c = record {
  nodes = c.in_ok-mark_label.ensures.nodes ∙ c.loop-label.invariant.nodes;
  marks = more_labels c.args.known.now c.args.level c.loop-label.label c.args.rows.now.items c.loop-label.rows.items c.mark_label.new.rows.items c.loop-label.invariant.marks c.in_ok-mark_label.ensures.marks;
}

pub returns : goal.returns
returns c =
    let a = c.args.known.now in
    let done : c.loop-label.label ≡ length a.func.now.code + 1 = omega (arith, c.loop-label-test.false, ap length c.as_slice.ensures) in
    subst (λ n. AddsAll (IsMarkedBefore a c.args.level n) c.args.rows.now.items c.loop-label.rows.items) done c.loop-label.invariant.marks
