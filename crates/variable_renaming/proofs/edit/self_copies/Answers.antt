use Rattle.std.proofs.Common.{length, ap, arith}
use Rattle.variable_renaming.proofs.Editing.{marks-more, marks-all}
use Rattle.variable_renaming.proofs.edit.self_copies.Goals as goal

pub loop-point-preserved : goal.loop-point-preserved
loop-point-preserved c = marks-more c.args.func.now c.args.class.now c.loop-point.point c.loop-point.marks.items c.push.new.self.items c.is_reached_copy.result c.in_ok-push.ensures.items c.is_reached_copy.ensures.within c.is_reached_copy.ensures.other c.loop-point.invariant

pub returns : goal.returns
returns c = marks-all c.args.func.now c.args.class.now c.loop-point.point c.loop-point.marks.items (let over = c.loop-point-test.false in let e = c.loop-point.auto.point-end in omega (arith, ap length c.as_slice-item-items.ensures)) c.loop-point.invariant
