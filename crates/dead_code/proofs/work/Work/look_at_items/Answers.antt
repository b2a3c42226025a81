use Rattle.std.proofs.Common.{get_or, refl, ◌∙◌, arith}
use Rattle.dead_code.proofs.Looking.{looked-more}
use Rattle.dead_code.proofs.work.Work.look_at_items.Goals as goal

pub loop-item-init : goal.loop-item-init
loop-item-init c = record {
  count = refl;
  looking = c.requires.looking;
  looked = λ k d low. absurd (omega arith);
  less = omega arith;
}

pub loop-item-preserved : goal.loop-item-preserved
loop-item-preserved c =
    let inv = c.loop-item.invariant in
    let one = c.in_ok-look_at_item.ensures in
    record {
      count = one.count ∙ inv.count;
      looking = one.looking;
      looked = looked-more c.loop-item.self.dead.items c.look_at_item.new.self.dead.items c.args.reached.now.found c.args.items.now c.loop-item.item-index (get_or c.args.items.now c.loop-item.item-index 0) c.loop-item-test.true refl one.kept inv.looked one.looked;
      less = let h = one.less in let k = inv.less in omega arith;
    }
