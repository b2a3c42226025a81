use Rattle.std.proofs.Common.{◌≡◌, ◌∷◌, ◌+◌, drop, get_or, sym, subst, arith, add-one, drop-cons}
use Rattle.constant_pass.specs.constants.Work.{IsWork}
use Rattle.constant_pass.proofs.lemmas.constants.Working.{location-taken}
use Rattle.constant_pass.proofs.constants.work.Work.revisit.Goals as goal

pub loop-item-init : goal.loop-item-init
loop-item-init c =
    let old = c.args.self.now in
    record {
      long = c.requires.long;
      work = subst (IsWork c.args.func.now old.known.items old.reached.items old.points.items old.risen.items) (sym c.as_slice-item-items.ensures.value)
          (location-taken c.args.func.now old.known.items old.reached.items old.points.items old.risen.items c.args.number c.args.reads.now.list c.in_ok-items.items.items c.requires.reads c.in_ok-items.ensures c.requires.work);
      less = omega arith;
    }

pub loop-item-preserved : goal.loop-item-preserved
loop-item-preserved c =
    let old = c.loop-item.self in
    let one = c.in_ok-visit.ensures in
    let inv = c.loop-item.invariant in
    let items = c.as_slice-item-items.result.now in
    let i = c.loop-item.item-index in
    let low = c.loop-item-test.true in
    let split : drop i items ≡ get_or items i 0 ∷ drop (i + 1) items = rw (add-one, drop-cons items i 0) in
    record {
      long = one.long;
      work = one.work (drop (i + 1) items) (subst (IsWork c.args.func.now old.known.items old.reached.items old.points.items old.risen.items) split inv.work);
      less = (let a = one.less in let b = inv.less in omega arith);
    }
