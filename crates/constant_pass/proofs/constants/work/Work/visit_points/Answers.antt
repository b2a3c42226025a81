use Rattle.std.proofs.Common.{◌≡◌, [], ◌∷◌, ◌++◌, length, ap, length-append, arith}
use Rattle.constant_pass.proofs.lemmas.constants.Working.{point-taken}
use Rattle.constant_pass.proofs.constants.work.Work.visit_points.Goals as goal

pub loop-point-preserved : goal.loop-point-preserved
loop-point-preserved c =
    let old = c.loop-point.self in
    let one = c.in_ok-visit.ensures in
    let inv = c.loop-point.invariant in
    let is : old.points.items ≡ c.pop.new.self.items ++ c.in-Some.point ∷ [] = c.in-Some.ensures.items in
    record {
      long = one.long;
      work = one.work [] (point-taken c.args.func.now old.known.items old.reached.items old.points.items c.pop.new.self.items old.risen.items c.in-Some.point is inv.work);
      less = (let a = one.less in let b = inv.less in let e = ap length is in let l = length-append c.pop.new.self.items (c.in-Some.point ∷ []) in omega arith);
    }
