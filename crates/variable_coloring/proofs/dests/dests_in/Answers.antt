use Rattle.std.proofs.Common.{arith, ap, length}
use Rattle.std.proofs.lemmas.List.{length_push}
use Rattle.variable_coloring.proofs.Pairing.{dests-all, dests-more}
use Rattle.variable_coloring.proofs.dests.dests_in.Goals as goal

pub loop-point-preserved : goal.loop-point-preserved
loop-point-preserved c =
    let i = c.loop-point.invariant in
    let pushed = c.in_ok-push-2.ensures.items in
    record {
      long = (let h = ap length pushed in let g = length_push c.loop-point.dests.items c.reached_dest.result in let l = i.long in omega (arith, h, g, l));
      dests = dests-more c.args.func.now.code c.loop-point.dests.items c.push-in-loop-point.new.self.items c.loop-point.point c.reached_dest.result i.long pushed c.reached_dest.ensures i.dests;
    }

pub returns : goal.returns
returns c =
    let same = ap length c.as_slice-item-items.ensures in
    dests-all c.args.func.now.code c.loop-point.dests.items c.loop-point.point (let h = c.loop-point.auto.point-end in omega (arith, h, same)) (let h = c.loop-point-test.false in omega (arith, h, same)) c.loop-point.invariant.long c.loop-point.invariant.dests
