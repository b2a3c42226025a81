use Rattle.std.proofs.Common.{◌≡◌, ◌+◌, suc, length, ap, subst, arith}
use Rattle.ssa_search.specs.gets.Wants.{gets_of}
use Rattle.ssa_build.specs.sources.Sweeping.{AreOperandsBefore, told_at}
use Rattle.ssa_search.specs.renaming.Tells.{TellsNow}
use Rattle.ssa_search.proofs.lemmas.renaming.Sweeping.{sweep-tells_tables}
use Rattle.ssa_laws.specs.reaching_definitions.Told.{into_at}
use Rattle.ssa_build.proofs.sources.sweep.sweep_items.Goals as goal

pub leave-requires-clause-tells : goal.leave-requires-clause-tells
leave-requires-clause-tells c =
    let F = c.args.func.now in
    let next : suc c.loop-point.point ≡ c.loop-point.point + 1 = omega arith in
    subst (λ k. TellsNow (told_at F.code F.args (gets_of c.args.wants.now) k) c.go_on.new.now) next c.go_on.ensures

pub leave-requires-clause-before : goal.leave-requires-clause-before
leave-requires-clause-before c =
    let F = c.args.func.now in
    let next : suc c.loop-point.point ≡ c.loop-point.point + 1 = omega arith in
    subst (λ k. AreOperandsBefore F.code F.args (gets_of c.args.wants.now) k c.loop-point.operands.items) next c.loop-point.invariant.before

pub loop-point-preserved : goal.loop-point-preserved
loop-point-preserved c =
    let F = c.args.func.now in
    let p = c.loop-point.point in
    let next : suc p ≡ p + 1 = omega arith in
    record {
      tells = subst (λ k. TellsNow (into_at F.code F.args (gets_of c.args.wants.now) k) c.go_on.new.now) next ((sweep-tells_tables F.code F.args (gets_of c.args.wants.now) c.go_on.new.now).1 p c.go_on.ensures);
      before = c.in_ok-leave.ensures;
    }

pub returns : goal.returns
returns c =
    let F = c.args.func.now in
    let all : c.loop-point.point ≡ length F.code = (let over = c.loop-point-test.false in let e = c.loop-point.auto.point-end in let l = ap length c.as_slice-point-end.ensures in omega (arith, over, e, l)) in
    subst (λ k. AreOperandsBefore F.code F.args (gets_of c.args.wants.now) (suc k) c.loop-point.operands.items) all c.loop-point.invariant.before
