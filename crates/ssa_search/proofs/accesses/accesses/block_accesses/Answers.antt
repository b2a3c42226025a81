use Rattle.std.proofs.Common.{◌≡◌, ◌+◌, suc, sym, subst, arith}
use Rattle.ssa_search.specs.accesses.Accesses.{AreAccessesBefore, AreBlockAccesses}
use Rattle.ssa_search.proofs.lemmas.accesses.Tracking.{all-accesses}
use Rattle.ssa_search.proofs.accesses.accesses.block_accesses.Goals as goal

pub loop-point-preserved : goal.loop-point-preserved
loop-point-preserved c =
    let next : suc c.loop-point.point ≡ c.loop-point.point + 1 = omega arith in
    record {
      long = c.in_ok-pass_item.ensures.long;
      before = subst (λ p. AreAccessesBefore c.args.func.now.code p c.pass_item.new.last.items c.pass_item.new.exposed.items c.pass_item.new.firsts.items) next c.in_ok-pass_item.ensures.behind;
    }

pub returns : goal.returns
returns c =
    let code = c.args.func.now.code in
    let all = all-accesses code c.loop-point.point c.loop-point.last.items c.loop-point.exposed.items c.loop-point.firsts.items (let over = c.loop-point-test.false in let l = c.requires.long in omega (arith, over, l)) c.loop-point.invariant.before in
    subst (λ e. AreBlockAccesses code e c.in_ok-access_lists-2.field-0.list) (sym c.in_ok-access_lists.ensures)
    (subst (λ f. AreBlockAccesses code c.loop-point.exposed.items f) (sym c.in_ok-access_lists-2.ensures) all)
