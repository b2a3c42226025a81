use Rattle.std.proofs.Common.{IfNone, IfSome, subst}
use Rattle.bril_tree.specs.declared.program.Prog.{Prog}
use Rattle.coalesce.specs.Merge.{IsNextRound}
use Rattle.coalesce.specs.Rounds.{HasNoneApart}
use Rattle.coalesce.proofs.Made.{first-farther, made-by, more-farther}
use Rattle.coalesce.proofs.merge.merged.Goals as goal

pub loop-last-init : goal.loop-last-init
loop-last-init c = first-farther c.args.prog.now c.requires.accepted c.in_ok-last.last.prog c.in_ok-last.ensures

pub loop-last-preserved : goal.loop-last-preserved
loop-last-preserved c =
    more-farther c.args.prog.now c.requires.accepted c.loop-last.last.prog c.in-Some.made.prog c.loop-last.invariant
    (subst (λ (P : Prog). IsNextRound P c.in-Some.made.prog) c.prog.ensures.value (subst (λ o. IfSome o (λ made. IsNextRound c.prog.result.now made.prog)) c.in-Some.is c.in_ok-made.ensures.next))

pub returns : goal.returns
returns c =
    made-by c.args.prog.now c.requires.accepted c.loop-last.last.prog c.loop-last.invariant
    (subst HasNoneApart c.prog.ensures.value (subst (λ o. IfNone o (HasNoneApart c.prog.result.now)) c.in_default.is c.in_ok-made.ensures.none))
