use Rattle.std.proofs.Common.{length, ap, arith, below_more, sym, ◌∙◌}
use Rattle.std.proofs.lemmas.Bool.{false≢true}
use Rattle.bril_tree.proofs.Branches.{walk_within}
use Rattle.bril_checker.proofs.walks.first_open.Goals as goal

pub loop-point-preserved : goal.loop-point-preserved
loop-point-preserved c =
    below_more _ _ c.loop-point.invariant (λ h. false≢true (sym c.if-leaves_open.false ∙ c.leaves_open.ensures.1 h))

pub returns : goal.returns
returns c point h =
    let within = walk_within c.args.func.now.code h.walk h.is in
    let ends = h.ends in
    let same = ap length c.as_slice.ensures in
    c.loop-point.invariant point (omega arith) h
