use Rattle.std.proofs.Common.{None, [], ◌∷◌, length, get_or, ap, ◌∙◌, arith, length-append}
use Rattle.ssa_build.proofs.lemmas.trivial_phis.Loop.{pushed-same}
use Rattle.ssa_build.proofs.trivial_phis.trivial.no_firsts.Goals as goal

pub loop-preserved : goal.loop-preserved
loop-preserved c =
    let e = c.in_ok-push.ensures.items in
    let i = c.loop.invariant in
    record {
      long = (let a = ap length e ∙ length-append c.loop.firsts.items (None ∷ []) in let b = i.long in omega (arith, a, b));
      unset = λ t. ap (λ l. get_or l t None) e ∙ pushed-same c.loop.firsts.items None i.unset t;
    }
