use Rattle.std.proofs.Common.{refl, sym, ◌∙◌}
use Rattle.std.proofs.lemmas.Bool.{eqb-true}
use Rattle.ssa_build.specs.trivial_phis.Trivial.{Again}
use Rattle.ssa_build.proofs.trivial_phis.trivial.Work.passes.Goals as goal

pub returns-else-stands-y-clause-passes : goal.returns-else-stands-y-clause-passes
returns-else-stands-y-clause-passes c = λ e.
    let less = c.requires.first c.in-Some.other c.in-Some.is in
    Again c.in-Some.other c.in-Some.is (sym c.find-found.ensures.found ∙ sym (eqb-true c.find-stands.result c.find-found.result e) ∙ c.find-stands.ensures.found ∙ c.find-found.ensures.same.find c.in-Some.other less) refl
