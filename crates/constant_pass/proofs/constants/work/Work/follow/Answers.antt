use Rattle.std.proofs.Common.{◌<◌, [], ◌∷◌, refl, sym, ap, subst, ◌∙◌, inl, inr}
use Rattle.flow_graph.specs.Branches.{branch_of, branches_of}
use Rattle.constant_pass.proofs.lemmas.constants.Branching.{leads-inside}
use Rattle.constant_pass.proofs.constants.work.Work.follow.Goals as goal

pub reach-requires : goal.reach-requires
reach-requires c =
    let code = c.args.func.now.code in
    let branch = branch_of c.in-Single.branch in
    subst (λ n. branch.to < n) (sym c.requires.long)
    (leads-inside code c.args.point c.args.item.now (branch ∷ []) c.requires.here (ap branches_of (sym c.in-Single.is) ∙ c.branches_of.ensures code c.requires.placed) branch (inl refl))

pub choose-requires-clause-first : goal.choose-requires-clause-first
choose-requires-clause-first c =
    let code = c.args.func.now.code in
    let first = branch_of c.in-Either.first in
    let second = branch_of c.in-Either.second in
    subst (λ n. first.to < n) (sym c.requires.long)
    (leads-inside code c.args.point c.args.item.now (first ∷ second ∷ []) c.requires.here (ap branches_of (sym c.in-Either.is) ∙ c.branches_of.ensures code c.requires.placed) first (inl refl))

pub choose-requires-clause-second : goal.choose-requires-clause-second
choose-requires-clause-second c =
    let code = c.args.func.now.code in
    let first = branch_of c.in-Either.first in
    let second = branch_of c.in-Either.second in
    subst (λ n. second.to < n) (sym c.requires.long)
    (leads-inside code c.args.point c.args.item.now (first ∷ second ∷ []) c.requires.here (ap branches_of (sym c.in-Either.is) ∙ c.branches_of.ensures code c.requires.placed) second (inr (inl refl)))
