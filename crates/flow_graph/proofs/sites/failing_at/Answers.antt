use Rattle.std.proofs.Common.{◌≡◌, ℕ, Option, Some, sym, subst}
use Rattle.flow_graph.specs.Faults.{IsLeastOf, Lacks, FailsAhead, FailsFrom}
use Rattle.flow_graph.specs.declared.visits.Visit.{Visit}
use Rattle.flow_graph.proofs.Failing.{least_or}
use Rattle.flow_graph.proofs.sites.failing_at.Goals as goal

pub returns-in-Some : goal.returns-in-Some
returns-in-Some c =
    let code = c.args.code.now in
    let visits = c.args.visits.now in
    let fails : Option Visit → ℕ → Type 0 = λ kept. FailsFrom code c.args.row visits c.args.point (Some kept) in
    let both = least_or (λ p. (c.args.point ≡ p) × Lacks code c.in-Some.visit c.args.point) (FailsAhead code visits c.args.row) c.lacking.result c.failing_ahead.result c.lacking.ensures c.failing_ahead.ensures in
    subst (λ kept. IsLeastOf (fails kept) c.lesser.result) (sym c.in-Some.is)
    (subst (λ o. IsLeastOf (fails (Some c.in-Some.visit)) o) (sym c.lesser.ensures) both)
