use Rattle.std.proofs.Common.{sym, ◌∙◌, refl, inr}
use Rattle.std.proofs.lemmas.Bool.{false≢true}
use Rattle.std.proofs.lemmas.Option.{MatchOption-at_some, MatchOption-at_none}
use Rattle.definite_assignment.specs.Unassigned.{IsFirstUnassigned}
use Rattle.bril_checker.proofs.Program.{no_shape_fault}
use Rattle.bril_checker.proofs.Stages.{passing_accepted}
use Rattle.bril_checker.proofs.checker.check_function.Goals as goal

pub graph_of-requires-clause-shaped : goal.graph_of-requires-clause-shaped
graph_of-requires-clause-shaped c = no_shape_fault c.args.prog.now c.args.func.now c.in_ok-check_items.ensures.0

pub first_unassigned-requires-clause-shaped : goal.first_unassigned-requires-clause-shaped
first_unassigned-requires-clause-shaped c = no_shape_fault c.args.prog.now c.args.func.now c.in_ok-check_items.ensures.0

pub returns-in-Some-2-clause-fault : goal.returns-in-Some-2-clause-fault
returns-in-Some-2-clause-fault c =
    inr (
      refl,
      ((c.in_ok-check_items.ensures, c.in_ok-graph.ensures.sound), c.in_default.ensures),
      λ some reached. false≢true (sym c.if-falls_off_end.false ∙ c.falls_off_end.ensures.1 (some, reached)),
      MatchOption-at_some _ (λ u. IsFirstUnassigned c.args.func.now u.item u.var) c.in-Some-2.found c.in-Some-2.is c.in_ok-found.ensures,
    )

pub returns-clause-accepted : goal.returns-clause-accepted
returns-clause-accepted c =
    passing_accepted c.args.prog.now c.args.func.now (
      ((c.in_ok-check_items.ensures, c.in_ok-graph.ensures.sound), c.in_default.ensures),
      λ some reached. false≢true (sym c.if-falls_off_end.false ∙ c.falls_off_end.ensures.1 (some, reached)),
      MatchOption-at_none _ (λ u. IsFirstUnassigned c.args.func.now u.item u.var) c.in_default-2.is c.in_ok-found.ensures,
    )
