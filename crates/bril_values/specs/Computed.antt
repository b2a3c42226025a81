-- Outcomes, as contracts see them.
use Rattle.bril_tree.specs.Outcome.{Outcome, Yields, FaultsWith, HasEffect}
use Rattle.bril_values.specs.declared.outcome.Outcome.{Outcome as Answer}
use Rattle.bril_values.specs.declared.outcome.Outcome.TheVariants as answer

-- the outcome of the semantics
abbrev pub outcome_seen : Answer → Outcome
outcome_seen (answer.Yields v) = Yields v
outcome_seen (answer.FaultsWith kind) = FaultsWith kind
outcome_seen answer.HasEffect = HasEffect
