use Rattle.std.proofs.Common.{[], ◌∷◌}
use Rattle.rv64_groups.specs.declared.resolved.Resolved.TheVariants.{Div}
use Rattle.rv64_processor.proofs.Stretches.{has_at, went_more}
use Rattle.rv64_processor.proofs.processor.Processor.divide.Goals as goal

pub returns-then-self-divides-clause-went : goal.returns-then-self-divides-clause-went
returns-then-self-divides-clause-went c = λ m code h. c.branch_by_zero.ensures.went m code h.0

pub returns-clause-went : goal.returns-clause-went
returns-clause-went c = λ m code h.
    went_more (c.branch_by_zero.ensures.went m code h.0) (c.sum.ensures.went m code (has_at code (Div c.args.rd c.args.rs1 c.args.rs2 ∷ []) c.if-self-divides.false h.1))
