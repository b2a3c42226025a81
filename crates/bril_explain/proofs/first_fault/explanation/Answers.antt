-- The program is accepted.
use Rattle.bril_explain.proofs.first_fault.explanation.Goals as goal

pub returns-in-Ok-clause-ok : goal.returns-in-Ok-clause-ok
returns-in-Ok-clause-ok g c = (c.in-Ok.field-0.prog, c.in-Ok.ensures.ok)
