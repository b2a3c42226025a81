use Rattle.std.proofs.Common.{refl}
use Rattle.profile_text.proofs.Faults.{no_line, no_entry}
use Rattle.profile_text.proofs.reading.next_parts.Goals as goal

pub returns-in_default-clause-fault : goal.returns-in_default-clause-fault
returns-in_default-clause-fault c = (refl, λ _. no_line c.args.version c.args.rest.now c.in_default.ensures)

pub returns-in-None-clause-fault : goal.returns-in-None-clause-fault
returns-in-None-clause-fault c = (refl, λ _. no_entry c.args.version c.args.rest.now c.in-Some.next.now c.in-Some.after.now c.in-Some.ensures.0 c.in-Some.ensures.1 c.in-None.ensures)
