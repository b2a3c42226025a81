use Rattle.profile_text.proofs.Cuts.{lacks_at}
use Rattle.profile_text.proofs.Faults.{fault_first, no_first_line}
use Rattle.profile_text.proofs.reading.profile_of.Goals as goal

pub returns-in_default-clause-fault : goal.returns-in_default-clause-fault
returns-in_default-clause-fault c = fault_first c.args.source.now (λ version next after e same. lacks_at 10 c.args.source.now next after c.in_default.ensures e)

pub returns-in_default-version_of-clause-fault : goal.returns-in_default-version_of-clause-fault
returns-in_default-version_of-clause-fault c = no_first_line c.args.source.now c.in-Some.first.now c.in-Some.rest.now c.in-Some.ensures.0 c.in-Some.ensures.1 c.in_default-version_of.ensures
