use Rattle.profile_text.proofs.Faults.{reads_text, tells_fault}
use Rattle.profile_text.proofs.reading.read_profile.Goals as goal

pub returns-clause-reads : goal.returns-clause-reads
returns-clause-reads c = reads_text c.args.source.now c.profile_of.result c.profile_of.ensures.text c.profile_of.ensures.fault

pub returns-clause-faults : goal.returns-clause-faults
returns-clause-faults c = tells_fault c.args.source.now c.profile_of.result c.profile_of.ensures.text c.profile_of.ensures.fault
