use Rattle.bril_checker.proofs.Faultless.{faultless_are_accepted}
use Rattle.bril_checker.proofs.FirstFaults.{accepted_have_no_fault, faults_are_one}
use Rattle.bril_checker.proofs.laws.accepted_or_fault.Goals as goal

pub returns-clause-accepted : goal.returns-clause-accepted
returns-clause-accepted c = accepted_have_no_fault

pub returns-clause-faultless : goal.returns-clause-faultless
returns-clause-faultless c = faultless_are_accepted

pub returns-clause-one : goal.returns-clause-one
returns-clause-one c = faults_are_one
