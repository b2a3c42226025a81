use Rattle.bril_demo.proofs.Acceptance.{demo_faultless, demo_is_accepted, demo_takes_nothing}
use Rattle.bril_demo.proofs.laws.demos_are_accepted.Goals as goal

pub returns : goal.returns
returns c = record { faultless = demo_faultless; accepted = demo_is_accepted; alone = demo_takes_nothing }
