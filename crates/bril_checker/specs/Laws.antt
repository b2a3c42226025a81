-- Laws of faults.
use Rattle.std.specs.Prelude.{◌≡◌}
use Rattle.bril_tree.specs.Accepted.{IsAccepted}
use Rattle.bril_tree.specs.declared.program.Prog.{Prog}
use Rattle.bril_checker.specs.Faults.{HasFault}
use Rattle.bril_checker.specs.declared.fault.CheckFault.{CheckFault}

abbrev pub AcceptedHaveNoFault : Type 0
AcceptedHaveNoFault = (p : Prog) (fault : CheckFault) → IsAccepted p → ¬ HasFault p fault

abbrev pub FaultsAreOne : Type 0
FaultsAreOne = (p : Prog) (fault other : CheckFault) → HasFault p fault → HasFault p other → fault ≡ other

abbrev pub FaultlessAreAccepted : Type 0
FaultlessAreAccepted = (p : Prog) → ((fault : CheckFault) → ¬ HasFault p fault) → IsAccepted p
