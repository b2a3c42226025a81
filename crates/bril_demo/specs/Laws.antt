-- Laws of the demo program.
use Rattle.std.specs.Prelude.{◌≡◌, ℕ, ◌<◌, ◌^◌, []}
use Rattle.bril_names.specs.Faults.{HasFault}
use Rattle.bril_names.specs.declared.fault.NameFault.{NameFault}
use Rattle.bril_tree.specs.Accepted.{IsAccepted}
use Rattle.bril_tree.specs.Numbered.{Numbered}
use Rattle.bril_tree.specs.Run.{main_types}
use Rattle.bril_tree.specs.declared.program.Prog.{Prog}
use Rattle.bril_demo.specs.Demo.{demo_tree}

-- its names have no fault
abbrev pub DemosHaveNoFault : Type 0
DemosHaveNoFault = (n : ℕ) (fault : NameFault) → n < 2 ^ 64 → HasFault (demo_tree n) fault → ⊥

-- its program is accepted
abbrev pub DemosAreAccepted : Type 0
DemosAreAccepted = (n : ℕ) (p : Prog) → n < 2 ^ 64 → Numbered (demo_tree n) p → IsAccepted p

-- its `main` takes no arguments
abbrev pub DemosTakeNothing : Type 0
DemosTakeNothing = (n : ℕ) (p : Prog) → n < 2 ^ 64 → Numbered (demo_tree n) p → main_types p ≡ []
