-- The arguments of a program: the values that words spell, or why they spell none.
use Rattle.std.specs.Prelude.{ℕ, ◌≡◌, ◌≢◌, ◌⊎◌, ◌≤◌, List, [], ◌∷◌, length, Option, codes, ◌^◌}
use Rattle.bril_arguments.specs.Faults.{IsFaultOf}
use Rattle.bril_arguments.specs.Spelled.{AreSpelled}
use Rattle.bril_arguments.specs.declared.fault.ArgFault.TheVariants as argument
use Rattle.bril_arguments.specs.declared.fault.ArgFault.TheVariants.{Memory, Count, Spelling}
use Rattle.bril_arguments.specs.declared.fault.ArgFault.{ArgFault}
use Rattle.bril_report.specs.Report.{count_pieces, spelling_pieces}
use Rattle.bril_report.specs.declared.status.Status.TheVariants as status
use Rattle.bril_report.specs.declared.status.Status.{Status}
use Rattle.bril_tree.specs.Run.{main_types}
use Rattle.bril_tree.specs.declared.program.Prog.{Prog}
use Rattle.bril_tree.specs.declared.types.Ty.{Ty}
use Rattle.bril_tree.specs.declared.value.Value.{Value}

-- The words have this fault as arguments of these types, which is no want of memory.
abbrev pub HasArgFault : List (Option Ty) → List (List ℕ) → ArgFault → Type 0
HasArgFault types words fault = (fault ≢ Memory) × IsFaultOf types words fault

-- The words have this fault as arguments of these types and no other, and spell no values.
pub record HasOnlyArgFault (types : List (Option Ty)) (words : List (List ℕ)) (fault : ArgFault) : Type 0 where
  pub has : HasArgFault types words fault
  pub only : (other : ArgFault) → HasArgFault types words other → fault ≡ other
  pub unspelled : (values : List Value) → AreSpelled types words values → ⊥

-- The words spell these values as the arguments of `main`, and no others, and have no fault.
pub record AreOnlyValues (p : Prog) (args : List (List ℕ)) (values : List Value) : Type 0 where
  pub spelled : AreSpelled (main_types p) args values
  pub only : (other : List Value) → AreSpelled (main_types p) args other → values ≡ other
  pub faultless : (fault : ArgFault) → HasArgFault (main_types p) args fault → ⊥

-- why words are no arguments of `main`: memory runs out only for values that they spell, or where no number of 32
-- bits counts them
abbrev pub RefusesArgs : Status → Prog → List (List ℕ) → Type 0
RefusesArgs (status.ArgumentCount given wanted) p args = HasOnlyArgFault (main_types p) args (argument.Count given wanted)
RefusesArgs (status.BadArgument place) p args = HasOnlyArgFault (main_types p) args (argument.Spelling place)
RefusesArgs status.OutOfMemory p args = (2 ^ 32 ≤ length args) ⊎ IsFaultOf (main_types p) args argument.Memory
RefusesArgs _ p args = ⊥

-- the line of a fault of the arguments
abbrev pub argument_pieces : ArgFault → List (List ℕ)
argument_pieces (Count given wanted) = count_pieces given wanted
argument_pieces (Spelling place) = spelling_pieces place
argument_pieces Memory = codes "out of memory\n" ∷ []
