-- The functions of accepted programs can be tabled.
use Rattle.std.specs.Prelude.{◌≡◌, ℕ, Option, Some, slice_get}
use Rattle.bril_tree.specs.declared.numbered_function.Func.{Func}
use Rattle.bril_tree.specs.declared.program.Prog.{Prog}
use Rattle.bril_tree.specs.Accepted.{IsAccepted}
use Rattle.bril_tree.specs.Operand.{Location}
use Rattle.ssa_laws.specs.reaching_definitions.Laws.{IsTabled}
use Rattle.ssa_laws.specs.reaching_definitions.Told.{AreWanted}

-- Where each function of an accepted program has a `get` for exactly what is live behind its reached labels, all that is asked
-- of its tables holds.
abbrev pub AcceptedAreTabled : Type 0
AcceptedAreTabled = (P : Prog) → IsAccepted P → (f : ℕ) (F : Func) → slice_get P.funcs f ≡ Some F → (gets : ℕ → Location → Option ℕ) → AreWanted F.code F.args gets → IsTabled F.code F.args gets
