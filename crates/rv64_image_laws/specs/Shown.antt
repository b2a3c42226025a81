-- What a run of so many words of the machine shows of a program.
use Rattle.std.specs.Prelude.{◌≡◌, ℕ, ◌+◌, ◌*◌, ◌≤◌, List, Option, Some, None}
use Rattle.simulation.specs.System.{IsPrefix}
use Rattle.bril_tree.specs.declared.limits.End.{End}
use Rattle.bril_tree.specs.declared.limits.Limits.{Limits}
use Rattle.bril_tree.specs.declared.program.Prog.{Prog}
use Rattle.bril_tree.specs.declared.value.Value.{Value}
use Rattle.program_numbers.specs.Cost.{IsCost}
use Rattle.bril_tree.specs.Run.{state_after}

-- After some steps the program has ended so, and has printed this.
pub record ProgramEnds (p : Prog) (limits : Limits) (args : List Value) (end : End) (output : List ℕ) : Type 0 where
  pub steps : ℕ
  pub ended : (state_after p limits args steps).ended ≡ Some end
  pub prints : (state_after p limits args steps).printed ≡ output

-- The program has not ended after any number of steps that so many words of the machine are enough for, and this is the first
-- of what it prints.
pub record ProgramRunsOn (p : Prog) (limits : Limits) (args : List Value) (words : ℕ) (output : List ℕ) : Type 0 where
  pub runs : (n cost : ℕ) → IsCost p cost → cost * (n + 1) ≤ words → (state_after p limits args n).ended ≡ None
  pub steps : ℕ
  pub begins : IsPrefix output (state_after p limits args steps).printed

-- A run of so many words ended so, or runs on for None, and printed this.
abbrev pub ProgramShows : Prog → Limits → List Value → ℕ → Option End → List ℕ → Type 0
ProgramShows p limits args words None output = ProgramRunsOn p limits args words output
ProgramShows p limits args words (Some end) output = ProgramEnds p limits args end output
