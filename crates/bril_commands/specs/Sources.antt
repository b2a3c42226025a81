-- What a run of a program that was made of a source shows of the source.
use Rattle.std.specs.Prelude.{◌≡◌, ℕ, ◌+◌, ◌*◌, ◌≤◌, List, Option, Some, None}
use Rattle.simulation.specs.System.{IsPrefix}
use Rattle.bril_tree.specs.declared.limits.End.{End}
use Rattle.bril_tree.specs.declared.limits.Limits.{Limits}
use Rattle.bril_tree.specs.declared.program.Prog.{Prog}
use Rattle.bril_tree.specs.declared.value.Value.{Value}
use Rattle.program_numbers.specs.Cost.{IsCost}
use Rattle.bril_tree.specs.Run.{state_after}
use Rattle.rv64_image_laws.specs.Shown.{ProgramEnds}

-- The source has not ended after any number of steps n for which the words are at least the cost of a step of the program that was
-- made, times the factor, times n + 1; and this is the first of what it prints.
pub record SourceRunsOn (source made : Prog) (IsFactor : ℕ → Type 0) (limits : Limits) (values : List Value) (words : ℕ) (output : List ℕ) : Type 0 where
  pub runs : (n cost factor : ℕ) → IsCost made cost → IsFactor factor → cost * (factor * (n + 1)) ≤ words → (state_after source limits values n).ended ≡ None
  pub steps : ℕ
  pub begins : IsPrefix output (state_after source limits values steps).printed

-- A run of so many words ended so, or runs on for None, and printed this.
abbrev pub SourceShows : (source made : Prog) → (IsFactor : ℕ → Type 0) → Limits → List Value → (words : ℕ) → Option End → List ℕ → Type 0
SourceShows source made IsFactor limits values words None output = SourceRunsOn source made IsFactor limits values words output
SourceShows source made IsFactor limits values words (Some end) output = ProgramEnds source limits values end output
