-- What spent words say of the source, where each pass is within the rows of its names: the budget of the list isn't within the words.
use Rattle.std.specs.Prelude.{◌≡◌, ℕ, ◌≤◌, List, length, None}
use Rattle.std.specs.List.{All}
use Rattle.bril_profile.specs.declared.profile.Entry.{Entry}
use Rattle.bril_tree.specs.Run.{state_after}
use Rattle.bril_tree.specs.declared.limits.Limits.{Limits}
use Rattle.bril_tree.specs.declared.program.Prog.{Prog}
use Rattle.bril_tree.specs.declared.value.Value.{Value}
use Rattle.bril_words.specs.declared.subcommands.Action.TheVariants.{Program}
use Rattle.bril_words.specs.declared.subcommands.Action.{Action}
use Rattle.bril_words.specs.declared.subcommands.PassesAction.TheVariants.{Run}
use Rattle.bril_words.specs.declared.subcommands.ProgramAction.TheVariants.{WithPasses}
use Rattle.pass_budget_laws.specs.Budget.{budget}
use Rattle.pass_budget_laws.specs.Laws.{IsWithinRows}
use Rattle.pass_budget_laws.specs.Numbers.{Numbers, AreWithin}
use Rattle.pass_budget_laws.specs.Rows.{Row}
use Rattle.bril_commands.specs.Arguments.{AreOnlyValues}
use Rattle.bril_commands.specs.Call.{Call}
use Rattle.bril_commands.specs.CommandLine.{Asks}
use Rattle.bril_commands.specs.PassList.{PassList}
use Rattle.bril_commands.specs.ProfileFiles.{IsProfileAt}
use Rattle.bril_commands.specs.Source.{IsProgramOf, WithImports}

abbrev pub AreWithinRows : List Row → PassList → Type 0
AreWithinRows rows l = All (λ pass. IsWithinRows rows (l.meaning pass)) l.before

-- The files' program, with the arguments that the words spell, has not ended after any number of steps for which the words are at least the
-- budget of the list, by these rows and the number of the profile's entries and from numbers that the program's are at most.
pub record RunsPastBudget (rows : List Row) (c : Call) (path : List ℕ) (args : List (List ℕ)) (frames cells words : ℕ) : Type 0 where
  pub source : Prog
  pub file : IsProgramOf WithImports c.files_before.holds path source
  pub values : List Value
  pub given : AreOnlyValues source args values
  pub entries : List Entry
  pub profiled : IsProfileAt c.second c.files_before.holds entries
  pub limits : Limits
  pub are : (limits.frames ≡ frames) × (limits.cells ≡ cells)
  pub runs : (numbers : Numbers) (n : ℕ) → AreWithin source numbers → budget rows (length entries) c.passes.names numbers n ≤ words → (state_after source limits values n).ended ≡ None

-- so it is with `run`; the steps of `interp` and `record` are those of the source
abbrev pub GoesPastBudget : List Row → Action → Call → List ℕ → List (List ℕ) → Type 0
GoesPastBudget rows (Program (WithPasses (Run settings))) c path args = RunsPastBudget rows c path args settings.limits.frames settings.limits.cells settings.steps
GoesPastBudget rows _ c path args = Unit {0}

pub record IsPastBudget (rows : List Row) (c : Call) : Type 0 where
  pub asks : Asks c.words
  pub goes : GoesPastBudget rows asks.action c asks.path asks.args

-- what 3 says, where each pass is within the rows of its names
abbrev pub SpentPastBudget : List Row → ℕ → Call → Type 0
SpentPastBudget rows status c = AreWithinRows rows c.passes → status ≡ 3 → IsPastBudget rows c
