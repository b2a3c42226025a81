-- Words that are spent were no budget.
use Rattle.std.proofs.Common.{◌≡◌, ℕ, Bool, List, Option, Some, None, refl, subst}
use Rattle.bril_tree.specs.Run.{state_after}
use Rattle.bril_tree.specs.declared.limits.End.{End}
use Rattle.bril_tree.specs.declared.program.Prog.{Prog}
use Rattle.bril_tree.specs.declared.value.Value.{Value}
use Rattle.bril_words.specs.declared.subcommands.Action.TheVariants.{Program}
use Rattle.bril_words.specs.declared.subcommands.Action.{Action}
use Rattle.bril_words.specs.declared.subcommands.PassesAction.TheVariants.{Run}
use Rattle.bril_words.specs.declared.subcommands.ProgramAction.TheVariants.{WithPasses}
use Rattle.pass_budget_laws.specs.Rows.{Row}
use Rattle.bril_commands.specs.Answers.{Answers, GoesOn, Promises}
use Rattle.bril_commands.specs.Budgets.{AreWithinRows, GoesPastBudget, RunsPastBudget, SpentPastBudget}
use Rattle.bril_commands.specs.Call.{Call}
use Rattle.bril_commands.specs.Comes.{CommandComesTo, ProgramComesTo}
use Rattle.bril_commands.specs.Command.{LinkedFiles}
use Rattle.bril_commands.specs.Outcome.{Outcome}
use Rattle.bril_commands.specs.Table.{command}
use Rattle.bril_commands.specs.commands.Run.{RunShows, runs}

-- where the machine goes on, the source has not ended in any number of steps for which the words are enough by the list
pub runs_past_list : {source made : Prog} {IsFactor : ℕ → Type 0} {AreEnough : (steps words : ℕ) → Type 0} {values : List Value} {frames cells words : ℕ} {stats : Bool} {told output : List (List ℕ)}
    (shows : RunShows source made IsFactor AreEnough values frames cells words stats None told output) (n : ℕ) → AreEnough n words → (state_after source shows.limits values n).ended ≡ None
runs_past_list {source} {made} {IsFactor} {AreEnough} {values} {frames} {cells} {words} {stats} {told} {output} shows n enough = by (state_after source shows.limits values n).ended refl
  where
    by : (o : Option End) → (state_after source shows.limits values n).ended ≡ o → (state_after source shows.limits values n).ended ≡ None
    by None e = e
    by (Some end) e = let h = shows.ends_by_list n end enough e in absurd (let none : ◌≡◌ {A = Option End} None (Some end) = h.0 in cc)

module _ (rows : List Row) (c : Call) (each : AreWithinRows rows c.passes) (path : List ℕ) (args : List (List ℕ)) (steps : ℕ) (told output : List (List ℕ)) where
  abbrev Goes : Outcome → Type 0
  Goes o = (steps ≡ o.steps) × o.Shows None told output

  of-run : (frames cells words : ℕ) (stats : Bool) → ProgramComesTo LinkedFiles (runs frames cells words stats) c path args Goes → RunsPastBudget rows c path args frames cells words
  of-run frames cells words stats x = record {
    source = x.program;
    file = x.file;
    values = x.values;
    given = x.given;
    entries = x.entries;
    profiled = x.profiled;
    limits = x.is.1.limits;
    are = x.is.1.are;
    runs = λ numbers n within enough. runs_past_list x.is.1 n (record { rows = rows; each = each; numbers = numbers; within = within; enough = enough });
  }

  of-action : (action : Action) → CommandComesTo (command action) c path args Goes → GoesPastBudget rows action c path args
  of-action (Program (WithPasses (Run settings))) x = of-run settings.limits.frames settings.limits.cells settings.steps settings.stats x
  of-action _ x = tt

pub spent-past_budget : (rows : List Row) (status : ℕ) (c : Call) → Promises status c → SpentPastBudget rows status c
spent-past_budget rows status c promises each is =
    let goes : GoesOn c = subst (λ n. Answers n c) is promises.answers in
    record { asks = goes.asks; goes = of-action rows c each goes.asks.path goes.asks.args goes.steps goes.told goes.output goes.asks.action goes.comes }
