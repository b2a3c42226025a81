-- 74: what a command puts on an output that hasn't room for all of it.
use Rattle.std.specs.Prelude.{ℕ, ◌≡◌, List, [], ◌∷◌, ◌++◌, Option, codes}
use Rattle.bril_outside.specs.Sink.{joined}
use Rattle.bril_report.specs.Puts.{Puts, WritesSome}
use Rattle.bril_tree.specs.Run.{state_after}
use Rattle.bril_tree.specs.declared.program.Prog.{Prog}
use Rattle.bril_tree.specs.declared.value.Value.{Value}
use Rattle.bril_words.specs.declared.request.RunSettings.{RunSettings}
use Rattle.bril_words.specs.declared.subcommands.Action.TheVariants as action
use Rattle.bril_words.specs.declared.subcommands.Action.{Action}
use Rattle.bril_words.specs.declared.subcommands.PassesAction.TheVariants as passes
use Rattle.bril_words.specs.declared.subcommands.ProgramAction.TheVariants as program
use Rattle.rv64_words.specs.State.{Stop}
use Rattle.bril_commands.specs.Call.{Call}
use Rattle.bril_commands.specs.Comes.{CommandComesTo}
use Rattle.bril_commands.specs.Command.{AreGiven, OfMain}
use Rattle.bril_commands.specs.Outcome.{ShowsSo}
use Rattle.bril_commands.specs.Source.{WithImports, IsProgramOf}
use Rattle.bril_commands.specs.Table.{command}

-- The command comes to this, and the output took the first part of what it puts.
pub record CommandUnwritten (asked : Action) (c : Call) (path : List ℕ) (args : List (List ℕ)) : Type 0 where
  pub ended : Option Stop
  pub untold : List (List ℕ)
  pub told : List (List ℕ)
  pub output : List (List ℕ)
  pub comes : CommandComesTo (command asked) c path args (λ o. (told ≡ o.unwritten) × ShowsSo o ended untold output)
  pub took : WritesSome c.out_before output c.out_after
  pub says : Puts c.err_before (told ++ codes "cannot write\n" ∷ []) c.err_after

-- A program is run, whatever passes made of it: it prints this first, and the output took the first part of it.
pub record RunUnwritten (settings : RunSettings) (c : Call) (path : List ℕ) (args : List (List ℕ)) : Type 0 where
  pub source : Prog
  pub file : IsProgramOf WithImports c.files_before.holds path source
  pub values : List Value
  pub given : AreGiven OfMain source args values
  pub steps : ℕ
  pub output : List (List ℕ)
  pub rest : List ℕ
  pub begins : (state_after source settings.limits values steps).printed ≡ joined output ++ rest
  pub took : WritesSome c.out_before output c.out_after
  pub says : Puts c.err_before (codes "cannot write\n" ∷ []) c.err_after

-- What was put, by the command that is asked for: nothing is said here of one that writes what a list of passes makes.
abbrev pub IsUnwritten : Action → Call → (path : List ℕ) → (args : List (List ℕ)) → Type 0
IsUnwritten (action.Bytes does) c path args = CommandUnwritten (action.Bytes does) c path args
IsUnwritten (action.File does) c path args = CommandUnwritten (action.File does) c path args
IsUnwritten (action.Tree does) c path args = CommandUnwritten (action.Tree does) c path args
IsUnwritten (action.Program (program.AsItStands does)) c path args = CommandUnwritten (action.Program (program.AsItStands does)) c path args
IsUnwritten (action.Program (program.Monitor settings)) c path args = CommandUnwritten (action.Program (program.Monitor settings)) c path args
IsUnwritten (action.Program (program.WithPasses (passes.Run settings))) c path args = RunUnwritten settings c path args
IsUnwritten (action.Program (program.WithPasses (passes.Emit limits))) c path args = Unit {0}
IsUnwritten (action.Program (program.WithPasses (passes.List limits))) c path args = Unit {0}
IsUnwritten (action.Program (program.WithPasses (passes.Wrap limits))) c path args = Unit {0}
IsUnwritten (action.Program (program.WithPasses passes.Passes)) c path args = Unit {0}
IsUnwritten (action.Demo functions) c path args = Unit {0}
