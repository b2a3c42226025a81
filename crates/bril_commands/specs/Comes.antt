-- What a call reads of its files, what it tells, and what its command comes to.
use Rattle.std.specs.Prelude.{ℕ, ◌≡◌, ◌⊎◌, List, [], ◌∷◌, ◌++◌, Option, Some, None}
use Rattle.bril_outside.specs.Sink.{Rose}
use Rattle.bril_profile.specs.declared.profile.Entry.{Entry}
use Rattle.bril_report.specs.Lines.{fault_line}
use Rattle.bril_report.specs.Puts.{Puts}
use Rattle.bril_report.specs.Report.{spent_pieces, trap_pieces}
use Rattle.bril_tree.specs.declared.limits.End.TheVariants.{Ended, Faulted}
use Rattle.bril_tree.specs.declared.limits.End.{End}
use Rattle.bril_tree.specs.declared.program.Prog.{Prog}
use Rattle.bril_tree.specs.declared.tree.Tree.{Tree}
use Rattle.bril_tree.specs.declared.value.Value.{Value}
use Rattle.bril_words.specs.declared.subcommands.Action.{Action}
use Rattle.rv64_words.specs.State.{Stop, Finished, Trapped}
use Rattle.bril_commands.specs.Call.{Call}
use Rattle.bril_commands.specs.Command.{Command, OnBytes, OnFile, OnTree, OnProgram, OfBytes, OfProgram, Origin, AreGiven, Makes, Fits, profile_of, reach, reach_of}
use Rattle.bril_commands.specs.CommandLine.{Asks, AsksFor}
use Rattle.bril_commands.specs.Driver.{subject}
use Rattle.bril_commands.specs.Outcome.{Outcome}
use Rattle.bril_commands.specs.Profiles.{IsProfileFrom, IsSourceTold}
use Rattle.bril_commands.specs.Source.{Reach, Alone, WithImports, AreTold, HoldsBytes, IsProgramOf, IsTreeAt}
use Rattle.bril_commands.specs.Table.{command}

-- nothing was put on the output, and this line on the error output, in these pieces
pub record SaysAlone (c : Call) (line : List (List ℕ)) : Type 0 where
  pub silent : c.out_after ≡ c.out_before
  pub says : Puts c.err_before line c.err_after

-- The words ask for this of files that are told, where it reads some, and no read of them failed.
pub record ReadsWell (c : Call) (action : Action) : Type 0 where
  pub path : List ℕ
  pub args : List (List ℕ)
  pub asked : AsksFor c.words action path args
  pub told : AreTold (reach (command action)) c.files_before.holds
  pub told_profile : IsSourceTold (profile_of (command action)) c.second c.files_before.holds
  pub sound : ¬ Rose c.files_before.faults c.files_after.faults

-- this status, unless memory ran out
abbrev pub UnlessMemory : ℕ → Type 0 → Type 0
UnlessMemory status answer = (status ≡ 71) ⊎ answer

-- what is said of a run of so many steps, or words of the machine, that has stopped so, None where it goes on, after what is told
abbrev pub TellsRun : Option Stop → ℕ → List (List ℕ) → ℕ → Call → Type 0
TellsRun None steps told number c = (number ≡ 3) × Puts c.err_before (told ++ spent_pieces steps) c.err_after
TellsRun (Some (Finished Ended)) steps told number c = (number ≡ 0) × Puts c.err_before told c.err_after
TellsRun (Some (Finished (Faulted fault))) steps told number c = (number ≡ 2) × Puts c.err_before (told ++ fault_line fault ∷ []) c.err_after
TellsRun (Some (Trapped trap)) steps told number c = (number ≡ 4) × Puts c.err_before (told ++ trap_pieces trap) c.err_after

-- ---- what a command comes to

-- The bytes of the file at the path are read, the words give values of the arguments, and this holds of what it comes to.
pub record BytesComeTo (does : OfBytes) (c : Call) (path : List ℕ) (args : List (List ℕ)) (Is : Outcome → Type 0) : Type 0 where
  pub bytes : List ℕ
  pub held : HoldsBytes c.files_before.holds path bytes
  pub read : does.Read
  pub are_read : does.AreRead bytes read
  pub values : List Value
  pub given : does.AreGiven read args values
  pub is : Is (does.outcome read values)

-- The files, of which the first is at the path, have a tree, and this holds of what it comes to.
pub record TreeComesTo (reach : Reach) (outcome : Tree → Outcome) (c : Call) (path : List ℕ) (Is : Outcome → Type 0) : Type 0 where
  pub tree : Tree
  pub file : IsTreeAt reach c.files_before.holds path tree
  pub is : Is (outcome tree)

-- The files are linked into an accepted program, or the demo is one, the words spell its arguments, the second file is the profile with these
-- entries, or the script, the list of passes makes a program of it that is within the bounds of an image, each where the command asks for it, and this
-- holds of what it comes to.
pub record ProgramComesTo (origin : Origin) (does : OfProgram) (c : Call) (path : List ℕ) (args : List (List ℕ)) (Is : Outcome → Type 0) : Type 0 where
  pub program : Prog
  pub file : IsProgramOf (reach_of origin) c.files_before.holds path program
  pub values : List Value
  pub given : AreGiven does.arguments program args values
  pub entries : List Entry
  pub profiled : IsProfileFrom does.profile c.second c.files_before.holds program entries
  pub made : Prog
  pub makes : Makes does.takes_passes c.passes entries program made
  pub fits : Fits does.emission made
  pub is : Is (does.outcome (subject does c.passes c.second c.files_before.holds entries program made makes values))

-- this holds of what a command comes to on the files of which the first is at a path, with these arguments
abbrev pub CommandComesTo : Command → Call → List ℕ → List (List ℕ) → (Outcome → Type 0) → Type 0
CommandComesTo (OnBytes does) c path args Is = BytesComeTo does c path args Is
CommandComesTo (OnFile outcome) c path args Is = TreeComesTo Alone outcome c path Is
CommandComesTo (OnTree outcome) c path args Is = TreeComesTo WithImports outcome c path Is
CommandComesTo (OnProgram origin does) c path args Is = ProgramComesTo origin does c path args Is

-- this holds of what the command comes to that the words ask for
abbrev pub ComesTo : (c : Call) → Asks c.words → (Outcome → Type 0) → Type 0
ComesTo c asks Is = CommandComesTo (command asks.action) c asks.path asks.args Is
