-- Completeness: nothing is refused without a cause. `bril_top` (src/top.rt) promises it of every call, by its clause `complete`.
use Rattle.std.specs.Prelude.{ℕ, ◌≡◌, ◌⊎◌, List, Some}
use Rattle.bril_outside.specs.Sink.{Rose}
use Rattle.bril_profile.specs.declared.profile.Entry.{Entry}
use Rattle.bril_tree.specs.Accepted.{IsAccepted}
use Rattle.bril_tree.specs.Numbered.{Numbered}
use Rattle.bril_tree.specs.declared.limits.Limits.{Limits}
use Rattle.bril_tree.specs.declared.program.Prog.{Prog}
use Rattle.bril_tree.specs.declared.tree.Tree.{Tree}
use Rattle.bril_tree.specs.declared.value.Value.{Value}
use Rattle.bril_words.specs.declared.subcommands.Action.TheVariants as action
use Rattle.bril_words.specs.declared.subcommands.Action.{Action}
use Rattle.bril_words.specs.declared.subcommands.BytesAction.TheVariants as bytes
use Rattle.bril_words.specs.declared.subcommands.PassesAction.TheVariants as passes
use Rattle.bril_words.specs.declared.subcommands.ProgramAction.TheVariants as program
use Rattle.bril_words.specs.declared.subcommands.SourceAction.TheVariants as source
use Rattle.rv64_image_laws.specs.WordBounds.{IsWithin}
use Rattle.bril_commands.specs.Call.{Call}
use Rattle.bril_commands.specs.Comes.{ReadsWell, UnlessMemory}
use Rattle.bril_commands.specs.Command.{Command, OnBytes, OnFile, OnTree, OnProgram, OfBytes, Origin, OfProgram, AreLimitsOf, Makes, Spell, reach_of}
use Rattle.bril_commands.specs.PassList.{IsFirstUnknown, IsRefusedPass}
use Rattle.bril_commands.specs.Profiles.{IsProfileFrom}
use Rattle.bril_commands.specs.Source.{Reach, Alone, WithImports, HaveTree, HoldsBytes}
use Rattle.bril_commands.specs.Table.{command}

-- ---- how a command ends that did its work

-- 0, 2 or 3: a run has ended, has stopped with a fault, or goes on after its steps
abbrev pub EndsRun : ℕ → Type 0
EndsRun status = (status ≡ 0) ⊎ ((status ≡ 2) ⊎ (status ≡ 3))

-- The statuses of each command. `exec` may trap, `demo` tells a fault of its program on the output, and what runs nothing ends with 0.
abbrev pub Ends : Action → ℕ → Type 0
Ends (action.Bytes (bytes.Execute settings)) status = EndsRun status ⊎ (status ≡ 4)
Ends (action.Program (program.AsItStands (source.Interpret settings))) status = EndsRun status
Ends (action.Program (program.AsItStands (source.Record settings))) status = EndsRun status
Ends (action.Program (program.WithPasses (passes.Run settings))) status = EndsRun status
Ends (action.Program (program.Monitor settings)) status = EndsRun status
Ends (action.Demo functions) status = (status ≡ 0) ⊎ (status ≡ 3)
Ends _ status = status ≡ 0

-- ---- where nothing has a cause to be refused

-- The file has few enough bytes and the form that the command reads, and the words spell its arguments.
pub record AreGoodBytes (does : OfBytes) (c : Call) (path : List ℕ) (args : List (List ℕ)) : Type 0 where
  pub bytes : List ℕ
  pub held : HoldsBytes c.files_before.holds path bytes
  pub read : does.Read
  pub are_read : does.AreRead bytes read
  pub values : List Value
  pub given : does.AreGiven read args values

-- The files have a tree.
pub record HaveGoodTree (reach : Reach) (c : Call) (path : List ℕ) : Type 0 where
  pub tree : Tree
  pub have : HaveTree reach c.files_before.holds path tree

-- The program is good for the command.
pub record IsGoodProgram (origin : Origin) (does : OfProgram) (c : Call) (path : List ℕ) (args : List (List ℕ)) : Type 0 where
  -- the files have a tree, whose names stand for what is there, and the program keeps the rules of the language
  pub tree : Tree
  pub have : HaveTree (reach_of origin) c.files_before.holds path tree
  pub program : Prog
  pub numbered : Numbered tree program
  pub accepted : IsAccepted program
  -- the words spell its arguments
  pub values : List Value
  pub spelled : Spell does.arguments program args values
  -- the second file has the form of a profile or of a script, where the command takes one; these are the entries of the profile
  pub entries : List Entry
  pub profiled : IsProfileFrom does.profile c.second c.files_before.holds program entries
  -- a pass answers to each name of the list of passes, and none refuses what it is given
  pub known : (place : ℕ) → ¬ IsFirstUnknown c.passes (Some place)
  pub small : (place bound : ℕ) → ¬ IsRefusedPass c.passes entries program place bound
  -- what they make has few enough words of code and of stack, where the command makes an image of it
  pub fits : (made : Prog) → Makes does.takes_passes c.passes entries program made → (limits : Limits) → AreLimitsOf does.emission limits → IsWithin made limits

-- what a command works on is good for it
abbrev pub IsGood : Command → Call → List ℕ → List (List ℕ) → Type 0
IsGood (OnBytes does) c path args = AreGoodBytes does c path args
IsGood (OnFile outcome) c path args = HaveGoodTree Alone c path
IsGood (OnTree outcome) c path args = HaveGoodTree WithImports c path
IsGood (OnProgram origin does) c path args = IsGoodProgram origin does c path args

-- The words are taken and ask for this, all that is read of files that are told is good for it, and no read and no write to the output failed.
pub record NothingIsWrong (c : Call) (asked : Action) : Type 0 where
  pub reads : ReadsWell c asked
  pub good : IsGood (command asked) c reads.path reads.args
  pub written : ¬ Rose c.out_before.faults c.out_after.faults

-- ---- completeness

-- Where nothing is wrong, the command did its work, unless memory ran out.
abbrev pub IsComplete : ℕ → Call → Type 0
IsComplete status c = (asked : Action) → NothingIsWrong c asked → UnlessMemory status (Ends asked status)
