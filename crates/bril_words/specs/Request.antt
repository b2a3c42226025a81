-- What words ask for.
use Rattle.std.specs.Prelude.{ℕ, ◌≤◌, List, Option}
use Rattle.bril_words.specs.declared.subcommands.Action.{Action}
use Rattle.bril_words.specs.declared.subcommands.Action.TheVariants as action
use Rattle.bril_words.specs.declared.subcommands.BytesAction.{BytesAction}
use Rattle.bril_words.specs.declared.subcommands.BytesAction.TheVariants.{Execute}
use Rattle.bril_words.specs.declared.subcommands.PassesAction.{PassesAction}
use Rattle.bril_words.specs.declared.subcommands.PassesAction.TheVariants.{Run}
use Rattle.bril_words.specs.declared.subcommands.ProgramAction.{ProgramAction}
use Rattle.bril_words.specs.declared.subcommands.ProgramAction.TheVariants.{AsItStands, WithPasses, Monitor}
use Rattle.bril_words.specs.declared.subcommands.SourceAction.{SourceAction}
use Rattle.bril_words.specs.declared.subcommands.SourceAction.TheVariants.{Interpret, Record}

-- an action, the path of its file, empty where it has none, the list of passes that the words give, the path of the second file that
-- the words name, if they name one: that of a profile, or of a script; and the arguments of the file's program
pub record Asked : Type 0 where
  pub action : Action
  pub path : List ℕ
  pub list : List ℕ
  pub second : Option (List ℕ)
  pub args : List (List ℕ)

-- the numbers of an action are in their ranges; those of limits always are
pub record AreSteps (steps : ℕ) : Type 0 where
  pub some_steps : 1 ≤ steps
  pub few_steps : steps ≤ 1000000000000

pub record AreRecorded (hot most : ℕ) : Type 0 where
  pub some_hot : 1 ≤ hot
  pub few_hot : hot ≤ 65536
  pub some_most : 1 ≤ most
  pub few_most : most ≤ 64

pub record AreFunctions (functions : ℕ) : Type 0 where
  pub some : 1 ≤ functions
  pub few : functions ≤ 150

abbrev pub ArePassesInRange : PassesAction → Type 0
ArePassesInRange (Run settings) = AreSteps settings.steps
ArePassesInRange _ = Unit {0}

abbrev pub IsSourceInRange : SourceAction → Type 0
IsSourceInRange (Interpret settings) = AreSteps settings.steps
IsSourceInRange (Record settings) = AreSteps settings.steps × AreRecorded settings.hot settings.most
IsSourceInRange _ = Unit {0}

abbrev pub IsProgramInRange : ProgramAction → Type 0
IsProgramInRange (AsItStands does) = IsSourceInRange does
IsProgramInRange (WithPasses does) = ArePassesInRange does
IsProgramInRange (Monitor settings) = AreSteps settings.steps

abbrev pub AreBytesInRange : BytesAction → Type 0
AreBytesInRange (Execute settings) = AreSteps settings.steps
AreBytesInRange _ = Unit {0}

abbrev pub IsActionInRange : Action → Type 0
IsActionInRange (action.Program program) = IsProgramInRange program
IsActionInRange (action.Bytes bytes) = AreBytesInRange bytes
IsActionInRange (action.Demo functions) = AreFunctions functions
IsActionInRange _ = Unit {0}

-- what is done with an accepted program as it stands
abbrev pub as_it_stands : SourceAction → Action
as_it_stands does = action.Program (AsItStands does)

-- what is done with the program that a list of passes makes
abbrev pub with_passes : PassesAction → Action
with_passes does = action.Program (WithPasses does)
