-- What a command is: what it works on, and what this comes to.
use Rattle.std.specs.Prelude.{ℕ, ◌≡◌, ◌⊎◌, Bool, true, false, List, [], Option}
use Rattle.bril_arguments.specs.Spelled.{AreSpelled}
use Rattle.bril_outside.specs.Files.{FileMap}
use Rattle.bril_profile.specs.declared.profile.Entry.{Entry}
use Rattle.bril_report.specs.declared.status.Status.{Status}
use Rattle.bril_tree.specs.Run.{main_types}
use Rattle.bril_tree.specs.declared.limits.Limits.{Limits}
use Rattle.bril_tree.specs.declared.program.Prog.{Prog}
use Rattle.bril_tree.specs.declared.tree.Tree.{Tree}
use Rattle.bril_tree.specs.declared.value.Value.{Value}
use Rattle.rv64_image_laws.specs.WordBounds.{IsWithin}
use Rattle.bril_commands.specs.Arguments.{AreOnlyValues, RefusesArgs}
use Rattle.bril_commands.specs.Images.{RefusesImage}
use Rattle.bril_commands.specs.Outcome.{Outcome}
use Rattle.bril_commands.specs.PassList.{PassList, IsMade, RefusesList, AreFactorsOf, AreEnoughFor}
use Rattle.bril_commands.specs.Profiles.{ProfileSource, NoProfile}
use Rattle.bril_commands.specs.Source.{Reach, Alone, WithImports, BytesAlone, OfDemo, HoldsBytes}
use Rattle.monitor_script.specs.declared.order.Order.{Order}

-- ---- the arguments

-- the arguments that a command gives its program
pub data Arguments : Type 0 where
  -- it takes none
  NoArguments : Arguments
  -- those of `main`
  OfMain : Arguments

-- it takes some
abbrev pub TakesArguments : Arguments → Type 0
TakesArguments NoArguments = ⊥
TakesArguments OfMain = Unit {0}

-- the values of the arguments, where words spell some
abbrev pub Spell : Arguments → Prog → List (List ℕ) → List Value → Type 0
Spell NoArguments p args values = values ≡ []
Spell OfMain p args values = AreSpelled (main_types p) args values

-- the values that words spell
abbrev pub AreGiven : Arguments → Prog → List (List ℕ) → List Value → Type 0
AreGiven NoArguments p args values = values ≡ []
AreGiven OfMain p args values = AreOnlyValues p args values

-- why words spell none
abbrev pub RefusesGiven : Arguments → Status → Prog → List (List ℕ) → Type 0
RefusesGiven NoArguments how p args = ⊥
RefusesGiven OfMain how p args = RefusesArgs how p args

-- ---- the list of passes

-- the program that a command makes, by a list of passes and the entries of a profile where it takes such a list
abbrev pub Makes : Bool → PassList → List Entry → Prog → Prog → Type 0
Makes false l entries p q = q ≡ p
Makes true l entries p q = IsMade l entries p q

-- why it makes none
abbrev pub RefusesMaking : Bool → Status → PassList → List Entry → Prog → Type 0
RefusesMaking false how l entries p = ⊥
RefusesMaking true how l entries p = RefusesList how l entries p

-- so many steps of q, at most, for each step of p
abbrev pub FactorOf : (by_list : Bool) (l : PassList) (entries : List Entry) (p q : Prog) → Makes by_list l entries p q → ℕ → Type 0
FactorOf false l entries p q makes factor = factor ≡ 1
FactorOf true l entries p q makes factor = AreFactorsOf l entries p q makes factor

-- so many words are always enough for so many steps of p
abbrev pub AreEnough : (by_list : Bool) (l : PassList) (entries : List Entry) (p : Prog) (steps words : ℕ) → Type 0
AreEnough false l entries p steps words = ⊥
AreEnough true l entries p steps words = AreEnoughFor l entries p steps words

-- ---- the image

-- whether a command emits its program
pub data Emission : Type 0 where
  NoImage : Emission
  -- it does, for limits of so many frames and cells
  ImageFor : (frames cells : ℕ) → Emission

-- the limits of the image
abbrev pub AreLimitsOf : Emission → Limits → Type 0
AreLimitsOf NoImage limits = ⊥
AreLimitsOf (ImageFor frames cells) limits = (limits.frames ≡ frames) × (limits.cells ≡ cells)

-- the program has few enough words of code and of stack
abbrev pub Fits : Emission → Prog → Type 0
Fits NoImage q = Unit {0}
Fits (ImageFor frames cells) q = (limits : Limits) × AreLimitsOf (ImageFor frames cells) limits × IsWithin q limits

-- why the program gets no image
abbrev pub RefusesEmission : Emission → Status → Prog → Type 0
RefusesEmission emission how q = (limits : Limits) × AreLimitsOf emission limits × RefusesImage how q limits

-- ---- the command

-- what a command works on that needs a program: the passes, the program of its files, what the passes make of it and by which factors, how
-- many words are always enough for that program's steps, the values of the arguments, and what may be the orders of its script
pub record Subject : Type 1 where
  pub passes : PassList
  pub source : Prog
  pub made : Prog
  pub IsFactor : ℕ → Type 0
  pub AreEnough : (steps words : ℕ) → Type 0
  pub values : List Value
  pub IsScript : List Order → Type 0

-- where a command has its program from
pub data Origin : Type 0 where
  -- the linked files
  LinkedFiles : Origin
  -- it makes the demo program of so many functions
  Demo : (functions : ℕ) → Origin

abbrev pub reach_of : Origin → Reach
reach_of LinkedFiles = WithImports
reach_of (Demo functions) = OfDemo functions

-- What is done with an accepted program.
pub record OfProgram : Type 1 where
  pub arguments : Arguments
  pub profile : ProfileSource
  pub takes_passes : Bool
  pub emission : Emission
  pub outcome : Subject → Outcome

-- What is done with an accepted program as it stands.
pub record OfSource : Type 1 where
  pub arguments : Arguments
  pub outcome : Prog → List Value → Outcome

-- the same as what is done with a program: there is no profile, no list of passes and no image
abbrev pub as_it_stands : OfSource → OfProgram
as_it_stands does = record { arguments = does.arguments; profile = NoProfile; takes_passes = false; emission = NoImage; outcome = λ on. does.outcome on.source on.values }

-- What is done with the bytes of a file, whatever its path ends in.
pub record OfBytes : Type 1 where
  -- what the bytes are read as
  pub Read : Type 0
  pub AreRead : (bytes : List ℕ) → Read → Type 0
  -- why those of the file at a path are read as nothing
  pub RefusesBytes : Status → (path bytes : List ℕ) → Type 0
  -- the values of the arguments, or why words give none
  pub AreGiven : Read → List (List ℕ) → List Value → Type 0
  pub RefusesArguments : Status → Read → List (List ℕ) → Type 0
  pub outcome : Read → List Value → Outcome

-- A command works on the bytes of its one file, on the tree of it, on that of all files which are linked with it, or on the accepted program
-- of the latter or of the demo's tree.
pub data Command : Type 1 where
  OnBytes : OfBytes → Command
  OnFile : (outcome : Tree → Outcome) → Command
  OnTree : (outcome : Tree → Outcome) → Command
  OnProgram : (origin : Origin) → OfProgram → Command

-- the files that it reads
abbrev pub reach : Command → Reach
reach (OnBytes does) = BytesAlone
reach (OnFile outcome) = Alone
reach (OnTree outcome) = WithImports
reach (OnProgram origin does) = reach_of origin

-- it needs the accepted program
abbrev pub NeedsProgram : Command → Type 0
NeedsProgram (OnBytes does) = ⊥
NeedsProgram (OnFile outcome) = ⊥
NeedsProgram (OnTree outcome) = ⊥
NeedsProgram (OnProgram origin does) = Unit {0}

-- it gives a program arguments
abbrev pub GivesArguments : Command → Type 0
GivesArguments (OnBytes does) = ⊥
GivesArguments (OnFile outcome) = ⊥
GivesArguments (OnTree outcome) = ⊥
GivesArguments (OnProgram origin does) = TakesArguments does.arguments

-- these values are the arguments that words spell of the program that it needs
abbrev pub GivesValues : Command → Prog → List (List ℕ) → List Value → Type 0
GivesValues (OnBytes does) p args values = ⊥
GivesValues (OnFile outcome) p args values = ⊥
GivesValues (OnTree outcome) p args values = ⊥
GivesValues (OnProgram origin does) p args values = Spell does.arguments p args values

-- where it has its profile from, or its script
abbrev pub profile_of : Command → ProfileSource
profile_of (OnBytes does) = NoProfile
profile_of (OnFile outcome) = NoProfile
profile_of (OnTree outcome) = NoProfile
profile_of (OnProgram origin does) = does.profile

-- it takes a list of passes
abbrev pub takes_passes : Command → Bool
takes_passes (OnBytes does) = false
takes_passes (OnFile outcome) = false
takes_passes (OnTree outcome) = false
takes_passes (OnProgram origin does) = does.takes_passes

-- it makes an image for these limits
abbrev pub MakesImage : Command → Limits → Type 0
MakesImage (OnBytes does) limits = ⊥
MakesImage (OnFile outcome) limits = ⊥
MakesImage (OnTree outcome) limits = ⊥
MakesImage (OnProgram origin does) limits = AreLimitsOf does.emission limits

-- Where it works on bytes, this is why it refuses those of the file at a path, which are few enough, or these arguments.
pub record RefusesHeld (does : OfBytes) (how : Status) (holds : Option FileMap) (path : List ℕ) (args : List (List ℕ)) : Type 0 where
  pub bytes : List ℕ
  pub held : HoldsBytes holds path bytes
  pub because : does.RefusesBytes how path bytes ⊎ ((read : does.Read) × does.AreRead bytes read × does.RefusesArguments how read args)

abbrev pub RefusesOnBytes : Command → Status → Option FileMap → List ℕ → List (List ℕ) → Type 0
RefusesOnBytes (OnBytes does) how holds path args = RefusesHeld does how holds path args
RefusesOnBytes _ how holds path args = ⊥
