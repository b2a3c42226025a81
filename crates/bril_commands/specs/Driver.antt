-- What a command does with its files, stage by stage.
use Rattle.std.specs.Prelude.{ℕ, ◌≡◌, ◌⊎◌, List, [], Option}
use Rattle.bril_outside.specs.Files.{FileMap, FilesSeen}
use Rattle.bril_outside.specs.Sink.{SinkSeen}
use Rattle.bril_profile.specs.declared.profile.Entry.{Entry}
use Rattle.bril_report.specs.declared.status.Status.{Status}
use Rattle.bril_tree.specs.declared.program.Prog.{Prog}
use Rattle.bril_tree.specs.declared.tree.Tree.{Tree}
use Rattle.bril_tree.specs.declared.value.Value.{Value}
use Rattle.bril_commands.specs.Command.{Command, OnBytes, OnFile, OnTree, OnProgram, OfBytes, OfProgram, OfSource, Subject, AreGiven, RefusesGiven, Makes, RefusesMaking, FactorOf, AreEnough, Fits, RefusesEmission, reach}
use Rattle.bril_commands.specs.Outcome.{Works}
use Rattle.bril_commands.specs.PassList.{PassList, AreUnused}
use Rattle.bril_commands.specs.Profiles.{IsProfileFrom, IsScriptFrom, RefusesProfileFrom}
use Rattle.bril_commands.specs.Source.{HoldsBytes, IsTreeAt}
use Rattle.bril_commands.specs.Stages.{RefusesTree, RefusesProgram, IsAcceptedProgram}

-- nothing is told, and nothing is put
abbrev pub IsSilent : List (List ℕ) → SinkSeen → SinkSeen → Type 0
IsSilent told s t = (told ≡ []) × (t ≡ s)

-- the same, and no pass ran
abbrev pub IsIdle : PassList → List (List ℕ) → SinkSeen → SinkSeen → Type 0
IsIdle l told s t = IsSilent told s t × AreUnused l

-- A stage refuses, and there is silence; or it hands on something of which this holds, and the command goes on with it.
abbrev pub Stage : {X : Type 0} → (Refuses : Type 0) → (Silent : Type 0) → (Is : X → Type 0) → ((x : X) → Is x → Type 0) → Type 0
Stage {X} Refuses Silent Is GoesOn = (Refuses × Silent) ⊎ ((x : X) × (is : Is x) × GoesOn x is)

-- what a command answers that works on an accepted program as it stands, with these arguments; it tells nothing
abbrev pub DoesSource : OfSource → Status → Prog → List (List ℕ) → SinkSeen → SinkSeen → Type 0
DoesSource does how p args s t =
    Stage (RefusesGiven does.arguments how p args) (IsSilent [] s t) (λ values. AreGiven does.arguments p args values) (λ values given. Works (does.outcome p values) how [] s t)

-- what a command works on, once its list made a program by which the values are taken; its second file is at a path
abbrev pub subject : (does : OfProgram) (l : PassList) (named : Option (List ℕ)) (holds : Option FileMap) (entries : List Entry) (p q : Prog) → Makes does.takes_passes l entries p q → List Value → Subject
subject does l named holds entries p q makes values = record {
  passes = l;
  source = p;
  made = q;
  IsFactor = FactorOf does.takes_passes l entries p q makes;
  AreEnough = AreEnough does.takes_passes l entries p;
  values = values;
  IsScript = IsScriptFrom does.profile named holds;
}

-- what a command answers that works on an accepted program, with these values of its arguments and these entries of a profile
abbrev pub DoesGiven : OfProgram → Status → PassList → Option (List ℕ) → Option FileMap → List Entry → Prog → List Value → List (List ℕ) → SinkSeen → SinkSeen → Type 0
DoesGiven does how l named holds entries p values told s t =
    Stage (RefusesMaking does.takes_passes how l entries p) (IsSilent told s t) (λ q. Makes does.takes_passes l entries p q) (λ q makes.
    (RefusesEmission does.emission how q × IsSilent told s t) ⊎ (Fits does.emission q × Works (does.outcome (subject does l named holds entries p q makes values)) how told s t))

-- what a command answers that works on an accepted program, with these arguments and this path of a second file, and what it tells
abbrev pub DoesProgram : OfProgram → Status → PassList → FilesSeen → FilesSeen → Prog → Option (List ℕ) → List (List ℕ) → List (List ℕ) → SinkSeen → SinkSeen → Type 0
DoesProgram does how l f g p named args told s t =
    Stage (RefusesGiven does.arguments how p args) (IsIdle l told s t) (λ values. AreGiven does.arguments p args values) (λ values given.
    Stage (RefusesProfileFrom does.profile named how f g) (IsIdle l told s t) (λ entries. IsProfileFrom does.profile named f.holds p entries) (λ entries is.
    DoesGiven does how l named f.holds entries p values told s t))

-- the same of a command that needs the program
abbrev pub DoesAccepted : Command → Status → PassList → FilesSeen → FilesSeen → Prog → Option (List ℕ) → List (List ℕ) → List (List ℕ) → SinkSeen → SinkSeen → Type 0
DoesAccepted (OnBytes does) how l f g p named args told s t = ⊥
DoesAccepted (OnFile outcome) how l f g p named args told s t = ⊥
DoesAccepted (OnTree outcome) how l f g p named args told s t = ⊥
DoesAccepted (OnProgram origin does) how l f g p named args told s t = DoesProgram does how l f g p named args told s t

-- what a command answers on a tree
abbrev pub DoesTree : Command → Status → PassList → FilesSeen → FilesSeen → Tree → Option (List ℕ) → List (List ℕ) → List (List ℕ) → SinkSeen → SinkSeen → Type 0
DoesTree (OnBytes does) how l f g tree named args told s t = ⊥
DoesTree (OnFile outcome) how l f g tree named args told s t = Works (outcome tree) how told s t
DoesTree (OnTree outcome) how l f g tree named args told s t = Works (outcome tree) how told s t
DoesTree (OnProgram origin does) how l f g tree named args told s t =
    Stage (RefusesProgram how tree) (IsIdle l told s t) (λ p. IsAcceptedProgram tree p) (λ p is. DoesProgram does how l f g p named args told s t)

-- what a command answers that works on the bytes of the file at a path, with these arguments
abbrev pub DoesHeld : OfBytes → Status → (path bytes : List ℕ) → List (List ℕ) → List (List ℕ) → SinkSeen → SinkSeen → Type 0
DoesHeld does how path bytes args told s t =
    Stage (does.RefusesBytes how path bytes) (IsSilent told s t) (λ read. does.AreRead bytes read) (λ read is.
    Stage (does.RefusesArguments how read args) (IsSilent told s t) (λ values. does.AreGiven read args values) (λ values given. Works (does.outcome read values) how told s t))

-- the same of a command that works on bytes
abbrev pub DoesBytes : Command → Status → Option FileMap → List ℕ → List (List ℕ) → List (List ℕ) → SinkSeen → SinkSeen → Type 0
DoesBytes (OnBytes does) how holds path args told s t = (bytes : List ℕ) × HoldsBytes holds path bytes × DoesHeld does how path bytes args told s t
DoesBytes _ how holds path args told s t = ⊥

-- what a command answers on its files, of which the first is at a path: they can't be read, or they have a tree, or the one has bytes
abbrev pub DoesFiles : Command → Status → PassList → FilesSeen → FilesSeen → List ℕ → Option (List ℕ) → List (List ℕ) → List (List ℕ) → SinkSeen → SinkSeen → Type 0
DoesFiles command how l f g path named args told s t =
    (RefusesTree (reach command) how f g path × IsIdle l told s t)
    ⊎ (((tree : Tree) × IsTreeAt (reach command) f.holds path tree × DoesTree command how l f g tree named args told s t)
    ⊎ DoesBytes command how f.holds path args told s t)
