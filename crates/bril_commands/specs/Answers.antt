-- What the top call answers: its status, and what it does to the files and its two outputs.
use Rattle.std.specs.Prelude.{ℕ, ◌≡◌, ◌≢◌, ◌⊎◌, ◌<◌, ◌≤◌, true, List, [], ◌∷◌, ◌++◌, Option, Some, None, codes, ◌==◌, Err, MatchBool}
use Rattle.bril_arguments.specs.Faults.{IsFaultOf}
use Rattle.bril_arguments.specs.declared.fault.ArgFault.TheVariants.{Memory}
use Rattle.bril_arguments.specs.declared.fault.ArgFault.{ArgFault}
use Rattle.bril_checker.specs.Faults as checker
use Rattle.bril_checker.specs.declared.fault.CheckFault.{CheckFault}
use Rattle.bril_names.specs.Faults as names
use Rattle.bril_names.specs.declared.fault.NameFault.{NameFault}
use Rattle.bril_outside.specs.Sink.{Rose}
use Rattle.bril_profile.specs.declared.profile.Entry.{Entry}
use Rattle.bril_report.specs.Lines.{fault_line}
use Rattle.bril_report.specs.Puts.{Puts, HoldsBack, WritesAll, WritesSome}
use Rattle.bril_report.specs.Report.{status_number, status_pieces, long_script_pieces, script_pieces, trap_pieces, misread_pieces, not_there_pieces, clash_pieces, misnamed_pieces, unaccepted_pieces, unread_pieces, many_bytes_pieces, many_files_pieces, long_profile_pieces, profile_pieces, spent_pieces, code_pieces, stack_pieces, pass_pieces, unknown_pass_pieces}
use Rattle.bril_report.specs.declared.status.Status.TheVariants as status
use Rattle.bril_report.specs.declared.status.Status.{Status}
use Rattle.import_linker.specs.declared.formats.fault.ReadFault.{ReadFault}
use Rattle.bril_tree.specs.Accepted.{IsAccepted}
use Rattle.bril_tree.specs.Numbered.{Numbered}
use Rattle.bril_tree.specs.Run.{main_types}
use Rattle.bril_tree.specs.declared.limits.End.TheVariants.{Ended, Faulted}
use Rattle.bril_tree.specs.declared.limits.Fault.{Fault}
use Rattle.bril_tree.specs.declared.limits.Limits.{Limits}
use Rattle.bril_tree.specs.declared.program.Prog.{Prog}
use Rattle.bril_tree.specs.declared.tree.Tree.{Tree}
use Rattle.bril_tree.specs.declared.value.Value.{Value}
use Rattle.bril_words.specs.CommandLine.{Refusal, words_ask}
use Rattle.bril_words.specs.declared.subcommands.Action.{Action}
use Rattle.bril_words.specs.declared.subcommands.Action.TheVariants as action
use Rattle.import_linker.specs.declared.fault.LinkFault.{LinkFault}
use Rattle.import_linker.specs.declared.fault.LinkFault.TheVariants.{Read, Bad, NotThere, Clash, TooManyFiles, TooManyBytes}
use Rattle.pass_law.specs.Bounds.{capped}
use Rattle.rv64_image_laws.specs.WordBounds.{word_bounds, IsStackSize}
use Rattle.rv64_words.specs.Region.{most_words, most_stack}
use Rattle.rv64_words.specs.State.{Stop}
use Rattle.rv64_words.specs.declared.trap.Trap.{Trap}
use Rattle.bril_commands.specs.Arguments.{HasOnlyArgFault, argument_pieces}
use Rattle.bril_commands.specs.Call.{Call}
use Rattle.bril_commands.specs.Comes.{SaysAlone, ReadsWell, UnlessMemory, ComesTo}
use Rattle.bril_commands.specs.Command.{Makes, RefusesOnBytes, NeedsProgram, GivesArguments, GivesValues, MakesImage, profile_of, reach, takes_passes}
use Rattle.bril_commands.specs.CommandLine.{Asks, AsksFor, AskNothing, IsToldOf}
use Rattle.bril_commands.specs.Outcome.{ShowsSo}
use Rattle.bril_commands.specs.PassList.{AreUnused, IsFirstUnknown, IsRefusedPass, IsCutOff}
use Rattle.bril_commands.specs.Profiles.{IsProfileFrom, RefusesProfileFrom}
use Rattle.bril_commands.specs.Source.{RefusesFiles, HaveFault, HaveTree, IsTreeAt, LackFile, IsOnlyNameFault, IsOnlyProgram, HasOnlyCheckFault, IsProgramOf}
use Rattle.bril_commands.specs.Table.{command, KeepsPasses}
use Rattle.bril_commands.specs.When.{BytesDoneWhere, DoneWhere}

-- What is put on the output and on the error output is given in pieces, of which each is one put. Nothing is put on either after a put
-- on it that failed. In the end the output has handed on all that it held back, where the status is 0, 2, 3 or 4. Which of the two outputs a
-- piece is put on first isn't said.

-- 0: all was done, and the output took all that the command puts; the error output what it tells.
pub record Finished (c : Call) : Type 0 where
  pub asks : Asks c.words
  pub told : List (List ℕ)
  pub output : List (List ℕ)
  pub comes : ComesTo c asks (λ o. o.Shows (Some Ended) told output)
  pub took : WritesAll c.out_before output c.out_after
  pub says : Puts c.err_before told c.err_after

-- 2: the program was run or interpreted and stopped with a fault, and the output took all that is put.
pub record Stopped (c : Call) : Type 0 where
  pub asks : Asks c.words
  pub fault : Fault
  pub told : List (List ℕ)
  pub output : List (List ℕ)
  pub comes : ComesTo c asks (λ o. o.Shows (Some (Faulted fault)) told output)
  pub took : WritesAll c.out_before output c.out_after
  pub says : Puts c.err_before (told ++ fault_line fault ∷ []) c.err_after

-- 3: the program was interpreted and goes on after the steps, or was run and the machine goes on after as many words, and the
-- output took all that is put.
pub record GoesOn (c : Call) : Type 0 where
  pub asks : Asks c.words
  pub steps : ℕ
  pub told : List (List ℕ)
  pub output : List (List ℕ)
  pub comes : ComesTo c asks (λ o. (steps ≡ o.steps) × o.Shows None told output)
  pub took : WritesAll c.out_before output c.out_after
  pub says : Puts c.err_before (told ++ spent_pieces steps) c.err_after

-- 4: the machine ran the bytes of a file and can't go on, and the output took all that is put.
pub record Trapped (c : Call) : Type 0 where
  pub asks : Asks c.words
  pub trap : Trap
  pub told : List (List ℕ)
  pub output : List (List ℕ)
  pub comes : ComesTo c asks (λ o. o.Traps trap told output)
  pub took : WritesAll c.out_before output c.out_after
  pub says : Puts c.err_before (told ++ trap_pieces trap) c.err_after

-- 64: `clap` refuses the words, or takes them and the value of an option fails. No file was read.
pub record Misused (c : Call) : Type 0 where
  pub refusal : Refusal
  pub unasked : words_ask c.words ≡ Err refusal
  pub unread : c.files_after ≡ c.files_before
  pub kept : c.passes.after ≡ c.passes.before
  pub line : List ℕ
  pub told : IsToldOf refusal line
  pub alone : SaysAlone c (line ∷ [])

-- 65, 66 and 68: the files have no tree, for this fault. No pass ran.
pub record FilesRefused (c : Call) (asks : Asks c.words) (why : LinkFault) (line : List (List ℕ)) : Type 0 where
  pub unused : AreUnused c.passes
  pub refuses : RefusesFiles (reach (command asks.action)) why c.files_before c.files_after asks.path
  pub alone : SaysAlone c line

-- 65: the bytes of the file at this path read as no tree; or, where files are linked, a name stands for no function in it, or for two.
pub record MisreadFile (c : Call) (asks : Asks c.words) : Type 0 where
  pub path : List ℕ
  pub fault : ReadFault
  pub refused : FilesRefused c asks (Bad path fault) (misread_pieces path fault)

pub record LacksFunction (c : Call) (asks : Asks c.words) : Type 0 where
  pub path : List ℕ
  pub name : List ℕ
  pub refused : FilesRefused c asks (NotThere path name) (not_there_pieces path name)

pub record RepeatsFunction (c : Call) (asks : Asks c.words) : Type 0 where
  pub path : List ℕ
  pub name : List ℕ
  pub refused : FilesRefused c asks (Clash path name) (clash_pieces path name)

-- 65: the command needs a program, and the tree of the linked files has a fault of a name, or a program that isn't accepted. No pass ran.
pub record MisnamedTree (c : Call) (asks : Asks c.words) : Type 0 where
  pub tree : Tree
  pub file : IsTreeAt (reach (command asks.action)) c.files_before.holds asks.path tree
  pub fault : NameFault
  pub only : IsOnlyNameFault tree fault
  pub unused : AreUnused c.passes
  pub alone : SaysAlone c (misnamed_pieces fault)

pub record UnacceptedTree (c : Call) (asks : Asks c.words) : Type 0 where
  pub tree : Tree
  pub file : IsTreeAt (reach (command asks.action)) c.files_before.holds asks.path tree
  pub program : Prog
  pub source : IsOnlyProgram tree program
  pub fault : CheckFault
  pub only : HasOnlyCheckFault program fault
  pub unused : AreUnused c.passes
  pub alone : SaysAlone c (unaccepted_pieces program fault)

-- 65, 68 and 69: the command works on the bytes of its file, and refuses these, or the arguments, so. No pass ran.
pub record BytesRefused (number : ℕ) (c : Call) (asks : Asks c.words) : Type 0 where
  pub how : Status
  pub is : status_number how ≡ number
  pub refuses : RefusesOnBytes (command asks.action) how c.files_before.holds asks.path asks.args
  pub unused : AreUnused c.passes
  pub alone : SaysAlone c (status_pieces how)

pub record SourceRefused (c : Call) : Type 0 where
  pub asks : Asks c.words
  pub because : MisreadFile c asks ⊎ (LacksFunction c asks ⊎ (RepeatsFunction c asks ⊎ ((NeedsProgram (command asks.action) × (MisnamedTree c asks ⊎ UnacceptedTree c asks)) ⊎ BytesRefused 65 c asks)))

-- The files are linked into this accepted program, whose arguments the words spell, and the second file is the profile with these entries, or
-- a script: it can be given to the list of passes.
pub record IsReady (c : Call) (asks : Asks c.words) (program : Prog) (entries : List Entry) : Type 0 where
  pub file : IsProgramOf (reach (command asks.action)) c.files_before.holds asks.path program
  pub values : List Value
  pub given : GivesValues (command asks.action) program asks.args values
  pub profiled : IsProfileFrom (profile_of (command asks.action)) c.second c.files_before.holds program entries

-- 66, 67, 68 and 72: the files are linked into an accepted program, whose arguments the words spell, and the file of the profile or of the
-- script that the words name is refused so. No pass ran.
pub record ProfileRefused (c : Call) (asks : Asks c.words) (how : Status) (line : List (List ℕ)) : Type 0 where
  pub program : Prog
  pub file : IsProgramOf (reach (command asks.action)) c.files_before.holds asks.path program
  pub values : List Value
  pub given : GivesValues (command asks.action) program asks.args values
  pub refuses : RefusesProfileFrom (profile_of (command asks.action)) c.second how c.files_before c.files_after
  pub unused : AreUnused c.passes
  pub alone : SaysAlone c line

-- 66: the file at this path was not read: reading failed, or the files are told and lack it. Those before it were read. No pass ran.
pub record CannotRead (c : Call) : Type 0 where
  pub asks : Asks c.words
  pub path : List ℕ
  pub because : FilesRefused c asks (Read path) (unread_pieces path) ⊎ ProfileRefused c asks (status.CannotRead path) (unread_pieces path)

-- 67: this line of the profile's file, from 1, is the first that breaks the form of a profile. No pass ran.
pub record ProfileMisread (c : Call) : Type 0 where
  pub asks : Asks c.words
  pub line : ℕ
  pub refused : ProfileRefused c asks (status.MisreadProfile line) (profile_pieces line)

-- 72: this line of the script's file, from 1, is the first that breaks the form of a script. No pass ran.
pub record ScriptMisread (c : Call) : Type 0 where
  pub asks : Asks c.words
  pub line : ℕ
  pub refused : ProfileRefused c asks (status.MisreadScript line) (script_pieces line)

-- 68: the files have too many bytes, or are too many, or the file of the profile or of the script has too many bytes, or the bytes of a file
-- tell of too many words of code or of stack, and no pass ran; or, of a program that is ready, a pass may make too many items, or what the
-- list makes, which is to be run or emitted, has too many words of code or of stack.
pub record LongPass (c : Call) (asks : Asks c.words) : Type 0 where
  pub takes : takes_passes (command asks.action) ≡ true
  pub program : Prog
  pub entries : List Entry
  pub ready : IsReady c asks program entries
  pub place : ℕ
  pub bound : ℕ
  pub refused : IsRefusedPass c.passes entries program place bound
  pub alone : SaysAlone c (pass_pieces place bound)

-- The program has too many words of code, or it has few enough and needs too many words of stack.
pub record HasLongCode (c : Call) (q : Prog) : Type 0 where
  pub long : most_words < word_bounds q
  pub alone : SaysAlone c (code_pieces (capped (word_bounds q)))

pub record HasLongStack (c : Call) (q : Prog) (limits : Limits) : Type 0 where
  pub short_code : word_bounds q ≤ most_words
  pub stack : ℕ
  pub size : IsStackSize q limits stack
  pub long : most_stack < stack
  pub alone : SaysAlone c (stack_pieces (capped stack))

pub record LongProgram (c : Call) (asks : Asks c.words) : Type 0 where
  pub limits : Limits
  pub makes : MakesImage (command asks.action) limits
  pub program : Prog
  pub entries : List Entry
  pub ready : IsReady c asks program entries
  pub made : Prog
  pub by : Makes (takes_passes (command asks.action)) c.passes entries program made
  pub because : HasLongCode c made ⊎ HasLongStack c made limits

pub record TooLarge (c : Call) : Type 0 where
  pub asks : Asks c.words
  pub because : FilesRefused c asks TooManyBytes many_bytes_pieces ⊎ (FilesRefused c asks TooManyFiles many_files_pieces ⊎ (LongProgram c asks ⊎ (LongPass c asks ⊎ (ProfileRefused c asks status.ProfileTooLarge long_profile_pieces ⊎ (ProfileRefused c asks status.ScriptTooLarge long_script_pieces ⊎ BytesRefused 68 c asks)))))

-- 69: the files are linked into an accepted program, and the arguments don't fit it. No pass ran.
pub record Misargued (c : Call) : Type 0 where
  pub asks : Asks c.words
  pub gives : GivesArguments (command asks.action)
  pub program : Prog
  pub file : IsProgramOf (reach (command asks.action)) c.files_before.holds asks.path program
  pub fault : ArgFault
  pub only : HasOnlyArgFault (main_types program) asks.args fault
  pub unused : AreUnused c.passes
  pub alone : SaysAlone c (argument_pieces fault)

-- 69: the arguments don't fit a program, or what the bytes of a file are read as.
abbrev pub ArgumentsRefused : Call → Type 0
ArgumentsRefused c = Misargued c ⊎ ((asks : Asks c.words) × BytesRefused 69 c asks)

-- 70: the program is ready, and no pass answers to a name of the list, this one being the first such. No pass ran.
pub record UnknownPass (c : Call) : Type 0 where
  pub asks : Asks c.words
  pub takes : takes_passes (command asks.action) ≡ true
  pub program : Prog
  pub entries : List Entry
  pub ready : IsReady c asks program entries
  pub place : ℕ
  pub unknown : IsFirstUnknown c.passes (Some place)
  pub unused : AreUnused c.passes
  pub alone : SaysAlone c (unknown_pass_pieces place)

-- The command gave its program to the list of passes, with these entries of the profile, and the first passes ran.
pub record ListBegan (c : Call) (asks : Asks c.words) : Type 0 where
  pub takes : takes_passes (command asks.action) ≡ true
  pub program : Prog
  pub entries : List Entry
  pub ready : IsReady c asks program entries
  pub cut : IsCutOff c.passes entries program

-- 71: memory ran out, perhaps while the words were read, and nothing was put but what the command may have put by then; for `run`
-- before the first word was executed, and for `emit` before the first was written. No pass ran, or the list was begun.
pub record Exhausted (c : Call) : Type 0 where
  pub tallies : AreUnused c.passes ⊎ ((asks : Asks c.words) × ListBegan c asks)
  pub leaves : (c.out_after ≡ c.out_before) ⊎ ((asks : Asks c.words) × (output : List (List ℕ)) × ComesTo c asks (λ o. o.Exhausts output) × (WritesAll c.out_before output c.out_after ⊎ HoldsBack c.out_before output c.out_after))
  pub says : Puts c.err_before (codes "out of memory\n" ∷ []) c.err_after

-- 74: a put on the output failed, the last of what the command put there; or it took all, and failed to hand on what it held back.
pub record CannotWrite (c : Call) : Type 0 where
  pub asks : Asks c.words
  pub ended : Option Stop
  pub untold : List (List ℕ)
  pub told : List (List ℕ)
  pub output : List (List ℕ)
  pub comes : ComesTo c asks (λ o. (told ≡ o.unwritten) × ShowsSo o ended untold output)
  pub took : WritesSome c.out_before output c.out_after
  pub says : Puts c.err_before (told ++ codes "cannot write\n" ∷ []) c.err_after

-- What a status says of the call; there are no others.
abbrev pub Answers : ℕ → Call → Type 0
Answers status c =
    MatchBool (status == 0) (Finished c)
    (MatchBool (status == 2) (Stopped c)
    (MatchBool (status == 3) (GoesOn c)
    (MatchBool (status == 4) (Trapped c)
    (MatchBool (status == 64) (Misused c)
    (MatchBool (status == 65) (SourceRefused c)
    (MatchBool (status == 66) (CannotRead c)
    (MatchBool (status == 67) (ProfileMisread c)
    (MatchBool (status == 68) (TooLarge c)
    (MatchBool (status == 69) (ArgumentsRefused c)
    (MatchBool (status == 70) (UnknownPass c)
    (MatchBool (status == 71) (Exhausted c)
    (MatchBool (status == 72) (ScriptMisread c)
    (MatchBool (status == 74) (CannotWrite c) ⊥)))))))))))))

-- ---- when a status comes to every command that has its cause

-- This comes, with this line, where the files have a fault.
abbrev pub ToldWhere : LinkFault → ℕ → List (List ℕ) → ℕ → Call → Type 0
ToldWhere why expected line number c =
    (action : Action) (reads : ReadsWell c action) → HaveFault (reach (command action)) why c.files_before c.files_after reads.path →
    UnlessMemory number ((number ≡ expected) × Puts c.err_before line c.err_after)

-- The fault of a file's bytes is told.
abbrev pub MisreadWhere : ℕ → Call → Type 0
MisreadWhere number c = (path : List ℕ) (fault : ReadFault) → ToldWhere (Bad path fault) 65 (misread_pieces path fault) number c

-- A name that stands for no function in a file is told.
abbrev pub NotThereWhere : ℕ → Call → Type 0
NotThereWhere number c = (path name : List ℕ) → ToldWhere (NotThere path name) 65 (not_there_pieces path name) number c

-- A name that stands for two is told.
abbrev pub ClashWhere : ℕ → Call → Type 0
ClashWhere number c = (path name : List ℕ) → ToldWhere (Clash path name) 65 (clash_pieces path name) number c

-- Files that have too many bytes, or are too many, are told.
abbrev pub LongFilesWhere : ℕ → Call → Type 0
LongFilesWhere = ToldWhere TooManyBytes 68 many_bytes_pieces

abbrev pub ManyFilesWhere : ℕ → Call → Type 0
ManyFilesWhere = ToldWhere TooManyFiles 68 many_files_pieces

-- The first file that isn't there is told; where a read failed, it may be the file that wasn't read.
abbrev pub LackingWhere : ℕ → Call → Type 0
LackingWhere number c =
    (asks : Asks c.words) (path : List ℕ) → LackFile (reach (command asks.action)) c.files_before.holds asks.path path →
    UnlessMemory number ((number ≡ 66) × (¬ Rose c.files_before.faults c.files_after.faults → Puts c.err_before (unread_pieces path) c.err_after))

-- The fault of the tree's names is told.
abbrev pub MisnamedWhere : ℕ → Call → Type 0
MisnamedWhere number c =
    (action : Action) → NeedsProgram (command action) → (reads : ReadsWell c action) (tree : Tree) (fault : NameFault) → HaveTree (reach (command action)) c.files_before.holds reads.path tree → names.HasFault tree fault →
    UnlessMemory number ((number ≡ 65) × Puts c.err_before (misnamed_pieces fault) c.err_after)

-- The checker's fault is told.
abbrev pub UncheckedWhere : ℕ → Call → Type 0
UncheckedWhere number c =
    (action : Action) → NeedsProgram (command action) → (reads : ReadsWell c action) (tree : Tree) (program : Prog) (fault : CheckFault) → HaveTree (reach (command action)) c.files_before.holds reads.path tree → Numbered tree program →
    checker.HasFault program fault → UnlessMemory number ((number ≡ 65) × Puts c.err_before (unaccepted_pieces program fault) c.err_after)

-- Arguments that don't fit an accepted program are told.
abbrev pub MisarguedWhere : ℕ → Call → Type 0
MisarguedWhere number c =
    (action : Action) → GivesArguments (command action) → (reads : ReadsWell c action) (tree : Tree) (program : Prog) (fault : ArgFault) → HaveTree (reach (command action)) c.files_before.holds reads.path tree → Numbered tree program →
    IsAccepted program → fault ≢ Memory → IsFaultOf (main_types program) reads.args fault →
    UnlessMemory number ((number ≡ 69) × Puts c.err_before (argument_pieces fault) c.err_after)

-- This comes, with this line, where the files have a tree whose accepted program takes the arguments, and the file of the profile or of the script is refused so.
abbrev pub RefusedWhere : Status → ℕ → List (List ℕ) → ℕ → Call → Type 0
RefusedWhere how expected line number c =
    (action : Action) (reads : ReadsWell c action) (tree : Tree) (program : Prog) (values : List Value) → HaveTree (reach (command action)) c.files_before.holds reads.path tree → Numbered tree program → IsAccepted program →
    GivesValues (command action) program reads.args values → RefusesProfileFrom (profile_of (command action)) c.second how c.files_before c.files_after →
    UnlessMemory number ((number ≡ expected) × Puts c.err_before line c.err_after)

-- A profile's or a script's file that isn't there is told.
abbrev pub LackingProfileWhere : ℕ → Call → Type 0
LackingProfileWhere number c = (path : List ℕ) → RefusedWhere (status.CannotRead path) 66 (unread_pieces path) number c

-- The first line that breaks the form of a profile is told.
abbrev pub MisreadProfileWhere : ℕ → Call → Type 0
MisreadProfileWhere number c = (line : ℕ) → RefusedWhere (status.MisreadProfile line) 67 (profile_pieces line) number c

-- A profile's file that has too many bytes is told.
abbrev pub LongProfileWhere : ℕ → Call → Type 0
LongProfileWhere = RefusedWhere status.ProfileTooLarge 68 long_profile_pieces

-- The first line that breaks the form of a script is told.
abbrev pub MisreadScriptWhere : ℕ → Call → Type 0
MisreadScriptWhere number c = (line : ℕ) → RefusedWhere (status.MisreadScript line) 72 (script_pieces line) number c

-- A script's file that has too many bytes is told.
abbrev pub LongScriptWhere : ℕ → Call → Type 0
LongScriptWhere = RefusedWhere status.ScriptTooLarge 68 long_script_pieces

-- Why a command refuses the bytes that it works on, or their arguments, is told.
abbrev pub BytesRefusedWhere : ℕ → Call → Type 0
BytesRefusedWhere number c =
    (action : Action) (reads : ReadsWell c action) (how : Status) → how ≢ status.OutOfMemory → RefusesOnBytes (command action) how c.files_before.holds reads.path reads.args →
    UnlessMemory number ((number ≡ status_number how) × Puts c.err_before (status_pieces how) c.err_after)

-- The passes stay as they are where the words ask for a command that takes no list of them; else they mean the same.
abbrev pub KeepsWhere : Call → Type 0
KeepsWhere c = (action : Action) (path : List ℕ) (args : List (List ℕ)) → AsksFor c.words action path args → KeepsPasses c.passes.meaning action c.passes.before c.passes.after

-- The demo's program is accepted.
abbrev pub DemoAccepted : ℕ → Call → Type 0
DemoAccepted number c = (functions : ℕ) (path : List ℕ) (args : List (List ℕ)) → functions ≤ 150 → AsksFor c.words (action.Demo functions) path args → number ≢ 65

-- What the top call promises of its status.
pub record Promises (status : ℕ) (c : Call) : Type 0 where
  -- what each status says
  pub answers : Answers status c
  pub silent : 64 ≤ status → status ≤ 70 → c.out_after ≡ c.out_before
  pub silent_script : status ≡ 72 → c.out_after ≡ c.out_before
  -- when each status comes; out of memory, 71 comes in place of each
  pub unasked : AskNothing c.words → UnlessMemory status (status ≡ 64)
  pub does : DoneWhere status c
  pub does_bytes : BytesDoneWhere status c
  pub refused_bytes : BytesRefusedWhere status c
  pub misargued : MisarguedWhere status c
  pub misread : MisreadWhere status c
  pub misnamed : MisnamedWhere status c
  pub unchecked : UncheckedWhere status c
  pub not_there : NotThereWhere status c
  pub clash : ClashWhere status c
  pub lacking : LackingWhere status c
  pub long_files : LongFilesWhere status c
  pub many_files : ManyFilesWhere status c
  pub lacking_profile : LackingProfileWhere status c
  pub misread_profile : MisreadProfileWhere status c
  pub long_profile : LongProfileWhere status c
  pub misread_script : MisreadScriptWhere status c
  pub long_script : LongScriptWhere status c
  pub demo : DemoAccepted status c
  -- what becomes of the passes
  pub keeps : KeepsWhere c
