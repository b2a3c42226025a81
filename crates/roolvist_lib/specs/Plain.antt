-- What is promised of a call, with nothing said of the boxes of its passes.
use Rattle.std.specs.Prelude.{ℕ, ◌≡◌, ◌≤◌, false, []}
use Rattle.bril_commands.specs.Answers.{BytesRefusedWhere, ClashWhere, LackingProfileWhere, LackingWhere, LongFilesWhere, LongProfileWhere, LongScriptWhere, ManyFilesWhere, MisarguedWhere, MisnamedWhere, MisreadProfileWhere, MisreadScriptWhere, MisreadWhere, NotThereWhere, UncheckedWhere}
use Rattle.bril_commands.specs.Budgets.{IsPastBudget}
use Rattle.bril_commands.specs.Call.{Call}
use Rattle.bril_commands.specs.Command.{reach, takes_passes}
use Rattle.bril_commands.specs.CommandLine.{AskNothing, Asks}
use Rattle.bril_commands.specs.Comes.{ReadsWell, UnlessMemory}
use Rattle.bril_commands.specs.RunIsCorrect.{RunIsCorrect}
use Rattle.bril_commands.specs.Source.{HaveTree}
use Rattle.bril_commands.specs.Table.{command}
use Rattle.bril_commands.specs.When.{BytesDoneWhere, CommandDone}
use Rattle.bril_tree.specs.declared.tree.Tree.{Tree}
use Rattle.bril_words.specs.declared.subcommands.Action.{Action}
use Rattle.pass_law.specs.Meaning.{Meaning}
use Rattle.pass_law.specs.Tallies.{zero_tally}
use Rattle.shipped_passes.specs.Shipped.{shipped_rows}
use Rattle.roolvist_lib.specs.Seen.{Seen, call_with}
use Rattle.roolvist_lib.specs.Unwritten.{IsUnwritten}

-- a pass that answers to no name
abbrev pub no_pass : Meaning
no_pass = record { answers = λ name. false; IsFactor = λ p profile k. ⊥; IsBound = λ p profile k. ⊥; Makes = λ p profile q. ⊥ }

-- the call without its passes: what its words name of a list, no pass answers to
abbrev pub bare : Seen → Call
bare s = call_with (λ (b : Unit {0}). no_pass) (λ b. zero_tally) [] [] s

-- What the program promises of the status, as far as the passes don't occur in it.
pub record SaysPlainly (status : ℕ) (s : Seen) : Type 0 where
  -- a run without a list of passes comes as its source has it
  pub run : RunIsCorrect status (bare s)
  -- by any list, 3 comes only past its budget
  pub budget : status ≡ 3 → IsPastBudget shipped_rows (bare s)
  -- at 74 the output took the first part of what the command puts: of `run` this is what its source prints
  pub unwritten : status ≡ 74 → (asks : Asks s.words) × IsUnwritten asks.action (bare s) asks.path asks.args
  -- a command that takes no list is done
  pub does : (action : Action) → takes_passes (command action) ≡ false → (reads : ReadsWell (bare s) action) (tree : Tree) → HaveTree (reach (command action)) s.files_before.holds reads.path tree → CommandDone (command action) status (bare s) tree reads.args
  pub does_bytes : BytesDoneWhere status (bare s)
  -- what is refused
  pub silent : 64 ≤ status → status ≤ 70 → s.out_after ≡ s.out_before
  pub silent_script : status ≡ 72 → s.out_after ≡ s.out_before
  pub unasked : AskNothing s.words → UnlessMemory status (status ≡ 64)
  pub refused_bytes : BytesRefusedWhere status (bare s)
  pub misargued : MisarguedWhere status (bare s)
  pub misread : MisreadWhere status (bare s)
  pub misnamed : MisnamedWhere status (bare s)
  pub unchecked : UncheckedWhere status (bare s)
  pub not_there : NotThereWhere status (bare s)
  pub clash : ClashWhere status (bare s)
  pub lacking : LackingWhere status (bare s)
  pub long_files : LongFilesWhere status (bare s)
  pub many_files : ManyFilesWhere status (bare s)
  pub lacking_profile : LackingProfileWhere status (bare s)
  pub misread_profile : MisreadProfileWhere status (bare s)
  pub long_profile : LongProfileWhere status (bare s)
  pub misread_script : MisreadScriptWhere status (bare s)
  pub long_script : LongScriptWhere status (bare s)
