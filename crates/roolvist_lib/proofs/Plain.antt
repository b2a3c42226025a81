-- What the program promises, without what it says of the passes.
use Rattle.std.proofs.Common.{◌≡◌, ℕ, true, false, List, Option, Some, None, ⊎_elim, inl, inr, subst}
use Rattle.bril_commands.specs.Answers.{Answers, Promises}
use Rattle.bril_commands.specs.Budgets.{GoesPastBudget, IsPastBudget}
use Rattle.bril_commands.specs.Call.{Call}
use Rattle.bril_commands.specs.Command.{takes_passes}
use Rattle.bril_commands.specs.Comes.{ReadsWell, TellsRun, UnlessMemory}
use Rattle.bril_commands.specs.Outcome.{Outcome}
use Rattle.bril_commands.specs.Table.{command}
use Rattle.bril_commands.specs.When.{BytesDone, CommandDone, IsDoneUnless}
use Rattle.bril_tree.specs.declared.limits.End.TheVariants.{Ended, Faulted}
use Rattle.bril_tree.specs.declared.tree.Tree.{Tree}
use Rattle.bril_words.specs.declared.subcommands.Action.TheVariants as action
use Rattle.bril_words.specs.declared.subcommands.Action.{Action}
use Rattle.bril_words.specs.declared.subcommands.PassesAction.TheVariants as passes
use Rattle.bril_words.specs.declared.subcommands.ProgramAction.TheVariants as program
use Rattle.pass_budget_laws.specs.Rows.{Row}
use Rattle.pass_law.specs.Meaning.{Meaning}
use Rattle.pass_law.specs.declared.tally.Tally.{Tally}
use Rattle.rv64_words.specs.State.{Stop, Finished, Trapped}
use Rattle.shipped_passes.specs.Shipped.{shipped_rows}
use Rattle.roolvist_lib.proofs.Runs.{run_plainly}
use Rattle.roolvist_lib.proofs.Unwritten.{unwritten_plainly}
use Rattle.roolvist_lib.specs.Plain.{bare, SaysPlainly}
use Rattle.roolvist_lib.specs.Seen.{IsPromised, Seen, call_with}

unless : {status : ℕ} {P Q : Type 0} → (P → Q) → UnlessMemory status P → UnlessMemory status Q
unless f = ⊎_elim inl (λ p. inr (f p))

not_both : true ≡ false → ⊥
not_both e = cc

module _ {B : Type 0} (meaning : B → Meaning) (counts : B → Tally) (before after : List B) (status : ℕ) (s : Seen) where
  abbrev whole : Call
  whole = call_with meaning counts before after s

  abbrev reads : (action : Action) → ReadsWell (bare s) action → ReadsWell whole action
  reads action r = record { path = r.path; args = r.args; asked = r.asked; told = r.told; told_profile = r.told_profile; sound = r.sound }

  tells : (ended : Option Stop) (steps : ℕ) (told : List (List ℕ)) → TellsRun ended steps told status whole → TellsRun ended steps told status (bare s)
  tells None steps told h = h
  tells (Some (Finished Ended)) steps told h = h
  tells (Some (Finished (Faulted fault))) steps told h = h
  tells (Some (Trapped trap)) steps told h = h

  done : (o : Outcome) → IsDoneUnless status whole o → IsDoneUnless status (bare s) o
  done o h = λ sound. let d = h sound in record { ended = d.ended; told = d.told; output = d.output; shows = d.shows; says = tells d.ended o.steps d.told d.says; took = d.took }

  bytes_done : (action : Action) (path : List ℕ) (args : List (List ℕ)) → BytesDone (command action) status whole path args → BytesDone (command action) status (bare s) path args
  bytes_done (action.Bytes does) path args h = λ bytes read values held are given. unless (done _) (h bytes read values held are given)
  bytes_done (action.File does) path args h = h
  bytes_done (action.Tree does) path args h = h
  bytes_done (action.Program does) path args h = h
  bytes_done (action.Demo functions) path args h = h

  command_done : (action : Action) → takes_passes (command action) ≡ false → (tree : Tree) (args : List (List ℕ)) → CommandDone (command action) status whole tree args → CommandDone (command action) status (bare s) tree args
  command_done (action.Bytes does) e tree args h = h
  command_done (action.File does) e tree args h = unless (done _) h
  command_done (action.Tree does) e tree args h = unless (done _) h
  command_done (action.Program (program.AsItStands does)) e tree args h =
      λ p values entries numbered accepted spell profiled.
      unless (⊎_elim inl (λ m. inr (m.0, m.1, done _ m.2))) (h p values entries numbered accepted spell profiled)
  command_done (action.Program (program.WithPasses (passes.Run settings))) e tree args h = absurd (not_both e)
  command_done (action.Program (program.WithPasses (passes.Emit limits))) e tree args h = absurd (not_both e)
  command_done (action.Program (program.WithPasses (passes.List limits))) e tree args h = absurd (not_both e)
  command_done (action.Program (program.WithPasses (passes.Wrap limits))) e tree args h = absurd (not_both e)
  command_done (action.Program (program.WithPasses passes.Passes)) e tree args h = absurd (not_both e)
  command_done (action.Program (program.Monitor settings)) e tree args h =
      λ p values entries numbered accepted spell profiled.
      unless (⊎_elim inl (λ m. inr (m.0, m.1, (m.2.0, m.2.1, ⊎_elim inl (λ fits. inr (fits.0, done _ fits.1)) m.2.2)))) (h p values entries numbered accepted spell profiled)
  command_done (action.Demo functions) e tree args h = absurd (not_both e)

  goes : (rows : List Row) (action : Action) (path : List ℕ) (args : List (List ℕ)) → GoesPastBudget rows action whole path args → GoesPastBudget rows action (bare s) path args
  goes rows (action.Program (program.WithPasses (passes.Run settings))) path args h =
      record { source = h.source; file = h.file; values = h.values; given = h.given; entries = h.entries; profiled = h.profiled; limits = h.limits; are = h.are; runs = h.runs }
  goes rows (action.Program (program.WithPasses (passes.Emit limits))) path args h = tt
  goes rows (action.Program (program.WithPasses (passes.List limits))) path args h = tt
  goes rows (action.Program (program.WithPasses (passes.Wrap limits))) path args h = tt
  goes rows (action.Program (program.WithPasses passes.Passes)) path args h = tt
  goes rows (action.Program (program.AsItStands does)) path args h = tt
  goes rows (action.Program (program.Monitor settings)) path args h = tt
  goes rows (action.Bytes does) path args h = tt
  goes rows (action.File does) path args h = tt
  goes rows (action.Tree does) path args h = tt
  goes rows (action.Demo functions) path args h = tt

  past_budget : IsPastBudget shipped_rows whole → IsPastBudget shipped_rows (bare s)
  past_budget h = record { asks = h.asks; goes = goes shipped_rows h.asks.action h.asks.path h.asks.args h.goes }

  pub says_plainly : IsPromised meaning counts before after status s → SaysPlainly status s
  says_plainly promised =
      let h : Promises status whole = promised.promises in
      record {
        run = run_plainly meaning counts before after status s promised.shipped promised.run;
        budget = λ e. past_budget (promised.budget e);
        unwritten = λ e. unwritten_plainly meaning counts before after s (subst (λ n. Answers n whole) e h.answers);
        does = λ action e r tree have. command_done action e tree r.args (h.does action (reads action r) tree have);
        does_bytes = λ action r. bytes_done action r.path r.args (h.does_bytes action (reads action r));
        silent = h.silent;
        silent_script = h.silent_script;
        unasked = h.unasked;
        refused_bytes = λ action r. h.refused_bytes action (reads action r);
        misargued = λ action gives r. h.misargued action gives (reads action r);
        misread = λ path fault action r. h.misread path fault action (reads action r);
        misnamed = λ action needs r. h.misnamed action needs (reads action r);
        unchecked = λ action needs r. h.unchecked action needs (reads action r);
        not_there = λ path name action r. h.not_there path name action (reads action r);
        clash = λ path name action r. h.clash path name action (reads action r);
        lacking = h.lacking;
        long_files = λ action r. h.long_files action (reads action r);
        many_files = λ action r. h.many_files action (reads action r);
        lacking_profile = λ path action r. h.lacking_profile path action (reads action r);
        misread_profile = λ line action r. h.misread_profile line action (reads action r);
        long_profile = λ action r. h.long_profile action (reads action r);
        misread_script = λ line action r. h.misread_script line action (reads action r);
        long_script = λ action r. h.long_script action (reads action r);
      }
