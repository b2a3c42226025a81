-- Nothing is refused without a cause, by what the top call promises.
use Rattle.std.proofs.Common.{◌≡◌, ℕ, ◌⊎◌, Bool, true, false, List, Option, Some, None, inl, inr, ⊎_elim}
use Rattle.bril_profile.specs.declared.profile.Entry.{Entry}
use Rattle.bril_tree.specs.declared.limits.End.TheVariants.{Ended, Faulted}
use Rattle.bril_tree.specs.declared.limits.End.{End}
use Rattle.bril_tree.specs.declared.limits.Fault.{Fault}
use Rattle.bril_tree.specs.declared.limits.Limits.{Limits}
use Rattle.bril_tree.specs.declared.program.Prog.{Prog}
use Rattle.bril_tree.specs.declared.tree.Tree.{Tree}
use Rattle.bril_tree.specs.declared.value.Value.{Value}
use Rattle.bril_words.specs.declared.subcommands.Action.TheVariants as action
use Rattle.bril_words.specs.declared.subcommands.Action.{Action}
use Rattle.bril_words.specs.declared.subcommands.BytesAction.TheVariants as bytes
use Rattle.bril_words.specs.declared.subcommands.BytesAction.{BytesAction}
use Rattle.bril_words.specs.declared.subcommands.FileAction.TheVariants as file
use Rattle.bril_words.specs.declared.subcommands.FileAction.{FileAction}
use Rattle.bril_words.specs.declared.subcommands.PassesAction.TheVariants as passes
use Rattle.bril_words.specs.declared.subcommands.ProgramAction.TheVariants as program
use Rattle.bril_words.specs.declared.subcommands.ProgramAction.{ProgramAction}
use Rattle.bril_words.specs.declared.subcommands.SourceAction.TheVariants as source
use Rattle.bril_words.specs.declared.subcommands.TreeAction.TheVariants as tree
use Rattle.bril_words.specs.declared.subcommands.TreeAction.{TreeAction}
use Rattle.rv64_image_laws.specs.WordBounds.{IsWithin}
use Rattle.rv64_words.specs.State.{Stop, Finished, Trapped}
use Rattle.rv64_words.specs.declared.trap.Trap.{Trap}
use Rattle.bril_commands.specs.Answers.{Promises}
use Rattle.bril_commands.specs.Call.{Call}
use Rattle.bril_commands.specs.Comes.{TellsRun, UnlessMemory}
use Rattle.bril_commands.specs.Command.{AreLimitsOf, Demo, Emission, ImageFor, LinkedFiles, NoImage, OfProgram, OnProgram, Origin, Subject, reach_of}
use Rattle.bril_commands.specs.Driver.{subject}
use Rattle.bril_commands.specs.Outcome.{Outcome, ShowsSo, writes}
use Rattle.bril_commands.specs.PassList.{IsFirstUnknown, IsRefusedPass}
use Rattle.bril_commands.specs.Source.{HaveTree}
use Rattle.bril_commands.specs.Table.{on_bytes, on_file, on_program, on_tree}
use Rattle.bril_commands.specs.When.{AfterEmission, CommandDone, IsDone, IsDoneUnless, StopsMaking}
use Rattle.bril_commands.specs.commands.Demo.{demonstrates}
use Rattle.bril_cli.specs.Completeness.{Ends, EndsRun, IsGoodProgram, NothingIsWrong}

module _ (status : ℕ) (c : Call) where
  -- ---- how the work ended

  -- no run of which this is shown has stopped so
  abbrev Hides : Outcome → Option Stop → Type 0
  Hides o stopped = (told output : List (List ℕ)) → ShowsSo o stopped told output → ⊥

  -- any run ends so
  ends_all : (o : Outcome) → IsDone status c o → EndsRun status ⊎ (status ≡ 4)
  ends_all o done = ends done.ended done.says
    where
      ends : (ended : Option Stop) → TellsRun ended o.steps done.told status c → EndsRun status ⊎ (status ≡ 4)
      ends None tells = inl (inr (inr tells.0))
      ends (Some (Finished Ended)) tells = inl (inl tells.0)
      ends (Some (Finished (Faulted fault))) tells = inl (inr (inl tells.0))
      ends (Some (Trapped trap)) tells = inr tells.0

  -- one whose machine never traps
  ends_run : (o : Outcome) → IsDone status c o → ((trap : Trap) → Hides o (Some (Trapped trap))) → EndsRun status
  ends_run o done untrapped = ends done.ended done.shows done.says
    where
      ends : (ended : Option Stop) → ShowsSo o ended done.told done.output → TellsRun ended o.steps done.told status c → EndsRun status
      ends None shows tells = inr (inr tells.0)
      ends (Some (Finished Ended)) shows tells = inl tells.0
      ends (Some (Finished (Faulted fault))) shows tells = inr (inl tells.0)
      ends (Some (Trapped trap)) shows tells = absurd (untrapped trap done.told done.output shows)

  -- one that tells no fault
  ends_demo : (o : Outcome) → IsDone status c o → ((fault : Fault) → Hides o (Some (Finished (Faulted fault)))) → ((trap : Trap) → Hides o (Some (Trapped trap))) → (status ≡ 0) ⊎ (status ≡ 3)
  ends_demo o done faultless untrapped = ends done.ended done.shows done.says
    where
      ends : (ended : Option Stop) → ShowsSo o ended done.told done.output → TellsRun ended o.steps done.told status c → (status ≡ 0) ⊎ (status ≡ 3)
      ends None shows tells = inr tells.0
      ends (Some (Finished Ended)) shows tells = inl tells.0
      ends (Some (Finished (Faulted fault))) shows tells = absurd (faultless fault done.told done.output shows)
      ends (Some (Trapped trap)) shows tells = absurd (untrapped trap done.told done.output shows)

  -- what writes pieces and runs nothing
  ends_written : (said : List (List ℕ)) (IsOutput : List (List ℕ) → Type 0) → IsDone status c (writes said IsOutput) → status ≡ 0
  ends_written said IsOutput done = ends done.ended done.shows done.says
    where
      ends : (ended : Option Stop) → ShowsSo (writes said IsOutput) ended done.told done.output → TellsRun ended 0 done.told status c → status ≡ 0
      ends None shows tells = absurd (let e : ◌≡◌ {A = Option End} None (Some Ended) = shows.0 in cc)
      ends (Some (Finished Ended)) shows tells = tells.0
      ends (Some (Finished (Faulted fault))) shows tells = absurd (let e : ◌≡◌ {A = Option End} (Some (Faulted fault)) (Some Ended) = shows.0 in cc)
      ends (Some (Trapped trap)) shows tells = absurd shows

  -- ---- each command

  ends_bytes : (does : BytesAction) (read : (on_bytes does).Read) (values : List Value) → IsDone status c ((on_bytes does).outcome read values) → Ends (action.Bytes does) status
  ends_bytes bytes.Assemble read values done = ends_written _ _ done
  ends_bytes (bytes.Execute settings) read values done = ends_all _ done

  ends_file : (does : FileAction) (tree : Tree) → IsDone status c (on_file does tree) → status ≡ 0
  ends_file file.WriteText tree done = ends_written _ _ done
  ends_file file.WriteJson tree done = ends_written _ _ done

  ends_tree : (does : TreeAction) (tree : Tree) → IsDone status c (on_tree does tree) → status ≡ 0
  ends_tree tree.Link tree done = ends_written _ _ done

  ends_program : (does : ProgramAction) (on : Subject) → IsDone status c ((on_program does).outcome on) → Ends (action.Program does) status
  ends_program (program.AsItStands source.Check) on done = ends_written _ _ done
  ends_program (program.AsItStands (source.Interpret settings)) on done = ends_run _ done (λ trap told output shows. shows)
  ends_program (program.AsItStands (source.Record settings)) on done = ends_run _ done (λ trap told output shows. shows)
  ends_program (program.WithPasses (passes.Run settings)) on done = ends_run _ done (λ trap told output shows. shows)
  ends_program (program.WithPasses (passes.Emit limits)) on done = ends_written _ _ done
  ends_program (program.WithPasses (passes.List limits)) on done = ends_written _ _ done
  ends_program (program.WithPasses (passes.Wrap limits)) on done = ends_written _ _ done
  ends_program (program.WithPasses passes.Passes) on done = ends_written _ _ done
  ends_program (program.Monitor settings) on done = ends_run _ done (λ trap told output shows. shows)

  -- ---- the stages before it

  -- the list of passes makes a program
  unstopped : (by_list : Bool) (entries : List Entry) (p : Prog) → ((place : ℕ) → ¬ IsFirstUnknown c.passes (Some place)) → ((place bound : ℕ) → ¬ IsRefusedPass c.passes entries p place bound) → ¬ StopsMaking by_list status c entries p
  unstopped false entries p known small stops = absurd stops
  unstopped true entries p known small (inl unknown) = known unknown.place unknown.unknown
  unstopped true entries p known small (inr large) = small large.place large.bound large.refused

  -- the program is within the bounds
  emitted : (emission : Emission) (q : Prog) (Does : Type 0) → ((limits : Limits) → AreLimitsOf emission limits → IsWithin q limits) → AfterEmission emission status q Does → Does
  emitted NoImage q Does within after = after
  emitted (ImageFor frames cells) q Does within (limits, are, inl long) = absurd (long.0 (within limits are))
  emitted (ImageFor frames cells) q Does within (limits, are, inr fits) = fits.1

  module _ (promises : Promises status c) where
    -- a program that is good is worked on
    worked : (X : Type 0) (asked : Action) (origin : Origin) (does : OfProgram) (wrong : NothingIsWrong c asked) → IsGoodProgram origin does c wrong.reads.path wrong.reads.args
        → ((tree : Tree) → HaveTree (reach_of origin) c.files_before.holds wrong.reads.path tree → CommandDone (OnProgram origin does) status c tree wrong.reads.args) → ((on : Subject) → IsDone status c (does.outcome on) → X) → UnlessMemory status X
    worked X asked origin does wrong good goes ends =
        ⊎_elim (λ memory. inl memory)
        (⊎_elim (λ stops. absurd (unstopped does.takes_passes good.entries good.program good.known good.small stops))
        (λ made. let on = subject does c.passes c.second c.files_before.holds good.entries good.program made.0 made.1 good.values in
        inr (ends on (emitted does.emission made.0 (IsDoneUnless status c (does.outcome on)) (good.fits made.0 made.1) made.2 wrong.written))))
        (goes good.tree good.have good.program good.values good.entries good.numbered good.accepted good.spelled good.profiled)

    -- what is done where no write fails is
    done_well : (X : Type 0) (asked : Action) (o : Outcome) → NothingIsWrong c asked → UnlessMemory status (IsDoneUnless status c o) → (IsDone status c o → X) → UnlessMemory status X
    done_well X asked o nothing done ends = ⊎_elim (λ memory. inl memory) (λ does. inr (ends (does nothing.written))) done

    pub IsComplete-promised : (asked : Action) → NothingIsWrong c asked → UnlessMemory status (Ends asked status)
    IsComplete-promised (action.Bytes does) nothing =
        let good = nothing.good in
        done_well (Ends (action.Bytes does) status) (action.Bytes does) ((on_bytes does).outcome good.read good.values) nothing
        (promises.does_bytes (action.Bytes does) nothing.reads good.bytes good.read good.values good.held good.are_read good.given) (ends_bytes does good.read good.values)
    IsComplete-promised (action.File does) nothing =
        let good = nothing.good in
        done_well (status ≡ 0) (action.File does) (on_file does good.tree) nothing (promises.does (action.File does) nothing.reads good.tree good.have) (ends_file does good.tree)
    IsComplete-promised (action.Tree does) nothing =
        let good = nothing.good in
        done_well (status ≡ 0) (action.Tree does) (on_tree does good.tree) nothing (promises.does (action.Tree does) nothing.reads good.tree good.have) (ends_tree does good.tree)
    IsComplete-promised (action.Program does) nothing =
        worked (Ends (action.Program does) status) (action.Program does) LinkedFiles (on_program does) nothing nothing.good (promises.does (action.Program does) nothing.reads) (ends_program does)
    IsComplete-promised (action.Demo functions) nothing =
        worked ((status ≡ 0) ⊎ (status ≡ 3)) (action.Demo functions) (Demo functions) (demonstrates functions) nothing nothing.good (promises.does (action.Demo functions) nothing.reads)
        (λ on done. ends_demo _ done (λ fault told output shows. shows) (λ trap told output shows. shows))
