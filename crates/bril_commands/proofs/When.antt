-- When a command is done.
use Rattle.std.proofs.Common.{◌≡◌, ℕ, ◌⊎◌, Bool, true, false, append-nil, ◌++◌, List, Some, None, refl, sym, subst, arith, inl, inr, ⊎_elim}
use Rattle.bril_outside.specs.Sink.{Rose}
use Rattle.bril_profile.specs.declared.profile.Entry.{Entry}
use Rattle.bril_report.proofs.Puts.{WritesSome-rose}
use Rattle.bril_report.specs.Puts.{Puts}
use Rattle.bril_report.specs.Report.{status_number, status_pieces, spent_pieces}
use Rattle.bril_report.specs.declared.status.Status.TheVariants as status
use Rattle.bril_report.specs.declared.status.Status.{Status}
use Rattle.bril_tree.specs.declared.limits.End.TheVariants.{Ended, Faulted}
use Rattle.bril_tree.specs.declared.limits.Limits.{Limits}
use Rattle.bril_tree.specs.declared.program.Prog.{Prog}
use Rattle.bril_tree.specs.declared.tree.Tree.{Tree}
use Rattle.bril_tree.specs.declared.value.Value.{Value}
use Rattle.bril_words.specs.declared.subcommands.Action.{Action}
use Rattle.rv64_words.specs.State.{Finished, Trapped}
use Rattle.rv64_image_laws.proofs.Sizes.{within_not_beyond}
use Rattle.rv64_image_laws.specs.WordBounds.{IsWithin}
use Rattle.bril_commands.proofs.Causes.{by_tree, exhausted, no_refusal, same_args, same_values, with_program}
use Rattle.bril_commands.proofs.Profiles.{not_refused_from, same_entries_from}
use Rattle.bril_commands.proofs.Statuses.{Ends, plain}
use Rattle.bril_commands.specs.Call.{Call}
use Rattle.bril_commands.specs.Comes.{ReadsWell, UnlessMemory}
use Rattle.bril_commands.specs.Command.{Command, OnBytes, OnFile, OnTree, OnProgram, OfProgram, Emission, NoImage, ImageFor, Makes, RefusesMaking, Fits, RefusesEmission, NeedsProgram, Spell, profile_of, reach}
use Rattle.bril_commands.specs.CommandLine.{Asks}
use Rattle.bril_commands.specs.Driver.{IsSilent, subject, DoesAccepted, DoesGiven, DoesProgram, DoesTree}
use Rattle.bril_commands.specs.Images.{RefusesImage}
use Rattle.bril_commands.specs.Outcome.{Outcome, Works}
use Rattle.bril_commands.specs.PassList.{RefusesList}
use Rattle.bril_commands.specs.Profiles.{IsProfileFrom, IsSourceTold}
use Rattle.bril_commands.specs.Source.{HaveTree}
use Rattle.bril_commands.specs.Table.{command}
use Rattle.bril_commands.specs.When.{StopsMaking, AfterPasses, AfterEmission, IsDoneUnless, CommandDone}

-- the work is done, or memory ran out
pub works_done : (c : Call) (o : Outcome) (how : Status) (told : List (List ℕ)) → Puts c.err_before (told ++ status_pieces how) c.err_after → Works o how told c.out_before c.out_after
    → UnlessMemory (status_number how) (IsDoneUnless (status_number how) c o)
works_done c o status.Done told says works = inr (λ sound. record {
  ended = Some (Finished Ended);
  told = told;
  output = works.output;
  shows = works.shows;
  says = (refl, subst (λ (ps : List (List ℕ)). Puts c.err_before ps c.err_after) (append-nil told) says);
  took = works.took;
})
works_done c o (status.Faulted fault) told says works = inr (λ sound. record {
  ended = Some (Finished (Faulted fault));
  told = told;
  output = works.output;
  shows = works.shows;
  says = (refl, says);
  took = works.took;
})
works_done c o (status.Spent made) told says works = inr (λ sound. record {
  ended = None;
  told = told;
  output = works.1.output;
  shows = works.1.shows;
  says = (refl, subst (λ n. Puts c.err_before (told ++ spent_pieces n) c.err_after) works.0 says);
  took = works.1.took;
})
works_done c o (status.Trapped trap) told says works = inr (λ sound. record {
  ended = Some (Trapped trap);
  told = told;
  output = works.output;
  shows = works.traps;
  says = (refl, says);
  took = works.took;
})
works_done c o status.OutOfMemory told says works = inl refl
works_done c o status.CannotWrite told says works = inr (λ sound. absurd (sound (⊎_elim (λ partly. WritesSome-rose partly.took) (λ partly. WritesSome-rose partly.took) works.1)))
works_done c o _ told says works = absurd works

-- ---- the stages before it

-- the list makes no program, or memory ran out
list_stops : (c : Call) (entries : List Entry) (p : Prog) (how : Status) → Puts c.err_before (status_pieces how) c.err_after → RefusesList how c.passes entries p → c.out_after ≡ c.out_before → UnlessMemory (status_number how) (StopsMaking true (status_number how) c entries p)
list_stops c entries p (status.UnknownPass place) says refuses silent =
    inr (inl (record { place = place; unknown = refuses.0; is = refl; alone = record { silent = silent; says = says } }))
list_stops c entries p (status.PassTooLarge place bound) says refuses silent =
    inr (inr (record { place = place; bound = bound; refused = refuses; is = refl; alone = record { silent = silent; says = says } }))
list_stops c entries p status.OutOfMemory says refuses silent = inl refl
list_stops c entries p _ says refuses silent = absurd refuses

stops : (by_list : Bool) (c : Call) (entries : List Entry) (p : Prog) (how : Status) → Puts c.err_before (status_pieces how) c.err_after → RefusesMaking by_list how c.passes entries p → c.out_after ≡ c.out_before → UnlessMemory (status_number how) (StopsMaking by_list (status_number how) c entries p)
stops false c entries p how says refuses silent = absurd refuses
stops true c entries p how says refuses silent = list_stops c entries p how says refuses silent

-- what it makes is too large, or memory ran out
beyond : (how : Status) (q : Prog) (limits : Limits) → RefusesImage how q limits → UnlessMemory (status_number how) (¬ IsWithin q limits × (status_number how ≡ 68))
beyond (status.CodeTooBig words) q limits refuses = inr ((λ within. let w = within.code in let long = refuses.0 in absurd (omega arith)), refl)
beyond (status.StackTooBig words) q limits refuses = inr ((λ within. within_not_beyond q limits refuses.1.0 within refuses.1.1 refuses.1.2), refl)
beyond status.OutOfMemory q limits refuses = inl refl
beyond _ q limits refuses = absurd refuses

too_large : (emission : Emission) (how : Status) (q : Prog) (Does : Type 0) → RefusesEmission emission how q → UnlessMemory (status_number how) (AfterEmission emission (status_number how) q Does)
too_large NoImage how q Does refuses = absurd refuses.1
too_large (ImageFor frames cells) how q Does refuses = ⊎_elim inl (λ long. inr (refuses.0, refuses.1, inl long)) (beyond how q refuses.0 refuses.2)

-- it is within the bounds
within_bounds : (emission : Emission) (number : ℕ) (q : Prog) (Does : Type 0) → Fits emission q → UnlessMemory number Does → UnlessMemory number (AfterEmission emission number q Does)
within_bounds NoImage number q Does fits does = does
within_bounds (ImageFor frames cells) number q Does fits does = ⊎_elim inl (λ done. inr (fits.0, fits.1, inr (fits.2, done))) does

-- ---- the clause

module _ (c : Call) (asks : Asks c.words) (how : Status) (ends : Ends c asks how) where
  made_done : (does : OfProgram) (entries : List Entry) (p q : Prog) (makes : Makes does.takes_passes c.passes entries p q) (values : List Value)
      → (RefusesEmission does.emission how q × IsSilent ends.told c.out_before c.out_after) ⊎ (Fits does.emission q × Works (does.outcome (subject does c.passes c.second c.files_before.holds entries p q makes values)) how ends.told c.out_before c.out_after)
      → UnlessMemory (status_number how) (AfterEmission does.emission (status_number how) q (IsDoneUnless (status_number how) c (does.outcome (subject does c.passes c.second c.files_before.holds entries p q makes values))))
  made_done does entries p q makes values =
      ⊎_elim (λ long. too_large does.emission how q _ long.0)
      (λ goes. within_bounds does.emission (status_number how) q _ goes.0 (works_done c (does.outcome (subject does c.passes c.second c.files_before.holds entries p q makes values)) how ends.told ends.says goes.1))

  -- it was given these values and these entries
  given_done : (does : OfProgram) (entries : List Entry) (p : Prog) (values : List Value) → DoesGiven does how c.passes c.second c.files_before.holds entries p values ends.told c.out_before c.out_after
      → UnlessMemory (status_number how) (AfterPasses does.takes_passes (status_number how) c entries p (λ q makes. AfterEmission does.emission (status_number how) q (IsDoneUnless (status_number how) c (does.outcome (subject does c.passes c.second c.files_before.holds entries p q makes values)))))
  given_done does entries p values =
      ⊎_elim (λ refused. ⊎_elim inl (λ stopped. inr (inl stopped)) (stops does.takes_passes c entries p how (plain ends.told (status_pieces how) refused.1.0 ends.says) refused.0 refused.1.1))
      (λ made. ⊎_elim inl (λ done. inr (inr (made.0, made.1, done))) (made_done does entries p made.0 made.1 values made.2))

  program_done : (does : OfProgram) (p : Prog) (values : List Value) (entries : List Entry) → ¬ Rose c.files_before.faults c.files_after.faults → IsSourceTold does.profile c.second c.files_before.holds
      → Spell does.arguments p asks.args values → IsProfileFrom does.profile c.second c.files_before.holds p entries
      → DoesProgram does how c.passes c.files_before c.files_after p c.second asks.args ends.told c.out_before c.out_after
      → UnlessMemory (status_number how) (AfterPasses does.takes_passes (status_number how) c entries p (λ q makes. AfterEmission does.emission (status_number how) q (IsDoneUnless (status_number how) c (does.outcome (subject does c.passes c.second c.files_before.holds entries p q makes values)))))
  program_done does p values entries sound told spelled profiled =
      ⊎_elim (λ refused. exhausted how _ (no_refusal does.arguments how p asks.args values spelled refused.0))
      (λ goes. ⊎_elim (λ refused. exhausted how _ (not_refused_from c.files_before c.files_after sound does.profile c.second p entries how told profiled refused.0))
      (λ given. given_done does entries p values
      (subst (λ (es : List Entry). DoesGiven does how c.passes c.second c.files_before.holds es p values ends.told c.out_before c.out_after) (same_entries_from c.files_before c.files_after sound does.profile c.second p given.0 entries told given.1 profiled)
      (subst (λ (vs : List Value). DoesGiven does how c.passes c.second c.files_before.holds given.0 p vs ends.told c.out_before c.out_after) (same_values does.arguments p asks.args goes.0 values goes.1 spelled) given.2)))
      goes.2)

  module _ (action : Action) (reads : ReadsWell c action) (tree : Tree) where
    tree_done : (k : Command) → command action ≡ k → (outcome : Tree → Outcome) → ((how : Status) → DoesTree k how c.passes c.files_before c.files_after tree c.second asks.args ends.told c.out_before c.out_after → Works (outcome tree) how ends.told c.out_before c.out_after)
        → HaveTree (reach (command action)) c.files_before.holds reads.path tree → UnlessMemory (status_number how) (IsDoneUnless (status_number how) c (outcome tree))
    tree_done k is outcome works have =
        by_tree c asks how ends action reads _ tree have (exhausted how _)
        (λ does. works_done c (outcome tree) how ends.told ends.says (works how (subst (λ k. DoesTree k how c.passes c.files_before c.files_after tree c.second asks.args ends.told c.out_before c.out_after) is does)))

    command_done : (k : Command) → command action ≡ k → HaveTree (reach (command action)) c.files_before.holds reads.path tree → CommandDone k (status_number how) c tree reads.args
    command_done (OnBytes does) is have = absurd (subst (λ k. HaveTree (reach k) c.files_before.holds reads.path tree) is have)
    command_done (OnFile outcome) is have = tree_done (OnFile outcome) is outcome (λ h does. does) have
    command_done (OnTree outcome) is have = tree_done (OnTree outcome) is outcome (λ h does. does) have
    command_done (OnProgram origin does) is have = λ p values entries numbered accepted spelled profiled.
        let told : IsSourceTold does.profile c.second c.files_before.holds = subst (λ k. IsSourceTold (profile_of k) c.second c.files_before.holds) is reads.told_profile in
        let here : Spell does.arguments p asks.args values = subst (λ a. Spell does.arguments p a values) (same_args c asks how ends action reads) spelled in
        with_program c asks how ends action (subst NeedsProgram (sym is) tt) reads tree have _ p numbered (exhausted how _)
        (λ fault e none has. absurd (has.unaccepted accepted))
        (λ faultless goes. program_done does p values entries reads.sound told here profiled
        (subst (λ k. DoesAccepted k how c.passes c.files_before c.files_after p c.second asks.args ends.told c.out_before c.out_after) is goes))

    pub done_where : HaveTree (reach (command action)) c.files_before.holds reads.path tree → CommandDone (command action) (status_number how) c tree reads.args
    done_where = command_done (command action) refl
