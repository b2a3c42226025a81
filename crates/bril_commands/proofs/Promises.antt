-- All that the top call promises.
use Rattle.std.proofs.Common.{◌≡◌, ◌≢◌, ℕ, ◌<◌, ◌≤◌, ◌^◌, List, [], ◌∷◌, Ok, Err, ap, map, codes, inl, inr, refl, sym, ◌∙◌, subst, arith, ⊎_elim}
use Rattle.bril_report.specs.Lines.{misuse_line}
use Rattle.bril_report.specs.Puts.{Puts}
use Rattle.bril_report.specs.Report.{status_number, status_pieces}
use Rattle.bril_report.specs.StageFaults.{misuse_status}
use Rattle.bril_report.specs.declared.status.Status.{Status}
use Rattle.bril_report.specs.declared.status.Status.TheVariants as status
use Rattle.bril_words.specs.Answers as words
use Rattle.bril_words.specs.CommandLine.{Refusal, bad_functions, not_taken, bad_value, words_ask}
use Rattle.bril_words.specs.declared.misuse.Misuse.{Misuse}
use Rattle.bril_words.specs.declared.misuse.Misuse.TheVariants as misuse
use Rattle.bril_tree.specs.declared.tree.Tree.{Tree}
use Rattle.bril_words.specs.declared.subcommands.Action.{Action}
use Rattle.bril_words.specs.declared.subcommands.Action.TheVariants as action
use Rattle.bril_tree.specs.Numbered.{Numbered}
use Rattle.bril_names.specs.Faults as names
use Rattle.bril_demo.proofs.Acceptance.{demo_faultless, demo_is_accepted}
use Rattle.bril_demo.specs.Demo.{demo_tree}
use Rattle.import_linker.specs.declared.fault.LinkFault.{LinkFault}
use Rattle.import_linker.specs.declared.fault.LinkFault.TheVariants as link
use Rattle.bril_commands.specs.Answers.{Answers, ArgumentsRefused, FilesRefused, Promises, ScriptMisread, SourceRefused, TooLarge}
use Rattle.bril_commands.specs.Call.{Call}
use Rattle.bril_commands.specs.Comes.{ReadsWell, SaysAlone, UnlessMemory}
use Rattle.bril_commands.specs.Command.{Command, OnBytes, OnFile, OnTree, OnProgram, RefusesOnBytes, reach, takes_passes}
use Rattle.bril_commands.specs.CommandLine.{Asks, AsksFor, AskNothing, IsToldOf}
use Rattle.bril_commands.specs.Source.{HaveTree, IsTreeAt, RefusesFiles}
use Rattle.bril_commands.specs.Table.{KeepsPasses, command}
use Rattle.bril_commands.specs.When.{BytesDone, CommandDone}
use Rattle.bril_commands.proofs.BytesWhen.{bytes_done, bytes_refused_where}
use Rattle.bril_commands.proofs.Causes.{Ok_not_Err, request_of, asked_action, misargued_where, unchecked_where, misnamed_where, refused_where, told_where, lacking_where}
use Rattle.bril_commands.proofs.Keeping.{kept}
use Rattle.bril_commands.proofs.When.{done_where}
use Rattle.bril_commands.proofs.Statuses.{Ends, Answers-of}

refused_silent : (c : Call) → SourceRefused c → c.out_after ≡ c.out_before
refused_silent c says =
    ⊎_elim (λ bytes. bytes.refused.alone.silent)
    (⊎_elim (λ lacks. lacks.refused.alone.silent)
    (⊎_elim (λ repeats. repeats.refused.alone.silent)
    (⊎_elim (λ program. ⊎_elim (λ name. name.alone.silent) (λ check. check.alone.silent) program.1) (λ held. held.alone.silent))))
    says.because

large_silent : (c : Call) → TooLarge c → c.out_after ≡ c.out_before
large_silent c says =
    ⊎_elim (λ bytes. bytes.alone.silent)
    (⊎_elim (λ files. files.alone.silent)
    (⊎_elim (λ program. ⊎_elim (λ code. code.alone.silent) (λ stack. stack.alone.silent) program.because)
    (⊎_elim (λ pass. pass.alone.silent) (⊎_elim (λ profile. profile.alone.silent) (⊎_elim (λ script. script.alone.silent) (λ held. held.alone.silent))))))
    says.because

arguments_silent : (c : Call) → ArgumentsRefused c → c.out_after ≡ c.out_before
arguments_silent c says = ⊎_elim (λ program. program.alone.silent) (λ held. held.1.alone.silent) says

-- from 64 to 70 nothing is put on the output
silent_at : (how : Status) (c : Call) → Answers (status_number how) c → 64 ≤ status_number how → status_number how ≤ 70 → c.out_after ≡ c.out_before
silent_at (status.Misread path fault) c says low high = refused_silent c says
silent_at (status.NotThere path name) c says low high = refused_silent c says
silent_at (status.Clash path name) c says low high = refused_silent c says
silent_at (status.Misnamed fault) c says low high = refused_silent c says
silent_at (status.Unaccepted p fault) c says low high = refused_silent c says
silent_at (status.CannotRead path) c says low high = ⊎_elim (λ files. files.alone.silent) (λ profile. profile.alone.silent) says.because
silent_at (status.MisreadProfile line) c says low high = says.refused.alone.silent
silent_at status.ProfileTooLarge c says low high = large_silent c says
silent_at status.TooManyBytes c says low high = large_silent c says
silent_at status.TooManyFiles c says low high = large_silent c says
silent_at (status.CodeTooBig words) c says low high = large_silent c says
silent_at (status.StackTooBig words) c says low high = large_silent c says
silent_at (status.Misused misuse) c says low high = says.alone.silent
silent_at (status.PassTooLarge place bound) c says low high = large_silent c says
silent_at (status.UnknownPass place) c says low high = says.alone.silent
silent_at (status.ArgumentCount given wanted) c says low high = arguments_silent c says
silent_at (status.BadArgument position) c says low high = arguments_silent c says
silent_at (status.ArgumentRoom given room) c says low high = arguments_silent c says
silent_at (status.MisreadListing path line) c says low high = refused_silent c says
silent_at (status.MisreadElf path at) c says low high = refused_silent c says
silent_at status.ScriptTooLarge c says low high = large_silent c says
silent_at _ c says low high = absurd (omega arith)

-- so at 72
silent_at_script : (how : Status) (c : Call) → Answers (status_number how) c → status_number how ≡ 72 → c.out_after ≡ c.out_before
silent_at_script how c answers is = let says : ScriptMisread c = subst (λ n. Answers n c) is answers in says.refused.alone.silent

-- the program of the demo is accepted
demo_unrefused : (c : Call) (asks : Asks c.words) (functions : ℕ) → action.Demo functions ≡ asks.action → (why : LinkFault) (line : List (List ℕ)) → why ≢ link.Memory → FilesRefused c asks why line → ⊥
demo_unrefused c asks functions is why line ample refused = ample (subst (λ (a : Action). RefusesFiles (reach (command a)) why c.files_before c.files_after asks.path) (sym is) refused.refuses)

demo_tree_at : (c : Call) (asks : Asks c.words) (functions : ℕ) → action.Demo functions ≡ asks.action → (tree : Tree) → IsTreeAt (reach (command asks.action)) c.files_before.holds asks.path tree → tree ≡ demo_tree functions
demo_tree_at c asks functions is tree file = subst (λ (a : Action). IsTreeAt (reach (command a)) c.files_before.holds asks.path tree) (sym is) file

demo_accepted : (c : Call) (functions : ℕ) → functions ≤ 150 → (refused : SourceRefused c) → action.Demo functions ≡ refused.asks.action → ⊥
demo_accepted c functions few refused is =
    ⊎_elim (λ misread. demo_unrefused c refused.asks functions is (link.Bad misread.path misread.fault) _ (λ e. cc) misread.refused)
    (⊎_elim (λ lacks. demo_unrefused c refused.asks functions is (link.NotThere lacks.path lacks.name) _ (λ e. cc) lacks.refused)
    (⊎_elim (λ repeats. demo_unrefused c refused.asks functions is (link.Clash repeats.path repeats.name) _ (λ e. cc) repeats.refused)
    (⊎_elim (λ program. ⊎_elim (λ name. demo_faultless functions name.fault small (subst (λ (t : Tree). names.HasFault t name.fault) (demo_tree_at c refused.asks functions is name.tree name.file) name.only.has))
    (λ check. check.only.unaccepted (demo_is_accepted functions check.program small (subst (λ (t : Tree). Numbered t check.program) (demo_tree_at c refused.asks functions is check.tree check.file) check.source.numbered)))
    program.1)
    (λ held. subst (λ (a : Action). RefusesOnBytes (command a) held.how c.files_before.holds refused.asks.path refused.asks.args) (sym is) held.refuses))))
    refused.because
  where
    small : functions < 2 ^ 64
    small = omega arith

-- of a request, once it was driven
module _ (c : Call) (asks : Asks c.words) (how : Status) (ends : Ends c asks how) where
  told : Answers (status_number how) c
  told = Answers-of c asks how ends

  program_refused : status_number how ≡ 65 → SourceRefused c
  program_refused e = subst (λ k. Answers k c) e told

  asked_something : AskNothing c.words → UnlessMemory (status_number how) (status_number how ≡ 64)
  asked_something none = let e : Ok (request_of asks.action asks.path asks.asked.0 asks.asked.1 asks.args) ≡ Err none.0 = sym asks.asked.2 ∙ none.1 in absurd (Ok_not_Err e)

  pub Promises-driven : Promises (status_number how) c
  Promises-driven = record {
    answers = told;
    silent = silent_at how c told;
    silent_script = silent_at_script how c told;
    unasked = asked_something;
    does = done_where c asks how ends;
    does_bytes = λ action reads. bytes_done c asks how ends action reads;
    refused_bytes = λ action reads why ample refuses. bytes_refused_where c asks how ends action reads why ample refuses;
    misargued = misargued_where c asks how ends;
    misread = λ path fault action reads have. told_where c asks how ends action (link.Bad path fault) (λ e. cc) reads have;
    misnamed = λ action needs reads tree fault linked has. misnamed_where c asks how ends action needs reads tree linked fault has;
    unchecked = λ action needs reads tree p fault linked numbered has. unchecked_where c asks how ends action needs reads tree linked p fault numbered has;
    not_there = λ path name action reads have. told_where c asks how ends action (link.NotThere path name) (λ e. cc) reads have;
    clash = λ path name action reads have. told_where c asks how ends action (link.Clash path name) (λ e. cc) reads have;
    lacking = lacking_where c asks how ends;
    long_files = λ action reads have. told_where c asks how ends action link.TooManyBytes (λ e. cc) reads have;
    many_files = λ action reads have. told_where c asks how ends action link.TooManyFiles (λ e. cc) reads have;
    lacking_profile = λ path action reads tree p values have numbered accepted spelled. refused_where c asks how ends action reads tree p have numbered accepted values spelled (status.CannotRead path) (λ e. cc);
    misread_profile = λ line action reads tree p values have numbered accepted spelled. refused_where c asks how ends action reads tree p have numbered accepted values spelled (status.MisreadProfile line) (λ e. cc);
    long_profile = λ action reads tree p values have numbered accepted spelled. refused_where c asks how ends action reads tree p have numbered accepted values spelled status.ProfileTooLarge (λ e. cc);
    misread_script = λ line action reads tree p values have numbered accepted spelled. refused_where c asks how ends action reads tree p have numbered accepted values spelled (status.MisreadScript line) (λ e. cc);
    long_script = λ action reads tree p values have numbered accepted spelled. refused_where c asks how ends action reads tree p have numbered accepted values spelled status.ScriptTooLarge (λ e. cc);
    demo = λ functions path args few asked number. demo_accepted c functions few (program_refused number) (asked_action c (program_refused number).asks (action.Demo functions) path args asked);
    keeps = λ action path args asked. subst (λ (a : Action). KeepsPasses c.passes.meaning a c.passes.before c.passes.after) (sym (asked_action c asks action path args asked)) ends.keeps;
  }

-- ---- of words that give no request

-- of words that ask for nothing
module _ (c : Call) (refusal : Refusal) (refused : words_ask c.words ≡ Err refusal) where
  not_asked : {A : Type 0} (action : Action) (path : List ℕ) (args : List (List ℕ)) → AsksFor c.words action path args → A
  not_asked action path args asks = let e : Ok (request_of action path asks.0 asks.1 args) ≡ Err refusal = sym asks.2 ∙ refused in absurd (Ok_not_Err e)

  not_read : {A : Type 0} (action : Action) → ReadsWell c action → A
  not_read action reads = not_asked action reads.path reads.args reads.asked

  unread_bytes : (k : Command) (action : Action) (reads : ReadsWell c action) → BytesDone k 64 c reads.path reads.args
  unread_bytes (OnBytes does) action reads = λ bytes read values held is given. not_read action reads
  unread_bytes (OnFile outcome) action reads = tt
  unread_bytes (OnTree outcome) action reads = tt
  unread_bytes (OnProgram origin does) action reads = tt

  Promises-misused : c.files_after ≡ c.files_before → c.passes.after ≡ c.passes.before → (line : List ℕ) → IsToldOf refusal line → SaysAlone c (line ∷ []) → Promises 64 c
  Promises-misused unread kept line told alone = record {
    answers = record { refusal = refusal; unasked = refused; unread = unread; kept = kept; line = line; told = told; alone = alone };
    silent = λ low high. alone.silent;
    silent_script = λ is. alone.silent;
    unasked = λ none. inr refl;
    does = λ action reads tree have. not_read action reads;
    does_bytes = λ action reads. unread_bytes (command action) action reads;
    refused_bytes = λ action reads why ample refuses. not_read action reads;
    misargued = λ action gives reads tree p fault linked numbered accepted ample is. not_read action reads;
    misread = λ path fault action reads have. not_read action reads;
    misnamed = λ action needs reads tree fault linked has. not_read action reads;
    unchecked = λ action needs reads tree p fault linked numbered has. not_read action reads;
    not_there = λ path name action reads have. not_read action reads;
    clash = λ path name action reads have. not_read action reads;
    lacking = λ asks path lack. not_asked asks.action asks.path asks.args asks.asked;
    long_files = λ action reads have. not_read action reads;
    many_files = λ action reads have. not_read action reads;
    lacking_profile = λ path action reads tree p values have numbered accepted spelled refuses. not_read action reads;
    misread_profile = λ line action reads tree p values have numbered accepted spelled refuses. not_read action reads;
    long_profile = λ action reads tree p values have numbered accepted spelled refuses. not_read action reads;
    misread_script = λ line action reads tree p values have numbered accepted spelled refuses. not_read action reads;
    long_script = λ action reads tree p values have numbered accepted spelled refuses. not_read action reads;
    demo = λ functions path args few asked number. absurd (omega arith);
    keeps = λ action path args asks. not_asked action path args asks;
  }

-- out of memory comes in place of all that a command does
done_exhausted : (k : Command) (c : Call) (path : List ℕ) (tree : Tree) (args : List (List ℕ)) → HaveTree (reach k) c.files_before.holds path tree → CommandDone k 71 c tree args
done_exhausted (OnBytes does) c path tree args have = absurd have
done_exhausted (OnFile outcome) c path tree args have = inl refl
done_exhausted (OnTree outcome) c path tree args have = inl refl
done_exhausted (OnProgram origin does) c path tree args have = λ p values entries numbered accepted spelled profiled. inl refl

bytes_exhausted : (k : Command) (c : Call) (path : List ℕ) (args : List (List ℕ)) → BytesDone k 71 c path args
bytes_exhausted (OnBytes does) c path args = λ bytes read values held is given. inl refl
bytes_exhausted (OnFile outcome) c path args = tt
bytes_exhausted (OnTree outcome) c path args = tt
bytes_exhausted (OnProgram origin does) c path args = tt

-- of words for whose reading memory ran out
Promises-exhausted : (c : Call) → c.passes.after ≡ c.passes.before → c.out_after ≡ c.out_before → Puts c.err_before (codes "out of memory\n" ∷ []) c.err_after → Promises 71 c
Promises-exhausted c same silent says = record {
  answers = record { tallies = inl (ap (map c.passes.counts) same); leaves = inl silent; says = says };
  silent = λ low high. absurd (omega arith);
  silent_script = λ is. absurd (omega (arith, is));
  unasked = λ none. inl refl;
  does = λ action reads tree have. done_exhausted (command action) c reads.path tree reads.args have;
  does_bytes = λ action reads. bytes_exhausted (command action) c reads.path reads.args;
  refused_bytes = λ action reads why ample refuses. inl refl;
  misargued = λ action gives reads tree p fault linked numbered accepted ample is. inl refl;
  misread = λ path fault action reads have. inl refl;
  misnamed = λ action needs reads tree fault linked has. inl refl;
  unchecked = λ action needs reads tree p fault linked numbered has. inl refl;
  not_there = λ path name action reads have. inl refl;
  clash = λ path name action reads have. inl refl;
  lacking = λ asks path lack. inl refl;
  long_files = λ action reads have. inl refl;
  many_files = λ action reads have. inl refl;
  lacking_profile = λ path action reads tree p values have numbered accepted spelled refuses. inl refl;
  misread_profile = λ line action reads tree p values have numbered accepted spelled refuses. inl refl;
  long_profile = λ action reads tree p values have numbered accepted spelled refuses. inl refl;
  misread_script = λ line action reads tree p values have numbered accepted spelled refuses. inl refl;
  long_script = λ action reads tree p values have numbered accepted spelled refuses. inl refl;
  demo = λ functions path args few asked number. absurd (omega arith);
  keeps = λ action path args asks.
      subst (λ (after : List c.passes.Box). KeepsPasses c.passes.meaning action c.passes.before after) (sym same) (kept c.passes.meaning (takes_passes (command action)) c.passes.before);
}

-- of words that were not read
pub Promises-unread : (c : Call) (misuse : Misuse) → words.Answers (words_ask c.words) (Err misuse) → c.files_after ≡ c.files_before → c.passes.after ≡ c.passes.before → c.out_after ≡ c.out_before
    → Puts c.err_before (status_pieces (misuse_status misuse)) c.err_after → Promises (status_number (misuse_status misuse)) c
Promises-unread c (misuse.Words text) answers unread same silent says = Promises-misused c not_taken answers unread same (misuse_line (misuse.Words text)) tt (record { silent = silent; says = says })
Promises-unread c (misuse.Value setting) answers unread same silent says = Promises-misused c (bad_value setting) answers unread same (misuse_line (misuse.Value setting)) refl (record { silent = silent; says = says })
Promises-unread c misuse.Functions answers unread same silent says = Promises-misused c bad_functions answers unread same (misuse_line misuse.Functions) refl (record { silent = silent; says = says })
Promises-unread c misuse.Memory answers unread same silent says = Promises-exhausted c same silent says
