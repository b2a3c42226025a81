-- When each status comes.
use Rattle.std.proofs.Common.{◌≡◌, ℕ, ◌⊎◌, List, [], Option, Result, Ok, Err, refl, sym, ap, ◌∙◌, subst, arith, inl, inr, ⊎_elim}
use Rattle.std.specs.Prelude.{◌≢◌}
use Rattle.bril_arguments.specs.Faults.{IsFaultOf}
use Rattle.bril_arguments.specs.declared.fault.ArgFault.TheVariants as argument
use Rattle.bril_arguments.specs.declared.fault.ArgFault.{ArgFault}
use Rattle.bril_checker.specs.Faults as checker
use Rattle.bril_checker.specs.declared.fault.CheckFault.{CheckFault}
use Rattle.bril_names.specs.Faults as names
use Rattle.bril_names.specs.declared.fault.NameFault.{NameFault}
use Rattle.bril_outside.specs.Files.{FileMap, FilesSeen}
use Rattle.bril_outside.specs.Sink.{Rose, SinkSeen}
use Rattle.bril_report.specs.Puts.{Puts}
use Rattle.bril_report.specs.Report.{misnamed_pieces, unaccepted_pieces, unread_pieces, status_number, status_pieces}
use Rattle.bril_report.specs.StageFaults.{argument_status, link_status}
use Rattle.bril_report.specs.declared.status.Status.TheVariants as status
use Rattle.bril_report.specs.declared.status.Status.{Status}
use Rattle.bril_tree.specs.Accepted.{IsAccepted}
use Rattle.bril_tree.specs.Numbered.{Numbered}
use Rattle.bril_tree.specs.Run.{main_types}
use Rattle.bril_tree.specs.declared.program.Prog.{Prog}
use Rattle.bril_tree.specs.declared.tree.Tree.{Tree}
use Rattle.bril_tree.specs.declared.value.Value.{Value}
use Rattle.bril_words.specs.Request.{Asked}
use Rattle.bril_words.specs.CommandLine.{Refusal}
use Rattle.bril_words.specs.declared.subcommands.Action.{Action}
use Rattle.import_linker.specs.declared.fault.LinkFault.{LinkFault}
use Rattle.import_linker.specs.declared.fault.LinkFault.TheVariants as link
use Rattle.bril_commands.proofs.Profiles.{not_refused_from, refused_from_once}
use Rattle.bril_commands.proofs.Reading.{bytes_not_refused, faultless, lacking_fault, lacking_no_bytes, lacking_no_tree, lack_told, lacking_unread, not_refused as tree_not_refused, one_refusal, one_tree}
use Rattle.bril_commands.proofs.Statuses.{Ends, plain}
use Rattle.bril_commands.specs.Arguments.{argument_pieces, HasArgFault, HasOnlyArgFault, RefusesArgs}
use Rattle.bril_commands.specs.Call.{Call}
use Rattle.bril_commands.specs.Comes.{ReadsWell, UnlessMemory}
use Rattle.bril_commands.specs.Command.{Command, OnBytes, OnFile, OnTree, OnProgram, Arguments, NoArguments, OfMain, TakesArguments, AreGiven, RefusesGiven, NeedsProgram, GivesArguments, GivesValues, Spell, profile_of, reach}
use Rattle.bril_commands.specs.CommandLine.{Asks, AsksFor}
use Rattle.bril_commands.specs.Driver.{IsIdle, Stage, DoesAccepted, DoesBytes, DoesTree}
use Rattle.bril_commands.specs.PassList.{PassList}
use Rattle.bril_commands.specs.Profiles.{IsSourceTold, RefusesProfileFrom}
use Rattle.bril_commands.specs.Source.{AreTold, Reach, HaveFault, HaveTree, HasOnlyCheckFault, IsOnlyNameFault, IsOnlyProgram, LackFile, RefusesFiles}
use Rattle.bril_commands.specs.Stages.{RefusesProgram, IsAcceptedProgram, IsFaultless}
use Rattle.bril_commands.specs.Table.{command}

-- ---- what the words ask for is one

-- what was asked for, where something was
asked_in : Asked → Result Asked Refusal → Asked
asked_in other (Ok request) = request
asked_in other (Err refusal) = other

-- a request with these parts
abbrev pub request_of : Action → List ℕ → List ℕ → Option (List ℕ) → List (List ℕ) → Asked
request_of action path list second args = record { action = action; path = path; list = list; second = second; args = args }

pub Ok_not_Err : {request : Asked} {refusal : Refusal} → Ok request ≡ Err refusal → ⊥
Ok_not_Err e = cc

module _ (c : Call) (asks : Asks c.words) (b : Action) (q : List ℕ) (ys : List (List ℕ)) (f : AsksFor c.words b q ys) where
  asked_path : q ≡ asks.path
  unfolding asked_in
  asked_path = ap (λ r. (asked_in (request_of asks.action asks.path asks.asked.0 asks.asked.1 asks.args) r).path) (sym f.2 ∙ asks.asked.2)

  asked_args : ys ≡ asks.args
  unfolding asked_in
  asked_args = ap (λ r. (asked_in (request_of asks.action asks.path asks.asked.0 asks.asked.1 asks.args) r).args) (sym f.2 ∙ asks.asked.2)

  pub asked_action : b ≡ asks.action
  unfolding asked_in
  asked_action = ap (λ r. (asked_in (request_of asks.action asks.path asks.asked.0 asks.asked.1 asks.args) r).action) (sym f.2 ∙ asks.asked.2)

-- ---- the causes of a refusal

-- a fault of a name and a fault of the checker are the only causes of no accepted program but want of memory
no_program : (how : Status) (tree : Tree) → RefusesProgram how tree
    → (how ≡ status.OutOfMemory) ⊎ (((fault : NameFault) × (how ≡ status.Misnamed fault) × IsOnlyNameFault tree fault)
    ⊎ ((p : Prog) × (fault : CheckFault) × (how ≡ status.Unaccepted p fault) × IsOnlyProgram tree p × HasOnlyCheckFault p fault))
no_program (status.Misnamed fault) tree refuses = inr (inl (fault, refl, refuses))
no_program (status.Unaccepted p fault) tree refuses = inr (inr (p, fault, refl, refuses.0, refuses.1))
no_program status.OutOfMemory tree refuses = inl refl
no_program _ tree refuses = absurd refuses

-- a fault of the arguments is the only cause of no values but want of memory
pub args_fail : (how : Status) (p : Prog) (args : List (List ℕ)) → RefusesArgs how p args
    → (how ≡ status.OutOfMemory) ⊎ ((fault : ArgFault) × (how ≡ argument_status fault) × HasOnlyArgFault (main_types p) args fault)
args_fail (status.ArgumentCount given wanted) p args refuses = inr (argument.Count given wanted, refl, refuses)
args_fail (status.BadArgument place) p args refuses = inr (argument.Spelling place, refl, refuses)
args_fail status.OutOfMemory p args refuses = inl refl
args_fail _ p args refuses = absurd refuses

pub exhausted : (how : Status) (A : Type 0) → how ≡ status.OutOfMemory → UnlessMemory (status_number how) A
exhausted how A e = inl (ap status_number e)

-- the line of a status is put, where nothing is told before it
pub said : (c : Call) (asks : Asks c.words) (how : Status) (ends : Ends c asks how) (end : Status) → how ≡ end → ends.told ≡ [] → Puts c.err_before (status_pieces end) c.err_after
said c asks how ends end e none = subst (λ (h : Status). Puts c.err_before (status_pieces h) c.err_after) e (plain ends.told (status_pieces how) none ends.says)

-- a command that works on bytes has no tree
no_tree : (k : Command) (how : Status) (holds : Option FileMap) (path : List ℕ) (args told : List (List ℕ)) (s t : SinkSeen) (tree : Tree) → DoesBytes k how holds path args told s t → HaveTree (reach k) holds path tree → ⊥
no_tree (OnBytes does) how holds path args told s t tree goes have = absurd have
no_tree (OnFile outcome) how holds path args told s t tree goes have = absurd goes
no_tree (OnTree outcome) how holds path args told s t tree goes have = absurd goes
no_tree (OnProgram origin does) how holds path args told s t tree goes have = absurd goes

-- its bytes, once they are held, have no fault of files
held_faultless : (k : Command) (how : Status) (f g : FilesSeen) (path : List ℕ) (args told : List (List ℕ)) (s t : SinkSeen) (why : LinkFault) → AreTold (reach k) f.holds → DoesBytes k how f.holds path args told s t → HaveFault (reach k) why f g path
    → (why ≡ link.Memory) ⊎ Rose f.faults g.faults
held_faultless (OnBytes does) how f g path args told s t why known goes have = bytes_not_refused f g known.0 known.1 path goes.0 why goes.1 have
held_faultless (OnFile outcome) how f g path args told s t why known goes have = absurd goes
held_faultless (OnTree outcome) how f g path args told s t why known goes have = absurd goes
held_faultless (OnProgram origin does) how f g path args told s t why known goes have = absurd goes

-- From files that are told, of which no read failed: they have one tree, which was dealt with, or one fault, which was answered; or memory ran out.
module _ (c : Call) (asks : Asks c.words) (how : Status) (ends : Ends c asks how) (action : Action) (reads : ReadsWell c action) where
  pub same_path : reads.path ≡ asks.path
  same_path = asked_path c asks action reads.path reads.args reads.asked

  pub same_args : reads.args ≡ asks.args
  same_args = asked_args c asks action reads.path reads.args reads.asked

  pub same_action : action ≡ asks.action
  same_action = asked_action c asks action reads.path reads.args reads.asked

  told_here : AreTold (reach (command asks.action)) c.files_before.holds
  told_here = subst (λ (a : Action). AreTold (reach (command a)) c.files_before.holds) same_action reads.told

  memory : (why : LinkFault) → how ≡ link_status why → (why ≡ link.Memory) ⊎ Rose c.files_before.faults c.files_after.faults → how ≡ status.OutOfMemory
  memory why is either = ⊎_elim (λ e. is ∙ ap link_status e) (λ rose. absurd (reads.sound rose)) either

  pub by_tree : (A : Type 0) (tree : Tree) → HaveTree (reach (command action)) c.files_before.holds reads.path tree → (how ≡ status.OutOfMemory → A)
      → (DoesTree (command action) how c.passes c.files_before c.files_after tree c.second asks.args ends.told c.out_before c.out_after → A) → A
  by_tree A tree have none goes =
      let here : HaveTree (reach (command asks.action)) c.files_before.holds asks.path tree =
      subst (λ (a : Action). HaveTree (reach (command a)) c.files_before.holds asks.path tree) same_action (subst (λ (p : List ℕ). HaveTree (reach (command action)) c.files_before.holds p tree) same_path have) in
      ⊎_elim (λ refused. none (memory refused.0.0 refused.0.1 (tree_not_refused c.files_before c.files_after asks.path (reach (command asks.action)) tree refused.0.0 told_here here refused.0.2)))
      (⊎_elim (λ deals. goes
      (subst (λ (t : Tree). DoesTree (command action) how c.passes c.files_before c.files_after t c.second asks.args ends.told c.out_before c.out_after)
      (one_tree c.files_before c.files_after asks.path (reach (command asks.action)) deals.0 tree told_here deals.1 here)
      (subst (λ a. DoesTree (command a) how c.passes c.files_before c.files_after deals.0 c.second asks.args ends.told c.out_before c.out_after) (sym same_action) deals.2)))
      (λ goes. absurd (no_tree (command asks.action) how c.files_before.holds asks.path asks.args ends.told c.out_before c.out_after tree goes here)))
      ends.does

  -- a fault was answered, where the files have this one
  fault_answered : (A : Type 0) (why other : LinkFault) → why ≢ link.Memory → how ≡ link_status other → ends.told ≡ [] → (how ≡ status.OutOfMemory → A) → (how ≡ link_status why → ends.told ≡ [] → A)
      → ((other ≡ link.Memory) ⊎ (why ≡ link.Memory)) ⊎ (Rose c.files_before.faults c.files_after.faults ⊎ (other ≡ why)) → A
  fault_answered A why other ample is none exhausted_ answered (inl (inl e)) = exhausted_ (memory other is (inl e))
  fault_answered A why other ample is none exhausted_ answered (inl (inr e)) = absurd (ample e)
  fault_answered A why other ample is none exhausted_ answered (inr (inl rose)) = absurd (reads.sound rose)
  fault_answered A why other ample is none exhausted_ answered (inr (inr e)) = answered (is ∙ ap link_status e) none

  fault_here : (why : LinkFault) → HaveFault (reach (command action)) why c.files_before c.files_after reads.path → HaveFault (reach (command asks.action)) why c.files_before c.files_after asks.path
  fault_here why have =
      subst (λ (a : Action). HaveFault (reach (command a)) why c.files_before c.files_after asks.path) same_action (subst (λ (p : List ℕ). HaveFault (reach (command action)) why c.files_before c.files_after p) same_path have)

  pub by_fault : (A : Type 0) (why : LinkFault) → why ≢ link.Memory → HaveFault (reach (command action)) why c.files_before c.files_after reads.path → (how ≡ status.OutOfMemory → A)
      → (how ≡ link_status why → ends.told ≡ [] → A) → A
  by_fault A why ample have none answered =
      ⊎_elim (λ refused. fault_answered A why refused.0.0 ample refused.0.1 refused.1.0.0 none answered
      (one_refusal c.files_before c.files_after asks.path (reach (command asks.action)) refused.0.0 why told_here refused.0.2 (fault_here why have)))
      (⊎_elim (λ deals. absurd (⊎_elim ample reads.sound (faultless c.files_before c.files_after asks.path (reach (command asks.action)) deals.0 why told_here deals.1 (fault_here why have))))
      (λ goes. absurd (⊎_elim ample reads.sound (held_faultless (command asks.action) how c.files_before c.files_after asks.path asks.args ends.told c.out_before c.out_after why told_here goes (fault_here why have)))))
      ends.does

-- ---- a command that needs a program

-- it asks for the program
asks_program : (k : Command) (how : Status) (l : PassList) (f g : FilesSeen) (tree : Tree) (named : Option (List ℕ)) (args : List (List ℕ)) (told : List (List ℕ)) (s t : SinkSeen) → NeedsProgram k → DoesTree k how l f g tree named args told s t
    → Stage (RefusesProgram how tree) (IsIdle l told s t) (λ p. IsAcceptedProgram tree p) (λ p is. DoesAccepted k how l f g p named args told s t)
asks_program (OnBytes does) how l f g tree named args told s t needs goes = absurd needs
asks_program (OnFile outcome) how l f g tree named args told s t needs does = absurd needs
asks_program (OnTree outcome) how l f g tree named args told s t needs does = absurd needs
asks_program (OnProgram origin does) how l f g tree named args told s t needs goes = goes

-- a command that gives a program arguments asks for it
needs_program : (k : Command) → GivesArguments k → NeedsProgram k
needs_program (OnBytes does) gives = absurd gives
needs_program (OnFile outcome) gives = absurd gives
needs_program (OnTree outcome) gives = absurd gives
needs_program (OnProgram origin does) gives = tt

-- From asking for a program: memory ran out, or the tree has a fault of a name, or a program with a fault of the checker, or its accepted program was dealt with.
module _ (how : Status) (tree : Tree) (Silent : Type 0) (Goes : Prog → Type 0) (asks : Stage (RefusesProgram how tree) Silent (λ p. IsAcceptedProgram tree p) (λ p is. Goes p)) where
  by_names : (A : Type 0) → (how ≡ status.OutOfMemory → A)
      → (Silent → (fault : NameFault) → how ≡ status.Misnamed fault → IsOnlyNameFault tree fault → A)
      → (Silent → (p : Prog) (fault : CheckFault) → how ≡ status.Unaccepted p fault → IsOnlyProgram tree p → HasOnlyCheckFault p fault → A)
      → ((p : Prog) → IsAcceptedProgram tree p → Goes p → A) → A
  by_names A memory misnamed unaccepted goes =
      ⊎_elim (λ refused. ⊎_elim memory (⊎_elim (λ m. misnamed refused.1 m.0 m.1 m.2) (λ u. unaccepted refused.1 u.0 u.1 u.2 u.3 u.4)) (no_program how tree refused.0))
      (λ program. goes program.0 program.1 program.2)
      asks

-- the arguments are refused, or spell values
given : (k : Command) (how : Status) (l : PassList) (f g : FilesSeen) (p : Prog) (named : Option (List ℕ)) (args : List (List ℕ)) (told : List (List ℕ)) (s t : SinkSeen) → GivesArguments k → DoesAccepted k how l f g p named args told s t
    → (RefusesArgs how p args × (told ≡ [])) ⊎ ((fault : ArgFault) → HasArgFault (main_types p) args fault → ⊥)
given (OnBytes does) how l f g p named args told s t gives goes = absurd gives
given (OnFile outcome) how l f g p named args told s t gives does = absurd gives
given (OnTree outcome) how l f g p named args told s t gives does = absurd gives
given (OnProgram origin does) how l f g p named args told s t gives goes = spelled does.arguments gives (⊎_elim (λ refused. inl (refused.0, refused.1.0.0)) (λ values. inr (values.0, values.1)) goes)
  where
    spelled : (arguments : Arguments) → TakesArguments arguments → (RefusesGiven arguments how p args × (told ≡ [])) ⊎ ((values : List Value) × AreGiven arguments p args values)
        → (RefusesArgs how p args × (told ≡ [])) ⊎ ((fault : ArgFault) → HasArgFault (main_types p) args fault → ⊥)
    spelled NoArguments takes either = absurd takes
    spelled OfMain takes either = ⊎_elim inl (λ values. inr values.1.faultless) either

-- ---- arguments that are spelled, and a profile that is refused

-- where words spell the arguments, nothing else comes
pub no_refusal : (arguments : Arguments) (how : Status) (p : Prog) (args : List (List ℕ)) (values : List Value) → Spell arguments p args values → RefusesGiven arguments how p args → how ≡ status.OutOfMemory
no_refusal NoArguments how p args values spelled refuses = absurd refuses
no_refusal OfMain how p args values spelled refuses = ⊎_elim (λ e. e) (λ has. absurd (has.2.unspelled values spelled)) (args_fail how p args refuses)

pub same_values : (arguments : Arguments) (p : Prog) (args : List (List ℕ)) (given values : List Value) → AreGiven arguments p args given → Spell arguments p args values → given ≡ values
same_values NoArguments p args given values are spelled = are ∙ sym spelled
same_values OfMain p args given values are spelled = are.only values spelled

-- a command whose program gets values asks for it
values_need : (k : Command) (p : Prog) (args : List (List ℕ)) (values : List Value) → GivesValues k p args values → NeedsProgram k
values_need (OnBytes does) p args values gives = absurd gives
values_need (OnFile outcome) p args values gives = absurd gives
values_need (OnTree outcome) p args values gives = absurd gives
values_need (OnProgram origin does) p args values gives = tt

-- the refusal of the profile's file was answered, or memory ran out
module _ (k : Command) (f g : FilesSeen) (sound : ¬ Rose f.faults g.faults) (how why : Status) (ample : why ≢ status.OutOfMemory) (l : PassList) (p : Prog) (named : Option (List ℕ)) (args told : List (List ℕ)) (s t : SinkSeen) (values : List Value) where
  profile_answered : GivesValues k p args values → IsSourceTold (profile_of k) named f.holds → RefusesProfileFrom (profile_of k) named why f g → DoesAccepted k how l f g p named args told s t → (how ≡ status.OutOfMemory) ⊎ ((how ≡ why) × (told ≡ []))
  profile_answered = by k
    where
      by : (k : Command) → GivesValues k p args values → IsSourceTold (profile_of k) named f.holds → RefusesProfileFrom (profile_of k) named why f g → DoesAccepted k how l f g p named args told s t → (how ≡ status.OutOfMemory) ⊎ ((how ≡ why) × (told ≡ []))
      by (OnBytes does) gives are refuses goes = absurd gives
      by (OnFile outcome) gives are refuses does = absurd gives
      by (OnTree outcome) gives are refuses does = absurd gives
      by (OnProgram origin does) gives are refuses goes =
          ⊎_elim (λ refused. inl (no_refusal does.arguments how p args values gives refused.0))
          (λ values. ⊎_elim (λ refused. ⊎_elim inl (λ same. inr (same, refused.1.0.0)) (refused_from_once f g sound does.profile named how why are refused.0 refuses ample))
          (λ given. absurd (ample (not_refused_from f g sound does.profile named p given.0 why are given.1 refuses)))
          values.2)
          goes

-- what is said of a fault of the arguments
argument_said : (fault : ArgFault) (s t : SinkSeen) → fault ≢ argument.Memory → Puts s (status_pieces (argument_status fault)) t
    → (status_number (argument_status fault) ≡ 69) × Puts s (argument_pieces fault) t
argument_said (argument.Count count wanted) s t ample says = (refl, says)
argument_said (argument.Spelling place) s t ample says = (refl, says)
argument_said argument.Memory s t ample says = absurd (ample refl)

-- ---- the clauses

module _ (c : Call) (asks : Asks c.words) (how : Status) (ends : Ends c asks how) (action : Action) where
  -- the number and the line of a fault of the files
  pub told_where : (why : LinkFault) → why ≢ link.Memory → (reads : ReadsWell c action) → HaveFault (reach (command action)) why c.files_before c.files_after reads.path
      → UnlessMemory (status_number how) ((status_number how ≡ status_number (link_status why)) × Puts c.err_before (status_pieces (link_status why)) c.err_after)
  told_where why ample reads have =
      by_fault c asks how ends action reads _ why ample have (exhausted how _)
      (λ e none. inr (ap status_number e, said c asks how ends (link_status why) e none))

  -- what a tree's program answers: memory ran out, or the tree has a fault of a name, or a program with a fault of the checker, or it was dealt with
  module _ (needs : NeedsProgram (command action)) (reads : ReadsWell c action) (tree : Tree) (linked : HaveTree (reach (command action)) c.files_before.holds reads.path tree) where
    by_program : (A : Type 0) → (how ≡ status.OutOfMemory → A)
        → (ends.told ≡ [] → (fault : NameFault) → how ≡ status.Misnamed fault → IsOnlyNameFault tree fault → A)
        → (ends.told ≡ [] → (p : Prog) (fault : CheckFault) → how ≡ status.Unaccepted p fault → IsOnlyProgram tree p → HasOnlyCheckFault p fault → A)
        → ((p : Prog) → IsAcceptedProgram tree p → DoesAccepted (command action) how c.passes c.files_before c.files_after p c.second asks.args ends.told c.out_before c.out_after → A) → A
    by_program A memory misnamed unaccepted goes =
        by_tree c asks how ends action reads A tree linked memory
        (λ does. by_names how tree (IsIdle c.passes ends.told c.out_before c.out_after) (λ q. DoesAccepted (command action) how c.passes c.files_before c.files_after q c.second asks.args ends.told c.out_before c.out_after)
        (asks_program (command action) how c.passes c.files_before c.files_after tree c.second asks.args ends.told c.out_before c.out_after needs does) A memory
        (λ none. misnamed none.0.0) (λ none. unaccepted none.0.0) goes)

    -- where the tree has a program, nothing else comes: memory ran out, or the program has a fault of the checker, or it is accepted and was dealt with
    pub with_program : (A : Type 0) (p : Prog) → Numbered tree p → (how ≡ status.OutOfMemory → A) → ((fault : CheckFault) → how ≡ status.Unaccepted p fault → ends.told ≡ [] → HasOnlyCheckFault p fault → A)
        → (IsFaultless p → DoesAccepted (command action) how c.passes c.files_before c.files_after p c.second asks.args ends.told c.out_before c.out_after → A) → A
    with_program A p numbered memory unaccepted goes =
        by_program A memory
        (λ none fault e has. absurd (has.unnumbered p numbered))
        (λ none q fault e program has.
        let same : q ≡ p = program.alone p numbered in
        unaccepted fault (subst (λ r. how ≡ status.Unaccepted r fault) same e) none (subst (λ r. HasOnlyCheckFault r fault) same has))
        (λ q program done.
        let same : q ≡ p = program.only.alone p numbered in
        goes (subst IsFaultless same program.sound) (subst (λ r. DoesAccepted (command action) how c.passes c.files_before c.files_after r c.second asks.args ends.told c.out_before c.out_after) same done))

    pub misnamed_where : (fault : NameFault) → names.HasFault tree fault → UnlessMemory (status_number how) ((status_number how ≡ 65) × Puts c.err_before (misnamed_pieces fault) c.err_after)
    misnamed_where fault has =
        by_program _ (exhausted how _)
        (λ none other e is. inr (
          ap status_number e,
          subst (λ (k : NameFault). Puts c.err_before (misnamed_pieces k) c.err_after) (is.alone fault has) (said c asks how ends (status.Misnamed other) e none),
        ))
        (λ none q other e program is. absurd (program.faultless fault has))
        (λ q program done. absurd (program.only.faultless fault has))

    pub unchecked_where : (p : Prog) (fault : CheckFault) → Numbered tree p → checker.HasFault p fault → UnlessMemory (status_number how) ((status_number how ≡ 65) × Puts c.err_before (unaccepted_pieces p fault) c.err_after)
    unchecked_where p fault numbered has =
        with_program _ p numbered (exhausted how _)
        (λ other e none is. inr (
          ap status_number e,
          subst (λ (k : CheckFault). Puts c.err_before (unaccepted_pieces p k) c.err_after) (is.only fault has) (said c asks how ends (status.Unaccepted p other) e none),
        ))
        (λ sound does. absurd (sound.faultless fault has))

  pub misargued_where : GivesArguments (command action) → (reads : ReadsWell c action) (tree : Tree) (p : Prog) (fault : ArgFault) → HaveTree (reach (command action)) c.files_before.holds reads.path tree → Numbered tree p → IsAccepted p
      → fault ≢ argument.Memory → IsFaultOf (main_types p) reads.args fault
      → UnlessMemory (status_number how) ((status_number how ≡ 69) × Puts c.err_before (argument_pieces fault) c.err_after)
  misargued_where gives reads tree p fault linked numbered accepted ample is =
      let here : IsFaultOf (main_types p) asks.args fault = subst (λ a. IsFaultOf (main_types p) a fault) (same_args c asks how ends action reads) is in
      with_program (needs_program (command action) gives) reads tree linked _ p numbered (exhausted how _)
      (λ other e none has. absurd (has.unaccepted accepted))
      (λ faultless does.
      ⊎_elim (λ refused. ⊎_elim (exhausted how _)
      (λ has.
      let same : how ≡ argument_status fault = has.1 ∙ ap argument_status (has.2.only fault (ample, here)) in
      inr (subst (λ (h : Status). (status_number h ≡ 69) × Puts c.err_before (argument_pieces fault) c.err_after) (sym same)
      (argument_said fault c.err_before c.err_after ample (said c asks how ends (argument_status fault) same refused.1))))
      (args_fail how p asks.args refused.0))
      (λ faultless. absurd (faultless fault (ample, here)))
      (given (command action) how c.passes c.files_before c.files_after p c.second asks.args ends.told c.out_before c.out_after gives does))

  -- ---- the second file

  module _ (reads : ReadsWell c action) (tree : Tree) (p : Prog) (linked : HaveTree (reach (command action)) c.files_before.holds reads.path tree) (numbered : Numbered tree p) (accepted : IsAccepted p) where
    -- the arguments are spelled, and the file of the profile or of the script is refused so
    pub refused_where : (values : List Value) → GivesValues (command action) p reads.args values → (why : Status) → why ≢ status.OutOfMemory → RefusesProfileFrom (profile_of (command action)) c.second why c.files_before c.files_after
        → UnlessMemory (status_number how) ((status_number how ≡ status_number why) × Puts c.err_before (status_pieces why) c.err_after)
    refused_where values spelled why ample refuses =
        let here : GivesValues (command action) p asks.args values = subst (λ a. GivesValues (command action) p a values) (same_args c asks how ends action reads) spelled in
        with_program (values_need (command action) p asks.args values here) reads tree linked _ p numbered (exhausted how _)
        (λ fault e none has. absurd (has.unaccepted accepted))
        (λ faultless does. ⊎_elim (exhausted how _)
        (λ answered. inr (ap status_number answered.0, said c asks how ends why answered.0 answered.1))
        (profile_answered (command action) c.files_before c.files_after reads.sound how why ample c.passes p c.second asks.args ends.told c.out_before c.out_after values here reads.told_profile refuses does))

-- ---- a file that isn't there

-- it isn't held
lacking_not_held : (k : Command) (how : Status) (f g : FilesSeen) (root path : List ℕ) (args told : List (List ℕ)) (s t : SinkSeen) → LackFile (reach k) f.holds root path → DoesBytes k how f.holds root args told s t → ⊥
lacking_not_held (OnBytes does) how f g root path args told s t lack goes = lacking_no_bytes f g root path goes.0 lack goes.1
lacking_not_held (OnFile outcome) how f g root path args told s t lack goes = absurd goes
lacking_not_held (OnTree outcome) how f g root path args told s t lack goes = absurd goes
lacking_not_held (OnProgram origin does) how f g root path args told s t lack goes = absurd goes

not_both : (n : ℕ) → n ≡ 66 → n ≡ 71 → ⊥
not_both n a b = omega arith

Read_ample : (path : List ℕ) → link.Read path ≢ link.Memory
Read_ample path e = cc

module _ (c : Call) (asks : Asks c.words) (how : Status) (ends : Ends c asks how) (wanted : Asks c.words) (path : List ℕ) (lack : LackFile (reach (command wanted.action)) c.files_before.holds wanted.path path) where
  abbrev Kind : Reach
  Kind = reach (command asks.action)

  here : LackFile Kind c.files_before.holds asks.path path
  here = subst (λ (a : Action). LackFile (reach (command a)) c.files_before.holds asks.path path) (asked_action c asks wanted.action wanted.path wanted.args wanted.asked)
      (subst (λ (p : List ℕ). LackFile (reach (command wanted.action)) c.files_before.holds p path) (asked_path c asks wanted.action wanted.path wanted.args wanted.asked) lack)

  -- where no read failed, the line is that of this file
  line : (why : LinkFault) → how ≡ link_status why → RefusesFiles Kind why c.files_before c.files_after asks.path → ends.told ≡ [] → status_number how ≡ 66 → ¬ Rose c.files_before.faults c.files_after.faults
      → Puts c.err_before (unread_pieces path) c.err_after
  line why is refuses none number sound =
      let told = lack_told c.files_before.holds asks.path path Kind here in
      ⊎_elim (λ some. ⊎_elim (λ e. absurd (not_both (status_number how) number (ap status_number (is ∙ ap link_status e)))) (λ e. absurd (Read_ample path e)) some)
      (λ more. ⊎_elim (λ rose. absurd (sound rose)) (λ e. said c asks how ends (link_status (link.Read path)) (is ∙ ap link_status e) none) more)
      (one_refusal c.files_before c.files_after asks.path Kind why (link.Read path) told refuses (lacking_fault c.files_before c.files_after asks.path path Kind here))

  pub lacking_where : UnlessMemory (status_number how) ((status_number how ≡ 66) × (¬ Rose c.files_before.faults c.files_after.faults → Puts c.err_before (unread_pieces path) c.err_after))
  lacking_where =
      ⊎_elim (λ refused. ⊎_elim (λ e. exhausted how _ (refused.0.1 ∙ ap link_status e))
      (λ unread.
      let number : status_number how ≡ 66 = ap status_number (refused.0.1 ∙ ap link_status unread.1) in
      inr (number, line refused.0.0 refused.0.1 refused.0.2 refused.1.0.0 number))
      (lacking_unread c.files_before c.files_after asks.path path Kind refused.0.0 here refused.0.2))
      (⊎_elim (λ deals. absurd (lacking_no_tree c.files_before c.files_after asks.path path Kind deals.0 here deals.1))
      (λ goes. absurd (lacking_not_held (command asks.action) how c.files_before c.files_after asks.path path asks.args ends.told c.out_before c.out_after here goes)))
      ends.does
