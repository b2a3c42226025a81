-- What each status says of the call.
use Rattle.std.proofs.Common.{◌≡◌, ◌⊎◌, ℕ, Bool, true, false, append-nil, List, [], ◌++◌, length, map, Option, Some, None, refl, sym, ap, ◌∙◌, subst, inl, inr, ⊎_elim}
use Rattle.std.proofs.Math.Seq.{take-length}
use Rattle.bril_arguments.specs.declared.fault.ArgFault.TheVariants as argument
use Rattle.bril_arguments.specs.declared.fault.ArgFault.{ArgFault}
use Rattle.bril_outside.specs.Sink.{SinkSeen}
use Rattle.bril_profile.specs.declared.profile.Entry.{Entry}
use Rattle.bril_report.specs.Puts.{Puts}
use Rattle.bril_report.specs.Report.{long_script_pieces, script_pieces, status_number, status_pieces, code_pieces, stack_pieces, misread_pieces, not_there_pieces, clash_pieces, unread_pieces, long_profile_pieces, many_bytes_pieces, many_files_pieces, profile_pieces}
use Rattle.bril_report.specs.StageFaults.{link_status}
use Rattle.bril_report.specs.declared.status.Status.TheVariants as status
use Rattle.bril_report.specs.declared.status.Status.{Status}
use Rattle.bril_tree.specs.Run.{main_types}
use Rattle.bril_tree.specs.declared.limits.End.TheVariants.{Ended, Faulted}
use Rattle.bril_tree.specs.declared.limits.End.{End}
use Rattle.rv64_words.specs.State.{Finished, Trapped}
use Rattle.std.specs.Option.{option_map}
use Rattle.bril_tree.specs.declared.limits.Limits.{Limits}
use Rattle.bril_tree.specs.declared.program.Prog.{Prog}
use Rattle.bril_tree.specs.declared.tree.Tree.{Tree}
use Rattle.bril_tree.specs.declared.value.Value.{Value}
use Rattle.bril_commands.specs.Answers.{Answers, ArgumentsRefused, BytesRefused, FilesRefused, HasLongCode, HasLongStack, IsReady, ListBegan, ProfileRefused, SourceRefused, TooLarge}
use Rattle.bril_commands.specs.Arguments.{argument_pieces, HasOnlyArgFault, RefusesArgs}
use Rattle.bril_commands.specs.Call.{Call}
use Rattle.bril_commands.specs.Comes.{CommandComesTo, ComesTo}
use Rattle.bril_commands.specs.Command.{Command, OnBytes, OnFile, OnTree, OnProgram, OfBytes, OfProgram, Origin, Arguments, NoArguments, OfMain, TakesArguments, AreGiven, RefusesGiven, Makes, RefusesMaking, AreLimitsOf, Fits, RefusesEmission, NeedsProgram, GivesArguments, GivesValues, MakesImage, RefusesHeld, RefusesOnBytes, Spell, profile_of, reach, takes_passes}
use Rattle.bril_commands.specs.CommandLine.{Asks}
use Rattle.bril_commands.specs.Driver.{IsSilent, subject, DoesBytes, DoesHeld, DoesProgram, DoesTree, DoesFiles}
use Rattle.bril_commands.specs.Images.{RefusesImage}
use Rattle.bril_commands.specs.Outcome.{Outcome, ShowsSo, Works}
use Rattle.bril_commands.specs.PassList.{PassList, AreUnused, IsMade, IsCutOff, RefusesList}
use Rattle.bril_commands.specs.ProfileFiles.{RefusesProfile, RefusesProfileFile}
use Rattle.bril_commands.specs.Scripts.{RefusesScript, RefusesScriptFile}
use Rattle.bril_commands.specs.Profiles.{IsProfileFrom, NamedFile, NamedScript, NoProfile, OwnRun, ProfileSource, RefusesProfileFrom}
use Rattle.bril_commands.specs.Source.{HoldsBytes, IsProgramOf, IsTreeAt, RefusesFiles}
use Rattle.bril_commands.specs.Stages.{IsAcceptedProgram, RefusesTree, RefusesProgram}
use Rattle.bril_commands.specs.Table.{command, Keeps, KeepsPasses, on_bytes}
use Rattle.bril_words.specs.declared.subcommands.Action.{Action}
use Rattle.bril_words.specs.declared.subcommands.Action.TheVariants.{Bytes, File, Tree as OfTree, Program, Demo}
use Rattle.bril_words.specs.declared.subcommands.BytesAction.{BytesAction}
use Rattle.bril_commands.proofs.Held.{IsRefusal, determined, held_refusal}
use Rattle.pass_law.specs.Chains.{Ran}
use Rattle.import_linker.specs.declared.fault.LinkFault.{LinkFault}
use Rattle.import_linker.specs.declared.fault.LinkFault.TheVariants as fault

-- a run that ended is one that stopped so
pub Shows-so : (o : Outcome) (ended : Option End) (told output : List (List ℕ)) → o.Shows ended told output → ShowsSo o (option_map Finished ended) told output
Shows-so o None told output shows = shows
Shows-so o (Some end) told output shows = shows

-- where nothing was told, the line stands alone
pub plain : {s t : SinkSeen} (told line : List (List ℕ)) → told ≡ [] → Puts s (told ++ line) t → Puts s line t
plain {s} {t} told line none says = subst (λ (ps : List (List ℕ)). Puts s (ps ++ line) t) none says

-- the words spell the values that are given
spelled_of : (arguments : Arguments) (p : Prog) (args : List (List ℕ)) (values : List Value) → AreGiven arguments p args values → Spell arguments p args values
spelled_of NoArguments p args values given = given
spelled_of OfMain p args values given = given.spelled

-- a list that made a program ran to its end
IsMade-cut : (l : PassList) (entries : List Entry) (p q : Prog) → IsMade l entries p q → IsCutOff l entries p
IsMade-cut l entries p q made = record {
  known = made.known;
  profile = made.profile;
  has = made.has;
  cut = record {
    before = length l.names;
    program = q;
    ran = subst (λ names. Ran l.meaning l.before made.profile l.counts names p q l.after) (sym (take-length l.names)) made.ran;
  };
}

-- The words of a call ask for a command, the status is what it answered, and it was said after what is told.
pub record Ends (c : Call) (asks : Asks c.words) (how : Status) : Type 0 where
  pub told : List (List ℕ)
  pub does : DoesFiles (command asks.action) how c.passes c.files_before c.files_after asks.path c.second asks.args told c.out_before c.out_after
  pub says : Puts c.err_before (told ++ status_pieces how) c.err_after
  pub keeps : KeepsPasses c.passes.meaning asks.action c.passes.before c.passes.after

-- a command that takes no list leaves the passes as they were
unused_by : (c : Call) (action : Action) → takes_passes (command action) ≡ false → KeepsPasses c.passes.meaning action c.passes.before c.passes.after → AreUnused c.passes
unused_by c action none keeps = ap (map c.passes.counts) (subst (λ by_list. Keeps c.passes.meaning by_list c.passes.before c.passes.after) none keeps)

module _ (c : Call) (asks : Asks c.words) (keeps : KeepsPasses c.passes.meaning asks.action c.passes.before c.passes.after) where
  -- the line of a status is put
  abbrev Said : Status → Type 0
  Said how = Puts c.err_before (status_pieces how) c.err_after

  -- memory ran out, and nothing was put
  Answers-exhausted : AreUnused c.passes ⊎ ListBegan c asks → Said status.OutOfMemory → c.out_after ≡ c.out_before → Answers 71 c
  Answers-exhausted tallies says silent = record { tallies = ⊎_elim inl (λ began. inr (asks, began)) tallies; leaves = inl silent; says = says }

  -- the files have no tree
  files_refused : (why : LinkFault) (line : List (List ℕ)) → RefusesFiles (reach (command asks.action)) why c.files_before c.files_after asks.path → Puts c.err_before line c.err_after → c.out_after ≡ c.out_before → AreUnused c.passes
      → FilesRefused c asks why line
  files_refused why line refuses says silent unused = record { unused = unused; refuses = refuses; alone = record { silent = silent; says = says } }

  Answers-files : (why : LinkFault) → Said (link_status why) → RefusesFiles (reach (command asks.action)) why c.files_before c.files_after asks.path → c.out_after ≡ c.out_before → AreUnused c.passes → Answers (status_number (link_status why)) c
  Answers-files (fault.Read path) says refuses silent unused =
      record { asks = asks; path = path; because = inl (files_refused (fault.Read path) (unread_pieces path) refuses says silent unused) }
  Answers-files (fault.Bad path why) says refuses silent unused =
      record { asks = asks; because = inl (record { path = path; fault = why; refused = files_refused (fault.Bad path why) (misread_pieces path why) refuses says silent unused }) }
  Answers-files (fault.NotThere path name) says refuses silent unused =
      record { asks = asks; because = inr (inl (record { path = path; name = name; refused = files_refused (fault.NotThere path name) (not_there_pieces path name) refuses says silent unused })) }
  Answers-files (fault.Clash path name) says refuses silent unused =
      record { asks = asks; because = inr (inr (inl (record { path = path; name = name; refused = files_refused (fault.Clash path name) (clash_pieces path name) refuses says silent unused }))) }
  Answers-files fault.TooManyFiles says refuses silent unused =
      record { asks = asks; because = inr (inl (files_refused fault.TooManyFiles many_files_pieces refuses says silent unused)) }
  Answers-files fault.TooManyBytes says refuses silent unused =
      record { asks = asks; because = inl (files_refused fault.TooManyBytes many_bytes_pieces refuses says silent unused) }
  Answers-files fault.Memory says refuses silent unused = Answers-exhausted (inl unused) says silent

  Answers-unread : (how : Status) → Said how → RefusesTree (reach (command asks.action)) how c.files_before c.files_after asks.path → c.out_after ≡ c.out_before → AreUnused c.passes → Answers (status_number how) c
  Answers-unread how says refuses silent unused =
      subst (λ (h : Status). Answers (status_number h) c) (sym refuses.1)
      (Answers-files refuses.0 (subst (λ (h : Status). Said h) refuses.1 says) refuses.2 silent unused)

  -- the bytes that the command works on are refused, or their arguments
  bytes_refused : (number : ℕ) (how : Status) → status_number how ≡ number → Said how → RefusesOnBytes (command asks.action) how c.files_before.holds asks.path asks.args → c.out_after ≡ c.out_before → AreUnused c.passes → BytesRefused number c asks
  bytes_refused number how is says refuses silent unused = record { how = how; is = is; refuses = refuses; unused = unused; alone = record { silent = silent; says = says } }

  Answers-bytes : (how : Status) → Said how → RefusesOnBytes (command asks.action) how c.files_before.holds asks.path asks.args → IsRefusal how → c.out_after ≡ c.out_before → AreUnused c.passes → Answers (status_number how) c
  Answers-bytes how says refuses kind silent unused = ⊎_elim exhausted (⊎_elim source (⊎_elim large arguments)) kind
    where
      refused : (number : ℕ) → status_number how ≡ number → BytesRefused number c asks
      refused number is = bytes_refused number how is says refuses silent unused

      exhausted : how ≡ status.OutOfMemory → Answers (status_number how) c
      exhausted e = subst (λ (h : Status). Answers (status_number h) c) (sym e) (Answers-exhausted (inl unused) (subst (λ (h : Status). Said h) e says) silent)

      source : status_number how ≡ 65 → Answers (status_number how) c
      source e = let answer : SourceRefused c = record { asks = asks; because = inr (inr (inr (inr (refused 65 e)))) } in subst (λ n. Answers n c) (sym e) answer

      large : status_number how ≡ 68 → Answers (status_number how) c
      large e = let answer : TooLarge c = record { asks = asks; because = inr (inr (inr (inr (inr (inr (refused 68 e)))))) } in subst (λ n. Answers n c) (sym e) answer

      arguments : status_number how ≡ 69 → Answers (status_number how) c
      arguments e = let answer : ArgumentsRefused c = inr (asks, refused 69 e) in subst (λ n. Answers n c) (sym e) answer

  -- ---- the work was carried out

  module _ (o : Outcome) (comes : (Is : Outcome → Type 0) → Is o → ComesTo c asks Is) (tallies : AreUnused c.passes ⊎ ListBegan c asks) where
    Answers-works : (how : Status) (told : List (List ℕ)) → Puts c.err_before (told ++ status_pieces how) c.err_after → Works o how told c.out_before c.out_after → Answers (status_number how) c
    Answers-works status.Done told says works = record {
      asks = asks;
      told = told;
      output = works.output;
      comes = comes (λ o. o.Shows (Some Ended) told works.output) works.shows;
      took = works.took;
      says = subst (λ (ps : List (List ℕ)). Puts c.err_before ps c.err_after) (append-nil told) says;
    }
    Answers-works (status.Faulted fault) told says works = record {
      asks = asks;
      fault = fault;
      told = told;
      output = works.output;
      comes = comes (λ o. o.Shows (Some (Faulted fault)) told works.output) works.shows;
      took = works.took;
      says = says;
    }
    Answers-works (status.Spent made) told says works = record {
      asks = asks;
      steps = made;
      told = told;
      output = works.1.output;
      comes = comes (λ o. (made ≡ o.steps) × o.Shows None told works.1.output) (works.0, works.1.shows);
      took = works.1.took;
      says = says;
    }
    Answers-works (status.Trapped trap) told says works = record {
      asks = asks;
      trap = trap;
      told = told;
      output = works.output;
      comes = comes (λ o. o.Traps trap told works.output) works.traps;
      took = works.took;
      says = says;
    }
    Answers-works status.OutOfMemory told says works = record {
      tallies = ⊎_elim inl (λ began. inr (asks, began)) tallies;
      leaves = ⊎_elim inl (λ short. inr (asks, short.0, comes (λ o. o.Exhausts short.0) short.1, short.2)) works.1;
      says = plain told (status_pieces status.OutOfMemory) works.0 says;
    }
    Answers-works status.CannotWrite told says works =
        ⊎_elim (λ partly. record {
          asks = asks;
          ended = option_map Finished partly.ended;
          untold = partly.told;
          told = told;
          output = partly.output;
          comes = comes (λ o. (told ≡ o.unwritten) × ShowsSo o (option_map Finished partly.ended) partly.told partly.output) (works.0, Shows-so o partly.ended partly.told partly.output partly.shows);
          took = partly.took;
          says = says;
        })
        (λ partly. record {
          asks = asks;
          ended = Some (Trapped partly.trap);
          untold = partly.told;
          told = told;
          output = partly.output;
          comes = comes (λ o. (told ≡ o.unwritten) × ShowsSo o (Some (Trapped partly.trap)) partly.told partly.output) (works.0, partly.traps);
          took = partly.took;
          says = says;
        })
        works.1
    Answers-works _ told says works = absurd works

  -- ---- the files have this tree

  module _ (tree : Tree) where
    -- ---- the tree's program was asked for

    module _ (file : IsTreeAt (reach (command asks.action)) c.files_before.holds asks.path tree) where
      -- it has none that is accepted
      Answers-refused : NeedsProgram (command asks.action) → (how : Status) → Said how → RefusesProgram how tree → c.out_after ≡ c.out_before → AreUnused c.passes → Answers (status_number how) c
      Answers-refused needs (status.Misnamed fault) says refuses silent unused = record {
        asks = asks;
        because = inr (inr (inr (inl (
          needs,
          inl (record { tree = tree; file = file; fault = fault; only = refuses; unused = unused; alone = record { silent = silent; says = says } }),
        ))));
      }
      Answers-refused needs (status.Unaccepted p fault) says refuses silent unused = record {
        asks = asks;
        because = inr (inr (inr (inl (
          needs,
          inr (record {
            tree = tree;
            file = file;
            program = p;
            source = refuses.0;
            fault = fault;
            only = refuses.1;
            unused = unused;
            alone = record { silent = silent; says = says };
          }),
        ))));
      }
      Answers-refused needs status.OutOfMemory says refuses silent unused = Answers-exhausted (inl unused) says silent
      Answers-refused needs _ says refuses silent unused = absurd refuses

      module _ (p : Prog) (program : IsAcceptedProgram tree p) where
        program_file : IsProgramOf (reach (command asks.action)) c.files_before.holds asks.path p
        program_file = record { tree = tree; file = file; only = program.only; accepted = program.sound.accepted }

        -- the arguments don't fit it
        misargued : GivesArguments (command asks.action) → (fault : ArgFault) → HasOnlyArgFault (main_types p) asks.args fault → Puts c.err_before (argument_pieces fault) c.err_after → c.out_after ≡ c.out_before → AreUnused c.passes → Answers 69 c
        misargued gives fault has says silent unused = inl (record {
          asks = asks;
          gives = gives;
          program = p;
          file = program_file;
          fault = fault;
          only = has;
          unused = unused;
          alone = record { silent = silent; says = says };
        })

        Answers-args : GivesArguments (command asks.action) → (how : Status) → Said how → RefusesArgs how p asks.args → c.out_after ≡ c.out_before → AreUnused c.passes → Answers (status_number how) c
        Answers-args gives (status.ArgumentCount given wanted) says refuses silent unused = misargued gives (argument.Count given wanted) refuses says silent unused
        Answers-args gives (status.BadArgument place) says refuses silent unused = misargued gives (argument.Spelling place) refuses says silent unused
        Answers-args gives status.OutOfMemory says refuses silent unused = Answers-exhausted (inl unused) says silent
        Answers-args gives _ says refuses silent unused = absurd refuses

        Answers-given : (arguments : Arguments) → (TakesArguments arguments → GivesArguments (command asks.action)) → (how : Status) → Said how → RefusesGiven arguments how p asks.args → c.out_after ≡ c.out_before → AreUnused c.passes → Answers (status_number how) c
        Answers-given NoArguments gives how says refuses silent unused = absurd refuses
        Answers-given OfMain gives how says refuses silent unused = Answers-args (gives tt) how says refuses silent unused

        -- the arguments are values
        module _ (values : List Value) (given : GivesValues (command asks.action) p asks.args values) where
          -- the profile's file is refused
          profile_refused : (how : Status) (line : List (List ℕ)) → RefusesProfileFrom (profile_of (command asks.action)) c.second how c.files_before c.files_after → Puts c.err_before line c.err_after → c.out_after ≡ c.out_before → AreUnused c.passes → ProfileRefused c asks how line
          profile_refused how line refuses says silent unused = record { program = p; file = program_file; values = values; given = given; refuses = refuses; unused = unused; alone = record { silent = silent; says = says } }

          module _ (path : List ℕ) (source : profile_of (command asks.action) ≡ NamedFile) (named : c.second ≡ Some path) where
            named_refused : (how : Status) → RefusesProfileFile how c.files_before c.files_after path → RefusesProfileFrom (profile_of (command asks.action)) c.second how c.files_before c.files_after
            named_refused how refuses =
                subst (λ (k : ProfileSource). RefusesProfileFrom k c.second how c.files_before c.files_after) (sym source)
                (subst (λ (o : Option (List ℕ)). RefusesProfile o how c.files_before c.files_after) (sym named) refuses)

            Answers-profile : (how : Status) → Said how → RefusesProfileFile how c.files_before c.files_after path → c.out_after ≡ c.out_before → AreUnused c.passes → Answers (status_number how) c
            Answers-profile (status.CannotRead other) says refuses silent unused =
                record { asks = asks; path = other; because = inr (profile_refused (status.CannotRead other) (unread_pieces other) (named_refused (status.CannotRead other) refuses) says silent unused) }
            Answers-profile status.ProfileTooLarge says refuses silent unused =
                record { asks = asks; because = inr (inr (inr (inr (inl (profile_refused status.ProfileTooLarge long_profile_pieces (named_refused status.ProfileTooLarge refuses) says silent unused))))) }
            Answers-profile (status.MisreadProfile line) says refuses silent unused =
                record { asks = asks; line = line; refused = profile_refused (status.MisreadProfile line) (profile_pieces line) (named_refused (status.MisreadProfile line) refuses) says silent unused }
            Answers-profile status.OutOfMemory says refuses silent unused = Answers-exhausted (inl unused) says silent
            Answers-profile _ says refuses silent unused = absurd refuses

          Answers-named : profile_of (command asks.action) ≡ NamedFile → (path : Option (List ℕ)) → c.second ≡ path → (how : Status) → Said how → RefusesProfile path how c.files_before c.files_after → c.out_after ≡ c.out_before → AreUnused c.passes → Answers (status_number how) c
          Answers-named source None named how says refuses silent unused = absurd refuses
          Answers-named source (Some path) named how says refuses silent unused = Answers-profile path source named how says refuses silent unused

          -- the script's file is refused
          module _ (path : List ℕ) (source : profile_of (command asks.action) ≡ NamedScript) (named : c.second ≡ Some path) where
            script_refused : (how : Status) → RefusesScriptFile how c.files_before c.files_after path → RefusesProfileFrom (profile_of (command asks.action)) c.second how c.files_before c.files_after
            script_refused how refuses =
                subst (λ (k : ProfileSource). RefusesProfileFrom k c.second how c.files_before c.files_after) (sym source)
                (subst (λ (o : Option (List ℕ)). RefusesScript o how c.files_before c.files_after) (sym named) refuses)

            Answers-script : (how : Status) → Said how → RefusesScriptFile how c.files_before c.files_after path → c.out_after ≡ c.out_before → AreUnused c.passes → Answers (status_number how) c
            Answers-script (status.CannotRead other) says refuses silent unused =
                record { asks = asks; path = other; because = inr (profile_refused (status.CannotRead other) (unread_pieces other) (script_refused (status.CannotRead other) refuses) says silent unused) }
            Answers-script status.ScriptTooLarge says refuses silent unused =
                record { asks = asks; because = inr (inr (inr (inr (inr (inl (profile_refused status.ScriptTooLarge long_script_pieces (script_refused status.ScriptTooLarge refuses) says silent unused)))))) }
            Answers-script (status.MisreadScript line) says refuses silent unused =
                record { asks = asks; line = line; refused = profile_refused (status.MisreadScript line) (script_pieces line) (script_refused (status.MisreadScript line) refuses) says silent unused }
            Answers-script status.OutOfMemory says refuses silent unused = Answers-exhausted (inl unused) says silent
            Answers-script _ says refuses silent unused = absurd refuses

          Answers-scripted : profile_of (command asks.action) ≡ NamedScript → (path : Option (List ℕ)) → c.second ≡ path → (how : Status) → Said how → RefusesScript path how c.files_before c.files_after → c.out_after ≡ c.out_before → AreUnused c.passes → Answers (status_number how) c
          Answers-scripted source None named how says refuses silent unused = absurd refuses
          Answers-scripted source (Some path) named how says refuses silent unused = Answers-script path source named how says refuses silent unused

          Answers-from : (source : ProfileSource) → profile_of (command asks.action) ≡ source → (how : Status) → Said how → RefusesProfileFrom source c.second how c.files_before c.files_after → c.out_after ≡ c.out_before → AreUnused c.passes → Answers (status_number how) c
          Answers-from NoProfile is how says refuses silent unused = absurd refuses
          Answers-from NamedFile is how says refuses silent unused = Answers-named is c.second refl how says refuses silent unused
          Answers-from NamedScript is how says refuses silent unused = Answers-scripted is c.second refl how says refuses silent unused
          Answers-from (OwnRun frames cells steps hot most) is how says refuses silent unused =
              subst (λ (h : Status). Answers (status_number h) c) (sym refuses) (Answers-exhausted (inl unused) (subst Said refuses says) silent)

          module _ (entries : List Entry) (profiled : IsProfileFrom (profile_of (command asks.action)) c.second c.files_before.holds p entries) where
            ready : IsReady c asks p entries
            ready = record { file = program_file; values = values; given = given; profiled = profiled }

            -- the list was begun
            began : takes_passes (command asks.action) ≡ true → IsCutOff c.passes entries p → ListBegan c asks
            began takes cut = record { takes = takes; program = p; entries = entries; ready = ready; cut = cut }

            -- the list of passes makes no program of it
            Answers-list : takes_passes (command asks.action) ≡ true → (how : Status) → Said how → RefusesList how c.passes entries p → c.out_after ≡ c.out_before → Answers (status_number how) c
            Answers-list takes (status.UnknownPass place) says refuses silent = record {
              asks = asks;
              takes = takes;
              program = p;
              entries = entries;
              ready = ready;
              place = place;
              unknown = refuses.0;
              unused = refuses.1;
              alone = record { silent = silent; says = says };
            }
            Answers-list takes (status.PassTooLarge place bound) says refuses silent = record {
              asks = asks;
              because = inr (inr (inr (inl (record {
                takes = takes;
                program = p;
                entries = entries;
                ready = ready;
                place = place;
                bound = bound;
                refused = refuses;
                alone = record { silent = silent; says = says };
              }))));
            }
            Answers-list takes status.OutOfMemory says refuses silent = Answers-exhausted (inr (began takes refuses)) says silent
            Answers-list takes _ says refuses silent = absurd refuses

            Answers-making : (by_list : Bool) → (by_list ≡ true → takes_passes (command asks.action) ≡ true) → (how : Status) → Said how → RefusesMaking by_list how c.passes entries p → c.out_after ≡ c.out_before → Answers (status_number how) c
            Answers-making false takes how says refuses silent = absurd refuses
            Answers-making true takes how says refuses silent = Answers-list (takes refl) how says refuses silent

            -- how the passes were left by a command that made a program by its list, or without one
            tallies_of : (by_list : Bool) → takes_passes (command asks.action) ≡ by_list → (q : Prog) → Makes by_list c.passes entries p q → AreUnused c.passes ⊎ ListBegan c asks
            tallies_of false takes q makes = inl (unused_by c asks.action takes keeps)
            tallies_of true takes q makes = inr (began takes (IsMade-cut c.passes entries p q makes))

            -- an image was to be made of the program that the list makes, and it is too large
            module _ (q : Prog) (by : Makes (takes_passes (command asks.action)) c.passes entries p q) (limits : Limits) (makes : MakesImage (command asks.action) limits) where
              long_program : HasLongCode c q ⊎ HasLongStack c q limits → Answers 68 c
              long_program because = record {
                asks = asks;
                because = inr (inr (inl (record { limits = limits; makes = makes; program = p; entries = entries; ready = ready; made = q; by = by; because = because })));
              }

              Answers-image : (how : Status) → Said how → RefusesImage how q limits → c.out_after ≡ c.out_before → Answers (status_number how) c
              Answers-image (status.CodeTooBig words) says refuses silent =
                  long_program (inl (record {
                    long = refuses.0;
                    alone = record { silent = silent; says = subst (λ n. Puts c.err_before (code_pieces n) c.err_after) refuses.1 says };
                  }))
              Answers-image (status.StackTooBig words) says refuses silent =
                  long_program (inr (record {
                    short_code = refuses.0;
                    stack = refuses.1.0;
                    size = refuses.1.1;
                    long = refuses.1.2;
                    alone = record { silent = silent; says = subst (λ n. Puts c.err_before (stack_pieces n) c.err_after) refuses.1.3 says };
                  }))
              Answers-image status.OutOfMemory says refuses silent = Answers-exhausted (tallies_of (takes_passes (command asks.action)) refl q by) says silent
              Answers-image _ says refuses silent = absurd refuses

      -- ---- a command on an accepted program

      module _ (origin : Origin) (does : OfProgram) (is : command asks.action ≡ OnProgram origin does) where
        makes_image : (limits : Limits) → AreLimitsOf does.emission limits → MakesImage (command asks.action) limits
        makes_image limits are = subst (λ k. MakesImage k limits) (sym is) are

        gives_values : (p : Prog) (values : List Value) → AreGiven does.arguments p asks.args values → GivesValues (command asks.action) p asks.args values
        gives_values p values given = subst (λ k. GivesValues k p asks.args values) (sym is) (spelled_of does.arguments p asks.args values given)

        made_by : (entries : List Entry) (p q : Prog) → Makes does.takes_passes c.passes entries p q → Makes (takes_passes (command asks.action)) c.passes entries p q
        made_by entries p q makes = subst (λ by_list. Makes by_list c.passes entries p q) (sym (ap takes_passes is)) makes

        profiled_by : (p : Prog) (entries : List Entry) → IsProfileFrom does.profile c.second c.files_before.holds p entries → IsProfileFrom (profile_of (command asks.action)) c.second c.files_before.holds p entries
        profiled_by p entries profiled = subst (λ k. IsProfileFrom (profile_of k) c.second c.files_before.holds p entries) (sym is) profiled

        comes_to : (p : Prog) (program : IsAcceptedProgram tree p) (values : List Value) → AreGiven does.arguments p asks.args values → (entries : List Entry) → IsProfileFrom does.profile c.second c.files_before.holds p entries → (q : Prog) (makes : Makes does.takes_passes c.passes entries p q) → Fits does.emission q
            → (Is : Outcome → Type 0) → Is (does.outcome (subject does c.passes c.second c.files_before.holds entries p q makes values)) → ComesTo c asks Is
        comes_to p program values given entries profiled q makes fits Is holds = subst (λ k. CommandComesTo k c asks.path asks.args Is) (sym is) (record {
          program = p;
          file = subst (λ k. IsProgramOf (reach k) c.files_before.holds asks.path p) is (program_file p program);
          values = values;
          given = given;
          entries = entries;
          profiled = profiled;
          made = q;
          makes = makes;
          fits = fits;
          is = holds;
        })

        Answers-made : (p : Prog) (program : IsAcceptedProgram tree p) (values : List Value) → AreGiven does.arguments p asks.args values → (entries : List Entry) → IsProfileFrom does.profile c.second c.files_before.holds p entries → (q : Prog) (makes : Makes does.takes_passes c.passes entries p q)
            → (how : Status) (told : List (List ℕ)) → Puts c.err_before (told ++ status_pieces how) c.err_after
            → (RefusesEmission does.emission how q × IsSilent told c.out_before c.out_after) ⊎ (Fits does.emission q × Works (does.outcome (subject does c.passes c.second c.files_before.holds entries p q makes values)) how told c.out_before c.out_after)
            → Answers (status_number how) c
        Answers-made p program values given entries profiled q makes how told says =
            ⊎_elim (λ long. Answers-image p program values (gives_values p values given) entries (profiled_by p entries profiled) q (made_by entries p q makes) long.0.0 (makes_image long.0.0 long.0.1) how (plain told (status_pieces how) long.1.0 says) long.0.2 long.1.1)
            (λ goes. Answers-works (does.outcome (subject does c.passes c.second c.files_before.holds entries p q makes values)) (comes_to p program values given entries profiled q makes goes.0) (tallies_of p program values (gives_values p values given) entries (profiled_by p entries profiled) (takes_passes (command asks.action)) refl q (made_by entries p q makes)) how told says goes.1)

        Answers-program : (p : Prog) (program : IsAcceptedProgram tree p) (how : Status) (told : List (List ℕ)) → Puts c.err_before (told ++ status_pieces how) c.err_after
            → DoesProgram does how c.passes c.files_before c.files_after p c.second asks.args told c.out_before c.out_after → Answers (status_number how) c
        Answers-program p program how told says =
            ⊎_elim (λ refused. Answers-given p program does.arguments (λ takes. subst GivesArguments (sym is) takes) how (plain told (status_pieces how) refused.1.0.0 says) refused.0 refused.1.0.1 refused.1.1)
            (λ values. ⊎_elim (λ refused. Answers-from p program values.0 (gives_values p values.0 values.1) does.profile (ap profile_of is) how (plain told (status_pieces how) refused.1.0.0 says) refused.0 refused.1.0.1 refused.1.1)
            (λ given. ⊎_elim (λ refused. Answers-making p program values.0 (gives_values p values.0 values.1) given.0 (profiled_by p given.0 given.1) does.takes_passes (λ takes. ap takes_passes is ∙ takes) how (plain told (status_pieces how) refused.1.0 says) refused.0 refused.1.1)
            (λ made. Answers-made p program values.0 values.1 given.0 given.1 made.0 made.1 how told says made.2)
            given.2)
            values.2)

    -- ---- the command's work

    works_on : (outcome : Tree → Outcome) → ((Is : Outcome → Type 0) → Is (outcome tree) → ComesTo c asks Is) → takes_passes (command asks.action) ≡ false
        → (how : Status) (told : List (List ℕ)) → Puts c.err_before (told ++ status_pieces how) c.err_after → Works (outcome tree) how told c.out_before c.out_after → Answers (status_number how) c
    works_on outcome comes none how told says works = Answers-works (outcome tree) comes (inl (unused_by c asks.action none keeps)) how told says works

    Answers-tree : (k : Command) → command asks.action ≡ k → IsTreeAt (reach k) c.files_before.holds asks.path tree → (how : Status) (told : List (List ℕ)) → Puts c.err_before (told ++ status_pieces how) c.err_after
        → DoesTree k how c.passes c.files_before c.files_after tree c.second asks.args told c.out_before c.out_after → Answers (status_number how) c
    Answers-tree (OnBytes does) is at how told says = λ goes. absurd goes
    Answers-tree (OnFile outcome) is at how told says =
        works_on outcome (λ Is holds. subst (λ k. CommandComesTo k c asks.path asks.args Is) (sym is) (record { tree = tree; file = at; is = holds })) (ap takes_passes is) how told says
    Answers-tree (OnTree outcome) is at how told says =
        works_on outcome (λ Is holds. subst (λ k. CommandComesTo k c asks.path asks.args Is) (sym is) (record { tree = tree; file = at; is = holds })) (ap takes_passes is) how told says
    Answers-tree (OnProgram origin does) is at how told says =
        ⊎_elim (λ refused. Answers-refused (subst (λ k. IsTreeAt (reach k) c.files_before.holds asks.path tree) (sym is) at) (subst NeedsProgram (sym is) tt) how (plain told (status_pieces how) refused.1.0.0 says) refused.0 refused.1.0.1 refused.1.1)
        (λ goes. Answers-program (subst (λ k. IsTreeAt (reach k) c.files_before.holds asks.path tree) (sym is) at) origin does is goes.0 goes.1 how told says goes.2)

  -- ---- the bytes of its one file

  module _ (action : BytesAction) (is : asks.action ≡ Bytes action) where
    abbrev does : OfBytes
    does = on_bytes action

    bytes_unused : AreUnused c.passes
    bytes_unused = unused_by c asks.action (ap (λ a. takes_passes (command a)) is) keeps

    Answers-refusal : (how : Status) → Said how → c.out_after ≡ c.out_before → RefusesHeld does how c.files_before.holds asks.path asks.args → Answers (status_number how) c
    Answers-refusal how says silent held =
        Answers-bytes how says (subst (λ a. RefusesOnBytes (command a) how c.files_before.holds asks.path asks.args) (sym is) held)
        (held_refusal does (determined action) how c.files_before.holds asks.path asks.args held) silent bytes_unused

    Answers-held : (how : Status) (told : List (List ℕ)) → Puts c.err_before (told ++ status_pieces how) c.err_after → (bytes : List ℕ) → HoldsBytes c.files_before.holds asks.path bytes
        → DoesHeld does how asks.path bytes asks.args told c.out_before c.out_after → Answers (status_number how) c
    Answers-held how told says bytes held =
        ⊎_elim (λ stops. Answers-refusal how (plain told (status_pieces how) stops.1.0 says) stops.1.1 (record { bytes = bytes; held = held; because = inl stops.0 }))
        (λ read. ⊎_elim (λ stops. Answers-refusal how (plain told (status_pieces how) stops.1.0 says) stops.1.1 (record { bytes = bytes; held = held; because = inr (read.0, read.1, stops.0) }))
        (λ given. Answers-works (does.outcome read.0 given.0)
        (λ Is holds. subst (λ a. CommandComesTo (command a) c asks.path asks.args Is) (sym is) (record { bytes = bytes; held = held; read = read.0; are_read = read.1; values = given.0; given = given.1; is = holds }))
        (inl bytes_unused) how told says given.2)
        read.2)

  Answers-on_bytes : (action : Action) → asks.action ≡ action → (how : Status) (told : List (List ℕ)) → Puts c.err_before (told ++ status_pieces how) c.err_after
      → DoesBytes (command action) how c.files_before.holds asks.path asks.args told c.out_before c.out_after → Answers (status_number how) c
  Answers-on_bytes (Bytes does) is how told says goes = Answers-held does is how told says goes.0 goes.1 goes.2
  Answers-on_bytes (File does) is how told says goes = absurd goes
  Answers-on_bytes (OfTree does) is how told says goes = absurd goes
  Answers-on_bytes (Program does) is how told says goes = absurd goes
  Answers-on_bytes (Demo functions) is how told says goes = absurd goes

-- what each status says
pub Answers-of : (c : Call) (asks : Asks c.words) (how : Status) → Ends c asks how → Answers (status_number how) c
Answers-of c asks how ends =
    ⊎_elim (λ refused. Answers-unread c asks ends.keeps how (plain ends.told (status_pieces how) refused.1.0.0 ends.says) refused.0 refused.1.0.1 refused.1.1)
    (⊎_elim (λ tree. Answers-tree c asks ends.keeps tree.0 (command asks.action) refl tree.1 how ends.told ends.says tree.2)
    (λ goes. Answers-on_bytes c asks ends.keeps asks.action refl how ends.told ends.says goes))
    ends.does
