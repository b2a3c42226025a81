-- Where the files are told, the file of a profile gives one list of entries or one refusal, and never both, and that of a script one
-- refusal where it has no orders: reads that failed and want of memory apart. A run gives one list of entries.
use Rattle.std.proofs.Common.{◌≡◌, ◌⊎◌, ℕ, ◌≤◌, List, [], length, Option, Some, None, refl, sym, ap, ◌∙◌, subst, arith, inl, inr, ⊎_elim}
use Rattle.std.specs.Prelude.{◌<◌, ◌≢◌}
use Rattle.bril_outside.proofs.SinkWrites.{Rose-after}
use Rattle.bril_outside.specs.Files.{FileMap, FilesSeen, LacksFile, MayHold}
use Rattle.bril_outside.specs.Sink.{Rose, SinkSeen}
use Rattle.bril_profile.specs.declared.profile.Entry.{Entry}
use Rattle.bril_report.specs.declared.status.Status.TheVariants as status
use Rattle.bril_report.specs.declared.status.Status.{Status}
use Rattle.bril_tree.specs.declared.program.Prog.{Prog}
use Rattle.bril_tree.specs.declared.tree.Tree.{Tree}
use Rattle.bril_tree.specs.declared.value.Value.{Value}
use Rattle.bril_words.proofs.Limits.{limits_same}
use Rattle.profile_text.proofs.Faults.{faults_are_one, texts_differ, texts_have_no_fault}
use Rattle.profile_text.specs.Fault.{IsFirstFault}
use Rattle.profile_text.specs.Form.{IsProfileText}
use Rattle.trace_recorder.specs.Recorded.{recorded}
use Rattle.bril_commands.specs.Command.{Command, OnBytes, OnFile, OnTree, OnProgram}
use Rattle.bril_commands.specs.Driver.{DoesGiven, DoesTree}
use Rattle.bril_commands.specs.PassList.{PassList}
use Rattle.bril_commands.specs.ProfileFiles.{HoldsBrokenLine, HoldsLongProfile, HoldsProfile, IsProfileAt, IsProfileTold, RefusesProfile, RefusesProfileFile, most_profile_bytes}
use Rattle.bril_commands.specs.Profiles.{IsProfileFrom, IsScriptFrom, IsSourceTold, NamedFile, NamedScript, NoProfile, OwnRun, ProfileSource, RefusesProfileFrom}
use Rattle.bril_commands.specs.Scripts.{HoldsBrokenScript, HoldsLongScript, HoldsScript, IsScriptAt, RefusesScript, RefusesScriptFile, most_script_bytes}
use Rattle.monitor_script.proofs.Faults.{faults_are_one as script_faults_are_one, scripts_have_no_fault}
use Rattle.monitor_script.specs.Fault.{IsFirstFault as IsScriptFault}
use Rattle.monitor_script.specs.declared.order.Order.{Order}
use Rattle.bril_commands.specs.Recording.{AreRecorded, states_within}

-- ---- what is said of a file that may have too many bytes, or a first line that breaks its form

module _ (path : List ℕ) (large : Status) (misread : ℕ → Status) (most : ℕ) (IsBroken : List ℕ → ℕ → Type 0) where
  -- where these bytes are at the path, or none
  abbrev SaysOf : Option (List ℕ) → Status → Type 0
  SaysOf None how = how ≡ status.CannotRead path
  SaysOf (Some bytes) how = ((how ≡ large) × (most < length bytes)) ⊎ ((line : ℕ) × (how ≡ misread line) × (length bytes ≤ most) × IsBroken bytes line)

  module _ (one : (bytes : List ℕ) (a b : ℕ) → IsBroken bytes a → IsBroken bytes b → a ≡ b) where
    not_both : (n : ℕ) → most < n → n ≤ most → ⊥
    not_both n long short = omega arith

    said_once : (o : Option (List ℕ)) (a b : Status) → SaysOf o a → SaysOf o b → a ≡ b
    said_once None a b x y = x ∙ sym y
    said_once (Some bytes) a b (inl x) (inl y) = x.0 ∙ sym y.0
    said_once (Some bytes) a b (inl x) (inr y) = absurd (not_both (length bytes) x.1 y.2)
    said_once (Some bytes) a b (inr x) (inl y) = absurd (not_both (length bytes) y.1 x.2)
    said_once (Some bytes) a b (inr x) (inr y) = x.1 ∙ ap misread (one bytes x.0 y.0 x.3 y.3) ∙ sym y.1

    -- of few bytes that keep the form nothing is said
    never_said : (bytes : List ℕ) → length bytes ≤ most → ((line : ℕ) → IsBroken bytes line → ⊥) → (how : Status) → SaysOf (Some bytes) how → ⊥
    never_said bytes short sound how (inl x) = not_both (length bytes) x.1 short
    never_said bytes short sound how (inr x) = sound x.0 x.3

-- ---- one file

module _ (before after : FilesSeen) (map : FileMap) (told : before.holds ≡ Some map) (sound : ¬ Rose before.faults after.faults) (path : List ℕ) where
  held_is : (bytes : List ℕ) → MayHold before.holds path bytes → map path ≡ Some bytes
  held_is bytes held = subst (λ (o : Option FileMap). MayHold o path bytes) told held

  lacks_is : LacksFile before.holds path → map path ≡ None
  lacks_is lacks = subst (λ (o : Option FileMap). LacksFile o path) told lacks

  -- why no profile was read, where these bytes are at the path, or none
  abbrev Says : Option (List ℕ) → Status → Type 0
  Says = SaysOf path status.ProfileTooLarge status.MisreadProfile most_profile_bytes IsFirstFault

  said : (how : Status) → RefusesProfileFile how before after path → (how ≡ status.OutOfMemory) ⊎ Says (map path) how
  said (status.CannotRead other) refuses =
      let none = lacks_is (⊎_elim (λ rose. absurd (sound rose)) (λ lacks. lacks) refuses.1) in
      inr (subst (λ (o : Option (List ℕ)). Says o (status.CannotRead other)) (sym none) (ap status.CannotRead refuses.0))
  said status.ProfileTooLarge refuses =
      inr (subst (λ (o : Option (List ℕ)). Says o status.ProfileTooLarge) (sym (held_is refuses.bytes refuses.held)) (inl (refl, refuses.long)))
  said (status.MisreadProfile line) refuses =
      inr (subst (λ (o : Option (List ℕ)). Says o (status.MisreadProfile line)) (sym (held_is refuses.bytes refuses.held)) (inr (line, refl, refuses.short, refuses.broken)))
  said status.OutOfMemory refuses = inl refl
  said _ refuses = absurd refuses

  one_said : (o : Option (List ℕ)) (a b : Status) → Says o a → Says o b → a ≡ b
  one_said = said_once path status.ProfileTooLarge status.MisreadProfile most_profile_bytes IsFirstFault faults_are_one

  file_refused_once : (how other : Status) → RefusesProfileFile how before after path → RefusesProfileFile other before after path → other ≢ status.OutOfMemory → (how ≡ status.OutOfMemory) ⊎ (how ≡ other)
  file_refused_once how other a b ample =
      ⊎_elim inl (λ x. ⊎_elim (λ e. absurd (ample e)) (λ y. inr (one_said (map path) how other x y)) (said other b)) (said how a)

  unsaid : (entries : List Entry) (how : Status) (holds : HoldsProfile before.holds path entries) → Says (Some holds.bytes) how → ⊥
  unsaid entries how holds = never_said path status.ProfileTooLarge status.MisreadProfile most_profile_bytes IsFirstFault faults_are_one holds.bytes holds.short (λ line broken. texts_have_no_fault holds.bytes entries line holds.text broken) how

  file_not_refused : (entries : List Entry) (how : Status) → HoldsProfile before.holds path entries → RefusesProfileFile how before after path → how ≡ status.OutOfMemory
  file_not_refused entries how holds refuses =
      ⊎_elim (λ e. e) (λ x. absurd (unsaid entries how holds (subst (λ (o : Option (List ℕ)). Says o how) (held_is holds.bytes holds.held) x))) (said how refuses)

  file_once : (xs ys : List Entry) → HoldsProfile before.holds path xs → HoldsProfile before.holds path ys → xs ≡ ys
  file_once xs ys a b =
      let both : Some a.bytes ≡ Some b.bytes = sym (held_is a.bytes a.held) ∙ held_is b.bytes b.held in
      let same : a.bytes ≡ b.bytes = cc in
      texts_differ b.bytes xs ys (subst (λ (l : List ℕ). IsProfileText l xs) same a.text) b.text

  -- ---- a script

  -- why no script was read, where these bytes are at the path, or none
  abbrev SaysOfScript : Option (List ℕ) → Status → Type 0
  SaysOfScript = SaysOf path status.ScriptTooLarge status.MisreadScript most_script_bytes IsScriptFault

  script_said : (how : Status) → RefusesScriptFile how before after path → (how ≡ status.OutOfMemory) ⊎ SaysOfScript (map path) how
  script_said (status.CannotRead other) refuses =
      let none = lacks_is (⊎_elim (λ rose. absurd (sound rose)) (λ lacks. lacks) refuses.1) in
      inr (subst (λ (o : Option (List ℕ)). SaysOfScript o (status.CannotRead other)) (sym none) (ap status.CannotRead refuses.0))
  script_said status.ScriptTooLarge refuses =
      inr (subst (λ (o : Option (List ℕ)). SaysOfScript o status.ScriptTooLarge) (sym (held_is refuses.bytes refuses.held)) (inl (refl, refuses.long)))
  script_said (status.MisreadScript line) refuses =
      inr (subst (λ (o : Option (List ℕ)). SaysOfScript o (status.MisreadScript line)) (sym (held_is refuses.bytes refuses.held)) (inr (line, refl, refuses.short, refuses.broken)))
  script_said status.OutOfMemory refuses = inl refl
  script_said _ refuses = absurd refuses

  script_refused_once : (how other : Status) → RefusesScriptFile how before after path → RefusesScriptFile other before after path → other ≢ status.OutOfMemory → (how ≡ status.OutOfMemory) ⊎ (how ≡ other)
  script_refused_once how other a b ample =
      ⊎_elim inl
      (λ x. ⊎_elim (λ e. absurd (ample e)) (λ y. inr (said_once path status.ScriptTooLarge status.MisreadScript most_script_bytes IsScriptFault script_faults_are_one (map path) how other x y)) (script_said other b))
      (script_said how a)

  script_not_refused : (orders : List Order) (how : Status) → HoldsScript before.holds path orders → RefusesScriptFile how before after path → how ≡ status.OutOfMemory
  script_not_refused orders how holds refuses =
      ⊎_elim (λ e. e)
      (λ x. absurd (never_said path status.ScriptTooLarge status.MisreadScript most_script_bytes IsScriptFault script_faults_are_one holds.bytes holds.short
      (λ line broken. scripts_have_no_fault holds.bytes orders line holds.text broken) how
      (subst (λ (o : Option (List ℕ)). SaysOfScript o how) (held_is holds.bytes holds.held) x)))
      (script_said how refuses)

-- ---- the run of a program

recorded_once : (p : Prog) (values : List Value) (frames cells steps hot most : ℕ) (xs ys : List Entry) → AreRecorded p values frames cells steps hot most xs → AreRecorded p values frames cells steps hot most ys → xs ≡ ys
recorded_once p values frames cells steps hot most xs ys a b =
    let same : a.limits ≡ b.limits = limits_same a.limits b.limits (a.frames_are ∙ sym b.frames_are) (a.cells_are ∙ sym b.cells_are) in
    a.are ∙ ap (λ limits. recorded p hot most (states_within p limits values steps)) same ∙ sym b.are

-- ---- where there may be no file

module _ (before after : FilesSeen) (sound : ¬ Rose before.faults after.faults) where
  refused_once : (path : Option (List ℕ)) (how other : Status) → IsProfileTold path before.holds → RefusesProfile path how before after → RefusesProfile path other before after → other ≢ status.OutOfMemory
      → (how ≡ status.OutOfMemory) ⊎ (how ≡ other)
  refused_once None how other told a b ample = absurd a
  refused_once (Some path) how other told a b ample = file_refused_once before after told.0 told.1 sound path how other a b ample

  not_refused : (path : Option (List ℕ)) (entries : List Entry) (how : Status) → IsProfileTold path before.holds → IsProfileAt path before.holds entries → RefusesProfile path how before after → how ≡ status.OutOfMemory
  not_refused None entries how told is refuses = absurd refuses
  not_refused (Some path) entries how told is refuses = file_not_refused before after told.0 told.1 sound path entries how is refuses

  same_entries : (path : Option (List ℕ)) (xs ys : List Entry) → IsProfileTold path before.holds → IsProfileAt path before.holds xs → IsProfileAt path before.holds ys → xs ≡ ys
  same_entries None xs ys told a b = a ∙ sym b
  same_entries (Some path) xs ys told a b = file_once before after told.0 told.1 sound path xs ys a b

  scripts_refused_once : (path : Option (List ℕ)) (how other : Status) → IsProfileTold path before.holds → RefusesScript path how before after → RefusesScript path other before after → other ≢ status.OutOfMemory
      → (how ≡ status.OutOfMemory) ⊎ (how ≡ other)
  scripts_refused_once None how other told a b ample = absurd a
  scripts_refused_once (Some path) how other told a b ample = script_refused_once before after told.0 told.1 sound path how other a b ample

  scripts_not_refused : (path : Option (List ℕ)) (orders : List Order) (how : Status) → IsProfileTold path before.holds → IsScriptAt path before.holds orders → RefusesScript path how before after → how ≡ status.OutOfMemory
  scripts_not_refused None orders how told is refuses = absurd refuses
  scripts_not_refused (Some path) orders how told is refuses = script_not_refused before after told.0 told.1 sound path orders how is refuses

  -- ---- the second file of a command

  pub refused_from_once : (source : ProfileSource) (named : Option (List ℕ)) (how other : Status) → IsSourceTold source named before.holds → RefusesProfileFrom source named how before after → RefusesProfileFrom source named other before after
      → other ≢ status.OutOfMemory → (how ≡ status.OutOfMemory) ⊎ (how ≡ other)
  refused_from_once NoProfile named how other told a b ample = absurd a
  refused_from_once NamedFile named how other told a b ample = refused_once named how other told a b ample
  refused_from_once NamedScript named how other told a b ample = scripts_refused_once named how other told a b ample
  refused_from_once (OwnRun frames cells steps hot most) named how other told a b ample = inl a

  pub not_refused_from : (source : ProfileSource) (named : Option (List ℕ)) (p : Prog) (entries : List Entry) (how : Status) → IsSourceTold source named before.holds → IsProfileFrom source named before.holds p entries
      → RefusesProfileFrom source named how before after → how ≡ status.OutOfMemory
  not_refused_from NoProfile named p entries how told is refuses = absurd refuses
  not_refused_from NamedFile named p entries how told is refuses = not_refused named entries how told is refuses
  not_refused_from NamedScript named p entries how told is refuses = scripts_not_refused named is.1.0 how told is.1.1 refuses
  not_refused_from (OwnRun frames cells steps hot most) named p entries how told is refuses = refuses

  pub same_entries_from : (source : ProfileSource) (named : Option (List ℕ)) (p : Prog) (xs ys : List Entry) → IsSourceTold source named before.holds → IsProfileFrom source named before.holds p xs → IsProfileFrom source named before.holds p ys → xs ≡ ys
  same_entries_from NoProfile named p xs ys told a b = a ∙ sym b
  same_entries_from NamedFile named p xs ys told a b = same_entries named xs ys told a b
  same_entries_from NamedScript named p xs ys told a b = a.0 ∙ sym b.0
  same_entries_from (OwnRun frames cells steps hot most) named p xs ys told a b = recorded_once p [] frames cells steps hot most xs ys a b

-- ---- seen from before the reads that led to it

module _ (f m g : FilesSeen) (stay : m.holds ≡ f.holds) (le : f.faults ≤ m.faults) where
  file_refused_from : (how : Status) (path : List ℕ) → RefusesProfileFile how m g path → RefusesProfileFile how f g path
  file_refused_from (status.CannotRead other) path refuses =
      (refuses.0, ⊎_elim (λ rose. inl (Rose-after f.faults m.faults g.faults le rose)) (λ lacks. inr (subst (λ (o : Option FileMap). LacksFile o path) stay lacks)) refuses.1)
  file_refused_from status.ProfileTooLarge path refuses = subst (λ (o : Option FileMap). HoldsLongProfile o path) stay refuses
  file_refused_from (status.MisreadProfile line) path refuses = subst (λ (o : Option FileMap). HoldsBrokenLine o path line) stay refuses
  file_refused_from status.OutOfMemory path refuses = tt
  file_refused_from _ path refuses = absurd refuses

  refused_from : (path : Option (List ℕ)) (how : Status) → RefusesProfile path how m g → RefusesProfile path how f g
  refused_from None how refuses = absurd refuses
  refused_from (Some path) how refuses = file_refused_from how path refuses

  script_refused_from : (path : Option (List ℕ)) (how : Status) → RefusesScript path how m g → RefusesScript path how f g
  script_refused_from None how refuses = absurd refuses
  script_refused_from (Some path) (status.CannotRead other) refuses =
      (refuses.0, ⊎_elim (λ rose. inl (Rose-after f.faults m.faults g.faults le rose)) (λ lacks. inr (subst (λ (o : Option FileMap). LacksFile o path) stay lacks)) refuses.1)
  script_refused_from (Some path) status.ScriptTooLarge refuses = subst (λ (o : Option FileMap). HoldsLongScript o path) stay refuses
  script_refused_from (Some path) (status.MisreadScript line) refuses = subst (λ (o : Option FileMap). HoldsBrokenScript o path line) stay refuses
  script_refused_from (Some path) status.OutOfMemory refuses = tt
  script_refused_from (Some path) _ refuses = absurd refuses

  profile_refused_from : (source : ProfileSource) (named : Option (List ℕ)) (how : Status) → RefusesProfileFrom source named how m g → RefusesProfileFrom source named how f g
  profile_refused_from NoProfile named how refuses = absurd refuses
  profile_refused_from NamedFile named how refuses = refused_from named how refuses
  profile_refused_from NamedScript named how refuses = script_refused_from named how refuses
  profile_refused_from (OwnRun frames cells steps hot most) named how refuses = refuses

  pub DoesTree-from : (k : Command) (how : Status) (l : PassList) (tree : Tree) (named : Option (List ℕ)) (args told : List (List ℕ)) (s t : SinkSeen) → DoesTree k how l m g tree named args told s t → DoesTree k how l f g tree named args told s t
  DoesTree-from (OnBytes does) how l tree named args told s t goes = absurd goes
  DoesTree-from (OnFile outcome) how l tree named args told s t does = does
  DoesTree-from (OnTree outcome) how l tree named args told s t does = does
  DoesTree-from (OnProgram origin does) how l tree named args told s t goes =
      ⊎_elim inl (λ program. inr (
        program.0,
        program.1,
        ⊎_elim inl (λ values. inr (
          values.0,
          values.1,
          ⊎_elim (λ refused. inl (profile_refused_from does.profile named how refused.0, refused.1))
              (λ given. inr (
                given.0,
                subst (λ (o : Option FileMap). IsProfileFrom does.profile named o program.0 given.0) stay given.1,
                subst (λ (o : Option FileMap). DoesGiven does how l named o given.0 program.0 values.0 told s t) stay given.2,
              ))
              values.2,
        )) program.2,
      )) goes
