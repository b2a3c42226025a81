-- When a command that works on bytes is done, and when it refuses them.
use Rattle.std.proofs.Common.{◌≡◌, ℕ, ◌⊎◌, List, [], Option, Some, refl, sym, ap, ◌∙◌, subst, inl, inr, ⊎_elim}
use Rattle.std.specs.Prelude.{◌≢◌}
use Rattle.bril_report.specs.Puts.{Puts}
use Rattle.bril_report.specs.Report.{status_number, status_pieces}
use Rattle.bril_report.specs.StageFaults.{link_status}
use Rattle.bril_report.specs.declared.status.Status.TheVariants as status
use Rattle.bril_report.specs.declared.status.Status.{Status}
use Rattle.bril_tree.specs.declared.value.Value.{Value}
use Rattle.bril_words.specs.declared.subcommands.Action.TheVariants.{Bytes, File, Tree as OfTree, Program, Demo}
use Rattle.bril_words.specs.declared.subcommands.Action.{Action}
use Rattle.bril_commands.proofs.Causes.{exhausted, said, same_action, same_args, same_path}
use Rattle.bril_commands.proofs.Held.{AreOne, IsDetermined, determined, none_refused, one_arguments, one_bytes}
use Rattle.bril_commands.proofs.Reading.{bytes_not_refused, bytes_once}
use Rattle.bril_commands.proofs.Statuses.{Ends}
use Rattle.bril_commands.proofs.When.{works_done}
use Rattle.bril_commands.specs.Call.{Call}
use Rattle.bril_commands.specs.Comes.{ReadsWell, UnlessMemory}
use Rattle.bril_commands.specs.Command.{Command, OnBytes, OfBytes, RefusesHeld, RefusesOnBytes, reach}
use Rattle.bril_commands.specs.CommandLine.{Asks}
use Rattle.bril_commands.specs.Driver.{DoesBytes, DoesHeld}
use Rattle.bril_commands.specs.Outcome.{Works}
use Rattle.bril_commands.specs.Source.{AreTold, BytesAlone, HoldsBytes, IsTreeAt}
use Rattle.bril_commands.specs.Stages.{RefusesTree}
use Rattle.bril_commands.specs.Table.{command, on_bytes}
use Rattle.bril_commands.specs.When.{BytesDone, IsDoneUnless}

module _ (c : Call) (asks : Asks c.words) (how : Status) (ends : Ends c asks how) where
  module _ (action : Action) (reads : ReadsWell c action) where
    bytes_goes : (does : OfBytes) → IsDetermined does → (told : AreTold BytesAlone c.files_before.holds) (bytes : List ℕ) (read : does.Read) (values : List Value) → HoldsBytes c.files_before.holds asks.path bytes → does.AreRead bytes read
        → does.AreGiven read asks.args values → (other : List ℕ) → HoldsBytes c.files_before.holds asks.path other → DoesHeld does how asks.path other asks.args ends.told c.out_before c.out_after → UnlessMemory (status_number how) (IsDoneUnless (status_number how) c (does.outcome read values))
    bytes_goes does one told bytes read values held reads given other is goes =
        let same : other ≡ bytes = bytes_once c.files_before c.files_after told.0 told.1 asks.path other bytes is held in
        ⊎_elim (λ refused. exhausted how _ (one.sound how asks.path other read (subst (λ (bs : List ℕ). does.AreRead bs read) (sym same) reads) refused.0))
        (λ x. let alike : x.0 ≡ read = one.reads_once other x.0 read x.1 (subst (λ (bs : List ℕ). does.AreRead bs read) (sym same) reads) in
        ⊎_elim (λ refused. exhausted how _ (one.fits how read asks.args values given (subst (λ (r : does.Read). does.RefusesArguments how r asks.args) alike refused.0)))
        (λ vs. let equal : vs.0 ≡ values = one.given_once read asks.args vs.0 values (subst (λ (r : does.Read). does.AreGiven r asks.args vs.0) alike vs.1) given in
        works_done c (does.outcome read values) how ends.told ends.says
        (subst (λ (r : does.Read). Works (does.outcome r values) how ends.told c.out_before c.out_after) alike (subst (λ (ws : List Value). Works (does.outcome x.0 ws) how ends.told c.out_before c.out_after) equal vs.2)))
        x.2)
        goes

    on_held : (a : Action) → action ≡ a → (does : OfBytes) → (IsDetermined does) → command a ≡ OnBytes does → BytesDone (OnBytes does) (status_number how) c reads.path reads.args
    on_held a same does one is bytes read values held reads_so given =
        let k : command asks.action ≡ OnBytes does = ap command (sym (same_action c asks how ends action reads) ∙ same) ∙ is in
        let told : AreTold BytesAlone c.files_before.holds = subst (λ j. AreTold (reach j) c.files_before.holds) (ap command same ∙ is) reads.told in
        let path = same_path c asks how ends action reads in
        let args = same_args c asks how ends action reads in
        let here : HoldsBytes c.files_before.holds asks.path bytes = subst (λ (p : List ℕ). HoldsBytes c.files_before.holds p bytes) path held in
        let gives : does.AreGiven read asks.args values = subst (λ (ws : List (List ℕ)). does.AreGiven read ws values) args given in
        ⊎_elim (λ refused. exhausted how _ (held_refused (subst (λ j. RefusesTree (reach j) how c.files_before c.files_after asks.path) k refused.0) here told))
        (⊎_elim (λ deals. absurd (subst (λ j. IsTreeAt (reach j) c.files_before.holds asks.path deals.0) k deals.1))
        (λ goes. let b = subst (λ j. DoesBytes j how c.files_before.holds asks.path asks.args ends.told c.out_before c.out_after) k goes in
        bytes_goes does one told bytes read values here reads_so gives b.0 b.1 b.2))
        ends.does
      where
        held_refused : RefusesTree BytesAlone how c.files_before c.files_after asks.path → HoldsBytes c.files_before.holds asks.path bytes → AreTold BytesAlone c.files_before.holds → how ≡ status.OutOfMemory
        held_refused refused here told =
            refused.1 ∙ ap link_status (⊎_elim (λ e. e) (λ rose. absurd (reads.sound rose)) (bytes_not_refused c.files_before c.files_after told.0 told.1 asks.path bytes refused.0 here refused.2))

    bytes_by : (a : Action) → action ≡ a → BytesDone (command a) (status_number how) c reads.path reads.args
    bytes_by (Bytes does) same = on_held (Bytes does) same (on_bytes does) (determined does) refl
    bytes_by (File does) same = tt
    bytes_by (OfTree does) same = tt
    bytes_by (Program does) same = tt
    bytes_by (Demo functions) same = tt

    pub bytes_done : BytesDone (command action) (status_number how) c reads.path reads.args
    bytes_done = bytes_by action refl

    -- ---- why it refuses them

    on_refused : (a : Action) → action ≡ a → (does : OfBytes) → IsDetermined does → command a ≡ OnBytes does → (why : Status) → why ≢ status.OutOfMemory → RefusesHeld does why c.files_before.holds reads.path reads.args
        → UnlessMemory (status_number how) ((status_number how ≡ status_number why) × Puts c.err_before (status_pieces why) c.err_after)
    on_refused a same does one is why ample refuses =
        let k : command asks.action ≡ OnBytes does = ap command (sym (same_action c asks how ends action reads) ∙ same) ∙ is in
        let told : AreTold BytesAlone c.files_before.holds = subst (λ j. AreTold (reach j) c.files_before.holds) (ap command same ∙ is) reads.told in
        let here : RefusesHeld does why c.files_before.holds asks.path asks.args =
        subst (λ (p : List ℕ). RefusesHeld does why c.files_before.holds p asks.args) (same_path c asks how ends action reads)
        (subst (λ (ws : List (List ℕ)). RefusesHeld does why c.files_before.holds reads.path ws) (same_args c asks how ends action reads) refuses) in
        ⊎_elim (λ refused. exhausted how _ (none_read told here (subst (λ j. RefusesTree (reach j) how c.files_before c.files_after asks.path) k refused.0)))
        (⊎_elim (λ deals. absurd (subst (λ j. IsTreeAt (reach j) c.files_before.holds asks.path deals.0) k deals.1))
        (λ goes. let b = subst (λ j. DoesBytes j how c.files_before.holds asks.path asks.args ends.told c.out_before c.out_after) k goes in
        ⊎_elim (λ stops. answered stops.1.0 (one_bytes does one c.files_before c.files_after told.0 told.1 asks.path asks.args how why b.0 b.1 stops.0 here))
        (λ x. ⊎_elim (λ stops. answered stops.1.0 (one_arguments does one c.files_before c.files_after told.0 told.1 asks.path asks.args how why b.0 b.1 x.0 x.1 stops.0 here))
        (λ vs. absurd (ample (none_refused does one c.files_before c.files_after told.0 told.1 asks.path asks.args why b.0 b.1 x.0 x.1 vs.0 vs.1 here)))
        x.2)
        b.2))
        ends.does
      where
        none_read : AreTold BytesAlone c.files_before.holds → RefusesHeld does why c.files_before.holds asks.path asks.args → RefusesTree BytesAlone how c.files_before c.files_after asks.path → how ≡ status.OutOfMemory
        none_read told here refused =
            refused.1 ∙ ap link_status (⊎_elim (λ e. e) (λ rose. absurd (reads.sound rose)) (bytes_not_refused c.files_before c.files_after told.0 told.1 asks.path here.bytes refused.0 here.held refused.2))

        answered : ends.told ≡ [] → AreOne how why → UnlessMemory (status_number how) ((status_number how ≡ status_number why) × Puts c.err_before (status_pieces why) c.err_after)
        answered none either =
            ⊎_elim (exhausted how _) (⊎_elim (λ e. absurd (ample e)) (λ e. inr (ap status_number e, said c asks how ends why e none))) either

    refused_by : (a : Action) → action ≡ a → (why : Status) → why ≢ status.OutOfMemory → RefusesOnBytes (command a) why c.files_before.holds reads.path reads.args
        → UnlessMemory (status_number how) ((status_number how ≡ status_number why) × Puts c.err_before (status_pieces why) c.err_after)
    refused_by (Bytes does) same why ample refuses = on_refused (Bytes does) same (on_bytes does) (determined does) refl why ample refuses
    refused_by (File does) same why ample refuses = absurd refuses
    refused_by (OfTree does) same why ample refuses = absurd refuses
    refused_by (Program does) same why ample refuses = absurd refuses
    refused_by (Demo functions) same why ample refuses = absurd refuses

    pub bytes_refused_where : (why : Status) → why ≢ status.OutOfMemory → RefusesOnBytes (command action) why c.files_before.holds reads.path reads.args
        → UnlessMemory (status_number how) ((status_number how ≡ status_number why) × Puts c.err_before (status_pieces why) c.err_after)
    bytes_refused_where = refused_by action refl
