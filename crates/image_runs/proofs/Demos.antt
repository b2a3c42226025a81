-- The demo: the bytes that are counted, its line, and what is shown of its run.
use Rattle.std.proofs.Common.{◌≡◌, ℕ, ◌+◌, ◌-◌, ◌≤◌, ◌^◌, refl, subst, sym, ap, ◌∙◌, Bool, true, false, true≢false, List, [], ◌∷◌, ◌++◌, length, Option, Some, None, arith, ⊎_elim}
use Rattle.std.specs.Fmt.{decimal}
use Rattle.std.specs.Prelude.{codes, min, nat_le, unwrap_or}
use Rattle.std.proofs.lemmas.Bool.Decides.{nat_tests}
use Rattle.bril_outside.specs.Sink.{Counted, SinkSeen, amount_after, count_seen, joined}
use Rattle.bril_report.proofs.Puts.{PutsAll-none}
use Rattle.bril_report.specs.Stats.{words_pieces}
use Rattle.bril_report.specs.declared.status.Status.{Status}
use Rattle.bril_tree.specs.declared.limits.End.{End}
use Rattle.bril_tree.specs.declared.limits.End.TheVariants.{Ended}
use Rattle.bril_tree.specs.declared.limits.Limits.{Limits}
use Rattle.bril_tree.specs.declared.program.Prog.{Prog}
use Rattle.bril_commands.proofs.Works.{Works-as}
use Rattle.bril_commands.specs.Outcome.{ShowsPut, Works}
use Rattle.bril_commands.specs.commands.Demo.{DemoSize, DemoShows, MadeRuns, demonstrated, line_of, shown_status}
use Rattle.rv64_machine.specs.MachineView.{has_failed}
use Rattle.rv64_machine.specs.StepAnswers.{Ran}
use Rattle.rv64_machine.specs.declared.answer.RunAnswer.TheVariants as run
use Rattle.rv64_machine.specs.declared.machine.Machine.{Machine}
use Rattle.image_runs.specs.Demo.{CountsPrinted, shows_line}

-- what a sink that counts tells of so many bytes
pub bytes_counted : (bytes : ℕ) → unwrap_or (amount_after (Some 0) bytes) (2 ^ 64 - 1) ≡ min bytes (2 ^ 64 - 1)
bytes_counted bytes = by (nat_le bytes ((2 ^ 64 - 1) - 0)) refl
  where
    by : (b : Bool) → nat_le bytes ((2 ^ 64 - 1) - 0) ≡ b → unwrap_or (amount_after (Some 0) bytes) (2 ^ 64 - 1) ≡ min bytes (2 ^ 64 - 1)
    by true e = let few : bytes ≤ 2 ^ 64 - 1 = grind (arith, nat_tests) in rw e (omega arith)
    by false e = let many : 2 ^ 64 - 1 ≤ bytes = grind (arith, nat_tests) in rw e (omega arith)

-- a sink that counts takes every piece
pub never_fails : (words : ℕ) (m m' : Machine) (before after : Counted) → has_failed m ≡ false → Ran run.WriteFault words m m' (count_seen before) (count_seen after) → ⊥
never_fails words m m' before after sound ran =
    ⊎_elim (λ failed. true≢false (sym failed.failed_before ∙ sound)) (λ failed. let rose : min (0 + 1) (2 ^ 64 - 1) ≤ 0 = failed.print.rose in absurd (omega arith)) ran

-- ---- its line

pub line_added : (size : DemoSize) (bytes : ℕ) (end : End) (begun functions all items printed ended line : List ℕ) → begun ≡ codes "demo "
    → functions ≡ begun ++ decimal size.functions ++ codes ": " → all ≡ functions ++ decimal size.all ++ codes " functions, "
    → items ≡ all ++ decimal size.items ++ codes " items, " → printed ≡ items ++ decimal bytes ++ codes " bytes, status "
    → ended ≡ printed ++ shown_status end → line ≡ ended ++ codes "\n" → line ≡ line_of size bytes end
line_added size bytes end begun functions all items printed ended line b f a i p e l =
    let to_functions = f ∙ ap (λ x. x ++ decimal size.functions ++ codes ": ") b in
    let to_all = a ∙ ap (λ x. x ++ decimal size.all ++ codes " functions, ") to_functions in
    let to_items = i ∙ ap (λ x. x ++ decimal size.items ++ codes " items, ") to_all in
    let to_bytes = p ∙ ap (λ x. x ++ decimal bytes ++ codes " bytes, status ") to_items in
    l ∙ ap (λ x. x ++ codes "\n") (e ∙ ap (λ x. x ++ shown_status end) to_bytes)

-- ---- what is shown of a run that was counted

module _ (size : DemoSize) (q : Prog) (limits : Limits) (words : ℕ) (count : Counted) where
  ends_shown : (end : End) → CountsPrinted q limits (Some end) words count → (ended : Option End) (told output : List (List ℕ))
      → (ended ≡ Some Ended) × (told ≡ words_pieces words) × (output ≡ line_of size (unwrap_or count.amount (2 ^ 64 - 1)) end ∷ []) → DemoShows size (MadeRuns q limits) ended told output
  ends_shown end counts ended told output is =
      let line = ap (λ n. line_of size n end ∷ []) (ap (λ a. unwrap_or a (2 ^ 64 - 1)) counts.counted ∙ bytes_counted (length (joined counts.printed))) in
      subst (λ (e : Option End). DemoShows size (MadeRuns q limits) e told output) (sym is.0) (record { end = end; printed = counts.printed; words = words; runs = counts.runs; line = is.2 ∙ line; tells = is.1 })

  -- the line is put
  pub line_works : (end : End) → CountsPrinted q limits (Some end) words count → (how : Status) (told : List (List ℕ)) (s t : SinkSeen)
      → Works (shows_line size (unwrap_or count.amount (2 ^ 64 - 1)) end words) how told s t → Works (demonstrated size (MadeRuns q limits)) how told s t
  line_works end counts how told s t works =
      Works-as (shows_line size (unwrap_or count.amount (2 ^ 64 - 1)) end words) (demonstrated size (MadeRuns q limits)) refl refl (ends_shown end counts) (λ trap told output none. none) (λ output none. none) told s t how works

  -- nothing is put
  pub goes_on : CountsPrinted q limits None words count → (s : SinkSeen) → ShowsPut (demonstrated size (MadeRuns q limits)) None [] s s
  goes_on counts s = record {
    output = [];
    shows = record { printed = counts.printed; words = words; runs = counts.runs; silent = refl; untold = refl };
    puts = PutsAll-none s;
  }
