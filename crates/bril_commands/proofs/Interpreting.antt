-- What a run of an interpreter leaves.
use Rattle.std.proofs.Common.{◌≡◌, ◌⊎◌, ℕ, zero, suc, ◌+◌, ◌-◌, ◌≤◌, List, [], ◌∷◌, ◌++◌, length, Option, Some, None, refl, sym, ap, ◌∙◌, subst, arith, inl, inr, ⊎_elim, true≢false, append_assoc, length-append}
use Rattle.bril_interpreter.specs.declared.answer.StepAnswer.TheVariants as run
use Rattle.bril_interpreter.specs.Line.{next_print, pieces_of, puts_of}
use Rattle.bril_interpreter.specs.StepAnswers.{Ran, RunFailed, WantsMemory, reached_after, print_at, puts_within}
use Rattle.bril_interpreter.specs.Interpreter.{InterpView}
use Rattle.bril_outside.proofs.SinkWrites.{PutSome-longer, joined-append}
use Rattle.bril_outside.specs.Sink.{SinkSeen, Rose, Flushed, HandedOn, Took, TookAll, TookBy, PutTimes, PutSome, joined}
use Rattle.bril_report.specs.Puts.{PutsAll}
use Rattle.bril_tree.specs.declared.limits.End.{End}
use Rattle.bril_tree.specs.declared.limits.Limits.{Limits}
use Rattle.bril_tree.specs.declared.program.Prog.{Prog}
use Rattle.bril_tree.specs.declared.value.Value.{Value}
use Rattle.bril_tree.specs.Run.{state_after}
use Rattle.bril_tree.specs.State.{State}
use Rattle.bril_tree.specs.Step.{step}
use Rattle.simulation.specs.System.{after}
use Rattle.bril_commands.proofs.Prints.{joined-within, length-pieces, pieces-grow}
use Rattle.bril_commands.specs.Outcome.{ShowsPut, ShowsPartly, StopsShort}
use Rattle.bril_commands.specs.commands.Interp.{IsFresh, interpreted, pieces_within}

-- bytes that were taken by so many puts were put in as many pieces
pub PutsAll-by : {s t : SinkSeen} {bytes : List ℕ} {puts : ℕ} (pieces : List (List ℕ)) → joined pieces ≡ bytes → length pieces ≡ puts → TookBy s bytes puts t → PutsAll s pieces t
PutsAll-by {s} {t} pieces is many took = record {
  put = record { took = subst (λ bytes. TookAll s bytes t) (sym is) took.took; times = subst (λ n. PutTimes s n t) (sym many) took.times };
  quiet = λ none. took.silent (sym is ∙ ap joined none);
}

module _ (i : InterpView) (p : Prog) (limits : Limits) (values : List Value) (fresh : IsFresh i p limits values) (steps : ℕ) where
  pub reached : (n : ℕ) → reached_after i n ≡ state_after p limits values n
  reached n = λ k. after (step (fresh.of_program k) (fresh.under k)) n (fresh.state k)

  next_here : (n : ℕ) → print_at i (reached_after i n) ≡ next_print p (state_after p limits values n)
  next_here n = ap (λ (q : Prog). next_print q (reached_after i n)) fresh.of_program ∙ ap (next_print p) (reached n)

  -- the pieces of the first steps are as many as their puts
  many : (n : ℕ) → length (pieces_within p limits values n) ≡ puts_within i n
  many zero = refl
  many (suc n) =
      length-append (pieces_within p limits values n) (pieces_of (next_print p (state_after p limits values n)))
      ∙ ap (λ k. k + length (pieces_of (next_print p (state_after p limits values n)))) (many n)
      ∙ ap (λ k. puts_within i n + k) (length-pieces (next_print p (state_after p limits values n)) ∙ ap puts_of (sym (next_here n)))

  printed_at : (n : ℕ) → joined (pieces_within p limits values n) ≡ (reached_after i n).printed
  printed_at n = joined-within p limits values n ∙ ap (λ (u : State). u.printed) (sym (reached n))

  -- the pieces of the first steps stand at the front of those of all steps
  front : (n : ℕ) → n ≤ steps → (rest : List (List ℕ)) × (pieces_within p limits values steps ≡ pieces_within p limits values n ++ rest)
  front n h =
      let all : steps ≡ n + (steps - n) = omega arith in
      let grown = pieces-grow (pieces_within p limits values) (λ m. pieces_of (next_print p (state_after p limits values m))) (λ m. refl) n (steps - n) in
      (grown.0, ap (pieces_within p limits values) all ∙ grown.1)

  module _ (i' : InterpView) (s t : SinkSeen) where
    whole : (ended : Option End) → (reached_after i steps).ended ≡ ended → TookBy s (reached_after i steps).printed (puts_within i steps) t → ShowsPut (interpreted p values limits.frames limits.cells steps) ended [] s t
    whole ended ends took = record {
      output = pieces_within p limits values steps;
      shows = (
        refl,
        record {
          limits = limits;
          frames_are = refl;
          cells_are = refl;
          ends = ap (λ (u : State). u.ended) (sym (reached steps)) ∙ ends;
          prints = sym (joined-within p limits values steps);
          pieces = refl;
        },
      );
      puts = PutsAll-by (pieces_within p limits values steps) (printed_at steps) (many steps) took;
    }

    pub ended : (e : End) → Ran (run.End e) steps i i' s t → ShowsPut (interpreted p values limits.frames limits.cells steps) (Some e) [] s t
    ended e ran = whole (Some e) ran.0 ran.1.printed

    pub goes_on : Ran run.Go steps i i' s t → ShowsPut (interpreted p values limits.frames limits.cells steps) None [] s t
    goes_on ran = whole None ran.0 ran.1.printed

    pub exhausted : {u : SinkSeen} → Ran run.Memory steps i i' s t → Flushed t u → HandedOn t u ⊎ Rose t.faults u.faults → StopsShort (interpreted p values limits.frames limits.cells steps) s u
    exhausted ran flushed either = inr (
      pieces_within p limits values ran.made,
      record {
        limits = limits;
        frames_are = refl;
        cells_are = refl;
        made = ran.made;
        within = ran.within;
        wants = subst (λ (q : Prog). WantsMemory q limits (state_after p limits values ran.made)) fresh.of_program
            (subst (λ (l : Limits). WantsMemory i.checked.prog l (state_after p limits values ran.made)) fresh.under
            (subst (λ (u : State). WantsMemory i.checked.prog i.limits u) (reached ran.made) ran.wants));
        prints = sym (joined-within p limits values ran.made);
        pieces = refl;
      },
      let puts = PutsAll-by (pieces_within p limits values ran.made) (printed_at ran.made) (many ran.made) ran.reached.printed in
          ⊎_elim (λ out. inl (record { between = t; puts = puts; flushed = flushed; out = out })) (λ rose. inr (record { between = t; puts = puts; flushed = flushed; rose = rose })) either,
    )

    -- the pieces of the print that failed come after those of the steps before it
    cut : (failed : RunFailed steps i i' s t) → PutSome s (pieces_within p limits values (suc failed.made)) t
    cut failed =
        let put = failed.print.put in
        let before = pieces_within p limits values failed.made in
        let here : pieces_of (next_print p (state_after p limits values failed.made)) ≡ put.front ++ (put.part ++ put.rest) ∷ put.unput = ap pieces_of (sym (next_here failed.made)) ∙ put.whole in
        let done : List (List ℕ) = put.front ++ put.part ∷ [] in
        let same : before ++ done ≡ (before ++ put.front) ++ put.part ∷ [] = sym (append_assoc before put.front (put.part ∷ [])) in
        let bytes : (reached_after i failed.made).printed ++ joined done ≡ joined (before ++ done) = ap (λ b. b ++ joined done) (sym (printed_at failed.made)) ∙ sym (joined-append before done) in
        let puts : puts_within i failed.made + length done ≡ length (before ++ done) = ap (λ n. n + length done) (sym (many failed.made)) ∙ sym (length-append before done) in
        record {
          front = before ++ put.front;
          part = put.part;
          rest = put.rest;
          unput = put.unput;
          whole = ap (λ ps. before ++ ps) here ∙ sym (append_assoc before put.front ((put.part ++ put.rest) ∷ put.unput));
          took = subst (λ b. Took s b t) (bytes ∙ ap joined same) put.took;
          times = subst (λ n. PutTimes s n t) (puts ∙ ap length same) put.times;
          rose = put.rose;
        }

    by_print : RunFailed steps i i' s t → ShowsPartly (interpreted p values limits.frames limits.cells steps) s t
    by_print failed =
        let rest = front (suc failed.made) (let h = failed.within in omega arith) in
        record {
          ended = (state_after p limits values steps).ended;
          told = [];
          output = pieces_within p limits values steps;
          shows = (refl, record { limits = limits; frames_are = refl; cells_are = refl; ends = refl; prints = sym (joined-within p limits values steps); pieces = refl });
          took = inl (subst (λ ps. PutSome s ps t) (sym rest.1) (PutSome-longer rest.0 (cut failed)));
        }

    pub failed : Ran run.WriteFault steps i i' s t → ShowsPartly (interpreted p values limits.frames limits.cells steps) s t
    failed ran = ⊎_elim (λ before. absurd (true≢false (sym before.failed_before ∙ fresh.sound))) by_print ran
