-- What a machine put that was made for an image, whatever the image is: the pieces that its words print.
use Rattle.std.proofs.Common.{◌≡◌, ◌≢◌, ℕ, zero, suc, ◌+◌, ◌-◌, ◌≤◌, List, [], ◌∷◌, ◌++◌, length, Option, refl, sym, ap, ◌∙◌, subst, arith, append-nil, append_assoc, length-append}
use Rattle.std.proofs.lemmas.List.{append_cancel_left}
use Rattle.bril_outside.proofs.SinkWrites.{PutSome-longer, joined-append}
use Rattle.bril_outside.specs.Sink.{SinkSeen, Took, PutTimes, PutSome, joined}
use Rattle.bril_report.specs.Puts.{PutsAll}
use Rattle.bril_tree.specs.declared.limits.Limits.{Limits}
use Rattle.bril_tree.specs.declared.value.Value.{Value}
use Rattle.rv64_image_laws.proofs.Systems.{machine_after-after}
use Rattle.rv64_image_laws.specs.Implements.{image_after}
use Rattle.rv64_machine.specs.StepAnswers.{RunFailed, Reached, puts_of, puts_after, puts_by, reached_after, unprinted}
use Rattle.rv64_machine.specs.declared.machine.Machine.{Machine}
use Rattle.rv64_words.specs.Machine.{machine_step, machine_after}
use Rattle.rv64_words.specs.Region.{sizes_of}
use Rattle.rv64_words.specs.State.{State, Stop, start}
use Rattle.rv64_words.specs.declared.image.Image.{Image}
use Rattle.image_runs.specs.Machines.{IsFresh}
use Rattle.bril_commands.proofs.Interpreting.{PutsAll-by}
use Rattle.bril_commands.proofs.Prints.{pieces-grow}
use Rattle.bril_commands.proofs.WordPieces.{joined-words, piece-some, printed-more}
use Rattle.bril_commands.specs.commands.Run.{piece_of, pieces_within, printed_next}

-- a word that prints has one put
length-piece : (bytes : List ℕ) → length (piece_of bytes) ≡ puts_of bytes
length-piece [] = refl
length-piece (byte ∷ bytes) = refl

module _ (image : Image) (limits : Limits) (values : List Value) (words : ℕ) (m : Machine) (fresh : IsFresh m image limits values) where
  started : (n : ℕ) → machine_after image (sizes_of image limits.cells) n (start values) ≡ image_after image limits values n
  started n = machine_after-after image (sizes_of image limits.cells) n (start values)

  -- its states are those of the image
  pub reached : (n : ℕ) → reached_after m n ≡ image_after image limits values n
  reached n = (λ i. machine_after (fresh.holds i) (fresh.sizes i) n (fresh.state i)) ∙ started n

  pub stopped_at : (stopped : Option Stop) → (reached_after m words).stopped ≡ stopped → (image_after image limits values words).stopped ≡ stopped
  stopped_at stopped stops = ap (λ (u : State). u.stopped) (sym (reached words)) ∙ stops

  pub printed_at : (n : ℕ) → joined (pieces_within image limits values n) ≡ (reached_after m n).printed
  printed_at n = joined-words image limits values n ∙ ap (λ (t : State). t.printed) (sym (reached n))

  -- the pieces of the first words are as many as their puts
  started_many : (n : ℕ) → length (pieces_within image limits values n) ≡ puts_after image (sizes_of image limits.cells) n (start values)
  started_many zero = refl
  started_many (suc n) =
      let next = printed_next image limits (image_after image limits values n) in
      length-append (pieces_within image limits values n) (piece_of next)
      ∙ ap (λ k. k + length (piece_of next)) (started_many n)
      ∙ ap (λ k. puts_after image (sizes_of image limits.cells) n (start values) + k)
      (length-piece next ∙ ap (λ (t : State). puts_of (machine_step image (sizes_of image limits.cells) (unprinted t)).printed) (sym (started n)))

  many : (n : ℕ) → length (pieces_within image limits values n) ≡ puts_by m n
  many n = started_many n ∙ (λ i. puts_after (sym fresh.holds i) (sym fresh.sizes i) n (sym fresh.state i))

  -- the pieces of the first words stand at the front of those of all words
  front : (n : ℕ) → n ≤ words → (rest : List (List ℕ)) × (pieces_within image limits values words ≡ pieces_within image limits values n ++ rest)
  front n h =
      let all : words ≡ n + (words - n) = omega arith in
      let grown = pieces-grow (pieces_within image limits values) (λ k. piece_of (printed_next image limits (image_after image limits values k))) (λ k. refl) n (words - n) in
      (grown.0, ap (pieces_within image limits values) all ∙ grown.1)

  module _ (m' : Machine) (s t : SinkSeen) where
    -- the words were executed, and all their pieces put
    pub all_put : Reached (reached_after m words) (puts_by m words) m m' s t → PutsAll s (pieces_within image limits values words) t
    all_put ran = PutsAll-by (pieces_within image limits values words) (printed_at words) (many words) ran.printed

    module _ (failed : RunFailed words m m' s t) where
      before : List (List ℕ)
      before = pieces_within image limits values failed.executed

      next : List ℕ
      next = printed_next image limits (image_after image limits values failed.executed)

      next_printed : (reached_after m (suc failed.executed)).printed ≡ (reached_after m failed.executed).printed ++ next
      unfolding next
      next_printed =
          ap (λ (u : State). u.printed) (reached (suc failed.executed)) ∙ printed-more image limits values failed.executed
          ∙ ap (λ (u : State). u.printed ++ printed_next image limits (image_after image limits values failed.executed)) (sym (reached failed.executed))

      some : next ≢ []
      some none = failed.print.prints (next_printed ∙ ap (λ bytes. (reached_after m failed.executed).printed ++ bytes) none ∙ append-nil (reached_after m failed.executed).printed)

      -- the piece of the word whose print failed
      cut_piece : next ≡ failed.print.first ++ failed.print.took.rest
      cut_piece = append_cancel_left (reached_after m failed.executed).printed next (failed.print.first ++ failed.print.took.rest)
          (sym next_printed ∙ failed.print.took.whole ∙ ap (λ bytes. bytes ++ failed.print.took.rest) failed.print.passed
          ∙ append_assoc (reached_after m failed.executed).printed failed.print.first failed.print.took.rest)

      -- it comes after those of the words before it
      cut : PutSome s (pieces_within image limits values (suc failed.executed)) t
      unfolding before next
      cut =
          let print = failed.print in
          let bytes : print.took.part ≡ joined (before ++ print.first ∷ []) = print.passed ∙ ap (λ b. b ++ print.first) (sym (printed_at failed.executed)) ∙ sym (joined-append before (print.first ∷ [])) in
          let puts : puts_by m failed.executed + 1 ≡ length (before ++ print.first ∷ []) = ap (λ n. n + 1) (sym (many failed.executed)) ∙ sym (length-append before (print.first ∷ [])) in
          record {
            front = before;
            part = print.first;
            rest = print.took.rest;
            unput = [];
            whole = ap (λ ps. before ++ ps) (piece-some next some ∙ ap (λ b. b ∷ []) cut_piece);
            took = subst (λ b. Took s b t) bytes print.took.took;
            times = subst (λ n. PutTimes s n t) puts print.times;
            rose = print.rose;
          }

      -- the words before one whose print failed were executed, and some of their pieces put
      pub some_put : PutSome s (pieces_within image limits values words) t
      some_put =
          let rest = front (suc failed.executed) (let h = failed.within in omega arith) in
          subst (λ ps. PutSome s ps t) (sym rest.1) (PutSome-longer rest.0 cut)
