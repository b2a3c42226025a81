-- The pieces that the words of a monitor's call print.
use Rattle.std.proofs.Common.{◌≡◌, ◌≢◌, ℕ, zero, suc, ◌+◌, ◌-◌, ◌≤◌, ◌<◌, List, [], ◌∷◌, ◌++◌, length, Some, refl, sym, ap, ◌∙◌, subst, arith, append-nil, append_assoc, length-append}
use Rattle.std.proofs.lemmas.List.{append_cancel_left}
use Rattle.bril_commands.proofs.Interpreting.{PutsAll-by}
use Rattle.bril_commands.proofs.Prints.{pieces-grow}
use Rattle.bril_commands.proofs.WordPieces.{piece-some}
use Rattle.bril_commands.specs.commands.Monitor.{pieces_after}
use Rattle.bril_commands.specs.commands.Run.{piece_of, printed_next}
use Rattle.bril_outside.proofs.SinkWrites.{PutSome-longer, joined-append}
use Rattle.bril_outside.specs.Sink.{PutSome, PutTimes, SinkSeen, Took, TookBy, joined}
use Rattle.bril_report.specs.Puts.{PutsAll}
use Rattle.bril_tree.specs.declared.limits.Limits.{Limits}
use Rattle.bril_tree.specs.declared.value.Value.{Value}
use Rattle.rv64_image_laws.proofs.Systems.{machine_after-after}
use Rattle.rv64_image_laws.specs.Implements.{image_after}
use Rattle.rv64_machine.specs.MachineView.{image_in, sizes_in, state_of}
use Rattle.rv64_machine.specs.StepAnswers.{PrintFailed, puts_by, puts_of, reached_after, unprinted}
use Rattle.rv64_machine.specs.declared.machine.Machine.{Machine}
use Rattle.rv64_words.proofs.Runs.{machine_after-final, machine_after-more, machine_step-stopped, printed-grows}
use Rattle.rv64_words.specs.Machine.{machine_after, machine_step}
use Rattle.rv64_words.specs.Region.{sizes_of}
use Rattle.rv64_words.specs.State.{State, Stop, start}
use Rattle.rv64_words.specs.declared.image.Image.{Image}
use Rattle.rv64_words.specs.declared.points.Points.{Points}
use Rattle.simulation.proofs.After.{after-add}
use Rattle.step_monitor.proofs.Absolute.{same_state}
use Rattle.step_monitor.specs.Stands.{StandsAfter}
use Rattle.step_monitor.specs.declared.monitor.Monitor.{Monitor}

joined-piece : (bytes : List ℕ) → joined (piece_of bytes) ≡ bytes
joined-piece [] = refl
joined-piece (byte ∷ bytes) = refl

length-piece : (bytes : List ℕ) → length (piece_of bytes) ≡ puts_of bytes
length-piece [] = refl
length-piece (byte ∷ bytes) = refl

-- ---- words of an image

module _ (image : Image) (limits : Limits) (values : List Value) (first : ℕ) where
  -- those of the first words stand at the front
  pub pieces-longer : (n k : ℕ) → n ≤ k → (rest : List (List ℕ)) × (pieces_after image limits values first k ≡ pieces_after image limits values first n ++ rest)
  pieces-longer n k less =
      let all : k ≡ n + (k - n) = omega arith in
      let grown = pieces-grow (pieces_after image limits values first) (λ m. piece_of (printed_next image limits (image_after image limits values (first + m)))) (λ m. refl) n (k - n) in
      (grown.0, ap (pieces_after image limits values first) all ∙ grown.1)

  later : (n k : ℕ) → image_after image limits values (first + (n + k)) ≡ machine_after image (sizes_of image limits.cells) k (image_after image limits values (first + n))
  later n k =
      let sum : first + (n + k) ≡ (first + n) + k = omega arith in
      ap (image_after image limits values) sum
      ∙ (after-add (machine_step image (sizes_of image limits.cells)) (first + n) k (start values) ∙ sym (machine_after-after image (sizes_of image limits.cells) k (image_after image limits values (first + n))))

  quiet : (t : State) (how : Stop) → t.stopped ≡ Some how → piece_of (printed_next image limits t) ≡ []
  quiet t how is = ap (λ (u : State). piece_of u.printed) (machine_step-stopped image (sizes_of image limits.cells) (unprinted t) how is)

  -- a machine that has stopped prints nothing more
  pub pieces-stay : (n k : ℕ) (how : Stop) → (image_after image limits values (first + n)).stopped ≡ Some how → pieces_after image limits values first (n + k) ≡ pieces_after image limits values first n
  pieces-stay n zero how is = ap (pieces_after image limits values first) (let none : n + 0 ≡ n = omega arith in none)
  pieces-stay n (suc k) how is =
      let more : n + suc k ≡ suc (n + k) = omega arith in
      let still : (image_after image limits values (first + (n + k))).stopped ≡ Some how =
      ap (λ (t : State). t.stopped) (later n k ∙ machine_after-final image (sizes_of image limits.cells) 0 k (image_after image limits values (first + n)) how (omega arith) is) ∙ is in
      ap (pieces_after image limits values first) more
      ∙ (ap (λ ps. pieces_after image limits values first (n + k) ++ ps) (quiet (image_after image limits values (first + (n + k))) how still)
      ∙ (append-nil (pieces_after image limits values first (n + k)) ∙ pieces-stay n k how is))

-- ---- words of a monitor's machine

module _ (image : Image) (points : Points) (limits : Limits) (values : List Value) (words : ℕ) (m : Monitor) (stands : StandsAfter image points limits values words m) where
  -- k words on it has stopped alike
  pub stopped_same : (k : ℕ) → (image_after image limits values (words + k)).stopped ≡ (reached_after m.machine k).stopped
  stopped_same k = ap (λ (t : State). t.stopped) (same_state image points limits values words m stands k)

  -- what the next word prints
  next : ℕ → List ℕ
  next k = printed_next image limits (image_after image limits values (words + k))

  own : ℕ → List ℕ
  own k = (machine_step (image_in m.machine) (sizes_in m.machine) (unprinted (reached_after m.machine k))).printed

  next_own : (k : ℕ) → next k ≡ own k
  unfolding next own
  next_own k =
      ap (printed_next image limits) (same_state image points limits values words m stands k)
      ∙ (ap (λ i. (machine_step i (sizes_of image limits.cells) (unprinted (reached_after m.machine k))).printed) (sym stands.image_is)
      ∙ ap (λ y. (machine_step (image_in m.machine) y (unprinted (reached_after m.machine k))).printed) (sym stands.sizes_are))

  grows : (k : ℕ) → (reached_after m.machine (suc k)).printed ≡ (reached_after m.machine k).printed ++ next k
  unfolding own
  grows k =
      ap (λ (t : State). t.printed) (machine_after-more (image_in m.machine) (sizes_in m.machine) k (state_of m.machine))
      ∙ (printed-grows (image_in m.machine) (sizes_in m.machine) 1 (reached_after m.machine k) ∙ ap (λ bytes. (reached_after m.machine k).printed ++ bytes) (sym (next_own k)))

  joined_is : (k : ℕ) → joined (pieces_after image limits values words k) ≡ (reached_after m.machine k).printed
  unfolding next
  joined_is zero = refl
  joined_is (suc k) =
      joined-append (pieces_after image limits values words k) (piece_of (next k))
      ∙ (ap (λ bytes. bytes ++ joined (piece_of (next k))) (joined_is k)
      ∙ (ap (λ bytes. (reached_after m.machine k).printed ++ bytes) (joined-piece (next k)) ∙ sym (grows k)))

  many : (k : ℕ) → length (pieces_after image limits values words k) ≡ puts_by m.machine k
  unfolding next own
  many zero = refl
  many (suc k) =
      length-append (pieces_after image limits values words k) (piece_of (next k))
      ∙ (ap (λ n. n + length (piece_of (next k))) (many k) ∙ ap (λ n. puts_by m.machine k + n) (length-piece (next k) ∙ ap puts_of (next_own k)))

  -- the words of a call were put
  pub puts_pieces : (k : ℕ) {s t : SinkSeen} → TookBy s (reached_after m.machine k).printed (puts_by m.machine k) t → PutsAll s (pieces_after image limits values words k) t
  puts_pieces k took = PutsAll-by (pieces_after image limits values words k) (joined_is k) (many k) took

  -- or those before one whose print failed, and the first of this one
  module _ (k : ℕ) (new : Machine) {s t : SinkSeen} (failed : PrintFailed (reached_after m.machine k) (reached_after m.machine (suc k)) (puts_by m.machine k) m.machine new s t) where
    some : next k ≢ []
    some none = failed.prints (grows k ∙ (ap (λ bytes. (reached_after m.machine k).printed ++ bytes) none ∙ append-nil (reached_after m.machine k).printed))

    cut_piece : next k ≡ failed.first ++ failed.took.rest
    cut_piece = append_cancel_left (reached_after m.machine k).printed (next k) (failed.first ++ failed.took.rest)
        (sym (grows k) ∙ (failed.took.whole ∙ (ap (λ bytes. bytes ++ failed.took.rest) failed.passed ∙ append_assoc (reached_after m.machine k).printed failed.first failed.took.rest)))

    pub cuts_pieces : PutSome s (pieces_after image limits values words (suc k)) t
    unfolding next
    cuts_pieces =
        let before = pieces_after image limits values words k in
        let bytes : failed.took.part ≡ joined (before ++ failed.first ∷ []) = failed.passed ∙ (ap (λ b. b ++ failed.first) (sym (joined_is k)) ∙ sym (joined-append before (failed.first ∷ []))) in
        let puts : puts_by m.machine k + 1 ≡ length (before ++ failed.first ∷ []) = ap (λ n. n + 1) (sym (many k)) ∙ sym (length-append before (failed.first ∷ [])) in
        record {
          front = before;
          part = failed.first;
          rest = failed.took.rest;
          unput = [];
          whole = ap (λ ps. before ++ ps) (piece-some (next k) some ∙ ap (λ b. b ∷ []) cut_piece);
          took = subst (λ b. Took s b t) bytes failed.took.took;
          times = subst (λ n. PutTimes s n t) puts failed.times;
          rose = failed.rose;
        }

    -- also where more pieces come after them
    pub cuts_longer : (n : ℕ) (more : List (List ℕ)) → k < n → PutSome s (pieces_after image limits values words n ++ more) t
    cuts_longer n more less =
        let rest = pieces-longer image limits values words (suc k) n less in
        subst (λ ps. PutSome s (ps ++ more) t) (sym rest.1) (PutSome-longer more (PutSome-longer rest.0 cuts_pieces))
