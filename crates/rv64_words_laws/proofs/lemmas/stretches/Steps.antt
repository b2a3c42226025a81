-- One step of a running machine, by the word that stands at its pc.
use Rattle.std.proofs.Common.{◌≡◌, ℕ, zero, suc, ◌+◌, ◌-◌, ◌*◌, ◌/◌, ◌%◌, ◌<◌, ◌≤◌, ◌⊎◌, inl, inr, Bool, true, false, cond, eqb, refl, ap, ◌∙◌, arith, List, Some, None}
use Rattle.std.specs.Prelude.{slice_get}
use Rattle.std.proofs.lemmas.Bool.Decides.{nat_tests}
use Rattle.simulation.specs.System.{after}
use Rattle.simulation.proofs.After.{after-add, after-sub}
use Rattle.bril_tree.specs.State.{counted}
use Rattle.bril_tree.specs.declared.limits.End.{End}
use Rattle.rv64_words.specs.declared.image.Image.{Image}
use Rattle.rv64_words.specs.declared.word.Word.{Word}
use Rattle.rv64_words.specs.declared.word.Word.TheVariants.{Lui, Jal, Jalr, Branch, Ld, Sd, OpImm, ShiftImm, Op, Ecall}
use Rattle.rv64_words.specs.Encoding.{encoded, decoded}
use Rattle.rv64_words.specs.Machine.{executed, fetched, decoded_step, fetched_step, is_guard_word, arrived_if, machine_step}
use Rattle.rv64_words.specs.Region.{Sizes, stack_base, table_base, cells_base, table_words, address_at, InStack, InTable, InCells}
use Rattle.rv64_words.specs.State.{State, with_register, next}
use Rattle.rv64_words.proofs.Encodings.{decoded-encoded}
use Rattle.rv64_words_laws.specs.stretches.Core.{Core, at_pc, machine, written, arrived}
use Rattle.rv64_words_laws.specs.stretches.Runs.{WordAt, IsComputing, effect, StandsWithin, Inside, Runs, Leaves, Ends}

below_or_not : (i n : ℕ) → (i < n) ⊎ (n ≤ i)
below_or_not i n = grind arith

fetched_at : (words : List ℕ) (k : ℕ) → fetched words (4 * k) ≡ slice_get words k
fetched_at words k =
    let even : 4 * k % 4 ≡ 0 = omega arith in
    let place : 4 * k / 4 ≡ k = omega arith in
    ap (λ r. cond (eqb r 0) (slice_get words (4 * k / 4)) None) even ∙ ap (slice_get words) place

pub next_pc : (k : ℕ) → 4 * k + 4 ≡ 4 * (k + 1)
next_pc k = omega arith

-- the next word, with another core
pub goes_next : (k : ℕ) (c : Core) (d : ℕ) → next (machine k c d) ≡ machine (k + 1) c (counted d)
goes_next k c d = ap (λ pc. at_pc pc c (counted d)) (next_pc k)

pub register_written : (k : ℕ) (c : Core) (d rd v : ℕ) → next (with_register (machine k c d) rd v) ≡ machine (k + 1) (written c rd v) (counted d)
register_written k c d zero v = goes_next k c d
register_written k c d (suc r) v = goes_next k (written c (suc r) v) d

-- ---- addresses

pub stack_address : (z : Sizes) (k : ℕ) → k < z.stack → address_at z (stack_base + 8 * k) ≡ Some (InStack k)
stack_address z k lt = grind (arith, nat_tests)

pub table_address : (z : Sizes) (k : ℕ) → z.stack ≤ 8388608 → k < table_words → address_at z (table_base + 8 * k) ≡ Some (InTable k)
table_address z k few lt = grind (arith, nat_tests)

pub cells_address : (z : Sizes) (k : ℕ) → z.stack ≤ 8388608 → k < z.cells → address_at z (cells_base + 8 * k) ≡ Some (InCells k)
cells_address z k few lt = grind (arith, nat_tests)

module _ (image : Image) (z : Sizes) where
  -- a step executes the word that stands there; a guard's word is counted
  step_by : (guard : Bool) (k : ℕ) (w : Word) (c : Core) (d : ℕ) → WordAt image guard k w → machine_step image z (machine k c d) ≡ arrived_if guard k (executed z w (machine k c d))
  step_by guard k w c d has =
      let place : 4 * k / 4 ≡ k = omega arith in
      ap (λ o. arrived_if (is_guard_word image.guards (4 * k / 4)) (4 * k / 4) (fetched_step z (machine k c d) o)) (fetched_at image.words k ∙ has.bits)
      ∙ (ap (λ i. arrived_if (is_guard_word image.guards i) i (decoded_step z (machine k c d) (decoded (encoded w)))) place
      ∙ (ap (λ b. arrived_if b k (decoded_step z (machine k c d) (decoded (encoded w)))) has.is_guard
      ∙ ap (λ o. arrived_if guard k (decoded_step z (machine k c d) o)) (decoded-encoded w has.is_word)))

  pub step_is : (k : ℕ) (w : Word) (c : Core) (d : ℕ) → WordAt image false k w → machine_step image z (machine k c d) ≡ executed z w (machine k c d)
  step_is k w c d has = step_by false k w c d has

  pub guard_step_is : (k : ℕ) (w : Word) (c : Core) (d i : ℕ) (e : Core) (m : ℕ) → WordAt image true k w → executed z w (machine k c d) ≡ machine i e m → machine_step image z (machine k c d) ≡ machine i (arrived k e) m
  guard_step_is k w c d i e m has is = step_by true k w c d has ∙ ap (arrived_if true k) is

  -- what a word that computes does
  pub computing_is : (w : Word) → IsComputing w → (k : ℕ) (c : Core) (d : ℕ) → executed z w (machine k c d) ≡ machine (k + 1) (effect w c) (counted d)
  computing_is (Lui rd u) p k c d = register_written k c d rd _
  computing_is (OpImm o rd rs1 i) p k c d = register_written k c d rd _
  computing_is (ShiftImm o rd rs1 s) p k c d = register_written k c d rd _
  computing_is (Op o rd rs1 rs2) p k c d = register_written k c d rd _
  computing_is (Jal rd i) p k c d = absurd p
  computing_is (Jalr rd rs1 i) p k c d = absurd p
  computing_is (Branch o rs1 rs2 i) p k c d = absurd p
  computing_is (Ld rd rs1 i) p k c d = absurd p
  computing_is (Sd rs1 rs2 i) p k c d = absurd p
  computing_is Ecall p k c d = absurd p

  -- ---- stretches

  -- no steps
  pub stays : (k : ℕ) (c : Core) → Runs image z k c 0 k c
  stays k c = record { done = λ d. d; steps = λ d. refl; forward = omega arith; inside = λ d i lt. absurd (omega arith) }

  -- one step
  pub step_inside : (k : ℕ) (c : Core) → Inside image z k c 1 (k + 1)
  step_inside k c d zero lt = record { word = k; at = refl; from = omega arith; before = omega arith }
  step_inside k c d (suc i) lt = absurd (omega arith)

  pub step_leaves : {k : ℕ} {c : Core} {j : ℕ} {e : Core} → (done : ℕ → ℕ) → ((d : ℕ) → machine_step image z (machine k c d) ≡ machine j e (done d)) → Leaves image z k c 1 (k + 1) j e
  step_leaves {k} {c} done is = record { done = done; steps = is; inside = step_inside k c }

  -- steps that stay before a bound are before later ones too
  pub inside_more : (k : ℕ) (c : Core) (n bound more : ℕ) → bound ≤ more → Inside image z k c n bound → Inside image z k c n more
  inside_more k c n bound more high within d i lt =
      let s = within d i lt in
      let low = s.before in
      record { word = s.word; at = s.at; from = s.from; before = omega arith }

  -- some steps after others
  inside_on : {k : ℕ} {c : Core} {n j : ℕ} {e : Core} → Runs image z k c n j e → (m bound : ℕ) → j ≤ bound → Inside image z j e m bound → Inside image z k c (n + m) bound
  inside_on {k} {c} {n} {j} {e} a m bound high b d i lt = by (below_or_not i n)
    where
      by : (i < n) ⊎ (n ≤ i) → StandsWithin (k + i) bound (after (machine_step image z) i (machine k c d))
      by (inl low) = inside_more k c n j bound high a.inside d i low
      by (inr up) =
          let s = b (a.done d) (i - n) (omega arith) in
          let over = a.forward in
          let from = s.from in
          record {
            word = s.word;
            at = ap (λ t. t.pc) (after-sub (machine_step image z) n i (machine k c d) up ∙ ap (after (machine_step image z) (i - n)) (a.steps d)) ∙ s.at;
            from = omega arith;
            before = s.before;
          }

  steps_on : {k : ℕ} {c : Core} {n j : ℕ} {e : Core} {t : State} → (a : Runs image z k c n j e) (m d : ℕ) → after (machine_step image z) m (machine j e (a.done d)) ≡ t → after (machine_step image z) (n + m) (machine k c d) ≡ t
  steps_on {k} {c} {n} {j} {e} a m d is = after-add (machine_step image z) n m (machine k c d) ∙ (ap (after (machine_step image z) m) (a.steps d) ∙ is)

  pub followed_by : {k : ℕ} {c : Core} {n j : ℕ} {e : Core} {m i : ℕ} {f : Core} → Runs image z k c n j e → Runs image z j e m i f → Runs image z k c (n + m) i f
  followed_by {m = m} {i = i} a b =
      let first = a.forward in
      let second = b.forward in
      record { done = λ d. b.done (a.done d); steps = λ d. steps_on a m d (b.steps (a.done d)); forward = omega arith; inside = inside_on a m i (omega arith) b.inside }

  -- and then away
  pub left_by : {k : ℕ} {c : Core} {n j : ℕ} {e : Core} {m bound i : ℕ} {f : Core} → Runs image z k c n j e → j ≤ bound → Leaves image z j e m bound i f → Leaves image z k c (n + m) bound i f
  left_by {m = m} {bound = bound} a high b = record { done = λ d. b.done (a.done d); steps = λ d. steps_on a m d (b.steps (a.done d)); inside = inside_on a m bound high b.inside }

  -- and then to an end
  pub ends_after : {k : ℕ} {c : Core} {n j : ℕ} {e : Core} {m bound : ℕ} {f : Core} {how : End} → Runs image z k c n j e → j ≤ bound → Ends image z j e m bound how f → Ends image z k c (n + m) bound how f
  ends_after {m = m} {bound = bound} a high b = record { at = b.at; done = λ d. b.done (a.done d); steps = λ d. steps_on a m d (b.steps (a.done d)); inside = inside_on a m bound high b.inside }

  -- steps that lead away lead on, where they lead to a later word
  pub leads_on : {k : ℕ} {c : Core} {n bound j : ℕ} {e : Core} → k + n ≤ j → bound ≤ j → Leaves image z k c n bound j e → Runs image z k c n j e
  leads_on {k} {c} {n} {bound} {j} over high r = record { done = r.done; steps = r.steps; forward = over; inside = inside_more k c n bound j high r.inside }

  -- an end that comes before a bound comes before later ones too
  pub ends_sooner : {k : ℕ} {c : Core} {n bound : ℕ} {how : End} {e : Core} → (more : ℕ) → bound ≤ more → Ends image z k c n bound how e → Ends image z k c n more how e
  ends_sooner {k} {c} {n} {bound} more high r = record { at = r.at; done = r.done; steps = r.steps; inside = inside_more k c n bound more high r.inside }
