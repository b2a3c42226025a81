-- A machine that runs on has counted the words that it executed.
use Rattle.std.proofs.Common.{◌≡◌, ◌⊎◌, ℕ, zero, suc, ◌/◌, ◌^◌, ◌<◌, inl, inr, ⊎_elim, Bool, true, false, cond, List, Option, Some, None, refl, sym, ap, ◌∙◌, arith}
use Rattle.std.specs.Prelude.{◌==◌, ℤ}
use lib.Utf8.{scalar}
use Rattle.bril_tree.specs.State.{counted}
use Rattle.bril_tree.specs.declared.limits.End.{End}
use Rattle.bril_tree.specs.declared.limits.Fault.{Fault}
use Rattle.bril_tree.specs.declared.limits.Limits.{Limits}
use Rattle.bril_tree.specs.declared.value.Value.{Value}
use Rattle.rv64_image_laws.specs.Implements.{image_after}
use Rattle.rv64_words.proofs.Runs.{machine_step-stopped}
use Rattle.rv64_words.specs.Arithmetic.{holds, moved_by}
use Rattle.rv64_words.specs.Encoding.{decoded}
use Rattle.rv64_words.specs.Environment.{allocated_or_fault, allocation_fault, called, char_printed, end_of, ended, freed, is_freeable}
use Rattle.rv64_words.specs.Machine.{arrived_if, branched, counted_unless, decoded_step, executed, fetched, fetched_step, is_guard_word, loaded, machine_step, running_step, stored}
use Rattle.rv64_words.specs.Region.{Address, InCells, InStack, InTable, Sizes, address_at, sizes_of}
use Rattle.rv64_words.specs.State.{State, Stop, Finished, Trapped, start, with_register}
use Rattle.rv64_words.specs.declared.image.Image.{Image}
use Rattle.rv64_words.specs.declared.word.Word.{Word}
use Rattle.rv64_words.specs.declared.word.Word.TheVariants.{Lui, Jal, Jalr, Branch, Ld, Sd, OpImm, ShiftImm, Op, Ecall}
use Rattle.simulation.proofs.After.{after-suc}

-- where the machine runs on in the state t, a word was counted
abbrev CountsOne : ℕ → State → Type 0
CountsOne done t = t.stopped ≡ None → t.done ≡ counted done

has_stopped : {how : Stop} → Some how ≡ None → ⊥
has_stopped e = cc

register_done : (s : State) (r v : ℕ) → (with_register s r v).done ≡ s.done
register_done s zero v = refl
register_done s (suc r) v = refl

choice : (done : ℕ) (b : Bool) (x y : State) → CountsOne done x → CountsOne done y → CountsOne done (cond b x y)
choice done true x y e f = e
choice done false x y e f = f

one-branched : (b : Bool) (d : ℤ) (s : State) → CountsOne s.done (branched b d s)
one-branched true d s runs = refl
one-branched false d s runs = refl

one-loaded : (s : State) (rd at : ℕ) (o : Option Address) → CountsOne s.done (loaded s rd at o)
one-loaded s rd at None runs = absurd (has_stopped runs)
one-loaded s rd at (Some address) runs = ap counted (register_done s rd _)

one-stored : (s : State) (v at : ℕ) (o : Option Address) → CountsOne s.done (stored s v at o)
one-stored s v at None runs = absurd (has_stopped runs)
one-stored s v at (Some (InStack k)) runs = refl
one-stored s v at (Some (InTable k)) runs = absurd (has_stopped runs)
one-stored s v at (Some (InCells k)) runs = refl

-- ---- environment calls

one-allocated : (z : Sizes) (a : ℕ) (s : State) (o : Option Fault) → CountsOne s.done (allocated_or_fault z o a s)
one-allocated z a s None runs = refl
one-allocated z a s (Some f) runs = absurd (has_stopped runs)

one-ended : (s : State) (o : Option End) → CountsOne s.done (ended o s)
one-ended s None runs = absurd (has_stopped runs)
one-ended s (Some e) runs = absurd (has_stopped runs)

one-char : (a : ℕ) (s : State) → CountsOne s.done (char_printed a s)
one-char a s = choice s.done (scalar a) _ _ (λ runs. refl) (λ runs. absurd (has_stopped runs))

one-freed : (a : ℕ) (s : State) → CountsOne s.done (freed a s)
one-freed a s = choice s.done (is_freeable s a) _ _ (λ runs. refl) (λ runs. absurd (has_stopped runs))

one-called : (z : Sizes) (number a : ℕ) (s : State) → CountsOne s.done (called z number a s)
one-called z number a s =
    choice s.done (number == 1) _ _ (λ runs. refl)
    (choice s.done (number == 2) _ _ (λ runs. refl)
    (choice s.done (number == 3) _ _ (one-char a s)
    (choice s.done (number == 4) _ _ (λ runs. refl)
    (choice s.done (number == 5) _ _ (λ runs. refl)
    (choice s.done (number == 6) _ _ (one-allocated z a s (allocation_fault z s a))
    (choice s.done (number == 7) _ _ (one-freed a s)
    (choice s.done (number == 8) _ _ (one-ended s (end_of a s)) (λ runs. absurd (has_stopped runs)))))))))

-- ---- steps

one-executed : (z : Sizes) (w : Word) (s : State) → CountsOne s.done (executed z w s)
one-executed z (Lui rd u) s runs = ap counted (register_done s rd _)
one-executed z (Jal rd d) s runs = ap counted (register_done s rd _)
one-executed z (Jalr rd rs1 i) s runs = ap counted (register_done s rd _)
one-executed z (Branch c rs1 rs2 d) s runs = one-branched (holds c (s.registers rs1) (s.registers rs2)) d s runs
one-executed z (Ld rd rs1 i) s runs = one-loaded s rd _ (address_at z (moved_by (s.registers rs1) i)) runs
one-executed z (Sd rs1 rs2 i) s runs = one-stored s _ _ (address_at z (moved_by (s.registers rs1) i)) runs
one-executed z (OpImm o rd rs1 i) s runs = ap counted (register_done s rd _)
one-executed z (ShiftImm o rd rs1 k) s runs = ap counted (register_done s rd _)
one-executed z (Op o rd rs1 rs2) s runs = ap counted (register_done s rd _)
one-executed z Ecall s runs = one-called z (s.registers 17) (s.registers 10) s runs

one-decoded : (z : Sizes) (s : State) (o : Option Word) → CountsOne s.done (decoded_step z s o)
one-decoded z s None runs = absurd (has_stopped runs)
one-decoded z s (Some w) runs = one-executed z w s runs

one-fetched : (z : Sizes) (s : State) (o : Option ℕ) → CountsOne s.done (fetched_step z s o)
one-fetched z s None runs = absurd (has_stopped runs)
one-fetched z s (Some bits) runs = one-decoded z s (decoded bits) runs

one-counted : (done k : ℕ) (t : State) (o : Option Stop) → CountsOne done t → CountsOne done (counted_unless o k t)
one-counted done k t None one = one
one-counted done k t (Some (Finished e)) one = one
one-counted done k t (Some (Trapped trap)) one = one

one-arrived : (done k : ℕ) (b : Bool) (t : State) → CountsOne done t → CountsOne done (arrived_if b k t)
one-arrived done k true t one = one-counted done k t t.stopped one
one-arrived done k false t one = one

one-step : (image : Image) (z : Sizes) (s : State) (o : Option Stop) → CountsOne s.done (running_step image z s o) ⊎ (s.stopped ≡ o → (running_step image z s o).stopped ≡ None → ⊥)
one-step image z s None = inl (one-arrived s.done (s.pc / 4) (is_guard_word image.guards (s.pc / 4)) (fetched_step z s (fetched image.words s.pc)) (one-fetched z s (fetched image.words s.pc)))
one-step image z s (Some how) = inr (λ is runs. has_stopped (sym is ∙ runs))

module _ (image : Image) (limits : Limits) (values : List Value) where
  next_is : (n : ℕ) → image_after image limits values (suc n) ≡ machine_step image (sizes_of image limits.cells) (image_after image limits values n)
  next_is n = after-suc (machine_step image (sizes_of image limits.cells)) n (start values)

  -- a machine that runs on ran before
  pub ran_before : (n : ℕ) → (image_after image limits values (suc n)).stopped ≡ None → (image_after image limits values n).stopped ≡ None
  ran_before n runs = by (image_after image limits values n).stopped refl
    where
      by : (o : Option Stop) → (image_after image limits values n).stopped ≡ o → (image_after image limits values n).stopped ≡ None
      by None is = is
      by (Some how) is =
          let same = ap (λ (t : State). t.stopped) (next_is n ∙ machine_step-stopped image (sizes_of image limits.cells) (image_after image limits values n) how is) in
          absurd (has_stopped (sym is ∙ (sym same ∙ runs)))

  -- it has counted each word
  pub done_is : (n : ℕ) → n < 2 ^ 64 → (image_after image limits values n).stopped ≡ None → (image_after image limits values n).done ≡ n
  done_is zero low runs = refl
  done_is (suc n) low runs =
      let t = image_after image limits values n in
      let before = done_is n (omega arith) (ran_before n runs) in
      let runs' : (machine_step image (sizes_of image limits.cells) t).stopped ≡ None = ap (λ (u : State). u.stopped) (sym (next_is n)) ∙ runs in
      let one : (machine_step image (sizes_of image limits.cells) t).done ≡ counted t.done = ⊎_elim (λ counts. counts runs') (λ no_. absurd (no_ refl runs')) (one-step image (sizes_of image limits.cells) t t.stopped) in
      ap (λ (u : State). u.done) (next_is n) ∙ (one ∙ (ap counted before ∙ counted_more n low))
    where
      counted_more : (k : ℕ) → suc k < 2 ^ 64 → counted k ≡ suc k
      counted_more k less = omega arith
