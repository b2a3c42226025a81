-- Environment calls: the prints, the blocks of memory and the ends.
use Rattle.std.proofs.Common.{◌≡◌, ℕ, zero, suc, ◌+◌, ◌/◌, ◌^◌, Bool, true, false, cond, refl, ap, ◌∙◌, arith, List, [], ◌∷◌, Option, Some, None}
use Rattle.std.specs.Prelude.{encode_utf8, if◌then◌else◌}
use Rattle.std.specs.Option.{option_map}
use lib.Utf8.{scalar}
use Rattle.std.specs.Int.{w64, cast_signed}
use Rattle.std.specs.Fmt.{signed_decimal}
use Rattle.bril_tree.specs.State.{counted}
use Rattle.bril_tree.specs.declared.limits.End.{End}
use Rattle.bril_tree.specs.declared.limits.End.TheVariants.{Ended, Faulted}
use Rattle.bril_tree.specs.declared.limits.Fault.{Fault}
use Rattle.bril_tree.specs.declared.limits.Fault.TheVariants as fault
use Rattle.rv64_words.specs.declared.image.Image.{Image}
use Rattle.rv64_words.specs.declared.trap.Trap.TheVariants as trap
use Rattle.rv64_words.specs.declared.word.Word.{Word}
use Rattle.rv64_words.specs.declared.word.Word.TheVariants.{Ecall}
use Rattle.rv64_words.specs.Environment.{truth_text, allocation_fault, allocated_or_fault, is_freeable, is_live_any, fault_of, end_of, ended, called}
use Rattle.rv64_words.specs.Region.{Sizes}
use Rattle.rv64_words.specs.State.{with_printed, next, finished, trapped}
use Rattle.rv64_words_laws.specs.stretches.Core.{Core, machine, said, with_block, without_block}
use Rattle.rv64_words_laws.specs.stretches.Runs.{Ends}
use Rattle.rv64_words_laws.proofs.lemmas.stretches.Steps.{step_is, step_inside, step_leaves, goes_next, ends_after, leads_on, left_by}
use Rattle.rv64_words_laws.proofs.lemmas.stretches.Going.{Going}

-- the end that call 8 makes of a number
abbrev pub ending : ℕ → Core → Option End
ending zero c = Some (if is_live_any c.table c.blocks then Faulted fault.Leak else Ended)
ending (suc n) c = option_map Faulted (fault_of n)

ending_is : (number : ℕ) (k : ℕ) (c : Core) (d : ℕ) → end_of number (machine k c d) ≡ ending number c
ending_is zero k c d = refl
ending_is (suc n) k c d = refl

-- why call 6 gives no block
abbrev pub block_fault : Sizes → Core → ℕ → Option Fault
block_fault z c count = allocation_fault z (machine 0 c 0) count

-- call 7 frees a block of this pointer
abbrev pub frees_block : Core → ℕ → Bool
frees_block c pointer = is_freeable (machine 0 c 0) pointer

module _ (image : Image) (z : Sizes) where
  -- a call that leads on, and one that ends the run
  called_on : {k : ℕ} {c : Core} {n j : ℕ} {e : Core} {ws : List Word} → (number : ℕ) (f : Core) → e.registers 17 ≡ number → ((d : ℕ) → called z number (e.registers 10) (machine j e d) ≡ next (machine j f d)) → Going image z k c n j e (Ecall ∷ ws) → Going image z k c (n + 1) (j + 1) f ws
  called_on {j = j} {e = e} number f is does g =
      let over = g.runs.forward in
      record {
        runs = leads_on image z (omega arith) (omega arith) (left_by image z g.runs (omega arith)
            (step_leaves image z counted (λ d. step_is image z j Ecall e d g.has.0 ∙ (ap (λ v. called z v (e.registers 10) (machine j e d)) is ∙ (does d ∙ goes_next j f d)))));
        has = g.has.1;
      }

  called_last : {k : ℕ} {c : Core} {n j : ℕ} {e : Core} {ws : List Word} → (number : ℕ) (how : End) → e.registers 17 ≡ number → ((d : ℕ) → called z number (e.registers 10) (machine j e d) ≡ finished how (machine j e d)) → Going image z k c n j e (Ecall ∷ ws) → Ends image z k c (n + 1) (j + 1) how e
  called_last {j = j} {e = e} number how is does g = ends_after image z g.runs (omega arith) (record {
    at = j;
    done = λ d. d;
    steps = λ d. step_is image z j Ecall e d g.has.0 ∙ (ap (λ v. called z v (e.registers 10) (machine j e d)) is ∙ does d);
    inside = step_inside image z j e;
  })

  -- ---- the prints

  pub print_int : {k : ℕ} {c : Core} {n j : ℕ} {e : Core} {ws : List Word} → e.registers 17 ≡ 1 → Going image z k c n j e (Ecall ∷ ws) → Going image z k c (n + 1) (j + 1) (said e (signed_decimal (cast_signed w64 (e.registers 10)))) ws
  print_int {e = e} is g = called_on 1 (said e (signed_decimal (cast_signed w64 (e.registers 10)))) is (λ d. refl) g

  pub print_bool : {k : ℕ} {c : Core} {n j : ℕ} {e : Core} {ws : List Word} → e.registers 17 ≡ 2 → Going image z k c n j e (Ecall ∷ ws) → Going image z k c (n + 1) (j + 1) (said e (truth_text (e.registers 10))) ws
  print_bool {e = e} is g = called_on 2 (said e (truth_text (e.registers 10))) is (λ d. refl) g

  pub print_char : {k : ℕ} {c : Core} {n j : ℕ} {e : Core} {ws : List Word} → e.registers 17 ≡ 3 → scalar (e.registers 10) ≡ true → Going image z k c n j e (Ecall ∷ ws) → Going image z k c (n + 1) (j + 1) (said e (encode_utf8 (e.registers 10))) ws
  print_char {j = j} {e = e} is ok g =
      called_on 3 (said e (encode_utf8 (e.registers 10))) is
      (λ d. ap (λ b. cond b (next (with_printed (encode_utf8 (e.registers 10)) (machine j e d))) (trapped (trap.NoScalar (machine j e d).pc (e.registers 10)) (machine j e d))) ok) g

  pub print_space : {k : ℕ} {c : Core} {n j : ℕ} {e : Core} {ws : List Word} → e.registers 17 ≡ 4 → Going image z k c n j e (Ecall ∷ ws) → Going image z k c (n + 1) (j + 1) (said e (32 ∷ [])) ws
  print_space {e = e} is g = called_on 4 (said e (32 ∷ [])) is (λ d. refl) g

  pub print_line_end : {k : ℕ} {c : Core} {n j : ℕ} {e : Core} {ws : List Word} → e.registers 17 ≡ 5 → Going image z k c n j e (Ecall ∷ ws) → Going image z k c (n + 1) (j + 1) (said e (10 ∷ [])) ws
  print_line_end {e = e} is g = called_on 5 (said e (10 ∷ [])) is (λ d. refl) g

  -- ---- memory

  pub allocate : {k : ℕ} {c : Core} {n j : ℕ} {e : Core} {ws : List Word} → e.registers 17 ≡ 6 → block_fault z e (e.registers 10) ≡ None → Going image z k c n j e (Ecall ∷ ws) → Going image z k c (n + 1) (j + 1) (with_block z (e.registers 10) e) ws
  allocate {j = j} {e = e} is none g = called_on 6 (with_block z (e.registers 10) e) is (λ d. ap (λ o. allocated_or_fault z o (e.registers 10) (machine j e d)) none) g

  pub allocate_faults : {k : ℕ} {c : Core} {n j : ℕ} {e : Core} {ws : List Word} → (f : Fault) → e.registers 17 ≡ 6 → block_fault z e (e.registers 10) ≡ Some f → Going image z k c n j e (Ecall ∷ ws) → Ends image z k c (n + 1) (j + 1) (Faulted f) e
  allocate_faults {j = j} {e = e} f is some g = called_last 6 (Faulted f) is (λ d. ap (λ o. allocated_or_fault z o (e.registers 10) (machine j e d)) some) g

  pub free : {k : ℕ} {c : Core} {n j : ℕ} {e : Core} {ws : List Word} → e.registers 17 ≡ 7 → frees_block e (e.registers 10) ≡ true → Going image z k c n j e (Ecall ∷ ws) → Going image z k c (n + 1) (j + 1) (without_block (e.registers 10 / 2 ^ 32) e) ws
  free {j = j} {e = e} is ok g =
      called_on 7 (without_block (e.registers 10 / 2 ^ 32) e) is
      (λ d. ap (λ b. cond b (next (machine j (without_block (e.registers 10 / 2 ^ 32) e) d)) (finished (Faulted fault.BadFree) (machine j e d))) ok) g

  pub free_faults : {k : ℕ} {c : Core} {n j : ℕ} {e : Core} {ws : List Word} → e.registers 17 ≡ 7 → frees_block e (e.registers 10) ≡ false → Going image z k c n j e (Ecall ∷ ws) → Ends image z k c (n + 1) (j + 1) (Faulted fault.BadFree) e
  free_faults {j = j} {e = e} is unfit g =
      called_last 7 (Faulted fault.BadFree) is
      (λ d. ap (λ b. cond b (next (machine j (without_block (e.registers 10 / 2 ^ 32) e) d)) (finished (Faulted fault.BadFree) (machine j e d))) unfit) g

  -- ---- the ends

  pub finish : {k : ℕ} {c : Core} {n j : ℕ} {e : Core} {ws : List Word} → (number : ℕ) (how : End) → e.registers 17 ≡ 8 → e.registers 10 ≡ number → ending number e ≡ Some how → Going image z k c n j e (Ecall ∷ ws) → Ends image z k c (n + 1) (j + 1) how e
  finish {j = j} {e = e} number how is arg how_is g =
      called_last 8 how is (λ d. ap (λ v. ended (end_of v (machine j e d)) (machine j e d)) arg ∙ (ap (λ o. ended o (machine j e d)) (ending_is number j e d) ∙ ap (λ o. ended o (machine j e d)) how_is)) g
