-- The words of a frame: loads and stores near its base and far from it, and the frame above.
use Rattle.std.proofs.Common.{◌≡◌, ◌≢◌, ℕ, ◌+◌, ◌-◌, ◌*◌, ◌%◌, ◌^◌, ◌<◌, ◌≤◌, Bool, true, false, cond, refl, sym, ap, ◌∙◌, arith, List, [], ◌∷◌, ◌++◌, pos}
use Rattle.std.proofs.lemmas.Bool.Decides.{nat_tests}
use Rattle.rv64_words.specs.declared.image.Image.{Image}
use Rattle.rv64_words.specs.declared.word.Word.{Word}
use Rattle.rv64_words.specs.declared.word.Word.TheVariants.{Lui, Ld, Sd}
use Rattle.rv64_words.specs.Arithmetic.{extended_32, moved_by}
use Rattle.rv64_words.specs.Mnemonics.{addi, add}
use Rattle.rv64_words.specs.Region.{Sizes, stack_base}
use Rattle.rv64_words_laws.specs.stretches.Core.{Core, written, put}
use Rattle.rv64_words_laws.proofs.lemmas.stretches.Cores.{written_twice, written_same, written_other}
use Rattle.rv64_words_laws.proofs.lemmas.stretches.Going.{Going, plain, load, store, is_core, is_place}
use Rattle.rv64_words_laws.specs.sequences.Frames.{Reaches, far_address, addressed}
use Rattle.rv64_words_laws.specs.sequences.Sequences.{high_part, low_part, fits_12, fits_32, is_near, address_words, load_from, store_over, load_size, store_size, frame_by_words, frame_by_size, bytes_up, bytes_down}
use Rattle.rv64_words_laws.proofs.lemmas.sequences.Digits.{based_again, medium_again, near_again, not_short, short_added}
use Rattle.rv64_words_laws.proofs.lemmas.sequences.Constants.{upper}

-- numbers that LUI and ADDI give
low_medium : (n : ℕ) → n < 2 ^ 31 - 2048 → fits_32 n ≡ true
low_medium n lt = grind (arith, nat_tests)

high_medium : (n : ℕ) → 2 ^ 64 - 2 ^ 31 ≤ n → fits_32 n ≡ true
high_medium n le = grind (arith, nat_tests)

far_reach : (z : Sizes) (e : Core) (r b o : ℕ) → Reaches z e r b o → moved_by (far_address e r o) (low_part (8 * o)) ≡ stack_base + 8 * (b + o)
far_reach z e r b o h =
    let inside : b + o < z.stack = h.inside in
    let few : z.stack ≤ 8388608 = h.few in
    let small : 8 * o < 2 ^ 27 = omega arith in
    let low : stack_base + 8 * b < 2 ^ 32 = omega arith in
    let sum : stack_base + 8 * b + 8 * o ≡ stack_base + 8 * (b + o) = omega arith in
    ap (λ x. moved_by ((extended_32 (high_part (8 * o) * 4096) + x) % 2 ^ 64) (low_part (8 * o))) h.base ∙ (based_again (8 * o) (stack_base + 8 * b) small low ∙ sum)

near_reach : (z : Sizes) (e : Core) (r b o : ℕ) → Reaches z e r b o → moved_by (e.registers r) (pos (8 * o)) ≡ stack_base + 8 * (b + o)
near_reach z e r b o h =
    let inside : b + o < z.stack = h.inside in
    let few : z.stack ≤ 8388608 = h.few in
    let small : 8 * o < 2 ^ 27 = omega arith in
    let low : stack_base + 8 * b < 2 ^ 32 = omega arith in
    let sum : stack_base + 8 * b + 8 * o ≡ stack_base + 8 * (b + o) = omega arith in
    ap (λ x. moved_by x (pos (8 * o))) h.base ∙ (near_again (8 * o) (stack_base + 8 * b) small low ∙ sum)

module _ (image : Image) (z : Sizes) where
  -- the two words that bring a far address into register 6
  address : {k : ℕ} {c : Core} {n j : ℕ} {e : Core} {ws : List Word} → (r o : ℕ) → r ≢ 6 → Going image z k c n j e (Lui 6 (high_part (8 * o)) ∷ add 6 6 r ∷ ws) → Going image z k c (n + 1 + 1) (j + 1 + 1) (written e 6 (far_address e r o)) ws
  address {e = e} r o ne g =
      let high = extended_32 (high_part (8 * o) * 4096) in
      is_core image z (written e 6 (far_address e r o)) (written_twice e 6 high _ ∙ ap (λ x. written e 6 ((high + x) % 2 ^ 64)) (written_other e 6 high r ne)) (plain image z tt (plain image z tt g))

  -- a register becomes a word of the frame
  pub frame_load : {k : ℕ} {c : Core} {n j : ℕ} {e : Core} {ws : List Word} → (r rd b o : ℕ) → r ≢ 6 → Reaches z e r b o → Going image z k c n j e (load_from r rd o ++ ws) → Going image z k c (n + load_size o) (j + load_size o) (written (addressed e r o) rd (e.stack (b + o))) ws
  frame_load {k} {c} {n} {j} {e} {ws} r rd b o ne h g = by_test (is_near o) g
    where
      by_test : (t : Bool) → Going image z k c n j e (cond t (Ld rd r (pos (8 * o)) ∷ []) (address_words r o ++ Ld rd 6 (low_part (8 * o)) ∷ []) ++ ws)
          → Going image z k c (n + cond t 1 3) (j + cond t 1 3) (written (written e 6 (cond t (e.registers 6) (far_address e r o))) rd (e.stack (b + o))) ws
      by_test true near =
          is_core image z (written (written e 6 (e.registers 6)) rd (e.stack (b + o))) (ap (λ f. written f rd (e.stack (b + o))) (sym (written_same e 6)))
          (load image z (b + o) (near_reach z e r b o h) h.inside near)
      by_test false far = is_place image z (n + 3) (j + 3) (omega arith) (omega arith) (load image z (b + o) (far_reach z e r b o h) h.inside (address r o ne far))

  -- a word of the frame becomes a register
  pub frame_store : {k : ℕ} {c : Core} {n j : ℕ} {e : Core} {ws : List Word} → (r rs b o : ℕ) → r ≢ 6 → rs ≢ 6 → Reaches z e r b o → Going image z k c n j e (store_over r rs o ++ ws) → Going image z k c (n + store_size o) (j + store_size o) (put (addressed e r o) (b + o) (e.registers rs)) ws
  frame_store {k} {c} {n} {j} {e} {ws} r rs b o ne other h g = by_test (is_near o) g
    where
      by_test : (t : Bool) → Going image z k c n j e (cond t (Sd r rs (pos (8 * o)) ∷ []) (address_words r o ++ Sd 6 rs (low_part (8 * o)) ∷ []) ++ ws)
          → Going image z k c (n + cond t 1 3) (j + cond t 1 3) (put (written e 6 (cond t (e.registers 6) (far_address e r o))) (b + o) (e.registers rs)) ws
      by_test true near =
          is_core image z (put (written e 6 (e.registers 6)) (b + o) (e.registers rs)) (ap (λ f. put f (b + o) (e.registers rs)) (sym (written_same e 6)))
          (store image z (b + o) (near_reach z e r b o h) h.inside near)
      by_test false far =
          is_core image z (put (written e 6 (far_address e r o)) (b + o) (e.registers rs)) (ap (put (written e 6 (far_address e r o)) (b + o)) (written_other e 6 (far_address e r o) rs other))
          (is_place image z (n + 3) (j + 3) (omega arith) (omega arith) (store image z (b + o) (far_reach z e r b o h) h.inside (address r o ne far)))

  -- ---- the frame above, and the one below

  -- what register 7 has afterwards
  abbrev pub seventh_left : Core → ℕ → ℕ
  seventh_left e n = cond (fits_12 n) (e.registers 7) n

  -- register 2 has another frame
  abbrev pub other_frame : Core → ℕ → ℕ → Core
  other_frame e n base = written (written e 7 (seventh_left e n)) 2 base

  frame_by : {k : ℕ} {c : Core} {n j : ℕ} {e : Core} {ws : List Word} → (by base : ℕ) → by < 2 ^ 64 → fits_32 by ≡ true → (e.registers 2 + by) % 2 ^ 64 ≡ base →
      Going image z k c n j e (frame_by_words by ++ ws) → Going image z k c (n + frame_by_size by) (j + frame_by_size by) (other_frame e by base) ws
  frame_by {k} {c} {n} {j} {e} {ws} by base small medium is g = by_test (fits_12 by) refl g
    where
      by_test : (t : Bool) → fits_12 by ≡ t → Going image z k c n j e (cond t (addi 2 2 (low_part by) ∷ []) (Lui 7 (high_part by % 2 ^ 20) ∷ addi 7 7 (low_part by) ∷ add 2 2 7 ∷ []) ++ ws)
          → Going image z k c (n + cond t 1 3) (j + cond t 1 3) (written (written e 7 (cond t (e.registers 7) by)) 2 base) ws
      by_test true near g =
          is_core image z (written (written e 7 (e.registers 7)) 2 base) (ap (written e 2) (short_added by (e.registers 2) small near ∙ is) ∙ ap (λ f. written f 2 base) (sym (written_same e 7))) (plain image z tt g)
      by_test false far g =
          let g1 = upper image z 7 (high_part by % 2 ^ 20) by (λ x. absurd (omega arith)) (medium_again by (not_short by far) medium) g in
          is_core image z (written (written e 7 by) 2 base) (ap (written (written e 7 by) 2) is) (is_place image z (n + 3) (j + 3) (omega arith) (omega arith) (plain image z tt g1))

  pub frame_up : {k : ℕ} {c : Core} {n j : ℕ} {e : Core} {ws : List Word} → (b wide : ℕ) → e.registers 2 ≡ stack_base + 8 * b → b + wide ≤ 8388608 →
      Going image z k c n j e (frame_by_words (bytes_up wide) ++ ws) → Going image z k c (n + frame_by_size (bytes_up wide)) (j + frame_by_size (bytes_up wide)) (other_frame e (bytes_up wide) (stack_base + 8 * (b + wide))) ws
  frame_up {e = e} b wide two few g =
      let small : 8 * wide < 2 ^ 31 - 2048 = omega arith in
      let sum : (stack_base + 8 * b + 8 * wide) % 2 ^ 64 ≡ stack_base + 8 * (b + wide) = omega arith in
      frame_by (bytes_up wide) (stack_base + 8 * (b + wide)) (omega arith) (low_medium (8 * wide) small) (ap (λ x. (x + 8 * wide) % 2 ^ 64) two ∙ sum) g

  pub frame_down : {k : ℕ} {c : Core} {n j : ℕ} {e : Core} {ws : List Word} → (b wide : ℕ) → e.registers 2 ≡ stack_base + 8 * (b + wide) → 1 ≤ wide → b + wide ≤ 8388608 →
      Going image z k c n j e (frame_by_words (bytes_down wide) ++ ws) → Going image z k c (n + frame_by_size (bytes_down wide)) (j + frame_by_size (bytes_down wide)) (other_frame e (bytes_down wide) (stack_base + 8 * b)) ws
  frame_down {e = e} b wide two some few g =
      let large : 2 ^ 64 - 2 ^ 31 ≤ bytes_down wide = omega arith in
      let sum : (stack_base + 8 * (b + wide) + bytes_down wide) % 2 ^ 64 ≡ stack_base + 8 * b = omega arith in
      frame_by (bytes_down wide) (stack_base + 8 * b) (omega arith) (high_medium (bytes_down wide) large) (ap (λ x. (x + bytes_down wide) % 2 ^ 64) two ∙ sum) g
