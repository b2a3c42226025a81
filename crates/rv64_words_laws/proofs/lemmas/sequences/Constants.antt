-- A register becomes a constant.
use Rattle.std.proofs.Common.{◌≡◌, ◌≢◌, ℕ, ◌+◌, ◌-◌, ◌*◌, ◌%◌, ◌^◌, ◌<◌, Bool, true, false, cond, refl, ap, ◌∙◌, arith, List, [], ◌∷◌, ◌++◌}
use Rattle.rv64_words.specs.declared.image.Image.{Image}
use Rattle.rv64_words.specs.declared.word.Word.{Word}
use Rattle.rv64_words.specs.declared.word.Word.TheVariants.{Lui}
use Rattle.rv64_words.specs.Arithmetic.{extended_32, moved_by}
use Rattle.rv64_words.specs.Mnemonics.{addi, slli}
use Rattle.rv64_words.specs.Region.{Sizes}
use Rattle.rv64_words_laws.specs.stretches.Core.{Core, written}
use Rattle.rv64_words_laws.proofs.lemmas.stretches.Cores.{written_twice, written_here}
use Rattle.rv64_words_laws.proofs.lemmas.stretches.Going.{Going, plain, is_core, is_place}
use Rattle.rv64_words_laws.specs.sequences.Sequences.{high_part, low_part, fits_12, fits_32, long_constant_words, constant_words, constant_size}
use Rattle.rv64_words_laws.proofs.lemmas.sequences.Digits.{digit_again, small_again, medium_again, short_again, not_short}

module _ (image : Image) (z : Sizes) where
  -- a digit more
  digit : {k : ℕ} {c : Core} {n j : ℕ} {ws : List Word} → (e : Core) (r u : ℕ) → r ≢ 0 → u < 2 ^ 64 → Going image z k c n j (written e r (high_part u)) (slli r r 12 ∷ addi r r (low_part u) ∷ ws) → Going image z k c (n + 1 + 1) (j + 1 + 1) (written e r u) ws
  digit e r u ne lt g =
      let shifted = (written e r (high_part u)).registers r * 2 ^ 12 % 2 ^ 64 in
      let g1 = is_core image z (written e r shifted) (written_twice e r (high_part u) shifted) (plain image z tt g) in
      let g2 = plain image z tt g1 in
      let sum : moved_by ((written e r shifted).registers r) (low_part u) ≡ u =
      ap (λ x. moved_by x (low_part u)) (written_here e r shifted ne ∙ ap (λ x. x * 2 ^ 12 % 2 ^ 64) (written_here e r (high_part u) ne)) ∙ digit_again u lt in
      is_core image z (written e r u) (written_twice e r shifted _ ∙ ap (written e r) sum) g2

  -- the upper part by LUI, and the low part added
  pub upper : {k : ℕ} {c : Core} {n j : ℕ} {e : Core} {ws : List Word} → (r high u : ℕ) → r ≢ 0 → moved_by (extended_32 (high * 4096)) (low_part u) ≡ u → Going image z k c n j e (Lui r high ∷ addi r r (low_part u) ∷ ws) → Going image z k c (n + 1 + 1) (j + 1 + 1) (written e r u) ws
  upper {e = e} r high u ne is g =
      let first = extended_32 (high * 4096) in
      let sum : moved_by ((written e r first).registers r) (low_part u) ≡ u = ap (λ x. moved_by x (low_part u)) (written_here e r first ne) ∙ is in
      is_core image z (written e r u) (written_twice e r first _ ∙ ap (written e r) sum) (plain image z tt (plain image z tt g))

  long_constant : {k : ℕ} {c : Core} {n j : ℕ} {e : Core} {ws : List Word} → (r v : ℕ) → r ≢ 0 → v < 2 ^ 64 → Going image z k c n j e (long_constant_words r v ++ ws) → Going image z k c (n + 8) (j + 8) (written e r v) ws
  long_constant {n = n} {j = j} {e = e} r v ne lt g =
      let lt2 : high_part v < 2 ^ 64 = omega arith in
      let lt3 : high_part (high_part v) < 2 ^ 64 = omega arith in
      let lt4 : high_part (high_part (high_part v)) < 2 ^ 31 - 2048 = omega arith in
      let g1 = upper r (high_part (high_part (high_part (high_part v)))) (high_part (high_part (high_part v))) ne (small_again _ lt4) g in
      let g2 = digit e r (high_part (high_part v)) ne lt3 g1 in
      let g3 = digit e r (high_part v) ne lt2 g2 in
      is_place image z (n + 8) (j + 8) (omega arith) (omega arith) (digit e r v ne lt g3)

  pub constant : {k : ℕ} {c : Core} {n j : ℕ} {e : Core} {ws : List Word} → (r v : ℕ) → r ≢ 0 → v < 2 ^ 64 → e.registers 0 ≡ 0 → Going image z k c n j e (constant_words r v ++ ws) → Going image z k c (n + constant_size v) (j + constant_size v) (written e r v) ws
  constant {k} {c} {n} {j} {e} {ws} r v ne lt null g = by_tests (fits_12 v) (fits_32 v) refl refl g
    where
      by_tests : (a b : Bool) → fits_12 v ≡ a → fits_32 v ≡ b
          → Going image z k c n j e (cond a (addi r 0 (low_part v) ∷ []) (cond b (Lui r (high_part v % 2 ^ 20) ∷ addi r r (low_part v) ∷ []) (long_constant_words r v)) ++ ws)
          → Going image z k c (n + cond a 1 (cond b 2 8)) (j + cond a 1 (cond b 2 8)) (written e r v) ws
      by_tests true b fits _ g = is_core image z (written e r v) (ap (λ x. written e r (moved_by x (low_part v))) null ∙ ap (written e r) (short_again v lt fits)) (plain image z tt g)
      by_tests false true long fits g = is_place image z (n + 2) (j + 2) (omega arith) (omega arith) (upper r (high_part v % 2 ^ 20) v ne (medium_again v (not_short v long) fits) g)
      by_tests false false _ long g = long_constant r v ne lt g
