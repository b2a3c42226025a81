-- The words that move a pointer by a number of cells.
use Rattle.std.proofs.Common.{◌≡◌, ◌≢◌, ℕ, suc, ◌+◌, ◌-◌, ◌*◌, ◌/◌, ◌%◌, ◌^◌, ◌<◌, ◌≤◌, Bool, true, false, cond, eqb, ltb, refl, sym, ap, ◌∙◌, subst, arith, [], ◌∷◌, ◌++◌, None, ℤ, pos, negsuc, ◌+ℤ◌}
use Rattle.std.specs.Prelude.{FitsSigned}
use Rattle.std.specs.Int.{w32, w64, cast_unsigned}
use Rattle.std.proofs.lemmas.Bool.Decides.{nat_tests}
use Rattle.std.proofs.lemmas.Bool.{eq-eqb, ne_eqb}
use Rattle.std.proofs.lemmas.Int.{ints}
use Rattle.bril_tree.specs.declared.limits.End.TheVariants.{Faulted}
use Rattle.bril_tree.specs.declared.limits.Fault.{Fault}
use Rattle.bril_tree.specs.declared.limits.Fault.TheVariants as fault
use Rattle.bril_tree.specs.declared.operation.Op.TheVariants as op
use Rattle.bril_tree.specs.declared.operators.BinaryOp.TheVariants as binary
use Rattle.bril_tree.specs.declared.value.Value.{Value}
use Rattle.bril_tree.specs.declared.value.Value.TheVariants.{Ptr}
use Rattle.bril_tree.specs.Outcome.{Yields, FaultsWith, computed, fits_32, int_of, block_of, offset_of}
use Rattle.bril_tree.specs.Value.{word_of}
use Rattle.rv64_words.specs.declared.image.Image.{Image}
use Rattle.rv64_words.specs.Arithmetic.{shifted_left, shifted_right_signed}
use Rattle.rv64_words.specs.Mnemonics.{add, beq, slli, srai, srli}
use Rattle.rv64_words.specs.Region.{Sizes}
use Rattle.rv64_words_laws.specs.stretches.Core.{Core, Keeps}
use Rattle.rv64_words_laws.specs.stretches.Runs.{effects}
use Rattle.rv64_words_laws.proofs.lemmas.stretches.Going.{Going, begin, plains, taken, not_taken}
use Rattle.rv64_words_laws.specs.sequences.Operations.{pointer_words}
use Rattle.rv64_words_laws.specs.sequences.Sequences.{fault_words}
use Rattle.rv64_words_laws.specs.values.Laws.{BinaryReady}
use Rattle.rv64_words_laws.specs.values.Operands.{Gives, EndsSo}
use Rattle.rv64_words_laws.proofs.lemmas.values.Kept.{keeps_itself, keeps_but, keeps_five, keeps_six, keeps_seven, gives_by, faults_by}
use Rattle.rv64_words_laws.proofs.lemmas.values.Operands.{int_word, int_fits, pointer_word, block_below, offset_fits, two, yielded, faulted, no_fault, no_value}

-- the lower 32 bits as a signed number, in 64 bits: shifted up, and down with the sign
abbrev pub sign_extended : ℕ → ℕ
sign_extended w = shifted_right_signed (shifted_left w 32) 32

-- a pointer's offset
pub offset_part : (block : ℕ) (offset : ℤ) → FitsSigned w32 offset → sign_extended (block * 2 ^ 32 + cast_unsigned w32 offset) ≡ cast_unsigned w64 offset
offset_part block (pos n) fits =
    let f = fits.sfits in
    let w : (block * 2 ^ 32 + n) * 2 ^ 32 % 2 ^ 64 ≡ n * 2 ^ 32 = omega arith in
    let low : ltb (n * 2 ^ 32) (2 ^ 63) ≡ true = grind (arith, nat_tests) in
    let down : n * 2 ^ 32 / 2 ^ 32 ≡ n = omega arith in
    ap (λ x. shifted_right_signed x 32) w ∙ (ap (λ t. cond t (n * 2 ^ 32 / 2 ^ 32) ((2 ^ 64 - 1) - ((2 ^ 64 - 1) - n * 2 ^ 32) / 2 ^ 32)) low ∙ down)
offset_part block (negsuc n) fits =
    let f = fits.sfits in
    let m : ℕ = cast_unsigned w32 (negsuc n) in
    let m_is : m ≡ 2 ^ 32 - (n + 1) = omega arith in
    let w : (block * 2 ^ 32 + m) * 2 ^ 32 % 2 ^ 64 ≡ m * 2 ^ 32 = omega arith in
    let high : ltb (m * 2 ^ 32) (2 ^ 63) ≡ false = grind (arith, nat_tests) in
    let down : (2 ^ 64 - 1) - ((2 ^ 64 - 1) - m * 2 ^ 32) / 2 ^ 32 ≡ cast_unsigned w64 (negsuc n) = omega arith in
    ap (λ x. shifted_right_signed x 32) w ∙ (ap (λ t. cond t (m * 2 ^ 32 / 2 ^ 32) ((2 ^ 64 - 1) - ((2 ^ 64 - 1) - m * 2 ^ 32) / 2 ^ 32)) high ∙ down)

pub block_part : (block : ℕ) (offset : ℤ) → FitsSigned w32 offset → (block * 2 ^ 32 + cast_unsigned w32 offset) / 2 ^ 32 ≡ block
block_part block (pos n) fits = let f = fits.sfits in omega arith
block_part block (negsuc n) fits = let f = fits.sfits in omega arith

-- ---- the sum of an offset and a number, modulo 2^64

abbrev sum_word : ℤ → ℤ → ℕ
sum_word x y = (cast_unsigned w64 x + cast_unsigned w64 y) % 2 ^ 64

-- where it fits 32 bits it is that sum's word
fitting_sum : (x y z : ℤ) → FitsSigned w32 x → FitsSigned w64 y → z ≡ x +ℤ y → fits_32 z ≡ true → sum_word x y ≡ cast_unsigned w64 z
fitting_sum (pos a) (pos b) (pos m) fx fy e h = let p = fx.sfits in let q = fy.sfits in let r : m < 2147483648 = grind (arith, nat_tests) in omega (arith, ints)
fitting_sum (pos a) (pos b) (negsuc m) fx fy e h = let p = fx.sfits in let q = fy.sfits in let r : m < 2147483648 = grind (arith, nat_tests) in omega (arith, ints)
fitting_sum (pos a) (negsuc b) (pos m) fx fy e h = let p = fx.sfits in let q = fy.sfits in let r : m < 2147483648 = grind (arith, nat_tests) in omega (arith, ints)
fitting_sum (pos a) (negsuc b) (negsuc m) fx fy e h = let p = fx.sfits in let q = fy.sfits in let r : m < 2147483648 = grind (arith, nat_tests) in omega (arith, ints)
fitting_sum (negsuc a) (pos b) (pos m) fx fy e h = let p = fx.sfits in let q = fy.sfits in let r : m < 2147483648 = grind (arith, nat_tests) in omega (arith, ints)
fitting_sum (negsuc a) (pos b) (negsuc m) fx fy e h = let p = fx.sfits in let q = fy.sfits in let r : m < 2147483648 = grind (arith, nat_tests) in omega (arith, ints)
fitting_sum (negsuc a) (negsuc b) (pos m) fx fy e h = let p = fx.sfits in let q = fy.sfits in let r : m < 2147483648 = grind (arith, nat_tests) in omega (arith, ints)
fitting_sum (negsuc a) (negsuc b) (negsuc m) fx fy e h = let p = fx.sfits in let q = fy.sfits in let r : m < 2147483648 = grind (arith, nat_tests) in omega (arith, ints)

-- where it doesn't it is the word of no number of 32 bits
other_sum : (x y z : ℤ) → FitsSigned w32 x → FitsSigned w64 y → z ≡ x +ℤ y → fits_32 z ≡ false → (2 ^ 31 ≤ sum_word x y) × (sum_word x y < 2 ^ 64 - 2 ^ 31)
other_sum (pos a) (pos b) (pos m) fx fy e h = let p = fx.sfits in let q = fy.sfits in let r : 2147483648 ≤ m = grind (arith, nat_tests) in (omega (arith, ints), omega (arith, ints))
other_sum (pos a) (pos b) (negsuc m) fx fy e h = let p = fx.sfits in let q = fy.sfits in let r : 2147483648 ≤ m = grind (arith, nat_tests) in (omega (arith, ints), omega (arith, ints))
other_sum (pos a) (negsuc b) (pos m) fx fy e h = let p = fx.sfits in let q = fy.sfits in let r : 2147483648 ≤ m = grind (arith, nat_tests) in (omega (arith, ints), omega (arith, ints))
other_sum (pos a) (negsuc b) (negsuc m) fx fy e h = let p = fx.sfits in let q = fy.sfits in let r : 2147483648 ≤ m = grind (arith, nat_tests) in (omega (arith, ints), omega (arith, ints))
other_sum (negsuc a) (pos b) (pos m) fx fy e h = let p = fx.sfits in let q = fy.sfits in let r : 2147483648 ≤ m = grind (arith, nat_tests) in (omega (arith, ints), omega (arith, ints))
other_sum (negsuc a) (pos b) (negsuc m) fx fy e h = let p = fx.sfits in let q = fy.sfits in let r : 2147483648 ≤ m = grind (arith, nat_tests) in (omega (arith, ints), omega (arith, ints))
other_sum (negsuc a) (negsuc b) (pos m) fx fy e h = let p = fx.sfits in let q = fy.sfits in let r : 2147483648 ≤ m = grind (arith, nat_tests) in (omega (arith, ints), omega (arith, ints))
other_sum (negsuc a) (negsuc b) (negsuc m) fx fy e h = let p = fx.sfits in let q = fy.sfits in let r : 2147483648 ≤ m = grind (arith, nat_tests) in (omega (arith, ints), omega (arith, ints))

fits_of : (z : ℤ) → fits_32 z ≡ true → FitsSigned w32 z
fits_of (pos n) h = record { sfits = grind (arith, nat_tests) }
fits_of (negsuc n) h = record { sfits = grind (arith, nat_tests) }

-- what the words compare: a sum that fits 32 bits is its own lower half, extended, and no other sum is
same_extended : (z : ℤ) → fits_32 z ≡ true → sign_extended (cast_unsigned w64 z) ≡ cast_unsigned w64 z
same_extended (pos n) h = let e : n ≡ 0 * 2 ^ 32 + n = omega arith in ap sign_extended e ∙ offset_part 0 (pos n) (fits_of (pos n) h)
same_extended (negsuc n) h =
    let fits = fits_of (negsuc n) h in
    let small = fits.sfits in
    let e : 2 ^ 64 - suc n ≡ (2 ^ 32 - 1) * 2 ^ 32 + (2 ^ 32 - suc n) = omega arith in
    ap sign_extended e ∙ offset_part (2 ^ 32 - 1) (negsuc n) fits

other_extended : (s : ℕ) → 2 ^ 31 ≤ s → s < 2 ^ 64 - 2 ^ 31 → eqb (sign_extended s) s ≡ false
other_extended s above below = by_test (ltb (s * 2 ^ 32 % 2 ^ 64) (2 ^ 63)) refl
  where
    by_test : (d : Bool) → ltb (s * 2 ^ 32 % 2 ^ 64) (2 ^ 63) ≡ d → eqb (cond d (s * 2 ^ 32 % 2 ^ 64 / 2 ^ 32) ((2 ^ 64 - 1) - ((2 ^ 64 - 1) - s * 2 ^ 32 % 2 ^ 64) / 2 ^ 32)) s ≡ false
    by_test true e =
        let low : s * 2 ^ 32 % 2 ^ 64 < 2 ^ 63 = grind (arith, nat_tests) in
        let ne : s * 2 ^ 32 % 2 ^ 64 / 2 ^ 32 ≢ s = (λ x. absurd (omega arith)) in
        ne_eqb _ _ ne
    by_test false e =
        let high : 2 ^ 63 ≤ s * 2 ^ 32 % 2 ^ 64 = grind (arith, nat_tests) in
        let ne : (2 ^ 64 - 1) - ((2 ^ 64 - 1) - s * 2 ^ 32 % 2 ^ 64) / 2 ^ 32 ≢ s = (λ x. absurd (omega arith)) in
        ne_eqb _ _ ne

-- a block and an offset, put together
packed : (block : ℕ) (z : ℤ) → block < 2 ^ 32 → fits_32 z ≡ true → (block * 2 ^ 32 % 2 ^ 64 + cast_unsigned w64 z * 2 ^ 32 % 2 ^ 64 / 2 ^ 32) % 2 ^ 64 ≡ block * 2 ^ 32 + cast_unsigned w32 z
packed block (pos n) below h = let fits = fits_of (pos n) h in let small = fits.sfits in omega arith
packed block (negsuc n) below h = let fits = fits_of (negsuc n) h in let small = fits.sfits in omega arith

-- ---- the words

abbrev moved_sum : Core → ℕ
moved_sum c = (sign_extended (c.registers 5) + c.registers 7) % 2 ^ 64

-- the first five words
abbrev summed : Core → Core
summed c = effects (slli 6 5 32 ∷ srai 6 6 32 ∷ add 7 6 7 ∷ slli 6 7 32 ∷ srai 6 6 32 ∷ []) c

summed_kept : (c : Core) → Keeps c (summed c)
summed_kept c = keeps_six c _ _ (keeps_six c _ _ (keeps_seven c _ _ (keeps_six c _ _ (keeps_six c c _ (keeps_itself c)))))

-- and the last
abbrev packed_core : Core → Core
packed_core e = effects (srli 5 5 32 ∷ slli 5 5 32 ∷ slli 7 7 32 ∷ srli 7 7 32 ∷ add 5 5 7 ∷ []) e

packed_kept : (c e : Core) → Keeps c e → Keeps c (packed_core e)
packed_kept c e h = keeps_five c _ _ (keeps_seven c _ _ (keeps_seven c _ _ (keeps_five c _ _ (keeps_five c e _ h))))

module _ (image : Image) (z : Sizes) (k : ℕ) (c : Core) (a b : Value) (r : BinaryReady image k c binary.PtrAdd 5 5 7 a b) where
  sum_is : moved_sum c ≡ sum_word (offset_of a) (int_of b)
  sum_is =
      two (λ p q. (sign_extended p + q) % 2 ^ 64) (r.first ∙ pointer_word a r.suits.0) (r.second ∙ int_word b r.suits.1)
      ∙ ap (λ t. (t + cast_unsigned w64 (int_of b)) % 2 ^ 64) (offset_part (block_of a) (offset_of a) (offset_fits a r.suits.0))

  five_words : Going image z k c (0 + 5) (k + 5) (summed c) (beq 6 7 (pos 16) ∷ (fault_words 10 ++ (srli 5 5 32 ∷ slli 5 5 32 ∷ slli 7 7 32 ∷ srli 7 7 32 ∷ add 5 5 7 ∷ [])))
  five_words = plains image z (slli 6 5 32 ∷ srai 6 6 32 ∷ add 7 6 7 ∷ slli 6 7 32 ∷ srai 6 6 32 ∷ []) (beq 6 7 (pos 16) ∷ (fault_words 10 ++ (srli 5 5 32 ∷ slli 5 5 32 ∷ slli 7 7 32 ∷ srli 7 7 32 ∷ add 5 5 7 ∷ []))) (tt, (tt, (tt, (tt, (tt, tt))))) (begin image z k c pointer_words r.has)

  fits_gives : fits_32 (offset_of a +ℤ int_of b) ≡ true → (v : Value) → Ptr (block_of a) (offset_of a +ℤ int_of b) ≡ v → Gives image z k c 5 14 (word_of v)
  fits_gives h v is =
      let zz = offset_of a +ℤ int_of b in
      let sum : moved_sum c ≡ cast_unsigned w64 zz = sum_is ∙ fitting_sum (offset_of a) (int_of b) zz (offset_fits a r.suits.0) (int_fits b r.suits.1) refl h in
      let same : sign_extended (moved_sum c) ≡ moved_sum c = ap sign_extended sum ∙ (same_extended zz h ∙ sym sum) in
      let below : k < 2 ^ 19 = r.low in
      let lower : k + 5 < 2 ^ 20 = omega arith in
      let g1 = taken image z (fault_words 10) (srli 5 5 32 ∷ slli 5 5 32 ∷ slli 7 7 32 ∷ srli 7 7 32 ∷ add 5 5 7 ∷ []) lower (omega arith) (eq-eqb _ _ same) five_words in
      let g2 = plains image z (srli 5 5 32 ∷ slli 5 5 32 ∷ slli 7 7 32 ∷ srli 7 7 32 ∷ add 5 5 7 ∷ []) [] (tt, (tt, (tt, (tt, (tt, tt))))) g1 in
      let block : c.registers 5 / 2 ^ 32 ≡ block_of a = ap (λ x. x / 2 ^ 32) (r.first ∙ pointer_word a r.suits.0) ∙ block_part (block_of a) (offset_of a) (offset_fits a r.suits.0) in
      let result : (packed_core (summed c)).registers 5 ≡ word_of v =
      two (λ p q. (p * 2 ^ 32 % 2 ^ 64 + q * 2 ^ 32 % 2 ^ 64 / 2 ^ 32) % 2 ^ 64) block sum ∙ (packed (block_of a) zz (block_below a r.suits.0) h ∙ ap word_of is) in
      gives_by image z 5 14 (word_of v) (omega arith) (omega arith) (keeps_but 5 c _ (packed_kept c (summed c) (summed_kept c))) result g2

  other_faults : fits_32 (offset_of a +ℤ int_of b) ≡ false → EndsSo image z k c 14 (Faulted fault.PtrRange)
  other_faults h =
      let zz = offset_of a +ℤ int_of b in
      let out = other_sum (offset_of a) (int_of b) zz (offset_fits a r.suits.0) (int_fits b r.suits.1) refl h in
      let differ : eqb (sign_extended (moved_sum c)) (moved_sum c) ≡ false = ap (λ s. eqb (sign_extended s) s) sum_is ∙ other_extended _ out.0 out.1 in
      faults_by image z 14 9 fault.PtrRange (omega arith) (omega arith) (summed_kept c) r.null refl (not_taken image z differ five_words)

  gives_by_fit : (t : Bool) → fits_32 (offset_of a +ℤ int_of b) ≡ t → (v : Value) → cond t (Yields (Ptr (block_of a) (offset_of a +ℤ int_of b))) (FaultsWith fault.PtrRange) ≡ Yields v → Gives image z k c 5 14 (word_of v)
  gives_by_fit true h v is = fits_gives h v (yielded _ v is)
  gives_by_fit false h v is = absurd (no_value fault.PtrRange v is)

  faults_by_fit : (t : Bool) → fits_32 (offset_of a +ℤ int_of b) ≡ t → (kind : Fault) → cond t (Yields (Ptr (block_of a) (offset_of a +ℤ int_of b))) (FaultsWith fault.PtrRange) ≡ FaultsWith kind → EndsSo image z k c 14 (Faulted kind)
  faults_by_fit true h kind is = absurd (no_fault _ kind is)
  faults_by_fit false h kind is = subst (λ x. EndsSo image z k c 14 (Faulted x)) (faulted fault.PtrRange kind is) (other_faults h)

-- the registers are those that the words name
settled : (image : Image) (k : ℕ) (c : Core) (d p q : ℕ) (a b : Value) → d ≡ 5 → p ≡ 5 → q ≡ 7 → BinaryReady image k c binary.PtrAdd d p q a b → BinaryReady image k c binary.PtrAdd 5 5 7 a b
settled image k c d p q a b d_is p_is q_is r =
    subst (λ x. BinaryReady image k c binary.PtrAdd 5 5 x a b) q_is (subst (λ x. BinaryReady image k c binary.PtrAdd 5 x q a b) p_is (subst (λ x. BinaryReady image k c binary.PtrAdd x p q a b) d_is r))

pub pointer_gives : (image : Image) (z : Sizes) (k : ℕ) (c : Core) (d p q : ℕ) (a b v : Value) → BinaryReady image k c binary.PtrAdd d p q a b → computed op.PtrAdd None a b ≡ Yields v → Gives image z k c d 14 (word_of v)
pointer_gives image z k c d p q a b v r is =
    let here = settled image k c d p q a b r.takes.0 r.takes.1.0 r.takes.1.1 r in
    subst (λ x. Gives image z k c x 14 (word_of v)) (sym r.takes.0) (gives_by_fit image z k c a b here (fits_32 (offset_of a +ℤ int_of b)) refl v is)

pub pointer_faults : (image : Image) (z : Sizes) (k : ℕ) (c : Core) (d p q : ℕ) (a b : Value) (kind : Fault) → BinaryReady image k c binary.PtrAdd d p q a b → computed op.PtrAdd None a b ≡ FaultsWith kind → EndsSo image z k c 14 (Faulted kind)
pointer_faults image z k c d p q a b kind r is = faults_by_fit image z k c a b (settled image k c d p q a b r.takes.0 r.takes.1.0 r.takes.1.1 r) (fits_32 (offset_of a +ℤ int_of b)) refl kind is
