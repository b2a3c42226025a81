-- The words of operations with one operand.
use Rattle.std.proofs.Common.{◌≡◌, ◌≢◌, ℕ, suc, ◌+◌, ◌-◌, ◌/◌, ◌%◌, ◌^◌, ◌<◌, Bool, true, false, not, ◌&&◌, cond, eqb, ltb, refl, sym, ap, ◌∙◌, subst, arith, [], ◌∷◌, ℤ, pos, negsuc}
use Rattle.std.specs.Prelude.{FitsSigned}
use Rattle.std.specs.Int.{w64, cast_unsigned, from_bool}
use Rattle.std.proofs.lemmas.Bool.Decides.{nat_tests}
use Rattle.bril_tree.specs.declared.limits.End.TheVariants.{Faulted}
use Rattle.bril_tree.specs.declared.limits.Fault.{Fault}
use Rattle.bril_tree.specs.declared.limits.Fault.TheVariants as fault
use Rattle.bril_tree.specs.declared.operators.UnaryOp.{UnaryOp}
use Rattle.bril_tree.specs.declared.operators.UnaryOp.TheVariants as unary
use Rattle.bril_tree.specs.declared.value.Value.{Value}
use Rattle.bril_tree.specs.declared.value.Value.TheVariants.{Int, Bool as Boolean, Char}
use Rattle.bril_tree.specs.Outcome.{Yields, FaultsWith, is_scalar, char_from, int_of, bool_of, char_of}
use Rattle.bril_tree.specs.Value.{word_of}
use Rattle.rv64_words.specs.declared.image.Image.{Image}
use Rattle.rv64_words.specs.Mnemonics.{addi, srli, bne}
use Rattle.rv64_words.specs.Region.{Sizes}
use Rattle.rv64_words_laws.specs.stretches.Core.{Core, written, Keeps}
use Rattle.rv64_words_laws.specs.stretches.Runs.{HasAt}
use Rattle.rv64_words_laws.proofs.lemmas.stretches.Cores.{written_here}
use Rattle.rv64_words_laws.proofs.lemmas.stretches.Going.{Going, begin, plain, taken, not_taken}
use Rattle.rv64_words_laws.specs.sequences.Operations.{int_to_char_words, unary_words}
use Rattle.rv64_words_laws.specs.sequences.Sequences.{fault_words}
use Rattle.rv64_words_laws.specs.values.Laws.{UnaryReady, UnaryWordsGive, UnaryWordsFault}
use Rattle.rv64_words_laws.specs.values.Operands.{Gives, EndsSo}
use Rattle.rv64_words_laws.proofs.lemmas.values.Kept.{keeps_itself, keeps_but, keeps_six, keeps_result, result_apart, gives_by, gives_plain, faults_by}
use Rattle.rv64_words_laws.proofs.lemmas.values.Operands.{int_word, int_fits, bool_word, char_word, yielded, faulted, no_fault, no_value}
use Rattle.rv64_words_laws.proofs.lemmas.values.Words.{not_word}

-- ---- an int as a char

-- the bits of a number from bit 11 on, less those of 0xD800
abbrev above_surrogates : ℕ → ℕ
above_surrogates w = (w / 2 ^ 11 + (2 ^ 64 - 27)) % 2 ^ 64

abbrev limited : Core → Core
limited c = written c 6 1114112

abbrev halved : Core → Core
halved c = written (written (limited c) 6 (c.registers 5 / 2 ^ 11)) 6 (above_surrogates (c.registers 5))

limited_kept : (c : Core) → Keeps c (limited c)
limited_kept c = keeps_six c c 1114112 (keeps_itself c)

halved_kept : (c : Core) → Keeps c (halved c)
halved_kept c = keeps_six c _ (above_surrogates (c.registers 5)) (keeps_six c _ (c.registers 5 / 2 ^ 11) (limited_kept c))

module _ (image : Image) (z : Sizes) (k : ℕ) (c : Core) (low : k < 2 ^ 19) (has : HasAt image k int_to_char_words) (null : c.registers 0 ≡ 0) where
  -- a number that is too large
  too_large : ltb (c.registers 5) 1114112 ≡ false → EndsSo image z k c 8 (Faulted fault.BadChar)
  too_large e =
      let g1 = plain image z tt (begin image z k c int_to_char_words has) in
      let lower : k + 1 < 2 ^ 20 = omega arith in
      let g2 = taken image z (srli 6 5 11 ∷ addi 6 6 (negsuc 26) ∷ bne 6 0 (pos 16) ∷ []) (fault_words 2) lower (omega arith) (ap not e) g1 in
      faults_by image z 8 1 fault.BadChar (omega arith) (omega arith) (limited_kept c) null refl g2

  -- one that isn't
  small : ltb (c.registers 5) 1114112 ≡ true → Going image z k c (0 + 1 + 1 + 1 + 1) (k + 1 + 1 + 1 + 1) (halved c) (bne 6 0 (pos 16) ∷ fault_words 2)
  small e = plain image z tt (plain image z tt (not_taken image z (ap not e) (plain image z tt (begin image z k c int_to_char_words has))))

  surrogate : ltb (c.registers 5) 1114112 ≡ true → not (eqb (above_surrogates (c.registers 5)) 0) ≡ false → EndsSo image z k c 8 (Faulted fault.BadChar)
  surrogate e f =
      let equal : not (eqb (above_surrogates (c.registers 5)) (c.registers 0)) ≡ false = ap (λ x. not (eqb (above_surrogates (c.registers 5)) x)) null ∙ f in
      faults_by image z 8 1 fault.BadChar (omega arith) (omega arith) (halved_kept c) null refl (not_taken image z equal (small e))

  scalar : (v : ℕ) → ltb (c.registers 5) 1114112 ≡ true → not (eqb (above_surrogates (c.registers 5)) 0) ≡ true → c.registers 5 ≡ v → Gives image z k c 5 8 v
  scalar v e f is =
      let differ : not (eqb (above_surrogates (c.registers 5)) (c.registers 0)) ≡ true = ap (λ x. not (eqb (above_surrogates (c.registers 5)) x)) null ∙ f in
      let lower : k + 1 + 1 + 1 + 1 < 2 ^ 20 = omega arith in
      gives_by image z 5 8 v (omega arith) (omega arith) (keeps_but 5 c _ (halved_kept c)) is (taken image z (fault_words 2) [] lower (omega arith) differ (small e))

  -- the outcome, by what the word is
  char_gives : (x : ℕ) (v : Value) → c.registers 5 ≡ x → (large surrogates : Bool) → ltb x 1114112 ≡ large → not (eqb (above_surrogates x) 0) ≡ surrogates
      → cond (large && surrogates) (Yields (Char x)) (FaultsWith fault.BadChar) ≡ Yields v → Gives image z k c 5 8 (word_of v)
  char_gives x v same true true e f is =
      scalar (word_of v) (ap (λ y. ltb y 1114112) same ∙ e) (ap (λ y. not (eqb (above_surrogates y) 0)) same ∙ f) (same ∙ ap word_of (yielded (Char x) v is))
  char_gives x v same true false e f is = absurd (no_value fault.BadChar v is)
  char_gives x v same false t e f is = absurd (no_value fault.BadChar v is)

  char_faults : (x : ℕ) (kind : Fault) → c.registers 5 ≡ x → (large surrogates : Bool) → ltb x 1114112 ≡ large → not (eqb (above_surrogates x) 0) ≡ surrogates
      → cond (large && surrogates) (Yields (Char x)) (FaultsWith fault.BadChar) ≡ FaultsWith kind → EndsSo image z k c 8 (Faulted kind)
  char_faults x kind same true true e f is = absurd (no_fault (Char x) kind is)
  char_faults x kind same true false e f is =
      subst (λ y. EndsSo image z k c 8 (Faulted y)) (faulted fault.BadChar kind is) (surrogate (ap (λ y. ltb y 1114112) same ∙ e) (ap (λ y. not (eqb (above_surrogates y) 0)) same ∙ f))
  char_faults x kind same false t e f is =
      subst (λ y. EndsSo image z k c 8 (Faulted y)) (faulted fault.BadChar kind is) (too_large (ap (λ y. ltb y 1114112) same ∙ e))

-- a word is a scalar value by both tests
word_tests : (x : ℕ) → (ltb x 1114112 && not (eqb (above_surrogates x) 0)) ≡ (ltb x 1114112 && is_scalar x)
word_tests x = grind (arith, nat_tests)

-- the outcome of the cast by the tests that the words make
char_outcome : (x : ℤ) → FitsSigned w64 x → cond (ltb (cast_unsigned w64 x) 1114112 && not (eqb (above_surrogates (cast_unsigned w64 x)) 0)) (Yields (Char (cast_unsigned w64 x))) (FaultsWith fault.BadChar) ≡ char_from x
char_outcome (pos n) fits = ap (λ t. cond t (Yields (Char n)) (FaultsWith fault.BadChar)) (word_tests n ∙ within n)
  where
    within : (n : ℕ) → (ltb n 1114112 && is_scalar n) ≡ is_scalar n
    within n = grind (arith, nat_tests)
char_outcome (negsuc n) fits = let f = fits.sfits in ap (λ t. cond (t && not (eqb (above_surrogates (2 ^ 64 - suc n)) 0)) (Yields (Char (2 ^ 64 - suc n))) (FaultsWith fault.BadChar)) (above n f)
  where
    above : (n : ℕ) → n < 2 ^ 63 → ltb (2 ^ 64 - suc n) 1114112 ≡ false
    above n lt = grind (arith, nat_tests)

-- the registers are those that the words name
settled : (image : Image) (k : ℕ) (c : Core) (operation : UnaryOp) (d p : ℕ) (a : Value) → d ≡ 5 → p ≡ 5 → UnaryReady image k c operation d p a → UnaryReady image k c operation 5 5 a
settled image k c operation d p a d_is p_is r = subst (λ x. UnaryReady image k c operation 5 x a) p_is (subst (λ x. UnaryReady image k c operation x p a) d_is r)

pub unary_gives : UnaryWordsGive
unary_gives image z k c unary.Not d p a v r is =
    let ne : d ≢ 0 = (λ same. result_apart d 0 refl r.takes (sym same)) in
    gives_plain image z k c (unary_words unary.Not d p) d (word_of v) r.has (tt, tt) (keeps_result d c c _ r.takes (keeps_itself c))
    (written_here c d _ ne ∙ (ap (λ x. from_bool (ltb x 1)) (r.operand ∙ bool_word a r.suits) ∙ (not_word (bool_of a) ∙ ap word_of (yielded (Boolean (not (bool_of a))) v is))))
unary_gives image z k c unary.CharToInt d p a v r is =
    let here = settled image k c unary.CharToInt d p a r.takes.0 r.takes.1 r in
    subst (λ x. Gives image z k c x 0 (word_of v)) (sym r.takes.0)
    (gives_plain image z k c [] 5 (word_of v) here.has tt (keeps_but 5 c c (keeps_itself c)) (here.operand ∙ (char_word a here.suits ∙ ap word_of (yielded (Int (pos (char_of a))) v is))))
unary_gives image z k c unary.IntToChar d p a v r is =
    let here = settled image k c unary.IntToChar d p a r.takes.0 r.takes.1 r in
    subst (λ x. Gives image z k c x 8 (word_of v)) (sym r.takes.0)
    (char_gives image z k c here.low here.has here.null (cast_unsigned w64 (int_of a)) v (here.operand ∙ int_word a here.suits) _ _ refl refl (char_outcome (int_of a) (int_fits a here.suits) ∙ is))

pub unary_faults : UnaryWordsFault
unary_faults image z k c unary.Not d p a kind r is = absurd (no_fault _ kind is)
unary_faults image z k c unary.CharToInt d p a kind r is = absurd (no_fault _ kind is)
unary_faults image z k c unary.IntToChar d p a kind r is =
    let here = settled image k c unary.IntToChar d p a r.takes.0 r.takes.1 r in
    char_faults image z k c here.low here.has here.null (cast_unsigned w64 (int_of a)) kind (here.operand ∙ int_word a here.suits) _ _ refl refl (char_outcome (int_of a) (int_fits a here.suits) ∙ is)
