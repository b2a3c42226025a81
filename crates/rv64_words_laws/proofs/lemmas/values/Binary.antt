-- The words of operations with two operands.
use Rattle.std.proofs.Common.{◌≡◌, ◌≢◌, IsTrue, ℕ, ◌+◌, ◌-◌, ◌*◌, ◌%◌, ◌^◌, ◌<◌, Bool, true, false, not, ◌&&◌, ◌||◌, eqb, ltb, leb, refl, sym, ap, ◌∙◌, subst, arith, [], ◌∷◌, pos, ◌+ℤ◌}
use Rattle.std.specs.Prelude.{◌-ℤ◌, ◌*ℤ◌, int_lt, int_le, int_div, bit_and, bit_or}
use Rattle.std.specs.Int.{w64, cast_unsigned, int_wrap, from_bool}
use Rattle.bril_tree.specs.declared.limits.End.TheVariants.{Faulted}
use Rattle.bril_tree.specs.declared.limits.Fault.{Fault}
use Rattle.bril_tree.specs.declared.limits.Fault.TheVariants as fault
use Rattle.bril_tree.specs.declared.operators.BinaryOp.TheVariants as binary
use Rattle.bril_tree.specs.declared.value.Value.{Value}
use Rattle.bril_tree.specs.declared.value.Value.TheVariants.{Int, Bool as Boolean}
use Rattle.bril_tree.specs.Outcome.{Yields, FaultsWith, divided as quotient_of, int_of, bool_of, char_of, int_same}
use Rattle.bril_tree.specs.Value.{word_of}
use Rattle.rv64_words.specs.declared.image.Image.{Image}
use Rattle.rv64_words.specs.declared.word.RegisterOperation.{RegisterOperation}
use Rattle.rv64_words.specs.declared.word.RegisterOperation.TheVariants as register
use Rattle.rv64_words.specs.declared.word.Word.TheVariants.{Op}
use Rattle.rv64_words.specs.Arithmetic.{less_signed, computed, divided}
use Rattle.rv64_words.specs.Mnemonics.{sltiu, div}
use Rattle.rv64_words.specs.Region.{Sizes}
use Rattle.rv64_words_laws.specs.stretches.Core.{Core, written}
use Rattle.rv64_words_laws.specs.stretches.Runs.{HasAt}
use Rattle.rv64_words_laws.proofs.lemmas.stretches.Cores.{written_here}
use Rattle.rv64_words_laws.proofs.lemmas.stretches.Going.{begin, plain, taken, not_taken}
use Rattle.rv64_words_laws.specs.sequences.Operations.{division_words}
use Rattle.rv64_words_laws.specs.sequences.Sequences.{fault_words}
use Rattle.rv64_words_laws.specs.values.Laws.{BinaryReady, BinaryWordsGive, BinaryWordsFault}
use Rattle.rv64_words_laws.specs.values.Operands.{is_result_register, IsInt, Gives, EndsSo}
use Rattle.rv64_words_laws.proofs.lemmas.values.Kept.{keeps_itself, keeps_five, keeps_result, result_apart, gives_by, gives_plain, faults_by}
use Rattle.rv64_words_laws.proofs.lemmas.values.Operands.{int_word, int_fits, bool_word, char_word, char_below, two, yielded, faulted, no_fault, no_value}
use Rattle.rv64_words_laws.proofs.lemmas.values.Pointers.{pointer_gives, pointer_faults}
use Rattle.rv64_words_laws.proofs.lemmas.values.Words.{add_word, sub_word, mul_word, is_zero, div_word, less_word, same_word, not_less, not_word, less_chars, same_chars, not_less_nat, and_word, or_word}

-- one word that computes a value's word, and one with a test of it against 0
module _ (image : Image) (z : Sizes) (k : ℕ) (c : Core) (o : RegisterOperation) (d p q : ℕ) (w v : Value) (takes : IsTrue (is_result_register d)) where
  not_zero : d ≢ 0
  not_zero same = result_apart d 0 refl takes (sym same)

  one_word : HasAt image k (Op o d p q ∷ []) → computed o (c.registers p) (c.registers q) ≡ word_of w → Yields w ≡ Yields v → Gives image z k c d 1 (word_of v)
  one_word has is e =
      gives_plain image z k c (Op o d p q ∷ []) d (word_of v) has (tt, tt) (keeps_result d c c (computed o (c.registers p) (c.registers q)) takes (keeps_itself c))
      (written_here c d (computed o (c.registers p) (c.registers q)) not_zero ∙ (is ∙ ap word_of (yielded w v e)))

  test_word : HasAt image k (Op o 5 p q ∷ sltiu d 5 (pos 1) ∷ []) → from_bool (ltb (computed o (c.registers p) (c.registers q)) 1) ≡ word_of w → Yields w ≡ Yields v → Gives image z k c d 2 (word_of v)
  test_word has is e =
      let five = written c 5 (computed o (c.registers p) (c.registers q)) in
      let test = from_bool (ltb (computed o (c.registers p) (c.registers q)) 1) in
      gives_plain image z k c (Op o 5 p q ∷ sltiu d 5 (pos 1) ∷ []) d (word_of v) has (tt, (tt, tt)) (keeps_result d c five test takes (keeps_five c c (computed o (c.registers p) (c.registers q)) (keeps_itself c)))
      (written_here five d test not_zero ∙ (is ∙ ap word_of (yielded w v e)))

-- ---- comparisons, of the numbers that two words are

less_is : (x y v w : ℕ) → x ≡ v → y ≡ w → (t : Bool) → less_signed v w ≡ t → from_bool (less_signed x y) ≡ from_bool t
less_is x y v w e f t is = two (λ p q. from_bool (less_signed p q)) e f ∙ ap from_bool is

not_less_is : (x y v w : ℕ) → x ≡ v → y ≡ w → (t s : Bool) → less_signed v w ≡ t → not t ≡ s → from_bool (ltb (from_bool (less_signed x y)) 1) ≡ from_bool s
not_less_is x y v w e f t s is other = two (λ p q. from_bool (ltb (from_bool (less_signed p q)) 1)) e f ∙ (ap (λ b. from_bool (ltb (from_bool b) 1)) is ∙ (not_word t ∙ ap from_bool other))

same_is : (x y v w : ℕ) → x ≡ v → y ≡ w → (t : Bool) → ltb ((v + (2 ^ 64 - w)) % 2 ^ 64) 1 ≡ t → from_bool (ltb ((x + (2 ^ 64 - y)) % 2 ^ 64) 1) ≡ from_bool t
same_is x y v w e f t is = two (λ p q. from_bool (ltb ((p + (2 ^ 64 - q)) % 2 ^ 64) 1)) e f ∙ ap from_bool is

module _ (image : Image) (z : Sizes) (k : ℕ) (c : Core) (d p q : ℕ) (a b : Value) where
  -- ---- division

  abbrev division : Bool → Type 0
  division t = (v : Value) → quotient_of t (int_of a) (int_of b) ≡ Yields v → Gives image z k c d 5 (word_of v)

  divisor : IsInt b → c.registers 0 ≡ 0 → c.registers q ≡ word_of b → eqb (c.registers q) (c.registers 0) ≡ int_same (int_of b) (pos 0)
  divisor ib null second = ap (λ x. eqb x (c.registers 0)) (second ∙ int_word b ib) ∙ (ap (eqb (cast_unsigned w64 (int_of b))) null ∙ is_zero (int_of b) (int_fits b ib))

  div_gives : BinaryReady image k c binary.Div d p q a b → (t : Bool) → int_same (int_of b) (pos 0) ≡ t → division t
  div_gives r true e v is = absurd (no_value fault.DivZero v is)
  div_gives r false e v is =
      let ia = r.suits.0 in
      let ib = r.suits.1 in
      let g = begin image z k c (division_words d p q) r.has in
      let below : k < 2 ^ 19 = r.low in
      let lower : k < 2 ^ 20 = omega arith in
      let differ : not (eqb (c.registers q) (c.registers 0)) ≡ true = ap not (divisor ib r.null r.second ∙ e) in
      let g1 = plain image z tt (taken image z (fault_words 1) (div d p q ∷ []) lower (omega arith) differ g) in
      let result : divided (c.registers p) (c.registers q) ≡ word_of v =
      two divided (r.first ∙ int_word a ia) (r.second ∙ int_word b ib) ∙ (div_word (int_of a) (int_of b) (int_fits a ia) (int_fits b ib) e ∙ ap word_of (yielded (Int (int_wrap w64 (int_div (int_of a) (int_of b)))) v is)) in
      gives_by image z d 5 (word_of v) (omega arith) (omega arith) (keeps_result d c c (divided (c.registers p) (c.registers q)) r.takes (keeps_itself c))
      (written_here c d (divided (c.registers p) (c.registers q)) (λ same. result_apart d 0 refl r.takes (sym same)) ∙ result) g1

  div_faults : BinaryReady image k c binary.Div d p q a b → (t : Bool) → int_same (int_of b) (pos 0) ≡ t → (kind : Fault) → quotient_of t (int_of a) (int_of b) ≡ FaultsWith kind → EndsSo image z k c 5 (Faulted kind)
  div_faults r false e kind is = absurd (no_fault _ kind is)
  div_faults r true e kind is =
      let ib = r.suits.1 in
      let g = begin image z k c (division_words d p q) r.has in
      let equal : not (eqb (c.registers q) (c.registers 0)) ≡ false = ap not (divisor ib r.null r.second ∙ e) in
      let g1 = not_taken image z equal g in
      subst (λ x. EndsSo image z k c 5 (Faulted x)) (faulted fault.DivZero kind is) (faults_by image z 5 0 fault.DivZero (omega arith) (omega arith) (keeps_itself c) r.null refl g1)

pub binary_gives : BinaryWordsGive
binary_gives image z k c binary.Add d p q a b v r is = one_word image z k c register.Add d p q (Int (int_wrap w64 (int_of a +ℤ int_of b))) v r.takes r.has (two (λ x y. (x + y) % 2 ^ 64) (r.first ∙ int_word a r.suits.0) (r.second ∙ int_word b r.suits.1) ∙ add_word (int_of a) (int_of b) (int_fits a r.suits.0) (int_fits b r.suits.1)) is
binary_gives image z k c binary.Sub d p q a b v r is = one_word image z k c register.Sub d p q (Int (int_wrap w64 (int_of a -ℤ int_of b))) v r.takes r.has (two (λ x y. (x + (2 ^ 64 - y)) % 2 ^ 64) (r.first ∙ int_word a r.suits.0) (r.second ∙ int_word b r.suits.1) ∙ sub_word (int_of a) (int_of b) (int_fits a r.suits.0) (int_fits b r.suits.1)) is
binary_gives image z k c binary.Mul d p q a b v r is = one_word image z k c register.Mul d p q (Int (int_wrap w64 (int_of a *ℤ int_of b))) v r.takes r.has (two (λ x y. x * y % 2 ^ 64) (r.first ∙ int_word a r.suits.0) (r.second ∙ int_word b r.suits.1) ∙ mul_word (int_of a) (int_of b) (int_fits a r.suits.0) (int_fits b r.suits.1)) is
binary_gives image z k c binary.Div d p q a b v r is = div_gives image z k c d p q a b r (int_same (int_of b) (pos 0)) refl v is
binary_gives image z k c binary.Eq d p q a b v r is = test_word image z k c register.Sub d p q (Boolean (int_same (int_of a) (int_of b))) v r.takes r.has (same_is _ _ _ _ (r.first ∙ int_word a r.suits.0) (r.second ∙ int_word b r.suits.1) _ (same_word (int_of a) (int_of b) (int_fits a r.suits.0) (int_fits b r.suits.1))) is
binary_gives image z k c binary.Lt d p q a b v r is = one_word image z k c register.Slt d p q (Boolean (int_lt (int_of a) (int_of b))) v r.takes r.has (less_is _ _ _ _ (r.first ∙ int_word a r.suits.0) (r.second ∙ int_word b r.suits.1) _ (less_word (int_of a) (int_of b) (int_fits a r.suits.0) (int_fits b r.suits.1))) is
binary_gives image z k c binary.Gt d p q a b v r is = one_word image z k c register.Slt d q p (Boolean (int_lt (int_of b) (int_of a))) v r.takes r.has (less_is _ _ _ _ (r.second ∙ int_word b r.suits.1) (r.first ∙ int_word a r.suits.0) _ (less_word (int_of b) (int_of a) (int_fits b r.suits.1) (int_fits a r.suits.0))) is
binary_gives image z k c binary.Le d p q a b v r is = test_word image z k c register.Slt d q p (Boolean (int_le (int_of a) (int_of b))) v r.takes r.has (not_less_is _ _ _ _ (r.second ∙ int_word b r.suits.1) (r.first ∙ int_word a r.suits.0) _ _ (less_word (int_of b) (int_of a) (int_fits b r.suits.1) (int_fits a r.suits.0)) (not_less (int_of a) (int_of b))) is
binary_gives image z k c binary.Ge d p q a b v r is = test_word image z k c register.Slt d p q (Boolean (int_le (int_of b) (int_of a))) v r.takes r.has (not_less_is _ _ _ _ (r.first ∙ int_word a r.suits.0) (r.second ∙ int_word b r.suits.1) _ _ (less_word (int_of a) (int_of b) (int_fits a r.suits.0) (int_fits b r.suits.1)) (not_less (int_of b) (int_of a))) is
binary_gives image z k c binary.Ceq d p q a b v r is = test_word image z k c register.Sub d p q (Boolean (eqb (char_of a) (char_of b))) v r.takes r.has (same_is _ _ _ _ (r.first ∙ char_word a r.suits.0) (r.second ∙ char_word b r.suits.1) _ (same_chars (char_of a) (char_of b) (char_below a r.suits.0) (char_below b r.suits.1))) is
binary_gives image z k c binary.Clt d p q a b v r is = one_word image z k c register.Slt d p q (Boolean (ltb (char_of a) (char_of b))) v r.takes r.has (less_is _ _ _ _ (r.first ∙ char_word a r.suits.0) (r.second ∙ char_word b r.suits.1) _ (less_chars (char_of a) (char_of b) (char_below a r.suits.0) (char_below b r.suits.1))) is
binary_gives image z k c binary.Cgt d p q a b v r is = one_word image z k c register.Slt d q p (Boolean (ltb (char_of b) (char_of a))) v r.takes r.has (less_is _ _ _ _ (r.second ∙ char_word b r.suits.1) (r.first ∙ char_word a r.suits.0) _ (less_chars (char_of b) (char_of a) (char_below b r.suits.1) (char_below a r.suits.0))) is
binary_gives image z k c binary.Cle d p q a b v r is = test_word image z k c register.Slt d q p (Boolean (leb (char_of a) (char_of b))) v r.takes r.has (not_less_is _ _ _ _ (r.second ∙ char_word b r.suits.1) (r.first ∙ char_word a r.suits.0) _ _ (less_chars (char_of b) (char_of a) (char_below b r.suits.1) (char_below a r.suits.0)) (not_less_nat (char_of a) (char_of b))) is
binary_gives image z k c binary.Cge d p q a b v r is = test_word image z k c register.Slt d p q (Boolean (leb (char_of b) (char_of a))) v r.takes r.has (not_less_is _ _ _ _ (r.first ∙ char_word a r.suits.0) (r.second ∙ char_word b r.suits.1) _ _ (less_chars (char_of a) (char_of b) (char_below a r.suits.0) (char_below b r.suits.1)) (not_less_nat (char_of b) (char_of a))) is
binary_gives image z k c binary.And d p q a b v r is = one_word image z k c register.And d p q (Boolean (bool_of a && bool_of b)) v r.takes r.has (two bit_and (r.first ∙ bool_word a r.suits.0) (r.second ∙ bool_word b r.suits.1) ∙ and_word (bool_of a) (bool_of b)) is
binary_gives image z k c binary.Or d p q a b v r is = one_word image z k c register.Or d p q (Boolean (bool_of a || bool_of b)) v r.takes r.has (two bit_or (r.first ∙ bool_word a r.suits.0) (r.second ∙ bool_word b r.suits.1) ∙ or_word (bool_of a) (bool_of b)) is
binary_gives image z k c binary.PtrAdd d p q a b v r is = pointer_gives image z k c d p q a b v r is

pub binary_faults : BinaryWordsFault
binary_faults image z k c binary.Div d p q a b kind r is = div_faults image z k c d p q a b r (int_same (int_of b) (pos 0)) refl kind is
binary_faults image z k c binary.PtrAdd d p q a b kind r is = pointer_faults image z k c d p q a b kind r is
binary_faults image z k c binary.Add d p q a b kind r is = absurd (no_fault _ kind is)
binary_faults image z k c binary.Sub d p q a b kind r is = absurd (no_fault _ kind is)
binary_faults image z k c binary.Mul d p q a b kind r is = absurd (no_fault _ kind is)
binary_faults image z k c binary.Eq d p q a b kind r is = absurd (no_fault _ kind is)
binary_faults image z k c binary.Lt d p q a b kind r is = absurd (no_fault _ kind is)
binary_faults image z k c binary.Gt d p q a b kind r is = absurd (no_fault _ kind is)
binary_faults image z k c binary.Le d p q a b kind r is = absurd (no_fault _ kind is)
binary_faults image z k c binary.Ge d p q a b kind r is = absurd (no_fault _ kind is)
binary_faults image z k c binary.Ceq d p q a b kind r is = absurd (no_fault _ kind is)
binary_faults image z k c binary.Clt d p q a b kind r is = absurd (no_fault _ kind is)
binary_faults image z k c binary.Cgt d p q a b kind r is = absurd (no_fault _ kind is)
binary_faults image z k c binary.Cle d p q a b kind r is = absurd (no_fault _ kind is)
binary_faults image z k c binary.Cge d p q a b kind r is = absurd (no_fault _ kind is)
binary_faults image z k c binary.And d p q a b kind r is = absurd (no_fault _ kind is)
binary_faults image z k c binary.Or d p q a b kind r is = absurd (no_fault _ kind is)
