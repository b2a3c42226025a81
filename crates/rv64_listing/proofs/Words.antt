-- What operands and mnemonics tell, and what tells them: the tokens of a word are read as the word, and no others are.
use Rattle.std.proofs.Common.{◌≡◌, ℕ, ◌<◌, ◌^◌, List, [], ◌∷◌, ℤ, Some, refl, ap, subst, ◌∙◌}
use Rattle.std.proofs.lemmas.Option.{none-some, option_and_then_some, same_Some}
use Rattle.bril_nums.specs.Decimal.{IsInt, int_of}
use Rattle.bril_nums.proofs.IntText.{int_of-sound}
use Rattle.rv64_words.specs.declared.word.Word.{Word}
use Rattle.rv64_words.specs.declared.word.Word.TheVariants as word
use Rattle.rv64_words.specs.Encoding.{IsWord}
use Rattle.rv64_listing.specs.declared.form.Form.{Form}
use Rattle.rv64_listing.specs.declared.form.Form.TheVariants.{Lui, Jal, Jalr, Branch, Ld, Sd, OpImm, ShiftImm, Op, Ecall}
use Rattle.rv64_listing.specs.Table.{form_of, operands_of, Operands, Nothing, Short, Long, At, Three}
use Rattle.rv64_listing.specs.Line.{register_text, hex_text, operand_pieces}
use Rattle.rv64_listing.specs.Tokens.{Token, Space, CommaT, OpenT, CloseT, Run}
use Rattle.rv64_listing.specs.Reading.{behind_space, behind_comma, behind_open, behind_close, run_in, ended, register_told, bits_told, natural_told, within_told, even_told, register_in, number_in, first_in, next_in, next_number_in, base_in, short_in, long_in, at_in, three_in, word_in, bits_in}
use Rattle.rv64_listing.proofs.Cut.{TokensAre}
use Rattle.rv64_listing.proofs.Fields.{register_told_is, register_again, bits_told_is, bits_again, natural_is, immediate_is, branch_is, jump_is}

-- ---- tokens

space_is : (ts us : List Token) → behind_space ts ≡ Some us → ts ≡ Space ∷ us
space_is [] us e = absurd (none-some us e)
space_is (Space ∷ ts) us e = ap (λ x. Space ∷ x) (same_Some ts us e)
space_is (CommaT ∷ ts) us e = absurd (none-some us e)
space_is (OpenT ∷ ts) us e = absurd (none-some us e)
space_is (CloseT ∷ ts) us e = absurd (none-some us e)
space_is (Run r ∷ ts) us e = absurd (none-some us e)

comma_is : (ts us : List Token) → behind_comma ts ≡ Some us → ts ≡ CommaT ∷ us
comma_is [] us e = absurd (none-some us e)
comma_is (Space ∷ ts) us e = absurd (none-some us e)
comma_is (CommaT ∷ ts) us e = ap (λ x. CommaT ∷ x) (same_Some ts us e)
comma_is (OpenT ∷ ts) us e = absurd (none-some us e)
comma_is (CloseT ∷ ts) us e = absurd (none-some us e)
comma_is (Run r ∷ ts) us e = absurd (none-some us e)

open_is : (ts us : List Token) → behind_open ts ≡ Some us → ts ≡ OpenT ∷ us
open_is [] us e = absurd (none-some us e)
open_is (Space ∷ ts) us e = absurd (none-some us e)
open_is (CommaT ∷ ts) us e = absurd (none-some us e)
open_is (OpenT ∷ ts) us e = ap (λ x. OpenT ∷ x) (same_Some ts us e)
open_is (CloseT ∷ ts) us e = absurd (none-some us e)
open_is (Run r ∷ ts) us e = absurd (none-some us e)

close_is : (ts us : List Token) → behind_close ts ≡ Some us → ts ≡ CloseT ∷ us
close_is [] us e = absurd (none-some us e)
close_is (Space ∷ ts) us e = absurd (none-some us e)
close_is (CommaT ∷ ts) us e = absurd (none-some us e)
close_is (OpenT ∷ ts) us e = absurd (none-some us e)
close_is (CloseT ∷ ts) us e = ap (λ x. CloseT ∷ x) (same_Some ts us e)
close_is (Run r ∷ ts) us e = absurd (none-some us e)

run_is : (ts : List Token) (p : List ℕ × List Token) → run_in ts ≡ Some p → ts ≡ Run p.0 ∷ p.1
run_is [] p e = absurd (none-some p e)
run_is (Space ∷ ts) p e = absurd (none-some p e)
run_is (CommaT ∷ ts) p e = absurd (none-some p e)
run_is (OpenT ∷ ts) p e = absurd (none-some p e)
run_is (CloseT ∷ ts) p e = absurd (none-some p e)
run_is (Run r ∷ ts) p e = ap (λ (q : List ℕ × List Token). Run q.0 ∷ q.1) (same_Some (r, ts) p e)

end_is : {A : Type 0} (x y : A) (ts : List Token) → ended x ts ≡ Some y → (ts ≡ []) × (x ≡ y)
end_is x y [] e = (refl, same_Some x y e)
end_is x y (t ∷ ts) e = absurd (none-some y e)

-- ---- the tokens of operands

abbrev pub short_list : ℕ → List ℕ → List Token
short_list r text = Space ∷ Run (register_text r) ∷ CommaT ∷ Space ∷ Run text ∷ []

abbrev pub long_list : ℕ → ℕ → List ℕ → List Token
long_list r s text = Space ∷ Run (register_text r) ∷ CommaT ∷ Space ∷ Run (register_text s) ∷ CommaT ∷ Space ∷ Run text ∷ []

abbrev pub at_list : ℕ → List ℕ → ℕ → List Token
at_list r text s = Space ∷ Run (register_text r) ∷ CommaT ∷ Space ∷ Run text ∷ OpenT ∷ Run (register_text s) ∷ CloseT ∷ []

abbrev pub three_list : ℕ → ℕ → ℕ → List Token
three_list r s t = long_list r s (register_text t)

abbrev pub Flat : Operands → List Token → Type 0
Flat Nothing ts = ts ≡ []
Flat (Short r n) ts = (text : List ℕ) × (ts ≡ short_list r text) × IsInt text n
Flat (Long r s n) ts = (text : List ℕ) × (ts ≡ long_list r s text) × IsInt text n
Flat (At r n s) ts = (text : List ℕ) × (ts ≡ at_list r text s) × IsInt text n
Flat (Three r s t) ts = ts ≡ three_list r s t

pub flat : (o : Operands) (ts : List Token) → TokensAre (operand_pieces o) ts → Flat o ts
flat Nothing ts h = h
flat (Short r n) ts h = let a = h.1 in let b = h.2.1 in let c = h.2.2.1 in let d = h.2.2.2.1 in let e = h.2.2.2.2.2 in let f = h.2.2.2.2.4 in (h.2.2.2.2.0, (cc), h.2.2.2.2.3)
flat (Long r s n) ts h =
    let a = h.1 in let b = h.2.1 in let c = h.2.2.1 in let d = h.2.2.2.1 in let e = h.2.2.2.2.1 in let f = h.2.2.2.2.2.1 in let g = h.2.2.2.2.2.2.1 in let i = h.2.2.2.2.2.2.2.2 in let j = h.2.2.2.2.2.2.2.4 in
    (h.2.2.2.2.2.2.2.0, (cc), h.2.2.2.2.2.2.2.3)
flat (At r n s) ts h =
    let a = h.1 in let b = h.2.1 in let c = h.2.2.1 in let d = h.2.2.2.1 in let e = h.2.2.2.2.2 in let f = h.2.2.2.2.4.1 in let g = h.2.2.2.2.4.2.1 in let i = h.2.2.2.2.4.2.2.1 in let j = h.2.2.2.2.4.2.2.2 in
    (h.2.2.2.2.0, (cc), h.2.2.2.2.3)
flat (Three r s t) ts h =
    let a = h.1 in let b = h.2.1 in let c = h.2.2.1 in let d = h.2.2.2.1 in let e = h.2.2.2.2.1 in let f = h.2.2.2.2.2.1 in let g = h.2.2.2.2.2.2.1 in let i = h.2.2.2.2.2.2.2.1 in let j = h.2.2.2.2.2.2.2.2 in cc

-- ---- what is read is there

abbrev IsRegisterIn : List Token → ℕ × List Token → Type 0
IsRegisterIn ts p = (ts ≡ Run (register_text p.0) ∷ p.1) × (p.0 < 32)

register_there : (ts : List Token) (p : ℕ × List Token) → register_in ts ≡ Some p → IsRegisterIn ts p
register_there ts p e = option_and_then_some _ (run_in ts) p e (λ run is e1. option_and_then_some _ (register_told run.0) p e1 (λ r told e2.
    let t = run_is ts run is in let q = register_told_is run.0 r told in
    subst (IsRegisterIn ts) (same_Some (r, run.1) p e2) (t ∙ ap (λ x. Run x ∷ run.1) q.0, q.1)))

abbrev IsFirstIn : List Token → ℕ × List Token → Type 0
IsFirstIn ts p = (ts ≡ Space ∷ Run (register_text p.0) ∷ p.1) × (p.0 < 32)

first_there : (ts : List Token) (p : ℕ × List Token) → first_in ts ≡ Some p → IsFirstIn ts p
unfolding first_in
first_there ts p e = option_and_then_some _ (behind_space ts) p e (λ us is e1.
    let q = register_there us p e1 in (space_is ts us is ∙ ap (λ x. Space ∷ x) q.0, q.1))

abbrev IsNextIn : List Token → ℕ × List Token → Type 0
IsNextIn ts p = (ts ≡ CommaT ∷ Space ∷ Run (register_text p.0) ∷ p.1) × (p.0 < 32)

next_there : (ts : List Token) (p : ℕ × List Token) → next_in ts ≡ Some p → IsNextIn ts p
unfolding next_in
next_there ts p e = option_and_then_some _ (behind_comma ts) p e (λ us is e1.
    let q = first_there us p e1 in (comma_is ts us is ∙ ap (λ x. CommaT ∷ x) q.0, q.1))

abbrev IsNumberIn : List Token → ℤ × List Token → Type 0
IsNumberIn ts p = (text : List ℕ) × (ts ≡ Run text ∷ p.1) × IsInt text p.0

number_there : (ts : List Token) (p : ℤ × List Token) → number_in ts ≡ Some p → IsNumberIn ts p
number_there ts p e = option_and_then_some _ (run_in ts) p e (λ run is e1. option_and_then_some _ (int_of run.0) p e1 (λ n told e2.
    subst (IsNumberIn ts) (same_Some (n, run.1) p e2) (run.0, run_is ts run is, (int_of-sound run.0 n told).0)))

abbrev IsNextNumberIn : List Token → ℤ × List Token → Type 0
IsNextNumberIn ts p = (text : List ℕ) × (ts ≡ CommaT ∷ Space ∷ Run text ∷ p.1) × IsInt text p.0

next_number_there : (ts : List Token) (p : ℤ × List Token) → next_number_in ts ≡ Some p → IsNextNumberIn ts p
unfolding next_number_in
next_number_there ts p e = option_and_then_some _ (behind_comma ts) p e (λ us is e1. option_and_then_some _ (behind_space us) p e1 (λ vs is2 e2.
    let q = number_there vs p e2 in
    (q.0, comma_is ts us is ∙ ap (λ x. CommaT ∷ x) (space_is us vs is2 ∙ ap (λ x. Space ∷ x) q.1), q.2)))

abbrev IsBaseIn : List Token → ℕ × List Token → Type 0
IsBaseIn ts p = (ts ≡ OpenT ∷ Run (register_text p.0) ∷ CloseT ∷ p.1) × (p.0 < 32)

base_there : (ts : List Token) (p : ℕ × List Token) → base_in ts ≡ Some p → IsBaseIn ts p
unfolding base_in
base_there ts p e = option_and_then_some _ (behind_open ts) p e (λ us is e1. option_and_then_some _ (register_in us) p e1 (λ r there e2. option_and_then_some _ (behind_close r.1) p e2 (λ vs is3 e3.
    let q = register_there us r there in
    subst (IsBaseIn ts) (same_Some (r.0, vs) p e3)
    (open_is ts us is ∙ ap (λ x. OpenT ∷ x) (q.0 ∙ ap (λ x. Run (register_text r.0) ∷ x) (close_is r.1 vs is3)), q.1))))

abbrev IsShortIn : List Token → ℕ × ℤ → Type 0
IsShortIn ts o = TokensAre (operand_pieces (Short o.0 o.1)) ts × (o.0 < 32)

short_there : (ts : List Token) (o : ℕ × ℤ) → short_in ts ≡ Some o → IsShortIn ts o
unfolding short_in
short_there ts o e = option_and_then_some _ (first_in ts) o e (λ r there e1. option_and_then_some _ (next_number_in r.1) o e1 (λ n there2 e2.
    let a = first_there ts r there in let b = next_number_there r.1 n there2 in
    let z = end_is (r.0, n.0) o n.1 e2 in
    subst (IsShortIn ts) z.1
    ((_, a.0, (_, refl, (_, b.1, (_, refl, (b.0, _, refl, b.2, z.0))))), a.1)))

abbrev IsLongIn : List Token → ℕ × ℕ × ℤ → Type 0
IsLongIn ts o = TokensAre (operand_pieces (Long o.0 o.1 o.2)) ts × (o.0 < 32) × (o.1 < 32)

long_there : (ts : List Token) (o : ℕ × ℕ × ℤ) → long_in ts ≡ Some o → IsLongIn ts o
unfolding long_in
long_there ts o e = option_and_then_some _ (first_in ts) o e (λ r there e1. option_and_then_some _ (next_in r.1) o e1 (λ s there2 e2. option_and_then_some _ (next_number_in s.1) o e2 (λ n there3 e3.
    let a = first_there ts r there in let b = next_there r.1 s there2 in let c = next_number_there s.1 n there3 in
    let z = end_is (r.0, s.0, n.0) o n.1 e3 in
    subst (IsLongIn ts) z.1
    ((_, a.0, (_, refl, (_, b.0, (_, refl, (_, refl, (_, c.1, (_, refl, (c.0, _, refl, c.2, z.0)))))))), a.1, b.1))))

abbrev IsAtIn : List Token → ℕ × ℤ × ℕ → Type 0
IsAtIn ts o = TokensAre (operand_pieces (At o.0 o.1 o.2)) ts × (o.0 < 32) × (o.2 < 32)

at_there : (ts : List Token) (o : ℕ × ℤ × ℕ) → at_in ts ≡ Some o → IsAtIn ts o
unfolding at_in
at_there ts o e = option_and_then_some _ (first_in ts) o e (λ r there e1. option_and_then_some _ (next_number_in r.1) o e1 (λ n there2 e2. option_and_then_some _ (base_in n.1) o e2 (λ s there3 e3.
    let a = first_there ts r there in let b = next_number_there r.1 n there2 in let c = base_there n.1 s there3 in
    let z = end_is (r.0, n.0, s.0) o s.1 e3 in
    subst (IsAtIn ts) z.1
    ((_, a.0, (_, refl, (_, b.1, (_, refl, (b.0, _, refl, b.2, (_, c.0, (_, refl, (_, refl, z.0)))))))), a.1, c.1))))

abbrev IsThreeIn : List Token → ℕ × ℕ × ℕ → Type 0
IsThreeIn ts o = TokensAre (operand_pieces (Three o.0 o.1 o.2)) ts × (o.0 < 32) × (o.1 < 32) × (o.2 < 32)

three_there : (ts : List Token) (o : ℕ × ℕ × ℕ) → three_in ts ≡ Some o → IsThreeIn ts o
unfolding three_in
three_there ts o e = option_and_then_some _ (first_in ts) o e (λ r there e1. option_and_then_some _ (next_in r.1) o e1 (λ s there2 e2. option_and_then_some _ (next_in s.1) o e2 (λ t there3 e3.
    let a = first_there ts r there in let b = next_there r.1 s there2 in let c = next_there s.1 t there3 in
    let z = end_is (r.0, s.0, t.0) o t.1 e3 in
    subst (IsThreeIn ts) z.1
    ((_, a.0, (_, refl, (_, b.0, (_, refl, (_, refl, (_, c.0, (_, refl, (_, refl, z.0)))))))), a.1, b.1, c.1))))

-- the tokens are those of a word of this form
pub record Reads (f : Form) (ts : List Token) (w : Word) : Type 0 where
  pub form : form_of w ≡ f
  pub ranged : IsWord w
  pub operands : TokensAre (operand_pieces (operands_of w)) ts

pub word_there : (f : Form) (ts : List Token) (w : Word) → word_in f ts ≡ Some w → Reads f ts w
word_there Lui ts w e = option_and_then_some _ (short_in ts) w e (λ o there e1. option_and_then_some _ (natural_told (2 ^ 20) o.1) w e1 (λ u told e2.
    let s = short_there ts o there in let n = natural_is (2 ^ 20) o.1 u told in
    subst (Reads Lui ts) (same_Some (word.Lui o.0 u) w e2)
    (record { form = refl; ranged = (s.1, n.1); operands = subst (λ z. TokensAre (operand_pieces (Short o.0 z)) ts) n.0 s.0 })))
word_there Jal ts w e = option_and_then_some _ (short_in ts) w e (λ o there e1. option_and_then_some _ (even_told 1048576 o.1) w e1 (λ d told e2.
    let s = short_there ts o there in let n = jump_is o.1 d told in
    subst (Reads Jal ts) (same_Some (word.Jal o.0 d) w e2)
    (record { form = refl; ranged = (s.1, n.1); operands = subst (λ z. TokensAre (operand_pieces (Short o.0 z)) ts) n.0 s.0 })))
word_there Jalr ts w e = option_and_then_some _ (long_in ts) w e (λ o there e1. option_and_then_some _ (within_told 2048 o.2) w e1 (λ i told e2.
    let s = long_there ts o there in let n = immediate_is o.2 i told in
    subst (Reads Jalr ts) (same_Some (word.Jalr o.0 o.1 i) w e2)
    (record { form = refl; ranged = (s.1, s.2, n.1); operands = subst (λ z. TokensAre (operand_pieces (Long o.0 o.1 z)) ts) n.0 s.0 })))
word_there (Branch c) ts w e = option_and_then_some _ (long_in ts) w e (λ o there e1. option_and_then_some _ (even_told 4096 o.2) w e1 (λ d told e2.
    let s = long_there ts o there in let n = branch_is o.2 d told in
    subst (Reads (Branch c) ts) (same_Some (word.Branch c o.0 o.1 d) w e2)
    (record { form = refl; ranged = (s.1, s.2, n.1); operands = subst (λ z. TokensAre (operand_pieces (Long o.0 o.1 z)) ts) n.0 s.0 })))
word_there Ld ts w e = option_and_then_some _ (at_in ts) w e (λ o there e1. option_and_then_some _ (within_told 2048 o.1) w e1 (λ i told e2.
    let s = at_there ts o there in let n = immediate_is o.1 i told in
    subst (Reads Ld ts) (same_Some (word.Ld o.0 o.2 i) w e2)
    (record { form = refl; ranged = (s.1, s.2, n.1); operands = subst (λ z. TokensAre (operand_pieces (At o.0 z o.2)) ts) n.0 s.0 })))
word_there Sd ts w e = option_and_then_some _ (at_in ts) w e (λ o there e1. option_and_then_some _ (within_told 2048 o.1) w e1 (λ i told e2.
    let s = at_there ts o there in let n = immediate_is o.1 i told in
    subst (Reads Sd ts) (same_Some (word.Sd o.2 o.0 i) w e2)
    (record { form = refl; ranged = (s.2, s.1, n.1); operands = subst (λ z. TokensAre (operand_pieces (At o.0 z o.2)) ts) n.0 s.0 })))
word_there (OpImm op) ts w e = option_and_then_some _ (long_in ts) w e (λ o there e1. option_and_then_some _ (within_told 2048 o.2) w e1 (λ i told e2.
    let s = long_there ts o there in let n = immediate_is o.2 i told in
    subst (Reads (OpImm op) ts) (same_Some (word.OpImm op o.0 o.1 i) w e2)
    (record { form = refl; ranged = (s.1, s.2, n.1); operands = subst (λ z. TokensAre (operand_pieces (Long o.0 o.1 z)) ts) n.0 s.0 })))
word_there (ShiftImm op) ts w e = option_and_then_some _ (long_in ts) w e (λ o there e1. option_and_then_some _ (natural_told 64 o.2) w e1 (λ u told e2.
    let s = long_there ts o there in let n = natural_is 64 o.2 u told in
    subst (Reads (ShiftImm op) ts) (same_Some (word.ShiftImm op o.0 o.1 u) w e2)
    (record { form = refl; ranged = (s.1, s.2, n.1); operands = subst (λ z. TokensAre (operand_pieces (Long o.0 o.1 z)) ts) n.0 s.0 })))
word_there (Op op) ts w e = option_and_then_some _ (three_in ts) w e (λ o there e1.
    let s = three_there ts o there in
    subst (Reads (Op op) ts) (same_Some (word.Op op o.0 o.1 o.2) w e1)
    (record { form = refl; ranged = (s.1, s.2, s.3); operands = s.0 }))
word_there Ecall ts w e =
    let z = end_is word.Ecall w ts e in
    subst (Reads Ecall ts) z.1 (record { form = refl; ranged = tt; operands = z.0 })

-- the digits of these bits stand behind a blank, and nothing else
abbrev pub bits_list : ℕ → List Token
bits_list bits = Space ∷ Run (hex_text bits) ∷ []

pub bits_there : (ts : List Token) (bits : ℕ) → bits_in ts ≡ Some bits → (ts ≡ bits_list bits) × (bits < 2 ^ 32)
unfolding bits_in
bits_there ts bits e = option_and_then_some _ (behind_space ts) bits e (λ us is e1. option_and_then_some _ (run_in us) bits e1 (λ run is2 e2. option_and_then_some _ (bits_told run.0) bits e2 (λ b told e3.
    let z = end_is b bits run.1 e3 in let d = bits_told_is run.0 b told in
    subst (λ x. (ts ≡ bits_list x) × (x < 2 ^ 32)) z.1
    (space_is ts us is ∙ ap (λ x. Space ∷ x) (run_is us run is2 ∙ (ap (λ x. Run run.0 ∷ x) z.0 ∙ ap (λ x. Run x ∷ []) d.0)), d.1))))

-- ---- what is there is read

first_again : (r : ℕ) (ts : List Token) → r < 32 → first_in (Space ∷ Run (register_text r) ∷ ts) ≡ Some (r, ts)
unfolding first_in
first_again r ts h = rw (register_again r h) refl

next_again : (r : ℕ) (ts : List Token) → r < 32 → next_in (CommaT ∷ Space ∷ Run (register_text r) ∷ ts) ≡ Some (r, ts)
unfolding next_in
next_again r ts h = first_again r ts h

next_number_again : (text : List ℕ) (n : ℤ) (ts : List Token) → int_of text ≡ Some n → next_number_in (CommaT ∷ Space ∷ Run text ∷ ts) ≡ Some (n, ts)
unfolding next_number_in
next_number_again text n ts e = rw e refl

base_again : (r : ℕ) (ts : List Token) → r < 32 → base_in (OpenT ∷ Run (register_text r) ∷ CloseT ∷ ts) ≡ Some (r, ts)
unfolding base_in
base_again r ts h = rw (register_again r h) refl

pub short_again : (r : ℕ) (text : List ℕ) (n : ℤ) → r < 32 → int_of text ≡ Some n → short_in (short_list r text) ≡ Some (r, n)
unfolding short_in
short_again r text n h e = rw (first_again r (CommaT ∷ Space ∷ Run text ∷ []) h, next_number_again text n [] e) refl

pub long_again : (r s : ℕ) (text : List ℕ) (n : ℤ) → r < 32 → s < 32 → int_of text ≡ Some n → long_in (long_list r s text) ≡ Some (r, s, n)
unfolding long_in
long_again r s text n h k e =
    rw (first_again r (CommaT ∷ Space ∷ Run (register_text s) ∷ CommaT ∷ Space ∷ Run text ∷ []) h, next_again s (CommaT ∷ Space ∷ Run text ∷ []) k, next_number_again text n [] e) refl

pub at_again : (r s : ℕ) (text : List ℕ) (n : ℤ) → r < 32 → s < 32 → int_of text ≡ Some n → at_in (at_list r text s) ≡ Some (r, n, s)
unfolding at_in
at_again r s text n h k e =
    rw (first_again r (CommaT ∷ Space ∷ Run text ∷ OpenT ∷ Run (register_text s) ∷ CloseT ∷ []) h, next_number_again text n (OpenT ∷ Run (register_text s) ∷ CloseT ∷ []) e, base_again s [] k) refl

pub three_again : (r s t : ℕ) → r < 32 → s < 32 → t < 32 → three_in (three_list r s t) ≡ Some (r, s, t)
unfolding three_in
three_again r s t h k l =
    rw (first_again r (CommaT ∷ Space ∷ Run (register_text s) ∷ CommaT ∷ Space ∷ Run (register_text t) ∷ []) h, next_again s (CommaT ∷ Space ∷ Run (register_text t) ∷ []) k, next_again t [] l) refl

pub bits_in_again : (bits : ℕ) → bits < 2 ^ 32 → bits_in (bits_list bits) ≡ Some bits
unfolding bits_in
bits_in_again bits h = rw (bits_again bits h) refl
