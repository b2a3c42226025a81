-- Registers, digits and ranges: what is told is what is spelled.
use Rattle.std.proofs.Common.{◌≡◌, ◌≢◌, ℕ, zero, suc, ◌+◌, ◌*◌, ◌/◌, ◌%◌, ◌-◌, ◌^◌, ◌<◌, ◌≤◌, Bool, true, false, cond, ◌&&◌, eqb, List, [], ◌∷◌, length, drop, get_or, ℤ, pos, negsuc, neg_ℤ, ◌≤ℤ◌, ◌<ℤ◌, nat_le, nat_lt, bytes_eq, Some, None, refl, sym, ap, subst, ◌∙◌, ⊎_elim, arith}
use native.Mathlib.Numerals.{unary_clauses}
use Rattle.std.proofs.lemmas.Int.{ints}
use Rattle.std.proofs.lemmas.Bool.{cases_lt, lt-ltb, le-ltb, eq-eqb, ne_eqb, eqb-true}
use Rattle.std.proofs.lemmas.List.{drop_more, drop_all}
use Rattle.std.proofs.lemmas.Bool.Decides.{nat_tests}
use Rattle.std.proofs.lemmas.Option.{cond_some, none-some, option_and_then_some, same_Some}
use Rattle.std.proofs.lemmas.Slice.Eq.{bytes_eq-Decides}
use Rattle.rv64_words.specs.Fields.{IsImmediate, IsBranchOffset, IsJumpOffset, bits_13, bits_21}
use Rattle.rv64_words.specs.Hexadecimal.{hex_digit}
use Rattle.rv64_listing.specs.Line.{register_text, hex_text}
use Rattle.rv64_listing.specs.Reading.{◌>>=◌, register_from, register_told, digit_told, number_told, bits_told, natural_told, is_within, is_even, within_told, even_told}
use Rattle.rv64_listing.proofs.Cut.{both_true}
use Rattle.rv64_listing.proofs.Names.{register_same}

-- ---- registers

register_is : (n r : ℕ) (text : List ℕ) (x : ℕ) → register_from n r text ≡ Some x → (text ≡ register_text x) × (x < n + r)
register_is zero r text x e = absurd (none-some x e)
register_is (suc n) r text x e = by (bytes_eq text (register_text r)) refl e (register_is n (suc r) text x)
  where
    by : (b : Bool) → bytes_eq text (register_text r) ≡ b → cond b (Some r) (register_from n (suc r) text) ≡ Some x → (register_from n (suc r) text ≡ Some x → (text ≡ register_text x) × (x < n + suc r)) → (text ≡ register_text x) × (x < suc n + r)
    by true same e more = let k : r ≡ x = same_Some r x e in ((bytes_eq-Decides text (register_text r)).0 same ∙ ap register_text k, omega arith)
    by false same e more = let h = more e in let l = h.1 in (h.0, omega arith)

pub register_told_is : (text : List ℕ) (x : ℕ) → register_told text ≡ Some x → (text ≡ register_text x) × (x < 32)
unfolding register_told
register_told_is text x e = let h = register_is 32 0 text x e in let l = h.1 in (h.0, omega arith)

register_found : (n r x : ℕ) → r ≤ x → x < n + r → register_from n r (register_text x) ≡ Some x
register_found zero r x low high = absurd (omega arith)
register_found (suc n) r x low high = by (bytes_eq (register_text x) (register_text r)) refl (register_found n (suc r) x)
  where
    by : (b : Bool) → bytes_eq (register_text x) (register_text r) ≡ b → (suc r ≤ x → x < n + suc r → register_from n (suc r) (register_text x) ≡ Some x) → cond b (Some r) (register_from n (suc r) (register_text x)) ≡ Some x
    by true same more = ap Some (sym (register_same x r ((bytes_eq-Decides (register_text x) (register_text r)).0 same)))
    by false same more =
        let n_is : x ≢ r = λ e. (let k : true ≡ false = sym ((bytes_eq-Decides (register_text x) (register_text r)).1 (ap register_text e)) ∙ same in cc) in
        more (omega arith) (omega arith)

pub register_again : (r : ℕ) → r < 32 → register_told (register_text r) ≡ Some r
unfolding register_told
register_again r h = register_found 32 0 r (omega arith) (omega arith)

-- ---- hexadecimal digits

digit_is : (c d : ℕ) → digit_told c ≡ Some d → (c ≡ hex_digit d) × (d < 16)
unfolding digit_told
digit_is c d e = by (nat_le 48 c && nat_lt c 58) (nat_le 97 c && nat_lt c 103) refl refl e
  where
    by : (a b : Bool) → (nat_le 48 c && nat_lt c 58) ≡ a → (nat_le 97 c && nat_lt c 103) ≡ b → cond a (Some (c - 48)) (cond b (Some (c - 87)) None) ≡ Some d → (c ≡ hex_digit d) × (d < 16)
    by true b a_is b_is e =
        let p = both_true (nat_le 48 c) (nat_lt c 58) a_is in
        let low : 48 ≤ c = grind (arith, nat_tests, p.0) in let high : c < 58 = grind (arith, nat_tests, p.1) in
        let k : c - 48 ≡ d = same_Some (c - 48) d e in
        let small : d < 10 = omega arith in
        ((let g : c ≡ 48 + d = omega arith in g) ∙ sym (let h : hex_digit d ≡ 48 + d = rw (lt-ltb d 10 small) refl in h), omega arith)
    by false true a_is b_is e =
        let p = both_true (nat_le 97 c) (nat_lt c 103) b_is in
        let low : 97 ≤ c = grind (arith, nat_tests, p.0) in let high : c < 103 = grind (arith, nat_tests, p.1) in
        let k : c - 87 ≡ d = same_Some (c - 87) d e in
        let large : 10 ≤ d = omega arith in
        ((let g : c ≡ 87 + d = omega arith in g) ∙ sym (let h : hex_digit d ≡ 87 + d = rw (le-ltb d 10 large) refl in h), omega arith)
    by false false a_is b_is e = absurd (none-some d e)

le_test : (a b : ℕ) → a ≤ b → nat_le a b ≡ true
le_test a b h = grind (arith, nat_tests)

pub digit_again : (d : ℕ) → d < 16 → digit_told (hex_digit d) ≡ Some d
unfolding digit_told
digit_again d h = ⊎_elim
    (λ a. let e : hex_digit d ≡ 48 + d = rw (lt-ltb d 10 a) refl in
    ap digit_told e ∙ rw (le_test 48 (48 + d) (omega arith), lt-ltb (48 + d) 58 (omega arith)) (ap Some (let g : 48 + d - 48 ≡ d = omega arith in g)))
    (λ a. let e : hex_digit d ≡ 87 + d = rw (le-ltb d 10 a) refl in
    ap digit_told e ∙ rw (le_test 48 (87 + d) (omega arith), le-ltb (87 + d) 58 (omega arith), le_test 97 (87 + d) (omega arith), lt-ltb (87 + d) 103 (omega arith)) (ap Some (let g : 87 + d - 87 ≡ d = omega arith in g)))
    (cases_lt d 10)

record Digit (n bits : ℕ) (text : List ℕ) (all : ℕ) : Type 0 where
  digit : ℕ
  rest : List ℕ
  low : digit < 16
  is : text ≡ hex_digit digit ∷ rest
  short : length rest ≡ n
  more : number_told (16 * bits + digit) rest ≡ Some all

next_digit : (n bits : ℕ) (text : List ℕ) (all : ℕ) → length text ≡ suc n → number_told bits text ≡ Some all → Digit n bits text all
next_digit n bits [] all l e = absurd (let k : 0 ≡ suc n = l in omega arith)
next_digit n bits (c ∷ cs) all l e = option_and_then_some (λ d. number_told (16 * bits + d) cs) (digit_told c) all e (λ d told more.
    let h = digit_is c d told in
    record { digit = d; rest = cs; low = h.1; is = ap (λ x. x ∷ cs) h.0; short = (let k : suc (length cs) ≡ suc n = l in omega arith); more = more })

no_more : (bits : ℕ) (text : List ℕ) (all : ℕ) → length text ≡ 0 → number_told bits text ≡ Some all → (text ≡ []) × (bits ≡ all)
no_more bits [] all l e = (refl, same_Some bits all e)
no_more bits (c ∷ cs) all l e = absurd (let k : suc (length cs) ≡ 0 = l in omega arith)

eight : (a b c d e f g h all : ℕ) → a < 16 → b < 16 → c < 16 → d < 16 → e < 16 → f < 16 → g < 16 → h < 16
    → 16 * (16 * (16 * (16 * (16 * (16 * (16 * (16 * 0 + a) + b) + c) + d) + e) + f) + g) + h ≡ all
    → (all < 2 ^ 32) × (hex_digit a ∷ hex_digit b ∷ hex_digit c ∷ hex_digit d ∷ hex_digit e ∷ hex_digit f ∷ hex_digit g ∷ hex_digit h ∷ [] ≡ hex_text all)
eight a b c d e f g h all ha hb hc hd he hf hg hh is =
    let x1 : a ≡ all / 2 ^ 28 % 16 = omega arith in
    let x2 : b ≡ all / 2 ^ 24 % 16 = omega arith in
    let x3 : c ≡ all / 2 ^ 20 % 16 = omega arith in
    let x4 : d ≡ all / 2 ^ 16 % 16 = omega arith in
    let x5 : e ≡ all / 2 ^ 12 % 16 = omega arith in
    let x6 : f ≡ all / 2 ^ 8 % 16 = omega arith in
    let x7 : g ≡ all / 2 ^ 4 % 16 = omega arith in
    let x8 : h ≡ all % 16 = omega arith in
    (omega arith, rw (x1, x2, x3, x4, x5, x6, x7, x8) refl)

pub bits_told_is : (text : List ℕ) (all : ℕ) → bits_told text ≡ Some all → (text ≡ hex_text all) × (all < 2 ^ 32)
unfolding bits_told
bits_told_is text all e = by (eqb (length text) 8) refl e
  where
    by : (t : Bool) → eqb (length text) 8 ≡ t → cond t (number_told 0 text) None ≡ Some all → (text ≡ hex_text all) × (all < 2 ^ 32)
    by false t_is e = absurd (none-some all e)
    by true t_is e =
        let a = next_digit 7 0 text all (eqb-true (length text) 8 t_is) e in
        let b = next_digit 6 _ a.rest all a.short a.more in
        let c = next_digit 5 _ b.rest all b.short b.more in
        let d = next_digit 4 _ c.rest all c.short c.more in
        let f = next_digit 3 _ d.rest all d.short d.more in
        let g = next_digit 2 _ f.rest all f.short f.more in
        let h = next_digit 1 _ g.rest all g.short g.more in
        let i = next_digit 0 _ h.rest all h.short h.more in
        let z = no_more _ i.rest all i.short i.more in
        let x = eight a.digit b.digit c.digit d.digit f.digit g.digit h.digit i.digit all a.low b.low c.low d.low f.low g.low h.low i.low z.1 in
        let text_is : text ≡ hex_digit a.digit ∷ hex_digit b.digit ∷ hex_digit c.digit ∷ hex_digit d.digit ∷ hex_digit f.digit ∷ hex_digit g.digit ∷ hex_digit h.digit ∷ hex_digit i.digit ∷ [] =
        a.is ∙ ap (λ y. hex_digit a.digit ∷ y) (b.is ∙ ap (λ y. hex_digit b.digit ∷ y) (c.is ∙ ap (λ y. hex_digit c.digit ∷ y) (d.is ∙ ap (λ y. hex_digit d.digit ∷ y) (f.is ∙ ap (λ y. hex_digit f.digit ∷ y) (g.is ∙ ap (λ y. hex_digit g.digit ∷ y) (h.is ∙ ap (λ y. hex_digit h.digit ∷ y) (i.is ∙ ap (λ y. hex_digit i.digit ∷ y) z.0))))))) in
        (text_is ∙ x.1, x.0)

low_digit : (n : ℕ) → n % 16 < 16
low_digit n = omega arith

digits_sum : (w : ℕ) → w < 2 ^ 32
    → 16 * (16 * (16 * (16 * (16 * (16 * (16 * (16 * 0 + w / 2 ^ 28 % 16) + w / 2 ^ 24 % 16) + w / 2 ^ 20 % 16) + w / 2 ^ 16 % 16) + w / 2 ^ 12 % 16) + w / 2 ^ 8 % 16) + w / 2 ^ 4 % 16) + w % 16 ≡ w
digits_sum w h = omega arith

digit_step : (bits d : ℕ) (cs : List ℕ) → d < 16 → number_told bits (hex_digit d ∷ cs) ≡ number_told (16 * bits + d) cs
digit_step bits d cs h = ap (λ o. o >>= (λ e. number_told (16 * bits + e) cs)) (digit_again d h)

eight_again : (a b c d e f g h : ℕ) → a < 16 → b < 16 → c < 16 → d < 16 → e < 16 → f < 16 → g < 16 → h < 16
    → number_told 0 (hex_digit a ∷ hex_digit b ∷ hex_digit c ∷ hex_digit d ∷ hex_digit e ∷ hex_digit f ∷ hex_digit g ∷ hex_digit h ∷ []) ≡ Some (16 * (16 * (16 * (16 * (16 * (16 * (16 * (16 * 0 + a) + b) + c) + d) + e) + f) + g) + h)
eight_again a b c d e f g h ha hb hc hd he hf hg hh =
    digit_step (0) a (hex_digit b ∷ hex_digit c ∷ hex_digit d ∷ hex_digit e ∷ hex_digit f ∷ hex_digit g ∷ hex_digit h ∷ []) ha ∙ (digit_step (16 * 0 + a) b (hex_digit c ∷ hex_digit d ∷ hex_digit e ∷ hex_digit f ∷ hex_digit g ∷ hex_digit h ∷ []) hb ∙ (digit_step (16 * (16 * 0 + a) + b) c (hex_digit d ∷ hex_digit e ∷ hex_digit f ∷ hex_digit g ∷ hex_digit h ∷ []) hc ∙ (digit_step (16 * (16 * (16 * 0 + a) + b) + c) d (hex_digit e ∷ hex_digit f ∷ hex_digit g ∷ hex_digit h ∷ []) hd ∙ (digit_step (16 * (16 * (16 * (16 * 0 + a) + b) + c) + d) e (hex_digit f ∷ hex_digit g ∷ hex_digit h ∷ []) he ∙ (digit_step (16 * (16 * (16 * (16 * (16 * 0 + a) + b) + c) + d) + e) f (hex_digit g ∷ hex_digit h ∷ []) hf ∙ (digit_step (16 * (16 * (16 * (16 * (16 * (16 * 0 + a) + b) + c) + d) + e) + f) g (hex_digit h ∷ []) hg ∙ (digit_step (16 * (16 * (16 * (16 * (16 * (16 * (16 * 0 + a) + b) + c) + d) + e) + f) + g) h ([]) hh)))))))

pub bits_again : (w : ℕ) → w < 2 ^ 32 → bits_told (hex_text w) ≡ Some w
unfolding bits_told
bits_again w h =
    eight_again (w / 2 ^ 28 % 16) (w / 2 ^ 24 % 16) (w / 2 ^ 20 % 16) (w / 2 ^ 16 % 16) (w / 2 ^ 12 % 16) (w / 2 ^ 8 % 16) (w / 2 ^ 4 % 16) (w % 16)
    (low_digit (w / 2 ^ 28)) (low_digit (w / 2 ^ 24)) (low_digit (w / 2 ^ 20)) (low_digit (w / 2 ^ 16)) (low_digit (w / 2 ^ 12)) (low_digit (w / 2 ^ 8)) (low_digit (w / 2 ^ 4)) (low_digit w)
    ∙ ap Some (digits_sum w h)

-- ---- ranges

pub natural_is : (bound : ℕ) (z : ℤ) (n : ℕ) → natural_told bound z ≡ Some n → (z ≡ pos n) × (n < bound)
natural_is bound (pos m) n e = let p = cond_some (nat_lt m bound) m n e in let same = p.1 in (ap pos same, (let l : m < bound = grind (arith, nat_tests, p.0) in subst (λ x. x < bound) same l))
natural_is bound (negsuc m) n e = absurd (none-some n e)

pub natural_again : (bound n : ℕ) → n < bound → natural_told bound (pos n) ≡ Some n
natural_again bound n h = rw (lt-ltb n bound h) refl

pub within_low : (bound : ℕ) (z : ℤ) → is_within bound z ≡ true → neg_ℤ (pos bound) ≤ℤ z
within_low bound (pos n) e = omega (arith, ints)
within_low bound (negsuc n) e = let l : n < bound = grind (arith, nat_tests, e) in omega (arith, ints)

pub within_high : (bound : ℕ) (z : ℤ) → is_within bound z ≡ true → z <ℤ pos bound
within_high bound (pos n) e = let l : n < bound = grind (arith, nat_tests, e) in omega (arith, ints)
within_high bound (negsuc n) e = let l : n < bound = grind (arith, nat_tests, e) in omega (arith, ints)

pub within_test : (bound : ℕ) (z : ℤ) → neg_ℤ (pos bound) ≤ℤ z → z <ℤ pos bound → is_within bound z ≡ true
within_test bound (pos n) low high = lt-ltb n bound (omega (arith, ints))
within_test bound (negsuc n) low high = lt-ltb n bound (omega (arith, ints))

pub within_told_is : (bound : ℕ) (z i : ℤ) → within_told bound z ≡ Some i → (z ≡ i) × (is_within bound i ≡ true)
within_told_is bound z i e = let p = cond_some (is_within bound z) z i e in (p.1, subst (λ x. is_within bound x ≡ true) p.1 p.0)

pub even_told_is : (bound : ℕ) (z i : ℤ) → even_told bound z ≡ Some i → (z ≡ i) × (is_within bound i ≡ true) × (is_even i ≡ true)
even_told_is bound z i e = by (is_within bound z) refl e
  where
    by : (t : Bool) → is_within bound z ≡ t → cond t (cond (is_even z) (Some z) None) None ≡ Some i → (z ≡ i) × (is_within bound i ≡ true) × (is_even i ≡ true)
    by false t_is e = absurd (none-some i e)
    by true t_is e = let p = cond_some (is_even z) z i e in (p.1, subst (λ x. is_within bound x ≡ true) p.1 t_is, subst (λ x. is_even x ≡ true) p.1 p.0)

pub immediate_is : (z i : ℤ) → within_told 2048 z ≡ Some i → (z ≡ i) × IsImmediate i
immediate_is z i e = let p = within_told_is 2048 z i e in (p.0, (within_low 2048 i p.1, within_high 2048 i p.1))

pub immediate_again : (i : ℤ) → IsImmediate i → within_told 2048 i ≡ Some i
immediate_again i h = rw (within_test 2048 i h.0 h.1) refl

pub even_13 : (z : ℤ) → is_within 4096 z ≡ true → is_even z ≡ true → bits_13 z % 2 ≡ 0
even_13 (pos n) w e = eqb-true (n % 2) 0 e
even_13 (negsuc n) w e = let l : n < 4096 = grind (arith, nat_tests, w) in let h : suc n % 2 ≡ 0 = eqb-true (suc n % 2) 0 e in let g : (8191 - n) % 2 ≡ 0 = omega arith in g

pub even_21 : (z : ℤ) → is_within 1048576 z ≡ true → is_even z ≡ true → bits_21 z % 2 ≡ 0
even_21 (pos n) w e = eqb-true (n % 2) 0 e
even_21 (negsuc n) w e = let l : n < 1048576 = grind (arith, nat_tests, w) in let h : suc n % 2 ≡ 0 = eqb-true (suc n % 2) 0 e in let g : (2097151 - n) % 2 ≡ 0 = omega arith in g

pub branch_is : (z i : ℤ) → even_told 4096 z ≡ Some i → (z ≡ i) × IsBranchOffset i
branch_is z i e = let p = even_told_is 4096 z i e in (p.0, (within_low 4096 i p.1, within_high 4096 i p.1, even_13 i p.1 p.2))

pub jump_is : (z i : ℤ) → even_told 1048576 z ≡ Some i → (z ≡ i) × IsJumpOffset i
jump_is z i e = let p = even_told_is 1048576 z i e in (p.0, (within_low 1048576 i p.1, within_high 1048576 i p.1, even_21 i p.1 p.2))

even_from_13 : (z : ℤ) → is_within 4096 z ≡ true → bits_13 z % 2 ≡ 0 → is_even z ≡ true
even_from_13 (pos n) w e = eq-eqb (n % 2) 0 e
even_from_13 (negsuc n) w e = let l : n < 4096 = grind (arith, nat_tests, w) in let h : (8191 - n) % 2 ≡ 0 = e in eq-eqb (suc n % 2) 0 (omega arith)

even_from_21 : (z : ℤ) → is_within 1048576 z ≡ true → bits_21 z % 2 ≡ 0 → is_even z ≡ true
even_from_21 (pos n) w e = eq-eqb (n % 2) 0 e
even_from_21 (negsuc n) w e = let l : n < 1048576 = grind (arith, nat_tests, w) in let h : (2097151 - n) % 2 ≡ 0 = e in eq-eqb (suc n % 2) 0 (omega arith)

pub branch_again : (i : ℤ) → IsBranchOffset i → even_told 4096 i ≡ Some i
branch_again i h = let w = within_test 4096 i h.0 h.1 in rw (w, even_from_13 i w h.2) refl

pub jump_again : (i : ℤ) → IsJumpOffset i → even_told 1048576 i ≡ Some i
jump_again i h = let w = within_test 1048576 i h.0 h.1 in rw (w, even_from_21 i w h.2) refl

-- ---- steps of reading

pub register_step : (r : ℕ) (text : List ℕ) → r < 32 → bytes_eq text (register_text r) ≡ false → register_from (32 - r) r text ≡ register_from (32 - (r + 1)) (r + 1) text
register_step r text h e =
    let k : 32 - r ≡ suc (32 - (r + 1)) = omega arith in let n : suc r ≡ r + 1 = omega arith in
    ap (λ x. register_from x r text) k ∙ (ap (λ b. cond b (Some r) (register_from (32 - (r + 1)) (suc r) text)) e ∙ ap (λ x. register_from (32 - (r + 1)) x text) n)

pub register_here : (r : ℕ) (text : List ℕ) → r < 32 → bytes_eq text (register_text r) ≡ true → register_from (32 - r) r text ≡ Some r
register_here r text h e =
    let k : 32 - r ≡ suc (32 - (r + 1)) = omega arith in
    ap (λ x. register_from x r text) k ∙ ap (λ b. cond b (Some r) (register_from (32 - (r + 1)) (suc r) text)) e

pub register_nowhere : (r : ℕ) (text : List ℕ) → r ≡ 32 → register_from (32 - r) r text ≡ None
register_nowhere r text e = ap (λ x. register_from (32 - x) x text) e

-- the digit at a place is read
pub number_step : (bits : ℕ) (text : List ℕ) (i : ℕ) → i < length text → number_told bits (drop i text) ≡ (digit_told (get_or text i 0) >>= (λ d. number_told (16 * bits + d) (drop (i + 1) text)))
number_step bits text i h = ap (number_told bits) (drop_more text i 0 h)

pub number_on : (bits d i : ℕ) (text : List ℕ) → i < length text → digit_told (get_or text i 0) ≡ Some d → number_told bits (drop i text) ≡ number_told (16 * bits + d) (drop (i + 1) text)
number_on bits d i text h e = number_step bits text i h ∙ ap (λ o. o >>= (λ d. number_told (16 * bits + d) (drop (i + 1) text))) e

pub number_none : (bits i : ℕ) (text : List ℕ) → i < length text → digit_told (get_or text i 0) ≡ None → number_told bits (drop i text) ≡ None
number_none bits i text h e = number_step bits text i h ∙ ap (λ o. o >>= (λ d. number_told (16 * bits + d) (drop (i + 1) text))) e

pub number_end : (bits : ℕ) (text : List ℕ) → number_told bits (drop (length text) text) ≡ Some bits
number_end bits text = ap (number_told bits) (drop_all (length text) text (omega arith))

pub told_eight : (text : List ℕ) → length text ≡ 8 → bits_told text ≡ number_told 0 text
unfolding bits_told
told_eight text e = rw (eq-eqb (length text) 8 e) refl

pub told_other : (text : List ℕ) → length text ≢ 8 → None ≡ bits_told text
unfolding bits_told
told_other text n = rw (ne_eqb (length text) 8 n) refl

pub digit_low : (c d : ℕ) → digit_told c ≡ Some d → d < 16
digit_low c d e = (digit_is c d e).1

-- so many digits have no more bits
pub bits_room : (bits i : ℕ) → bits < 16 ^ i → i < 8 → bits < 268435456
bits_room bits zero h l = omega arith
bits_room bits (suc zero) h l = let k : bits < 16 = h in omega arith
bits_room bits (suc (suc zero)) h l = let k : bits < 256 = h in omega arith
bits_room bits (suc (suc (suc zero))) h l = let k : bits < 4096 = h in omega arith
bits_room bits (suc (suc (suc (suc zero)))) h l = let k : bits < 65536 = h in omega arith
bits_room bits (suc (suc (suc (suc (suc zero))))) h l = let k : bits < 1048576 = h in omega arith
bits_room bits (suc (suc (suc (suc (suc (suc zero)))))) h l = let k : bits < 16777216 = h in omega arith
bits_room bits (suc (suc (suc (suc (suc (suc (suc zero))))))) h l = h
bits_room bits (suc (suc (suc (suc (suc (suc (suc (suc i)))))))) h l = absurd (omega arith)

sixteen_more : (i : ℕ) → 16 ^ suc i ≡ 16 * 16 ^ i
sixteen_more i = simp unary_clauses (let p : ℕ = 16 ^ i in let g : p * 16 ≡ 16 * p = omega arith in g)

pub bits_more : (bits d i : ℕ) → bits < 16 ^ i → d < 16 → 16 * bits + d < 16 ^ (i + 1)
bits_more bits d i h l =
    let n : suc i ≡ i + 1 = omega arith in
    let p : ℕ = 16 ^ i in
    let k : bits < p = h in
    let m : 16 * bits + d < 16 * p = omega arith in
    subst (λ x. 16 * bits + d < 16 ^ x) n (subst (λ x. 16 * bits + d < x) (sym (sixteen_more i)) m)
