-- Lines as tokens: what stands between blanks and marks.
use Rattle.std.proofs.Common.{◌≡◌, ◌≢◌, ℕ, ◌<◌, ◌≤◌, Bool, true, false, List, [], ◌∷◌, ◌++◌, length, refl, sym, ap, subst, ◌∙◌, arith}
use Rattle.std.specs.Prelude.{◌&&◌, ℤ, IsTrue}
use Rattle.std.specs.List.{list_all}
use Rattle.std.proofs.lemmas.Bool.{ne_eqb}
use Rattle.std.proofs.lemmas.List.Elements.{All-head, All-tail}
use Rattle.bril_nums.specs.Decimal.{IsInt, Sign, no_sign, plus, minus, sign_text}
use Rattle.std.specs.Str.Parse.{AllDigits}
use Rattle.std.proofs.lemmas.Str.Parse.{digit_from_value}
use Rattle.rv64_listing.specs.Tokens.{Token, Space, CommaT, OpenT, CloseT, Run, Class, Blank, CommaC, OpenC, CloseC, Hash, Plain, class_by, class, is_plain, spaced, joined, add, cut, unspaced, tokens}
use Rattle.rv64_listing.specs.Line.{Piece, Name, Gap, Comma, Open, Close, Register, Number, Hex, hex_text, register_text, is_blank, AreBlank, IsComment, SpellAll, HasPieces, IsEmptyLine}

-- one plain byte or more
abbrev pub is_plain_text : List ℕ → Bool
is_plain_text [] = false
is_plain_text (b ∷ bs) = list_all (λ c. is_plain (class c)) (b ∷ bs)

-- ---- what pieces are cut into

abbrev pub TokensAre : List Piece → List Token → Type 0
TokensAre [] ts = ts ≡ []
TokensAre (Gap ∷ ps) ts = (rest : List Token) × (ts ≡ Space ∷ rest) × TokensAre ps rest
TokensAre (Comma ∷ ps) ts = (rest : List Token) × (ts ≡ CommaT ∷ rest) × TokensAre ps rest
TokensAre (Open ∷ ps) ts = (rest : List Token) × (ts ≡ OpenT ∷ rest) × TokensAre ps rest
TokensAre (Close ∷ ps) ts = (rest : List Token) × (ts ≡ CloseT ∷ rest) × TokensAre ps rest
TokensAre (Name text ∷ ps) ts = (rest : List Token) × (ts ≡ Run text ∷ rest) × TokensAre ps rest
TokensAre (Register r ∷ ps) ts = (rest : List Token) × (ts ≡ Run (register_text r) ∷ rest) × TokensAre ps rest
TokensAre (Number n ∷ ps) ts = (text : List ℕ) × (rest : List Token) × (ts ≡ Run text ∷ rest) × IsInt text n × TokensAre ps rest
TokensAre (Hex bits ∷ ps) ts = (rest : List Token) × (ts ≡ Run (hex_text bits) ∷ rest) × TokensAre ps rest

abbrev pub StartsRun : List Piece → Type 0
StartsRun [] = ⊥
StartsRun (Name text ∷ ps) = Unit {0}
StartsRun (Register r ∷ ps) = Unit {0}
StartsRun (Number n ∷ ps) = Unit {0}
StartsRun (Hex bits ∷ ps) = Unit {0}
StartsRun (Gap ∷ ps) = ⊥
StartsRun (Comma ∷ ps) = ⊥
StartsRun (Open ∷ ps) = ⊥
StartsRun (Close ∷ ps) = ⊥

abbrev pub StartsNoRun : List Piece → Type 0
StartsNoRun [] = Unit {0}
StartsNoRun (Name text ∷ ps) = ⊥
StartsNoRun (Register r ∷ ps) = ⊥
StartsNoRun (Number n ∷ ps) = ⊥
StartsNoRun (Hex bits ∷ ps) = ⊥
StartsNoRun (Gap ∷ ps) = Unit {0}
StartsNoRun (Comma ∷ ps) = Unit {0}
StartsNoRun (Open ∷ ps) = Unit {0}
StartsNoRun (Close ∷ ps) = Unit {0}

-- A blank stands before a name, a register or a number, and behind each of these stands a mark or a blank.
abbrev pub Proper : List Piece → Type 0
Proper [] = Unit {0}
Proper (Gap ∷ ps) = StartsRun ps × Proper ps
Proper (Comma ∷ ps) = Proper ps
Proper (Open ∷ ps) = Proper ps
Proper (Close ∷ ps) = Proper ps
Proper (Name text ∷ ps) = (is_plain_text text ≡ true) × StartsNoRun ps × Proper ps
Proper (Register r ∷ ps) = (is_plain_text (register_text r) ≡ true) × StartsNoRun ps × Proper ps
Proper (Number n ∷ ps) = StartsNoRun ps × Proper ps
Proper (Hex bits ∷ ps) = (is_plain_text (hex_text bits) ≡ true) × StartsNoRun ps × Proper ps

abbrev pub NotRun : List Token → Type 0
NotRun [] = Unit {0}
NotRun (Run r ∷ ts) = ⊥
NotRun (Space ∷ ts) = Unit {0}
NotRun (CommaT ∷ ts) = Unit {0}
NotRun (OpenT ∷ ts) = Unit {0}
NotRun (CloseT ∷ ts) = Unit {0}

-- ---- cutting

pub plain_above : (b : ℕ) → 48 ≤ b → is_plain (class b) ≡ true
plain_above b h =
    let a : b ≡ 32 → ⊥ = omega arith in let c : b ≡ 9 → ⊥ = omega arith in let d : b ≡ 44 → ⊥ = omega arith in let e : b ≡ 40 → ⊥ = omega arith in let f : b ≡ 41 → ⊥ = omega arith in let g : b ≡ 35 → ⊥ = omega arith in
    rw (ne_eqb b 32 a, ne_eqb b 9 c, ne_eqb b 44 d, ne_eqb b 40 e, ne_eqb b 41 f, ne_eqb b 35 g) refl

class_plain : (c : Class) → is_plain c ≡ true → c ≡ Plain
class_plain Plain e = refl
class_plain Blank e = absurd (let k : false ≡ true = e in cc)
class_plain CommaC e = absurd (let k : false ≡ true = e in cc)
class_plain OpenC e = absurd (let k : false ≡ true = e in cc)
class_plain CloseC e = absurd (let k : false ≡ true = e in cc)
class_plain Hash e = absurd (let k : false ≡ true = e in cc)

pub class_blank : (b : ℕ) → is_blank b ≡ true → class b ≡ Blank
class_blank b e = ap (λ t. class_by t b) e

pub both_true : (a b : Bool) → (a && b) ≡ true → (a ≡ true) × (b ≡ true)
both_true true b e = (refl, e)
both_true false b e = absurd (let k : false ≡ true = e in cc)

pub cut_ends : (rest : List ℕ) → IsComment rest → cut rest ≡ []
cut_ends [] h = refl
cut_ends (b ∷ bytes) h = ap (λ c. add (class c) c (cut bytes)) h

pub cut_blanks : (blanks rest : List ℕ) → AreBlank blanks → cut rest ≡ [] → cut (blanks ++ rest) ≡ []
cut_blanks [] rest all e = e
cut_blanks (b ∷ bs) rest all e =
    ap (λ c. add c b (cut (bs ++ rest))) (class_blank b (All-head (λ b. IsTrue (is_blank b)) b bs all)) ∙ ap spaced (cut_blanks bs rest (All-tail (λ b. IsTrue (is_blank b)) b bs all) e)

cut_gap : (b : ℕ) (bs rest : List ℕ) (r : List ℕ) (ts : List Token) → AreBlank (b ∷ bs) → cut rest ≡ Run r ∷ ts → cut ((b ∷ bs) ++ rest) ≡ Space ∷ Run r ∷ ts
cut_gap b [] rest r ts all e = ap (λ c. add c b (cut rest)) (class_blank b (All-head (λ b. IsTrue (is_blank b)) b [] all)) ∙ ap spaced e
cut_gap b (c ∷ cs) rest r ts all e =
    ap (λ k. add k b (cut ((c ∷ cs) ++ rest))) (class_blank b (All-head (λ b. IsTrue (is_blank b)) b (c ∷ cs) all)) ∙ ap spaced (cut_gap c cs rest r ts (All-tail (λ b. IsTrue (is_blank b)) b (c ∷ cs) all) e)

joined_front : (b : ℕ) (ts : List Token) → NotRun ts → joined b ts ≡ Run (b ∷ []) ∷ ts
joined_front b [] n = refl
joined_front b (Run r ∷ ts) n = absurd n
joined_front b (Space ∷ ts) n = refl
joined_front b (CommaT ∷ ts) n = refl
joined_front b (OpenT ∷ ts) n = refl
joined_front b (CloseT ∷ ts) n = refl

cut_run : (b : ℕ) (bs rest : List ℕ) → list_all (λ c. is_plain (class c)) (b ∷ bs) ≡ true → NotRun (cut rest) → cut ((b ∷ bs) ++ rest) ≡ Run (b ∷ bs) ∷ cut rest
cut_run b [] rest all n = ap (λ c. add c b (cut rest)) (class_plain (class b) (both_true (is_plain (class b)) true all).0) ∙ joined_front b (cut rest) n
cut_run b (c ∷ cs) rest all n =
    let p = both_true (is_plain (class b)) (list_all (λ c. is_plain (class c)) (c ∷ cs)) all in
    ap (λ k. add k b (cut ((c ∷ cs) ++ rest))) (class_plain (class b) p.0) ∙ ap (joined b) (cut_run c cs rest p.1 n)

pub cut_text : (text rest : List ℕ) → is_plain_text text ≡ true → NotRun (cut rest) → cut (text ++ rest) ≡ Run text ∷ cut rest
cut_text [] rest e n = absurd (let k : false ≡ true = e in cc)
cut_text (b ∷ bs) rest e n = cut_run b bs rest e n

record Begins (ts : List Token) : Type 0 where
  text : List ℕ
  rest : List Token
  is : ts ≡ Run text ∷ rest

begins : (ps : List Piece) (ts : List Token) → StartsRun ps → TokensAre ps ts → Begins ts
begins [] ts s h = absurd s
begins (Name text ∷ ps) ts s h = record { text = text; rest = h.0; is = h.1 }
begins (Register r ∷ ps) ts s h = record { text = register_text r; rest = h.0; is = h.1 }
begins (Number n ∷ ps) ts s h = record { text = h.0; rest = h.1; is = h.2 }
begins (Hex bits ∷ ps) ts s h = record { text = hex_text bits; rest = h.0; is = h.1 }
begins (Gap ∷ ps) ts s h = absurd s
begins (Comma ∷ ps) ts s h = absurd s
begins (Open ∷ ps) ts s h = absurd s
begins (Close ∷ ps) ts s h = absurd s

no_run : (ps : List Piece) (ts : List Token) → StartsNoRun ps → TokensAre ps ts → NotRun ts
no_run [] ts s h = subst NotRun (sym h) tt
no_run (Name text ∷ ps) ts s h = absurd s
no_run (Register r ∷ ps) ts s h = absurd s
no_run (Number n ∷ ps) ts s h = absurd s
no_run (Hex bits ∷ ps) ts s h = absurd s
no_run (Gap ∷ ps) ts s h = subst NotRun (sym h.1) tt
no_run (Comma ∷ ps) ts s h = subst NotRun (sym h.1) tt
no_run (Open ∷ ps) ts s h = subst NotRun (sym h.1) tt
no_run (Close ∷ ps) ts s h = subst NotRun (sym h.1) tt

digits_plain : (ds : List ℕ) → AllDigits 10 ds → list_all (λ c. is_plain (class c)) ds ≡ true
digits_plain [] h = refl
digits_plain (c ∷ cs) h = let r = digit_from_value c h.0 in rw (plain_above c r.0, digits_plain cs h.1) refl

signed_plain : (sign : Sign) (ds : List ℕ) → 0 < length ds → AllDigits 10 ds → is_plain_text (sign_text sign ++ ds) ≡ true
signed_plain no_sign [] l h = absurd (omega arith)
signed_plain no_sign (c ∷ cs) l h = digits_plain (c ∷ cs) h
signed_plain plus ds l h = digits_plain ds h
signed_plain minus ds l h = digits_plain ds h

pub int_plain : (text : List ℕ) (n : ℤ) → IsInt text n → is_plain_text text ≡ true
int_plain text n h = ap is_plain_text h.spelling ∙ signed_plain h.sign h.digits h.numeral.0 h.numeral.1

gap_lexed : (ps : List Piece) (front rest : List ℕ) → StartsRun ps → front ≢ [] → AreBlank front → TokensAre ps (cut rest) → cut (front ++ rest) ≡ Space ∷ cut rest
gap_lexed ps [] rest s n all h = absurd (n refl)
gap_lexed ps (b ∷ bs) rest s n all h = let g = begins ps (cut rest) s h in cut_gap b bs rest g.text g.rest all g.is ∙ ap (λ ts. Space ∷ ts) (sym g.is)

text_lexed : (ps : List Piece) (text bytes front rest : List ℕ) → is_plain_text text ≡ true → StartsNoRun ps → bytes ≡ front ++ rest → front ≡ text → TokensAre ps (cut rest) → cut bytes ≡ Run text ∷ cut rest
text_lexed ps text bytes front rest p s is e h = ap cut is ∙ (ap (λ x. cut (x ++ rest)) e ∙ cut_text text rest p (no_run ps (cut rest) s h))

pub lexed : (ps : List Piece) (bytes : List ℕ) → Proper ps → SpellAll ps bytes → TokensAre ps (cut bytes)
lexed [] bytes p h = ap cut h.2 ∙ cut_blanks h.0 h.1 h.3 (cut_ends h.1 h.4)
lexed (Gap ∷ ps) bytes p h = let more = lexed ps h.1 p.1 h.4 in (cut h.1, ap cut h.2 ∙ gap_lexed ps h.0 h.1 p.0 h.3.0 h.3.1 more, more)
lexed (Comma ∷ ps) bytes p h = (cut h.1, ap cut h.2 ∙ ap (λ x. cut (x ++ h.1)) h.3, lexed ps h.1 p h.4)
lexed (Open ∷ ps) bytes p h = (cut h.1, ap cut h.2 ∙ ap (λ x. cut (x ++ h.1)) h.3, lexed ps h.1 p h.4)
lexed (Close ∷ ps) bytes p h = (cut h.1, ap cut h.2 ∙ ap (λ x. cut (x ++ h.1)) h.3, lexed ps h.1 p h.4)
lexed (Name text ∷ ps) bytes p h = let more = lexed ps h.1 p.2 h.4 in (cut h.1, text_lexed ps text bytes h.0 h.1 p.0 p.1 h.2 h.3 more, more)
lexed (Register r ∷ ps) bytes p h = let more = lexed ps h.1 p.2 h.4 in (cut h.1, text_lexed ps (register_text r) bytes h.0 h.1 p.0 p.1 h.2 h.3 more, more)
lexed (Number n ∷ ps) bytes p h = let more = lexed ps h.1 p.1 h.4 in (h.0, cut h.1, text_lexed ps h.0 bytes h.0 h.1 (int_plain h.0 n h.3) p.0 h.2 refl more, h.3, more)
lexed (Hex bits ∷ ps) bytes p h = let more = lexed ps h.1 p.2 h.4 in (cut h.1, text_lexed ps (hex_text bits) bytes h.0 h.1 p.0 p.1 h.2 h.3 more, more)

front_lexed : (ps : List Piece) (line blanks rest : List ℕ) → StartsRun ps → line ≡ blanks ++ rest → AreBlank blanks → TokensAre ps (cut rest) → tokens line ≡ cut rest
front_lexed ps line [] rest s is all h = let g = begins ps (cut rest) s h in ap tokens is ∙ (ap unspaced g.is ∙ sym g.is)
front_lexed ps line (b ∷ bs) rest s is all h = let g = begins ps (cut rest) s h in ap tokens is ∙ (ap unspaced (cut_gap b bs rest g.text g.rest all g.is) ∙ sym g.is)

-- the tokens of a line that has these pieces
pub line_lexed : (ps : List Piece) (line : List ℕ) → Proper ps → StartsRun ps → HasPieces ps line → TokensAre ps (tokens line)
line_lexed ps line p s h = let t = lexed ps h.1 p h.4 in subst (TokensAre ps) (sym (front_lexed ps line h.0 h.1 s h.2 h.3 t)) t

pub empty_lexed : (line : List ℕ) → IsEmptyLine line → tokens line ≡ []
empty_lexed line h = let t : cut h.1 ≡ [] = lexed [] h.1 tt h.4 in ap tokens h.2 ∙ ap unspaced (cut_blanks h.0 h.1 h.3 t)
