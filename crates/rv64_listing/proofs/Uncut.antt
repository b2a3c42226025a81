-- From tokens back to bytes: what is cut into the tokens of pieces is spelled by them.
use Rattle.std.proofs.Common.{◌≡◌, ℕ, Bool, true, false, cond, eqb, List, [], ◌∷◌, ◌++◌, refl, sym, ap, subst, ◌∙◌, ⊎_elim}
use Rattle.std.specs.Prelude.{IsTrue}
use Rattle.std.proofs.lemmas.Bool.{cases_eq, ne_eqb}
use Rattle.std.proofs.lemmas.List.Elements.{All-nil, All-cons}
use Rattle.rv64_listing.specs.Line.{Piece, Name, Gap, Comma, Open, Close, Register, Number, Hex, hex_text, register_text, is_blank, AreBlank, IsComment, SpellAll, HasPieces}
use Rattle.rv64_listing.specs.Tokens.{Token, Space, CommaT, OpenT, CloseT, Run, Class, Blank, CommaC, OpenC, CloseC, Hash, Plain, class_by, class, spaced, joined, add, cut, unspaced, tokens}
use Rattle.rv64_listing.proofs.Cut.{TokensAre}

-- ---- what classes say

pub blank_is : (b : ℕ) → class b ≡ Blank → is_blank b ≡ true
blank_is b e = by (is_blank b) e
  where
    inner : (p q r s : Bool) → cond p CommaC (cond q OpenC (cond r CloseC (cond s Hash Plain))) ≡ Blank → ⊥
    inner true q r s e = cc
    inner false true r s e = cc
    inner false false true s e = cc
    inner false false false true e = cc
    inner false false false false e = cc

    by : (t : Bool) → class_by t b ≡ Blank → t ≡ true
    by true e = refl
    by false e = absurd (inner (eqb b 44) (eqb b 40) (eqb b 41) (eqb b 35) e)

pub comma_is : (b : ℕ) → class b ≡ CommaC → b ≡ 44
comma_is b e = ⊎_elim (λ is. is) (λ n. absurd (by (is_blank b) e (ne_eqb b 44 n))) (cases_eq b 44)
  where
    none : (q r s : Bool) → cond false CommaC (cond q OpenC (cond r CloseC (cond s Hash Plain))) ≡ CommaC → ⊥
    none true y z e = cc
    none false true z e = cc
    none false false true e = cc
    none false false false e = cc

    by : (t : Bool) → class_by t b ≡ CommaC → eqb b 44 ≡ false → ⊥
    by true e n = cc
    by false e n = none (eqb b 40) (eqb b 41) (eqb b 35) (subst (λ t. cond t CommaC (cond (eqb b 40) OpenC (cond (eqb b 41) CloseC (cond (eqb b 35) Hash Plain))) ≡ CommaC) n e)

open_is : (b : ℕ) → class b ≡ OpenC → b ≡ 40
open_is b e = ⊎_elim (λ is. is) (λ n. absurd (by (is_blank b) e (ne_eqb b 40 n))) (cases_eq b 40)
  where
    none : (p r s : Bool) → cond p CommaC (cond false OpenC (cond r CloseC (cond s Hash Plain))) ≡ OpenC → ⊥
    none true y z e = cc
    none false true z e = cc
    none false false true e = cc
    none false false false e = cc

    by : (t : Bool) → class_by t b ≡ OpenC → eqb b 40 ≡ false → ⊥
    by true e n = cc
    by false e n = none (eqb b 44) (eqb b 41) (eqb b 35) (subst (λ t. cond (eqb b 44) CommaC (cond t OpenC (cond (eqb b 41) CloseC (cond (eqb b 35) Hash Plain))) ≡ OpenC) n e)

close_is : (b : ℕ) → class b ≡ CloseC → b ≡ 41
close_is b e = ⊎_elim (λ is. is) (λ n. absurd (by (is_blank b) e (ne_eqb b 41 n))) (cases_eq b 41)
  where
    none : (p q s : Bool) → cond p CommaC (cond q OpenC (cond false CloseC (cond s Hash Plain))) ≡ CloseC → ⊥
    none true y z e = cc
    none false true z e = cc
    none false false true e = cc
    none false false false e = cc

    by : (t : Bool) → class_by t b ≡ CloseC → eqb b 41 ≡ false → ⊥
    by true e n = cc
    by false e n = none (eqb b 44) (eqb b 40) (eqb b 35) (subst (λ t. cond (eqb b 44) CommaC (cond (eqb b 40) OpenC (cond t CloseC (cond (eqb b 35) Hash Plain))) ≡ CloseC) n e)

pub hash_is : (b : ℕ) → class b ≡ Hash → b ≡ 35
hash_is b e = ⊎_elim (λ is. is) (λ n. absurd (by (is_blank b) e (ne_eqb b 35 n))) (cases_eq b 35)
  where
    none : (p q r : Bool) → cond p CommaC (cond q OpenC (cond r CloseC (cond false Hash Plain))) ≡ Hash → ⊥
    none true y z e = cc
    none false true z e = cc
    none false false true e = cc
    none false false false e = cc

    by : (t : Bool) → class_by t b ≡ Hash → eqb b 35 ≡ false → ⊥
    by true e n = cc
    by false e n = none (eqb b 44) (eqb b 40) (eqb b 41) (subst (λ t. cond (eqb b 44) CommaC (cond (eqb b 40) OpenC (cond (eqb b 41) CloseC (cond t Hash Plain))) ≡ Hash) n e)

-- ---- peeling tokens off

record Ended (bytes : List ℕ) : Type 0 where
  blanks : List ℕ
  rest : List ℕ
  is : bytes ≡ blanks ++ rest
  blank : AreBlank blanks
  comment : IsComment rest

spaced_ends : (ts : List Token) → spaced ts ≡ [] → ts ≡ []
spaced_ends [] e = refl
spaced_ends (Space ∷ ts) e = absurd (let k : Space ∷ ts ≡ [] = e in cc)
spaced_ends (CommaT ∷ ts) e = absurd (let k : Space ∷ CommaT ∷ ts ≡ [] = e in cc)
spaced_ends (OpenT ∷ ts) e = absurd (let k : Space ∷ OpenT ∷ ts ≡ [] = e in cc)
spaced_ends (CloseT ∷ ts) e = absurd (let k : Space ∷ CloseT ∷ ts ≡ [] = e in cc)
spaced_ends (Run r ∷ ts) e = absurd (let k : Space ∷ Run r ∷ ts ≡ [] = e in cc)

record Joins (b : ℕ) (ts : List Token) : Type 0 where
  text : List ℕ
  rest : List Token
  is : joined b ts ≡ Run text ∷ rest

joins : (b : ℕ) (ts : List Token) → Joins b ts
joins b [] = record { text = b ∷ []; rest = []; is = refl }
joins b (Run r ∷ ts) = record { text = b ∷ r; rest = ts; is = refl }
joins b (Space ∷ ts) = record { text = b ∷ []; rest = Space ∷ ts; is = refl }
joins b (CommaT ∷ ts) = record { text = b ∷ []; rest = CommaT ∷ ts; is = refl }
joins b (OpenT ∷ ts) = record { text = b ∷ []; rest = OpenT ∷ ts; is = refl }
joins b (CloseT ∷ ts) = record { text = b ∷ []; rest = CloseT ∷ ts; is = refl }

ended : (bytes : List ℕ) → cut bytes ≡ [] → Ended bytes
ended [] e = record { blanks = []; rest = []; is = refl; blank = All-nil (λ b. IsTrue (is_blank b)); comment = tt }
ended (b ∷ bs) e = ended_by b bs (class b) refl e (ended bs)
  where
    ended_by : (b : ℕ) (bs : List ℕ) (c : Class) → class b ≡ c → add c b (cut bs) ≡ [] → (cut bs ≡ [] → Ended bs) → Ended (b ∷ bs)
    ended_by b bs Blank is e again =
        let r = again (spaced_ends (cut bs) e) in
        record { blanks = b ∷ r.blanks; rest = r.rest; is = ap (λ x. b ∷ x) r.is; blank = All-cons (λ b. IsTrue (is_blank b)) b r.blanks (blank_is b is) r.blank; comment = r.comment }
    ended_by b bs Hash is e again = record { blanks = []; rest = b ∷ bs; is = refl; blank = All-nil (λ b. IsTrue (is_blank b)); comment = hash_is b is }
    ended_by b bs CommaC is e again = absurd (let k : CommaT ∷ cut bs ≡ [] = e in cc)
    ended_by b bs OpenC is e again = absurd (let k : OpenT ∷ cut bs ≡ [] = e in cc)
    ended_by b bs CloseC is e again = absurd (let k : CloseT ∷ cut bs ≡ [] = e in cc)
    ended_by b bs Plain is e again = absurd (let j = joins b (cut bs) in let k : Run j.text ∷ j.rest ≡ [] = sym j.is ∙ e in cc)

pub record Blanks (bytes : List ℕ) (ts : List Token) : Type 0 where
  pub first : ℕ
  pub more : List ℕ
  pub rest : List ℕ
  pub is : bytes ≡ (first ∷ more) ++ rest
  pub blank : AreBlank (first ∷ more)
  pub cut_rest : cut rest ≡ ts

one_blank : (b : ℕ) (bs : List ℕ) (ts : List Token) → is_blank b ≡ true → cut bs ≡ ts → Blanks (b ∷ bs) ts
one_blank b bs ts h e = record { first = b; more = []; rest = bs; is = refl; blank = All-cons (λ b. IsTrue (is_blank b)) b [] h (All-nil (λ b. IsTrue (is_blank b))); cut_rest = e }

blanks_from : (b : ℕ) (bs : List ℕ) (us ts : List Token) → is_blank b ≡ true → cut bs ≡ us → spaced us ≡ Space ∷ ts → ((vs : List Token) → cut bs ≡ Space ∷ vs → Blanks bs vs) → Blanks (b ∷ bs) ts
blanks_from b bs [] ts h c e again = absurd (let k : [] ≡ Space ∷ ts = e in cc)
blanks_from b bs (Space ∷ us) ts h c e again =
    let k : Space ∷ us ≡ Space ∷ ts = e in let same : us ≡ ts = cc in
    let r = again us c in
    record { first = b; more = r.first ∷ r.more; rest = r.rest; is = ap (λ x. b ∷ x) r.is; blank = All-cons (λ b. IsTrue (is_blank b)) b (r.first ∷ r.more) h r.blank; cut_rest = r.cut_rest ∙ same }
blanks_from b bs (CommaT ∷ us) ts h c e again = let k : Space ∷ CommaT ∷ us ≡ Space ∷ ts = e in let same : CommaT ∷ us ≡ ts = cc in one_blank b bs ts h (c ∙ same)
blanks_from b bs (OpenT ∷ us) ts h c e again = let k : Space ∷ OpenT ∷ us ≡ Space ∷ ts = e in let same : OpenT ∷ us ≡ ts = cc in one_blank b bs ts h (c ∙ same)
blanks_from b bs (CloseT ∷ us) ts h c e again = let k : Space ∷ CloseT ∷ us ≡ Space ∷ ts = e in let same : CloseT ∷ us ≡ ts = cc in one_blank b bs ts h (c ∙ same)
blanks_from b bs (Run r ∷ us) ts h c e again = let k : Space ∷ Run r ∷ us ≡ Space ∷ ts = e in let same : Run r ∷ us ≡ ts = cc in one_blank b bs ts h (c ∙ same)

pub blanks_off : (bytes : List ℕ) (ts : List Token) → cut bytes ≡ Space ∷ ts → Blanks bytes ts
blanks_off [] ts e = absurd (let k : [] ≡ Space ∷ ts = e in cc)
blanks_off (b ∷ bs) ts e = off (class b) refl e (λ vs. blanks_off bs vs)
  where
    off : (c : Class) → class b ≡ c → add c b (cut bs) ≡ Space ∷ ts → ((vs : List Token) → cut bs ≡ Space ∷ vs → Blanks bs vs) → Blanks (b ∷ bs) ts
    off Blank is e again = blanks_from b bs (cut bs) ts (blank_is b is) refl e again
    off Hash is e again = absurd (let k : [] ≡ Space ∷ ts = e in cc)
    off CommaC is e again = absurd (let k : CommaT ∷ cut bs ≡ Space ∷ ts = e in cc)
    off OpenC is e again = absurd (let k : OpenT ∷ cut bs ≡ Space ∷ ts = e in cc)
    off CloseC is e again = absurd (let k : CloseT ∷ cut bs ≡ Space ∷ ts = e in cc)
    off Plain is e again = absurd (let j = joins b (cut bs) in let k : Run j.text ∷ j.rest ≡ Space ∷ ts = sym j.is ∙ e in cc)

-- a blank in front leaves a blank or nothing
no_gap : (us : List Token) (t : Token) (ts : List Token) → spaced us ≡ t ∷ ts → (t ≡ Space → ⊥) → ⊥
no_gap [] t ts e n = let k : [] ≡ t ∷ ts = e in cc
no_gap (Space ∷ us) t ts e n = let k : Space ∷ us ≡ t ∷ ts = e in n cc
no_gap (CommaT ∷ us) t ts e n = let k : Space ∷ CommaT ∷ us ≡ t ∷ ts = e in n cc
no_gap (OpenT ∷ us) t ts e n = let k : Space ∷ OpenT ∷ us ≡ t ∷ ts = e in n cc
no_gap (CloseT ∷ us) t ts e n = let k : Space ∷ CloseT ∷ us ≡ t ∷ ts = e in n cc
no_gap (Run r ∷ us) t ts e n = let k : Space ∷ Run r ∷ us ≡ t ∷ ts = e in n cc

pub comma_off : (bytes : List ℕ) (ts : List Token) → cut bytes ≡ CommaT ∷ ts → (rest : List ℕ) × (bytes ≡ 44 ∷ rest) × (cut rest ≡ ts)
comma_off [] ts e = absurd (let k : [] ≡ CommaT ∷ ts = e in cc)
comma_off (b ∷ bs) ts e = off (class b) refl e
  where
    off : (c : Class) → class b ≡ c → add c b (cut bs) ≡ CommaT ∷ ts → (rest : List ℕ) × (b ∷ bs ≡ 44 ∷ rest) × (cut rest ≡ ts)
    off Blank is e = absurd (no_gap (cut bs) CommaT ts e (λ k. let l : CommaT ≡ Space = k in cc))
    off Hash is e = absurd (let k : [] ≡ CommaT ∷ ts = e in cc)
    off Plain is e = absurd (let j = joins b (cut bs) in let k : Run j.text ∷ j.rest ≡ CommaT ∷ ts = sym j.is ∙ e in cc)
    off CommaC is e = (bs, ap (λ x. x ∷ bs) (comma_is b is), (let k : CommaT ∷ cut bs ≡ CommaT ∷ ts = e in let same : cut bs ≡ ts = cc in same))
    off OpenC is e = absurd (let k : OpenT ∷ cut bs ≡ CommaT ∷ ts = e in cc)
    off CloseC is e = absurd (let k : CloseT ∷ cut bs ≡ CommaT ∷ ts = e in cc)

pub open_off : (bytes : List ℕ) (ts : List Token) → cut bytes ≡ OpenT ∷ ts → (rest : List ℕ) × (bytes ≡ 40 ∷ rest) × (cut rest ≡ ts)
open_off [] ts e = absurd (let k : [] ≡ OpenT ∷ ts = e in cc)
open_off (b ∷ bs) ts e = off (class b) refl e
  where
    off : (c : Class) → class b ≡ c → add c b (cut bs) ≡ OpenT ∷ ts → (rest : List ℕ) × (b ∷ bs ≡ 40 ∷ rest) × (cut rest ≡ ts)
    off Blank is e = absurd (no_gap (cut bs) OpenT ts e (λ k. let l : OpenT ≡ Space = k in cc))
    off Hash is e = absurd (let k : [] ≡ OpenT ∷ ts = e in cc)
    off Plain is e = absurd (let j = joins b (cut bs) in let k : Run j.text ∷ j.rest ≡ OpenT ∷ ts = sym j.is ∙ e in cc)
    off CommaC is e = absurd (let k : CommaT ∷ cut bs ≡ OpenT ∷ ts = e in cc)
    off OpenC is e = (bs, ap (λ x. x ∷ bs) (open_is b is), (let k : OpenT ∷ cut bs ≡ OpenT ∷ ts = e in let same : cut bs ≡ ts = cc in same))
    off CloseC is e = absurd (let k : CloseT ∷ cut bs ≡ OpenT ∷ ts = e in cc)

pub close_off : (bytes : List ℕ) (ts : List Token) → cut bytes ≡ CloseT ∷ ts → (rest : List ℕ) × (bytes ≡ 41 ∷ rest) × (cut rest ≡ ts)
close_off [] ts e = absurd (let k : [] ≡ CloseT ∷ ts = e in cc)
close_off (b ∷ bs) ts e = off (class b) refl e
  where
    off : (c : Class) → class b ≡ c → add c b (cut bs) ≡ CloseT ∷ ts → (rest : List ℕ) × (b ∷ bs ≡ 41 ∷ rest) × (cut rest ≡ ts)
    off Blank is e = absurd (no_gap (cut bs) CloseT ts e (λ k. let l : CloseT ≡ Space = k in cc))
    off Hash is e = absurd (let k : [] ≡ CloseT ∷ ts = e in cc)
    off Plain is e = absurd (let j = joins b (cut bs) in let k : Run j.text ∷ j.rest ≡ CloseT ∷ ts = sym j.is ∙ e in cc)
    off CommaC is e = absurd (let k : CommaT ∷ cut bs ≡ CloseT ∷ ts = e in cc)
    off OpenC is e = absurd (let k : OpenT ∷ cut bs ≡ CloseT ∷ ts = e in cc)
    off CloseC is e = (bs, ap (λ x. x ∷ bs) (close_is b is), (let k : CloseT ∷ cut bs ≡ CloseT ∷ ts = e in let same : cut bs ≡ ts = cc in same))

run_from : (b : ℕ) (bs : List ℕ) (us : List Token) (r : List ℕ) (ts : List Token) → cut bs ≡ us → joined b us ≡ Run r ∷ ts → ((q : List ℕ) (vs : List Token) → cut bs ≡ Run q ∷ vs → (rest : List ℕ) × (bs ≡ q ++ rest) × (cut rest ≡ vs))
    → (rest : List ℕ) × (b ∷ bs ≡ r ++ rest) × (cut rest ≡ ts)
run_from b bs [] r ts c e again = let k : Run (b ∷ []) ∷ [] ≡ Run r ∷ ts = e in let text : b ∷ [] ≡ r = cc in let rest : [] ≡ ts = cc in (bs, ap (λ x. x ++ bs) text, c ∙ rest)
run_from b bs (Run q ∷ us) r ts c e again =
    let k : Run (b ∷ q) ∷ us ≡ Run r ∷ ts = e in let text : b ∷ q ≡ r = cc in let rest : us ≡ ts = cc in
    let g = again q us c in (g.0, ap (λ x. b ∷ x) g.1 ∙ ap (λ x. x ++ g.0) text, g.2 ∙ rest)
run_from b bs (Space ∷ us) r ts c e again = let k : Run (b ∷ []) ∷ Space ∷ us ≡ Run r ∷ ts = e in let text : b ∷ [] ≡ r = cc in let rest : Space ∷ us ≡ ts = cc in (bs, ap (λ x. x ++ bs) text, c ∙ rest)
run_from b bs (CommaT ∷ us) r ts c e again = let k : Run (b ∷ []) ∷ CommaT ∷ us ≡ Run r ∷ ts = e in let text : b ∷ [] ≡ r = cc in let rest : CommaT ∷ us ≡ ts = cc in (bs, ap (λ x. x ++ bs) text, c ∙ rest)
run_from b bs (OpenT ∷ us) r ts c e again = let k : Run (b ∷ []) ∷ OpenT ∷ us ≡ Run r ∷ ts = e in let text : b ∷ [] ≡ r = cc in let rest : OpenT ∷ us ≡ ts = cc in (bs, ap (λ x. x ++ bs) text, c ∙ rest)
run_from b bs (CloseT ∷ us) r ts c e again = let k : Run (b ∷ []) ∷ CloseT ∷ us ≡ Run r ∷ ts = e in let text : b ∷ [] ≡ r = cc in let rest : CloseT ∷ us ≡ ts = cc in (bs, ap (λ x. x ++ bs) text, c ∙ rest)

pub run_off : (bytes r : List ℕ) (ts : List Token) → cut bytes ≡ Run r ∷ ts → (rest : List ℕ) × (bytes ≡ r ++ rest) × (cut rest ≡ ts)
run_off [] r ts e = absurd (let k : [] ≡ Run r ∷ ts = e in cc)
run_off (b ∷ bs) r ts e = off (class b) refl e (λ q vs. run_off bs q vs)
  where
    off : (c : Class) → class b ≡ c → add c b (cut bs) ≡ Run r ∷ ts → ((q : List ℕ) (vs : List Token) → cut bs ≡ Run q ∷ vs → (rest : List ℕ) × (bs ≡ q ++ rest) × (cut rest ≡ vs)) → (rest : List ℕ) × (b ∷ bs ≡ r ++ rest) × (cut rest ≡ ts)
    off Plain is e again = run_from b bs (cut bs) r ts refl e again
    off Blank is e again = absurd (no_gap (cut bs) (Run r) ts e (λ k. let l : Run r ≡ Space = k in cc))
    off Hash is e again = absurd (let k : [] ≡ Run r ∷ ts = e in cc)
    off CommaC is e again = absurd (let k : CommaT ∷ cut bs ≡ Run r ∷ ts = e in cc)
    off OpenC is e again = absurd (let k : OpenT ∷ cut bs ≡ Run r ∷ ts = e in cc)
    off CloseC is e again = absurd (let k : CloseT ∷ cut bs ≡ Run r ∷ ts = e in cc)

-- ---- pieces

pub spelled_by : (ps : List Piece) (bytes : List ℕ) → TokensAre ps (cut bytes) → SpellAll ps bytes
spelled_by [] bytes h = let r = ended bytes h in (r.blanks, r.rest, r.is, r.blank, r.comment)
spelled_by (Gap ∷ ps) bytes h =
    let r = blanks_off bytes h.0 h.1 in
    (r.first ∷ r.more, r.rest, r.is, ((λ e. let k : r.first ∷ r.more ≡ [] = e in cc), r.blank), spelled_by ps r.rest (subst (TokensAre ps) (sym r.cut_rest) h.2))
spelled_by (Comma ∷ ps) bytes h = let r = comma_off bytes h.0 h.1 in (44 ∷ [], r.0, r.1, refl, spelled_by ps r.0 (subst (TokensAre ps) (sym r.2) h.2))
spelled_by (Open ∷ ps) bytes h = let r = open_off bytes h.0 h.1 in (40 ∷ [], r.0, r.1, refl, spelled_by ps r.0 (subst (TokensAre ps) (sym r.2) h.2))
spelled_by (Close ∷ ps) bytes h = let r = close_off bytes h.0 h.1 in (41 ∷ [], r.0, r.1, refl, spelled_by ps r.0 (subst (TokensAre ps) (sym r.2) h.2))
spelled_by (Name text ∷ ps) bytes h = let r = run_off bytes text h.0 h.1 in (text, r.0, r.1, refl, spelled_by ps r.0 (subst (TokensAre ps) (sym r.2) h.2))
spelled_by (Register x ∷ ps) bytes h = let r = run_off bytes (register_text x) h.0 h.1 in (register_text x, r.0, r.1, refl, spelled_by ps r.0 (subst (TokensAre ps) (sym r.2) h.2))
spelled_by (Number n ∷ ps) bytes h = let r = run_off bytes h.0 h.1 h.2 in (h.0, r.0, r.1, h.3, spelled_by ps r.0 (subst (TokensAre ps) (sym r.2) h.4))
spelled_by (Hex bits ∷ ps) bytes h = let r = run_off bytes (hex_text bits) h.0 h.1 in (hex_text bits, r.0, r.1, refl, spelled_by ps r.0 (subst (TokensAre ps) (sym r.2) h.2))

pieces_by : (ps : List Piece) (line : List ℕ) (ts : List Token) → cut line ≡ ts → TokensAre ps (unspaced ts) → HasPieces ps line
pieces_by ps line (Space ∷ ts) e h = let r = blanks_off line ts e in (r.first ∷ r.more, r.rest, r.is, r.blank, spelled_by ps r.rest (subst (TokensAre ps) (sym r.cut_rest) h))
pieces_by ps line [] e h = ([], line, refl, All-nil (λ b. IsTrue (is_blank b)), spelled_by ps line (subst (TokensAre ps) (sym e) h))
pieces_by ps line (CommaT ∷ ts) e h = ([], line, refl, All-nil (λ b. IsTrue (is_blank b)), spelled_by ps line (subst (TokensAre ps) (sym e) h))
pieces_by ps line (OpenT ∷ ts) e h = ([], line, refl, All-nil (λ b. IsTrue (is_blank b)), spelled_by ps line (subst (TokensAre ps) (sym e) h))
pieces_by ps line (CloseT ∷ ts) e h = ([], line, refl, All-nil (λ b. IsTrue (is_blank b)), spelled_by ps line (subst (TokensAre ps) (sym e) h))
pieces_by ps line (Run x ∷ ts) e h = ([], line, refl, All-nil (λ b. IsTrue (is_blank b)), spelled_by ps line (subst (TokensAre ps) (sym e) h))

-- a line whose tokens are those of pieces has the pieces
pub line_spelled : (ps : List Piece) (line : List ℕ) → TokensAre ps (tokens line) → HasPieces ps line
line_spelled ps line h = pieces_by ps line (cut line) refl h
