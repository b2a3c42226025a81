-- Cutting a source: in one way, and piece by piece.
use Rattle.std.proofs.Common.{◌≡◌, ℕ, zero, suc, ◌+◌, ◌<◌, ◌≤◌, List, [], ◌∷◌, ◌++◌, length, take, drop, Option, Some, None, refl, sym, ap, ◌∙◌, subst, inl, inr, arith, add-zero, length-append, append_assoc, append-nil, length-drop}
use Rattle.std.specs.Prelude.{◌⊎◌, IfSome}
use Rattle.std.proofs.lemmas.Bool.{cases_lt}
use Rattle.std.proofs.lemmas.List.{take_at, drop_at, drop-drop, drop_all}
use Rattle.bril_lex.specs.Piece.{IsFront}
use Rattle.bril_lex.specs.Cut.{Piece, bytes_of, AreLongest, token_at, tokens_from, AreTokens, StopsAt}
use Rattle.bril_lex.specs.Scan.{front_of}
use Rattle.bril_lex.specs.Laws.{CutsOrStops, CutsInOneWay}
use Rattle.bril_lex.specs.declared.token.Token.{Token}
use Rattle.bril_lex.specs.declared.scan.Front.{Front}
use Rattle.bril_lex.proofs.Fronts.{front}
use Rattle.bril_lex.proofs.Longest.{FitsAt, Fits, front_fits, is_front, front_is, begins_nothing, front_of-nothing, piece_size}

-- ---- one way
same_parts : (a b c d : List ℕ) → a ++ b ≡ c ++ d → length a ≡ length c → (a ≡ c) × (b ≡ d)
same_parts a b c d e n = (
  sym (take_at a b (length a) refl) ∙ ap (take (length a)) e ∙ take_at c d (length a) (sym n),
  sym (drop_at a b (length a) refl) ∙ ap (drop (length a)) e ∙ drop_at c d (length a) (sym n),
)

fronts_same : (f g : Front) → Some f ≡ Some g → f ≡ g
fronts_same f g e = cc

pub one_way : (ps qs : List Piece) (r s : List ℕ) → bytes_of ps ++ r ≡ bytes_of qs ++ s → AreLongest ps r → AreLongest qs s → front_of r ≡ None → front_of s ≡ None → (ps ≡ qs) × (r ≡ s)
one_way [] [] r s e lp lq nr ns = (refl, e)
one_way [] (q ∷ qs) r s e lp lq nr ns =
    let begins = ap front_of (e ∙ append_assoc q.text (bytes_of qs) s) ∙ front_is q.class q.text (bytes_of qs ++ s) lq.0 in
    let both = sym nr ∙ begins in
    cc
one_way (p ∷ ps) [] r s e lp lq nr ns =
    let begins = ap front_of (sym e ∙ append_assoc p.text (bytes_of ps) r) ∙ front_is p.class p.text (bytes_of ps ++ r) lp.0 in
    let both = sym ns ∙ begins in
    cc
one_way (p ∷ ps) (q ∷ qs) r s e lp lq nr ns =
    let whole = sym (append_assoc p.text (bytes_of ps) r) ∙ e ∙ append_assoc q.text (bytes_of qs) s in
    let fronts = fronts_same _ _ (sym (front_is p.class p.text (bytes_of ps ++ r) lp.0) ∙ ap front_of whole ∙ front_is q.class q.text (bytes_of qs ++ s) lq.0) in
    let parts = same_parts p.text (bytes_of ps ++ r) q.text (bytes_of qs ++ s) whole (ap (λ (f : Front). f.length) fronts) in
    let rest = one_way ps qs r s parts.1 lp.1 lq.1 nr ns in
    let class = ap (λ (f : Front). f.class) fronts in
    ((λ i. record { class = class i; text = parts.0 i } ∷ rest.0 i), rest.1)

-- a cut that ends where nothing begins
abbrev pub EndsAt : List ℕ → List Piece → List ℕ → Type 0
EndsAt source pieces rest = (source ≡ bytes_of pieces ++ rest) × AreLongest pieces rest × (front_of rest ≡ None)

pub same_ends : (source : List ℕ) (ps qs : List Piece) (r s : List ℕ) → EndsAt source ps r → EndsAt source qs s → (ps ≡ qs) × (r ≡ s)
same_ends source ps qs r s a b = one_way ps qs r s (sym a.0 ∙ b.0) a.1 b.1 a.2 b.2

tokens_end : (source : List ℕ) (ts : List Token) (a : AreTokens source ts) → EndsAt source a.pieces []
tokens_end source ts a = (a.cut ∙ sym (append-nil (bytes_of a.pieces)), a.longest, refl)

stop_ends : (source : List ℕ) (at : ℕ) (a : StopsAt source at) → EndsAt source a.pieces a.rest
stop_ends source at a = (a.cut, a.longest, front_of-nothing a.rest a.nothing)

-- ---- cuts joined
pub bytes_of-append : (ps qs : List Piece) (rest : List ℕ) → bytes_of (ps ++ qs) ++ rest ≡ bytes_of ps ++ (bytes_of qs ++ rest)
bytes_of-append [] qs rest = refl
bytes_of-append (p ∷ ps) qs rest =
    append_assoc p.text (bytes_of (ps ++ qs)) rest ∙ ap (λ l. p.text ++ l) (bytes_of-append ps qs rest) ∙ sym (append_assoc p.text (bytes_of ps) (bytes_of qs ++ rest))

pub AreLongest-append : (ps qs : List Piece) (rest : List ℕ) → AreLongest ps (bytes_of qs ++ rest) → AreLongest qs rest → AreLongest (ps ++ qs) rest
AreLongest-append [] qs rest a b = b
AreLongest-append (p ∷ ps) qs rest a b =
    (subst (IsFront p.class p.text) (sym (bytes_of-append ps qs rest)) a.0, AreLongest-append ps qs rest a.1 b)

pub tokens_from-append : (at : ℕ) (ps qs : List Piece) → tokens_from at (ps ++ qs) ≡ tokens_from at ps ++ tokens_from (at + length (bytes_of ps)) qs
tokens_from-append at [] qs = rw add-zero refl
tokens_from-append at (p ∷ ps) qs =
    let position : at + length p.text + length (bytes_of ps) ≡ at + length (p.text ++ bytes_of ps) = omega (arith, length-append p.text (bytes_of ps)) in
    ap (λ l. token_at p.class at (at + length p.text) ++ l)
    (tokens_from-append (at + length p.text) ps qs ∙ ap (λ n. tokens_from (at + length p.text) ps ++ tokens_from n qs) position)
    ∙ sym (append_assoc (token_at p.class at (at + length p.text)) (tokens_from (at + length p.text) ps) (tokens_from (at + length (p.text ++ bytes_of ps)) qs))

length-bytes_push : (ps : List Piece) (p : Piece) → length (bytes_of (ps ++ p ∷ [])) ≡ length (bytes_of ps) + length p.text
length-bytes_push [] p = omega (arith, length-append p.text [])
length-bytes_push (q ∷ qs) p =
    omega (arith, length-append q.text (bytes_of (qs ++ p ∷ [])), length-append q.text (bytes_of qs), length-bytes_push qs p)

tokens_from_push : (ps : List Piece) (p : Piece) (at to : ℕ) → length (bytes_of ps) ≡ at → at + length p.text ≡ to → tokens_from 0 (ps ++ p ∷ []) ≡ tokens_from 0 ps ++ token_at p.class at to
tokens_from_push ps p at to e f =
    let from : 0 + length (bytes_of ps) ≡ at = omega (arith, e) in
    tokens_from-append 0 ps (p ∷ []) ∙ ap (λ l. tokens_from 0 ps ++ l)
    (append-nil (token_at p.class (0 + length (bytes_of ps)) (0 + length (bytes_of ps) + length p.text))
    ∙ ap (λ n. token_at p.class n (n + length p.text)) from ∙ ap (token_at p.class at) f)

-- ---- the scan
-- the source is cut up to a position, and these are the tokens before it
pub record IsCutTo (source : List ℕ) (at : ℕ) (tokens : List Token) : Type 0 where
  pub pieces : List Piece
  pub cut : source ≡ bytes_of pieces ++ drop at source
  pub position : length (bytes_of pieces) ≡ at
  pub longest : AreLongest pieces (drop at source)
  pub are : tokens ≡ tokens_from 0 pieces

pub cut_start : (source : List ℕ) → IsCutTo source 0 []
cut_start source = record { pieces = []; cut = refl; position = refl; longest = tt; are = refl }

pub cut_more : (source : List ℕ) (at : ℕ) (tokens : List Token) (f : Front) → IsCutTo source at tokens → Some f ≡ front_of (drop at source) → IsCutTo source (at + f.length) (tokens ++ token_at f.class at (at + f.length))
cut_more source at tokens f before e =
    let fits : FitsAt f (drop at source) = subst (λ o. Fits o (drop at source)) (sym e) (front_fits (drop at source)) in
    let piece : Piece = record { class = f.class; text = fits.text } in
    let left : drop (at + f.length) source ≡ fits.rest =
    sym (drop-drop f.length at source) ∙ ap (drop f.length) fits.cut ∙ drop_at fits.text fits.rest f.length fits.size in
    let whole : drop at source ≡ fits.text ++ drop (at + f.length) source = fits.cut ∙ ap (λ l. fits.text ++ l) (sym left) in
    let front_at : front_of (fits.text ++ drop (at + f.length) source) ≡ front f.class (length fits.text) =
    ap front_of (sym whole) ∙ sym e ∙ ap (front f.class) (sym fits.size) in
    let alone : bytes_of (piece ∷ []) ++ drop (at + f.length) source ≡ fits.text ++ drop (at + f.length) source = ap (λ l. l ++ drop (at + f.length) source) (append-nil fits.text) in
    record {
      pieces = before.pieces ++ (piece ∷ []);
      cut = before.cut ∙ ap (λ l. bytes_of before.pieces ++ l) (whole ∙ sym alone) ∙ sym (bytes_of-append before.pieces (piece ∷ []) (drop (at + f.length) source));
      position = omega (arith, before.position, fits.size, length-bytes_push before.pieces piece);
      longest = AreLongest-append before.pieces (piece ∷ []) (drop (at + f.length) source)
          (subst (AreLongest before.pieces) (whole ∙ sym alone) before.longest)
          (is_front f.class fits.text (drop (at + f.length) source) front_at fits.fits, tt);
      are = ap (λ l. l ++ token_at f.class at (at + f.length)) before.are
          ∙ sym (tokens_from_push before.pieces piece at (at + f.length) before.position (ap (λ n. at + n) fits.size));
    }

pub cut_whole : (source : List ℕ) (at : ℕ) (tokens : List Token) → IsCutTo source at tokens → length source ≤ at → AreTokens source tokens
cut_whole source at tokens c all =
    let none : drop at source ≡ [] = drop_all at source all in
    record {
      pieces = c.pieces;
      cut = c.cut ∙ ap (λ l. bytes_of c.pieces ++ l) none ∙ append-nil (bytes_of c.pieces);
      longest = subst (AreLongest c.pieces) none c.longest;
      are = c.are;
    }

pub cut_stops : (source : List ℕ) (at : ℕ) (tokens : List Token) → IsCutTo source at tokens → at < length source → None ≡ front_of (drop at source) → StopsAt source at
cut_stops source at tokens c more e = record {
  pieces = c.pieces;
  rest = drop at source;
  cut = c.cut;
  longest = c.longest;
  position = sym c.position;
  more = λ nil. absurd (omega (arith, ap length nil, length-drop at source));
  nothing = begins_nothing (drop at source) (sym e);
}

-- the computed front lies within the bytes, and is not empty
pub front_within : (bytes : List ℕ) → IfSome (front_of bytes) (λ f. (0 < f.length) × (f.length ≤ length bytes))
front_within bytes = by (front_of bytes) (front_fits bytes)
  where
    by : (o : Option Front) → Fits o bytes → IfSome o (λ f. (0 < f.length) × (f.length ≤ length bytes))
    by None fits = tt
    by (Some f) fits =
        let size = fits.size in
        (omega (arith, size, piece_size f.class fits.text fits.fits), omega (arith, size, ap length fits.cut, length-append fits.text fits.rest))

-- ---- a source is cut, or stops
-- one piece, or the end
cut_one : (source : List ℕ) (at : ℕ) (ts : List Token) → IsCutTo source at ts → (o : Option Front) → front_of (drop at source) ≡ o → at < length source
    → ((next : ℕ) (more : List Token) → at < next → IsCutTo source next more → CutsOrStops source) → CutsOrStops source
cut_one source at ts c None e below goes_on = inr (at, cut_stops source at ts c below (sym e))
cut_one source at ts c (Some f) e below goes_on =
    let some = subst (λ o. IfSome o (λ (g : Front). (0 < g.length) × (g.length ≤ length (drop at source)))) e (front_within (drop at source)) in
    goes_on (at + f.length) (ts ++ token_at f.class at (at + f.length)) (omega (arith, some.0)) (cut_more source at ts f c (sym e))

cut_on : (n : ℕ) (source : List ℕ) (at : ℕ) (ts : List Token) → length source ≤ at + n → IsCutTo source at ts → CutsOrStops source
cut_on zero source at ts enough c = inl (ts, cut_whole source at ts c (omega (arith, enough)))
cut_on (suc n) source at ts enough c = by (cases_lt at (length source)) (λ next more above d. cut_on n source next more (omega (arith, above, enough)) d)
  where
    by : (at < length source) ⊎ (length source ≤ at) → ((next : ℕ) (more : List Token) → at < next → IsCutTo source next more → CutsOrStops source) → CutsOrStops source
    by (inl below) goes_on = cut_one source at ts c (front_of (drop at source)) refl below goes_on
    by (inr past) goes_on = inl (ts, cut_whole source at ts c past)

pub cuts_in_one_way : CutsInOneWay
cuts_in_one_way = record {
  either = λ source. cut_on (length source) source 0 [] (omega arith) (cut_start source);
  tokens = λ source a b x y.
      x.are ∙ ap (tokens_from 0) (same_ends source x.pieces y.pieces [] [] (tokens_end source a x) (tokens_end source b y)).0 ∙ sym y.are;
  stops = λ source a b x y.
      x.position ∙ ap (λ ps. length (bytes_of ps)) (same_ends source x.pieces y.pieces x.rest y.rest (stop_ends source a x) (stop_ends source b y)).0 ∙ sym y.position;
  never_both = λ source ts at x y.
      y.more (sym (same_ends source x.pieces y.pieces [] y.rest (tokens_end source ts x) (stop_ends source at y)).1);
}
