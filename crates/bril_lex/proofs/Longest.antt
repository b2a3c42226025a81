-- The computed front is the longest piece of any class, and none where no piece begins the bytes.
use Rattle.std.proofs.Common.{◌≡◌, ℕ, ◌+◌, ◌<◌, ◌≤◌, Bool, true, false, cond, List, [], ◌∷◌, ◌++◌, length, take, drop, Option, Some, None, refl, sym, ap, ◌∙◌, subst, arith, IsUtf8, take-append-drop, append_assoc, length-append, length-take-le}
use Rattle.std.specs.Prelude.{◌==◌}
use Rattle.std.specs.List.{list_all, prefix_len}
use Rattle.std.specs.Char.{is_ascii_digit}
use Rattle.std.proofs.lemmas.Bool.{and_from, eqb-false, cond-false, cond_both, or_parts, not-true}
use Rattle.std.proofs.lemmas.List.{take-take}
use Rattle.std.proofs.lemmas.List.Folds.{length-prefix_len}
use Rattle.std.proofs.lemmas.List.Sums.{prefix_len-le-length}
use Rattle.std.proofs.lemmas.Str.{utf8_valid_len_le}
use Rattle.bril_tree.specs.Identifier.{begins_identifier, continues_identifier, is_identifier}
use Rattle.bril_lex.specs.Spelling.{is_blank, is_number, makes_float, continues_float, IsTokenOf}
use Rattle.bril_lex.specs.Piece.{stays_in_line, IsPiece, IsFront, BeginsNothing}
use Rattle.bril_lex.specs.Printed.{ends_before}
use Rattle.bril_lex.specs.Scan.{lead_of, front_after, identifier_len, sign_len, digits_len, fraction_len, front_of_digits, number_front, char_len, path_len, comment_len, front_at, front_of}
use Rattle.bril_lex.specs.declared.token.Kind.{Kind}
use Rattle.bril_lex.specs.declared.token.Kind.TheVariants as kind
use Rattle.bril_lex.specs.declared.class.Class.{Class}
use Rattle.bril_lex.specs.declared.class.Class.TheVariants.{OfKind, Blank, Comment}
use Rattle.bril_lex.specs.declared.scan.Front.{Front}
use Rattle.bril_lex.specs.declared.scan.Lead.{Lead}
use Rattle.bril_lex.specs.declared.scan.Lead.TheVariants as lead
use Rattle.bril_lex.proofs.Leads.{Tells, lead_of-tells}
use Rattle.bril_lex.proofs.Spans.{list_all-prefix, list_all-take}
use Rattle.bril_lex.proofs.Utf8.{valid_front}
use Rattle.bril_lex.proofs.Fronts.{front, front_of-identifier, front_of-function, front_of-label, front_of-mark, front_of-blank, front_of-comment, comment_len-reaches}
use Rattle.bril_lex.proofs.Numbers.{front_of-digits, front_of-float, is_number-take, digits_within}
use Rattle.bril_lex.proofs.Quoted.{front_of-char, front_of-path, char_len-tells, path_len-tells}

-- ---- every piece at the front is no longer, and of the same class where as long
abbrev pub Reaches : Option Front → Class → ℕ → Type 0
Reaches None class n = ⊥
Reaches (Some f) class n = (n ≤ f.length) × (n ≡ f.length → f.class ≡ class)

reaches : (o : Option Front) (class : Class) (m n : ℕ) → o ≡ front class m → n ≤ m → Reaches o class n
reaches o class m n e l = subst (λ x. Reaches x class n) (sym e) (l, λ _. refl)

digits_reach : (n fraction m : ℕ) → m ≤ n → Reaches (Some (front_of_digits n fraction)) (OfKind kind.Number) m
digits_reach n fraction m l =
    cond_both (fraction == 0) (record { class = OfKind kind.Number; length = n }) (record { class = OfKind kind.Float; length = n + fraction })
    (λ f. Reaches (Some f) (OfKind kind.Number) m)
    (λ _. (l, λ _. refl))
    (λ some. (omega arith, λ e. absurd (eqb-false fraction 0 some (omega (arith, e)))))

token_reaches : (k : Kind) (text rest : List ℕ) → IsTokenOf k text → Reaches (front_of (text ++ rest)) (OfKind k) (length text)
token_reaches kind.Identifier text rest h = reaches _ _ _ _ (front_of-identifier text rest h) (omega arith)
token_reaches kind.Function text rest (name, spelled, h) =
    subst (λ t. Reaches (front_of (t ++ rest)) (OfKind kind.Function) (length t)) (sym spelled) (reaches _ _ _ _ (front_of-function name rest h) (omega arith))
token_reaches kind.Label text rest (name, spelled, h) =
    subst (λ t. Reaches (front_of (t ++ rest)) (OfKind kind.Label) (length t)) (sym spelled) (reaches _ _ _ _ (front_of-label name rest h) (omega arith))
token_reaches kind.Number text rest h =
    subst (λ o. Reaches o (OfKind kind.Number) (length text)) (sym (front_of-digits text rest h)) (digits_reach _ _ (length text) (omega arith))
token_reaches kind.Float text rest h = reaches _ _ _ _ (front_of-float text rest h) (omega arith)
token_reaches kind.Char text rest (c, h) = reaches _ _ _ _ (front_of-char text rest c h) (omega arith)
token_reaches kind.Path text rest (path, h) = reaches _ _ _ _ (front_of-path path text rest h) (omega arith)
token_reaches kind.Mark text rest (mark, spelled, h) =
    subst (λ t. Reaches (front_of (t ++ rest)) (OfKind kind.Mark) (length t)) (sym spelled) (reaches _ _ _ _ (front_of-mark mark rest h) (omega arith))

pub piece_reaches : (class : Class) (text rest : List ℕ) → IsPiece class text → Reaches (front_of (text ++ rest)) class (length text)
piece_reaches (OfKind k) text rest h = token_reaches k text rest h
piece_reaches Blank text rest (blank, spelled, h) =
    subst (λ t. Reaches (front_of (t ++ rest)) Blank (length t)) (sym spelled) (reaches _ _ _ _ (front_of-blank blank rest h) (omega arith))
piece_reaches Comment text rest h =
    let long = comment_len-reaches h.body rest h.is_utf8 h.one_line in
    subst (λ t. Reaches (front_of (t ++ rest)) Comment (length t)) (sym h.spelled) (reaches _ _ _ _ (front_of-comment h.body rest) (omega (arith, long)))

-- ---- a token that is not continued
stop : (p : ℕ → Bool) (rest : List ℕ) → ((b : ℕ) (bs : List ℕ) → rest ≡ b ∷ bs → p b ≡ false) → prefix_len p rest ≡ 0
stop p [] h = refl
stop p (b ∷ bs) h = cond-false (p b) _ 0 (h b bs refl)

next : (k : Kind) (b : ℕ) (rest bs : List ℕ) → ends_before k rest ≡ true → rest ≡ b ∷ bs → ends_before k (b ∷ bs) ≡ true
next k b rest bs h e = subst (λ l. ends_before k l ≡ true) e h

no_fraction : (rest : List ℕ) → ends_before kind.Number rest ≡ true → fraction_len rest ≡ 0
no_fraction [] h = refl
no_fraction (b ∷ bs) h = cond-false (makes_float b) (prefix_len continues_float bs + 1) 0 (or_parts (is_ascii_digit b) (makes_float b) (not-true _ h)).1

pub token_front : (k : Kind) (text rest : List ℕ) → IsTokenOf k text → ends_before k rest ≡ true → front_of (text ++ rest) ≡ front (OfKind k) (length text)
token_front kind.Identifier text rest h ends =
    let none = stop continues_identifier rest (λ b bs e. not-true _ (next kind.Identifier b rest bs ends e)) in
    front_of-identifier text rest h ∙ ap (front (OfKind kind.Identifier)) (omega (arith, none))
token_front kind.Function text rest (name, spelled, h) ends =
    let none = stop continues_identifier rest (λ b bs e. not-true _ (next kind.Function b rest bs ends e)) in
    subst (λ t. front_of (t ++ rest) ≡ front (OfKind kind.Function) (length t)) (sym spelled) (front_of-function name rest h ∙ ap (front (OfKind kind.Function)) (omega (arith, none)))
token_front kind.Label text rest (name, spelled, h) ends =
    let none = stop continues_identifier rest (λ b bs e. not-true _ (next kind.Label b rest bs ends e)) in
    subst (λ t. front_of (t ++ rest) ≡ front (OfKind kind.Label) (length t)) (sym spelled) (front_of-label name rest h ∙ ap (front (OfKind kind.Label)) (omega (arith, none)))
token_front kind.Number text rest h ends =
    let none : prefix_len is_ascii_digit rest ≡ 0 = stop is_ascii_digit rest (λ b bs e. (or_parts _ _ (not-true _ (next kind.Number b rest bs ends e))).0) in
    let plain : fraction_len (drop (prefix_len is_ascii_digit rest) rest) ≡ 0 = ap (λ n. fraction_len (drop n rest)) none ∙ no_fraction rest ends in
    let size : length text + prefix_len is_ascii_digit rest ≡ length text = omega (arith, none) in
    front_of-digits text rest h ∙ (λ i. Some (front_of_digits (size i) (plain i)))
token_front kind.Float text rest h ends =
    let none = stop continues_float rest (λ b bs e. not-true _ (next kind.Float b rest bs ends e)) in
    front_of-float text rest h ∙ ap (front (OfKind kind.Float)) (omega (arith, none))
token_front kind.Char text rest (c, h) ends = front_of-char text rest c h
token_front kind.Path text rest (path, h) ends = front_of-path path text rest h
token_front kind.Mark text rest (mark, spelled, h) ends =
    subst (λ t. front_of (t ++ rest) ≡ front (OfKind kind.Mark) (length t)) (sym spelled) (front_of-mark mark rest h)

-- ---- the front is a piece
pub record FitsAt (f : Front) (bytes : List ℕ) : Type 0 where
  pub text : List ℕ
  pub rest : List ℕ
  pub cut : bytes ≡ text ++ rest
  pub size : length text ≡ f.length
  pub fits : IsPiece f.class text

abbrev pub Fits : Option Front → List ℕ → Type 0
Fits None bytes = Unit {0}
Fits (Some f) bytes = FitsAt f bytes

name_fits : (k : Kind) (first : ℕ) (rest : List ℕ) → ((name : List ℕ) → is_identifier name ≡ true → IsTokenOf k (first ∷ name)) → Fits (front_after k (identifier_len rest)) (first ∷ rest)
name_fits k first [] token = tt
name_fits k first (b ∷ bs) token = by (begins_identifier b) refl
  where
    n : ℕ
    n = prefix_len continues_identifier bs

    is : begins_identifier b ≡ true → is_identifier (b ∷ take n bs) ≡ true
    is h = and_from _ _ h (list_all-prefix continues_identifier bs)

    fits : begins_identifier b ≡ true → Fits (Some (record { class = OfKind k; length = n + 1 + 1 })) (first ∷ b ∷ bs)
    fits h = record {
      text = first ∷ b ∷ take n bs;
      rest = drop n bs;
      cut = ap (λ l. first ∷ b ∷ l) (sym (take-append-drop n bs));
      size = omega (arith, length-prefix_len continues_identifier bs);
      fits = token (b ∷ take n bs) (is h);
    }

    by : (t : Bool) → begins_identifier b ≡ t → Fits (front_after k (cond t (n + 1) 0)) (first ∷ b ∷ bs)
    by true h = cond_both (n + 1 == 0) None (Some (record { class = OfKind k; length = n + 1 + 1 })) (λ o. Fits o (first ∷ b ∷ bs)) (λ _. tt) (λ _. fits h)
    by false h = tt

identifier_fits : (first : ℕ) (rest : List ℕ) → begins_identifier first ≡ true → Fits (front_at lead.Identifier first rest) (first ∷ rest)
identifier_fits first rest h = record {
  text = first ∷ take (prefix_len continues_identifier rest) rest;
  rest = drop (prefix_len continues_identifier rest) rest;
  cut = ap (λ l. first ∷ l) (sym (take-append-drop (prefix_len continues_identifier rest) rest));
  size = omega (arith, length-prefix_len continues_identifier rest);
  fits = and_from _ _ h (list_all-prefix continues_identifier rest);
}

comment_fits : (rest : List ℕ) → Fits (front_at lead.Comment 35 rest) (35 ∷ rest)
comment_fits rest = record {
  text = 35 ∷ take (comment_len rest) rest;
  rest = drop (comment_len rest) rest;
  cut = ap (λ l. 35 ∷ l) (sym (take-append-drop (comment_len rest) rest));
  size = omega (arith, length-take-le (comment_len rest) rest (omega (arith, within, short)));
  fits = record {
    body = take (comment_len rest) rest;
    spelled = refl;
    is_utf8 = subst IsUtf8 front_is (valid_front line);
    one_line = subst (λ l. list_all stays_in_line l ≡ true) front_is (list_all-take stays_in_line (comment_len rest) line (list_all-prefix stays_in_line rest));
  };
}
  where
    line : List ℕ
    line = take (prefix_len stays_in_line rest) rest

    within : comment_len rest ≤ length line
    within = utf8_valid_len_le line

    short : length line ≤ length rest
    short = omega (arith, length-prefix_len stays_in_line rest, prefix_len-le-length stays_in_line rest)

    front_is : take (comment_len rest) line ≡ take (comment_len rest) rest
    front_is = take-take (comment_len rest) (prefix_len stays_in_line rest) rest (omega (arith, within, length-prefix_len stays_in_line rest))

number_fits : (first : ℕ) (rest : List ℕ) → Fits (number_front (first ∷ rest)) (first ∷ rest)
number_fits first rest =
    cond_both (digits_len bytes == 0) None (Some (front_of_digits m (fraction_len (drop m bytes)))) (λ o. Fits o bytes)
    (λ _. tt) (λ e. by e (drop m bytes) refl)
  where
    bytes : List ℕ
    bytes = first ∷ rest

    m : ℕ
    m = sign_len bytes + digits_len bytes

    size : length (take m bytes) ≡ m
    size = length-take-le m bytes (digits_within bytes)

    number : (digits_len bytes == 0) ≡ false → is_number (take m bytes) ≡ true
    number e = let ne = eqb-false (digits_len bytes) 0 e in is_number-take bytes (omega arith)

    plain : (digits_len bytes == 0) ≡ false → Fits (Some (record { class = OfKind kind.Number; length = m })) bytes
    plain e = record { text = take m bytes; rest = drop m bytes; cut = sym (take-append-drop m bytes); size = size; fits = number e }

    float : (digits_len bytes == 0) ≡ false → (c : ℕ) (cs : List ℕ) → drop m bytes ≡ c ∷ cs → makes_float c ≡ true
        → Fits (Some (record { class = OfKind kind.Float; length = m + (prefix_len continues_float cs + 1) })) bytes
    float e c cs left makes =
        let q = prefix_len continues_float cs in
        record {
          text = take m bytes ++ (c ∷ take q cs);
          rest = drop q cs;
          cut = sym (take-append-drop m bytes) ∙ ap (λ l. take m bytes ++ l) (left ∙ ap (λ l. c ∷ l) (sym (take-append-drop q cs))) ∙ sym (append_assoc (take m bytes) (c ∷ take q cs) (drop q cs));
          size = omega (arith, length-append (take m bytes) (c ∷ take q cs), size, length-prefix_len continues_float cs);
          fits = record { number = take m bytes; maker = c; more = take q cs; spelled = refl; is_number = number e; makes_float = makes; continues = list_all-prefix continues_float cs };
        }

    either : (digits_len bytes == 0) ≡ false → (c : ℕ) (cs : List ℕ) → drop m bytes ≡ c ∷ cs → (t : Bool) → makes_float c ≡ t
        → Fits (Some (front_of_digits m (cond t (prefix_len continues_float cs + 1) 0))) bytes
    either e c cs left true makes =
        cond_both (prefix_len continues_float cs + 1 == 0) (record { class = OfKind kind.Number; length = m }) (record { class = OfKind kind.Float; length = m + (prefix_len continues_float cs + 1) })
        (λ f. Fits (Some f) bytes) (λ _. plain e) (λ _. float e c cs left makes)
    either e c cs left false makes = plain e

    by : (digits_len bytes == 0) ≡ false → (r : List ℕ) → drop m bytes ≡ r → Fits (Some (front_of_digits m (fraction_len r))) bytes
    by e [] left = plain e
    by e (c ∷ cs) left = either e c cs left (makes_float c) refl

-- a token of one byte and n others, where these are found
after_fits : (k : Kind) (n : ℕ) (bytes : List ℕ) → (0 < n → FitsAt (record { class = OfKind k; length = n + 1 }) bytes) → Fits (front_after k n) bytes
after_fits k n bytes found =
    cond_both (n == 0) None (Some (record { class = OfKind k; length = n + 1 })) (λ o. Fits o bytes) (λ _. tt)
    (λ e. found (let some = eqb-false n 0 e in omega arith))

char_fits : (rest : List ℕ) → Fits (front_after kind.Char (char_len rest)) (39 ∷ rest)
char_fits rest =
    after_fits kind.Char (char_len rest) (39 ∷ rest)
    (λ some. let found = char_len-tells rest some in record { text = found.text; rest = found.rest; cut = found.cut; size = found.size; fits = (found.character, found.spells) })

path_fits : (rest : List ℕ) → Fits (front_after kind.Path (path_len rest)) (34 ∷ rest)
path_fits rest =
    after_fits kind.Path (path_len rest) (34 ∷ rest)
    (λ some. let found = path_len-tells rest some in record { text = found.text; rest = found.rest; cut = found.cut; size = found.size; fits = (found.path, found.spells) })

by_lead : (l : Lead) (first : ℕ) (rest : List ℕ) → Tells l first → Fits (front_at l first rest) (first ∷ rest)
by_lead lead.Mark first rest h = record { text = first ∷ []; rest = rest; cut = refl; size = refl; fits = (first, refl, h) }
by_lead lead.Blank first rest h = record { text = first ∷ []; rest = rest; cut = refl; size = refl; fits = (first, refl, h) }
by_lead lead.Identifier first rest h = identifier_fits first rest h
by_lead lead.Number first rest h = number_fits first rest
by_lead lead.Function first rest h = name_fits kind.Function first rest (λ name is. (name, ap (λ b. b ∷ name) h, is))
by_lead lead.Label first rest h = name_fits kind.Label first rest (λ name is. (name, ap (λ b. b ∷ name) h, is))
by_lead lead.Char first rest h = subst (λ b. Fits (front_after kind.Char (char_len rest)) (b ∷ rest)) (sym h) (char_fits rest)
by_lead lead.Path first rest h = subst (λ b. Fits (front_after kind.Path (path_len rest)) (b ∷ rest)) (sym h) (path_fits rest)
by_lead lead.Comment first rest h = subst (λ b. Fits (front_at lead.Comment b rest) (b ∷ rest)) (sym h) (comment_fits rest)
by_lead lead.Nothing first rest h = tt

pub front_fits : (bytes : List ℕ) → Fits (front_of bytes) bytes
front_fits [] = tt
front_fits (first ∷ rest) = by_lead (lead_of first) first rest (lead_of-tells first)

-- ---- the longest rule
-- a piece as long as the computed front is the longest
pub is_front : (class : Class) (text rest : List ℕ) → front_of (text ++ rest) ≡ front class (length text) → IsPiece class text → IsFront class text rest
is_front class text rest e h = record {
  fits = h;
  longest = λ other piece after same fits.
      (subst (λ o. Reaches o other (length piece)) (ap front_of (sym same) ∙ e) (piece_reaches other piece after fits)).0;
}

-- the longest piece is the computed front
pub front_is : (class : Class) (text rest : List ℕ) → IsFront class text rest → front_of (text ++ rest) ≡ front class (length text)
front_is class text rest h = by (front_of (text ++ rest)) (piece_reaches class text rest h.fits) (front_fits (text ++ rest))
  where
    by : (o : Option Front) → Reaches o class (length text) → Fits o (text ++ rest) → o ≡ front class (length text)
    by None reached found = absurd reached
    by (Some f) reached found =
        let size : f.length ≡ length text = omega (arith, reached.0, h.longest f.class found.text found.rest found.cut found.fits, found.size) in
        let same = reached.1 (sym size) in
        (λ i. Some (record { class = same i; length = size i }))

pub begins_nothing : (bytes : List ℕ) → front_of bytes ≡ None → BeginsNothing bytes
begins_nothing bytes e class piece after same h = subst (λ o. Reaches o class (length piece)) (ap front_of (sym same) ∙ e) (piece_reaches class piece after h)

pub front_of-nothing : (bytes : List ℕ) → BeginsNothing bytes → front_of bytes ≡ None
front_of-nothing bytes h = by (front_of bytes) (front_fits bytes)
  where
    by : (o : Option Front) → Fits o bytes → o ≡ None
    by None found = refl
    by (Some f) found = absurd (h f.class found.text found.rest found.cut found.fits)

-- a piece has a byte
pub piece_size : (class : Class) (text : List ℕ) → IsPiece class text → 0 < length text
piece_size class [] h = absurd (piece_reaches class [] [] h)
piece_size class (b ∷ bs) h = omega arith

-- a token that what follows doesn't continue is the longest piece there
pub token_is_front : (k : Kind) (text rest : List ℕ) → IsTokenOf k text → ends_before k rest ≡ true → IsFront (OfKind k) text rest
token_is_front k text rest h ends = is_front (OfKind k) text rest (token_front k text rest h ends) h

pub blank_is_front : (blank : ℕ) (rest : List ℕ) → is_blank blank ≡ true → IsFront Blank (blank ∷ []) rest
blank_is_front blank rest h = is_front Blank (blank ∷ []) rest (front_of-blank blank rest h) (blank, refl, h)
