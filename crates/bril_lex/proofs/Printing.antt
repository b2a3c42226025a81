-- Printed tokens are cut into themselves.
use Rattle.std.proofs.Common.{◌≡◌, ℕ, true, List, [], ◌∷◌, ◌++◌, map, refl, sym, ap, ◌∙◌, subst, append_assoc, append-nil}
use Rattle.std.specs.List.{list_all}
use Rattle.std.proofs.lemmas.Bool.{and_parts}
use Rattle.bril_lex.specs.Spelling.{is_blank}
use Rattle.bril_lex.specs.Piece.{IsFront}
use Rattle.bril_lex.specs.Cut.{Piece, bytes_of, AreLongest, tokens_from, AreTokens}
use Rattle.bril_lex.specs.Printed.{ends_before, Spaced, printed, AreApart, IsCutIntoItself}
use Rattle.bril_lex.specs.declared.class.Class.TheVariants.{OfKind, Blank}
use Rattle.bril_lex.proofs.Longest.{token_is_front, blank_is_front}
use Rattle.bril_lex.proofs.Cuts.{bytes_of-append, AreLongest-append}
use Rattle.bril_lex.proofs.Lexemes.{lexemes_in, lexemes_of-AreTokens}

blank_pieces : List ℕ → List Piece
blank_pieces [] = []
blank_pieces (b ∷ bs) = record { class = Blank; text = b ∷ [] } ∷ blank_pieces bs

-- the pieces of what is printed
pieces_of : List Spaced → List Piece
pieces_of [] = []
pieces_of (s ∷ ss) = record { class = OfKind s.lexeme.kind; text = s.lexeme.text } ∷ (blank_pieces s.blanks ++ pieces_of ss)

bytes_of-blanks : (bs : List ℕ) → bytes_of (blank_pieces bs) ≡ bs
unfolding blank_pieces
bytes_of-blanks [] = refl
bytes_of-blanks (b ∷ bs) = ap (λ l. b ∷ l) (bytes_of-blanks bs)

-- the bytes of the pieces, and those after them
bytes_of-pieces : (ss : List Spaced) (following : List ℕ) → bytes_of (pieces_of ss) ++ following ≡ printed ss ++ following
unfolding pieces_of
bytes_of-pieces [] following = refl
bytes_of-pieces (s ∷ ss) following =
    append_assoc s.lexeme.text (bytes_of (blank_pieces s.blanks ++ pieces_of ss)) following
    ∙ ap (λ l. s.lexeme.text ++ l) (bytes_of-append (blank_pieces s.blanks) (pieces_of ss) following ∙ (λ i. bytes_of-blanks s.blanks i ++ bytes_of-pieces ss following i) ∙ sym (append_assoc s.blanks (printed ss) following))
    ∙ sym (append_assoc s.lexeme.text (s.blanks ++ printed ss) following)

blanks_are_longest : (bs rest : List ℕ) → list_all is_blank bs ≡ true → AreLongest (blank_pieces bs) rest
unfolding blank_pieces
blanks_are_longest [] rest h = tt
blanks_are_longest (b ∷ bs) rest h =
    let parts = and_parts (is_blank b) (list_all is_blank bs) h in
    (blank_is_front b (bytes_of (blank_pieces bs) ++ rest) parts.0, blanks_are_longest bs rest parts.1)

pieces_are_longest : (ss : List Spaced) (following : List ℕ) → AreApart ss following → AreLongest (pieces_of ss) following
unfolding pieces_of
pieces_are_longest [] following h = tt
pieces_are_longest (s ∷ ss) following h =
    let follows : s.blanks ++ (printed ss ++ following) ≡ bytes_of (blank_pieces s.blanks ++ pieces_of ss) ++ following =
    sym (λ i. bytes_of-blanks s.blanks i ++ bytes_of-pieces ss following i) ∙ sym (bytes_of-append (blank_pieces s.blanks) (pieces_of ss) following) in (
      subst (IsFront (OfKind s.lexeme.kind) s.lexeme.text) follows (token_is_front s.lexeme.kind s.lexeme.text (s.blanks ++ (printed ss ++ following)) h.0 h.2),
      AreLongest-append (blank_pieces s.blanks) (pieces_of ss) following (blanks_are_longest s.blanks (bytes_of (pieces_of ss) ++ following) h.1) (pieces_are_longest ss following h.3),
    )

lexemes_in-blanks : (bs : List ℕ) (ps : List Piece) → lexemes_in (blank_pieces bs ++ ps) ≡ lexemes_in ps
unfolding blank_pieces
lexemes_in-blanks [] ps = refl
lexemes_in-blanks (b ∷ bs) ps = lexemes_in-blanks bs ps

lexemes_in-pieces : (ss : List Spaced) → lexemes_in (pieces_of ss) ≡ map (λ (s : Spaced). s.lexeme) ss
unfolding pieces_of
lexemes_in-pieces [] = refl
lexemes_in-pieces (s ∷ ss) = ap (λ l. s.lexeme ∷ l) (lexemes_in-blanks s.blanks (pieces_of ss) ∙ lexemes_in-pieces ss)

-- printed tokens that are apart are the tokens of what is printed
pub printed_is_cut : (ss : List Spaced) → AreApart ss [] → IsCutIntoItself ss
printed_is_cut ss h =
    let whole : printed ss ≡ bytes_of (pieces_of ss) = sym (append-nil (printed ss)) ∙ sym (bytes_of-pieces ss []) ∙ append-nil (bytes_of (pieces_of ss)) in
    let are : AreTokens (printed ss) (tokens_from 0 (pieces_of ss)) = record { pieces = pieces_of ss; cut = whole; longest = pieces_are_longest ss [] h; are = refl } in
    record {
      tokens = tokens_from 0 (pieces_of ss);
      are = are;
      spell = lexemes_of-AreTokens (printed ss) (tokens_from 0 (pieces_of ss)) are ∙ lexemes_in-pieces ss;
    }

-- parts that are apart, one after another
pub printed-append : (xs ys : List Spaced) → printed (xs ++ ys) ≡ printed xs ++ printed ys
printed-append [] ys = refl
printed-append (x ∷ xs) ys =
    ap (λ l. x.lexeme.text ++ (x.blanks ++ l)) (printed-append xs ys)
    ∙ ap (λ l. x.lexeme.text ++ l) (sym (append_assoc x.blanks (printed xs) (printed ys)))
    ∙ sym (append_assoc x.lexeme.text (x.blanks ++ printed xs) (printed ys))

pub AreApart-append : (xs ys : List Spaced) (following : List ℕ) → AreApart xs (printed ys ++ following) → AreApart ys following → AreApart (xs ++ ys) following
AreApart-append [] ys following a b = b
AreApart-append (x ∷ xs) ys following a b =
    let follows : printed xs ++ (printed ys ++ following) ≡ printed (xs ++ ys) ++ following =
    sym (append_assoc (printed xs) (printed ys) following) ∙ ap (λ l. l ++ following) (sym (printed-append xs ys)) in
    (a.0, a.1, subst (λ l. ends_before x.lexeme.kind (x.blanks ++ l) ≡ true) follows a.2, AreApart-append xs ys following a.3 b)
