-- What the tokens of a cut spell, and where their spans are.
use Rattle.std.proofs.Common.{◌≡◌, ℕ, ◌+◌, ◌-◌, ◌<◌, ◌≤◌, List, [], ◌∷◌, ◌++◌, length, take, Result, Ok, Err, refl, sym, ap, ◌∙◌, subst, inl, inr, arith, length-append, append_assoc}
use Rattle.std.specs.Prelude.{◌⊎◌, IfOk, IfErr, MatchResult, slice_range}
use Rattle.std.specs.List.{All}
use Rattle.std.proofs.lemmas.List.{take_at, drop_at, map-append}
use Rattle.std.proofs.lemmas.List.Elements.{All-nil, All-cons, All-append}
use Rattle.bril_lex.specs.Lexeme.{Lexeme, lexeme_of, lexemes_of}
use Rattle.bril_lex.specs.Spelling.{IsTokenOf}
use Rattle.bril_lex.specs.Piece.{IsFront}
use Rattle.bril_lex.specs.Cut.{Piece, bytes_of, AreLongest, token_at, tokens_from, AreTokens, StopsAt, IsFaultOf, AreInOrder}
use Rattle.bril_lex.specs.declared.token.Token.{Token}
use Rattle.bril_lex.specs.declared.token.Tokens.{Tokens}
use Rattle.bril_lex.specs.declared.class.Class.{Class}
use Rattle.bril_lex.specs.declared.class.Class.TheVariants.{OfKind, Blank, Comment}
use Rattle.bril_lex.specs.declared.cut.LexFault.{LexFault}
use Rattle.bril_lex.specs.declared.cut.LexFault.TheVariants.{At, Memory}
use Rattle.bril_lex.proofs.Longest.{piece_size}
use Rattle.bril_lex.proofs.Cuts.{cuts_in_one_way}

-- what a piece of a class spells, if it is a token
abbrev pub lexeme_at : Class → List ℕ → List Lexeme
lexeme_at (OfKind kind) text = record { kind = kind; text = text } ∷ []
lexeme_at Blank text = []
lexeme_at Comment text = []

abbrev pub lexemes_in : List Piece → List Lexeme
lexemes_in [] = []
lexemes_in (piece ∷ pieces) = lexeme_at piece.class piece.text ++ lexemes_in pieces

-- a token of a source spells its piece
spells : (class : Class) (before text rest : List ℕ) (at to : ℕ) → length before ≡ at → at + length text ≡ to
    → lexemes_of (before ++ (text ++ rest)) (token_at class at to) ≡ lexeme_at class text
spells (OfKind kind) before text rest at to e f =
    let size : to - at ≡ length text = omega (arith, f) in
    let slice : slice_range (before ++ (text ++ rest)) at to ≡ text =
    ap (λ l. take (to - at) l) (drop_at before (text ++ rest) at e) ∙ take_at text rest (to - at) (sym size) in
    (λ i. record { kind = kind; text = slice i } ∷ [])
spells Blank before text rest at to e f = refl
spells Comment before text rest at to e f = refl

pub lexemes_of-tokens_from : (pieces : List Piece) (before : List ℕ) (at : ℕ) → length before ≡ at → lexemes_of (before ++ bytes_of pieces) (tokens_from at pieces) ≡ lexemes_in pieces
lexemes_of-tokens_from [] before at e = refl
lexemes_of-tokens_from (p ∷ ps) before at e =
    let source = before ++ (p.text ++ bytes_of ps) in
    let again : source ≡ (before ++ p.text) ++ bytes_of ps = sym (append_assoc before p.text (bytes_of ps)) in
    map-append (lexeme_of source) (token_at p.class at (at + length p.text)) (tokens_from (at + length p.text) ps)
    ∙ (λ i. spells p.class before p.text (bytes_of ps) at (at + length p.text) e refl i ++ lexemes_of (again i) (tokens_from (at + length p.text) ps))
    ∙ ap (λ l. lexeme_at p.class p.text ++ l) (lexemes_of-tokens_from ps (before ++ p.text) (at + length p.text) (omega (arith, length-append before p.text, e)))

pub lexemes_of-AreTokens : (source : List ℕ) (tokens : List Token) (a : AreTokens source tokens) → lexemes_of source tokens ≡ lexemes_in a.pieces
lexemes_of-AreTokens source tokens a = (λ i. lexemes_of (a.cut i) (a.are i)) ∙ lexemes_of-tokens_from a.pieces [] 0 refl

-- each is a token of its kind
abbrev pub IsSpelled : Lexeme → Type 0
IsSpelled lexeme = IsTokenOf lexeme.kind lexeme.text

one_spelled : (class : Class) (text rest : List ℕ) → IsFront class text rest → All IsSpelled (lexeme_at class text)
one_spelled (OfKind kind) text rest f = All-cons IsSpelled (record { kind = kind; text = text }) [] f.fits (All-nil IsSpelled)
one_spelled Blank text rest f = All-nil IsSpelled
one_spelled Comment text rest f = All-nil IsSpelled

all_spelled : (pieces : List Piece) (rest : List ℕ) → AreLongest pieces rest → All IsSpelled (lexemes_in pieces)
all_spelled [] rest l = All-nil IsSpelled
all_spelled (p ∷ ps) rest l = All-append IsSpelled (lexeme_at p.class p.text) (lexemes_in ps) (one_spelled p.class p.text (bytes_of ps ++ rest) l.0) (all_spelled ps rest l.1)

pub AreTokens-spelled : (source : List ℕ) (tokens : List Token) → AreTokens source tokens → All IsSpelled (lexemes_of source tokens)
AreTokens-spelled source tokens a = subst (All IsSpelled) (sym (lexemes_of-AreTokens source tokens a)) (all_spelled a.pieces [] a.longest)

-- ---- spans
later : (at to : ℕ) (tokens : List Token) (end : ℕ) → at ≤ to → AreInOrder to tokens end → AreInOrder at tokens end
later at to [] end l o = omega (arith, o)
later at to (t ∷ ts) end l o = (omega (arith, o.0), o.1, o.2)

one_more : (class : Class) (at to : ℕ) (tokens : List Token) (end : ℕ) → at < to → AreInOrder to tokens end → AreInOrder at (token_at class at to ++ tokens) end
one_more (OfKind kind) at to tokens end l o = (omega arith, l, o)
one_more Blank at to tokens end l o = later at to tokens end (omega arith) o
one_more Comment at to tokens end l o = later at to tokens end (omega arith) o

in_order : (pieces : List Piece) (rest : List ℕ) (at end : ℕ) → AreLongest pieces rest → at + length (bytes_of pieces) ≡ end → AreInOrder at (tokens_from at pieces) end
in_order [] rest at end l e = omega (arith, e)
in_order (p ∷ ps) rest at end l e =
    one_more p.class at (at + length p.text) (tokens_from (at + length p.text) ps) end (omega (arith, piece_size p.class p.text l.0.fits))
    (in_order ps rest (at + length p.text) end l.1 (omega (arith, e, length-append p.text (bytes_of ps))))

pub AreTokens-in_order : (source : List ℕ) (tokens : List Token) → AreTokens source tokens → AreInOrder 0 tokens (length source)
AreTokens-in_order source tokens a =
    subst (λ ts. AreInOrder 0 ts (length source)) (sym a.are) (in_order a.pieces [] 0 (length source) a.longest (omega (arith, ap length a.cut)))

-- ---- what the answer of a scan says
pub reads : (source : List ℕ) (r : Result Tokens LexFault) → IfOk r (λ found. AreTokens source found.list) → IfErr r (IsFaultOf source)
    → (tokens : List Token) → AreTokens source tokens → MatchResult r (λ found. found.list ≡ tokens) (λ fault. fault ≡ Memory)
reads source (Ok found) ok fault tokens a = cuts_in_one_way.tokens source found.list tokens ok a
reads source (Err (At at)) ok fault tokens a = absurd (cuts_in_one_way.never_both source tokens at a fault)
reads source (Err Memory) ok fault tokens a = refl

pub stops : (source : List ℕ) (r : Result Tokens LexFault) → IfOk r (λ found. AreTokens source found.list) → IfErr r (IsFaultOf source)
    → (at : ℕ) → StopsAt source at → MatchResult r (λ found. ⊥) (λ fault. (fault ≡ At at) ⊎ (fault ≡ Memory))
stops source (Ok found) ok fault at s = cuts_in_one_way.never_both source found.list at ok s
stops source (Err (At there)) ok fault at s = inl (ap At (cuts_in_one_way.stops source there at fault s))
stops source (Err Memory) ok fault at s = inr refl

pub spelled : (source : List ℕ) (r : Result Tokens LexFault) → IfOk r (λ found. AreTokens source found.list) → IfOk r (λ found. All IsSpelled (lexemes_of source found.list))
spelled source (Ok found) ok = AreTokens-spelled source found.list ok
spelled source (Err fault) ok = tt

pub ordered : (source : List ℕ) (r : Result Tokens LexFault) → IfOk r (λ found. AreTokens source found.list) → IfOk r (λ found. AreInOrder 0 found.list (length source))
ordered source (Ok found) ok = AreTokens-in_order source found.list ok
ordered source (Err fault) ok = tt
