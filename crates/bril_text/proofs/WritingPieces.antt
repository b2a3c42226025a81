-- Text that is cut into pieces whose tokens are given terminals.
use Rattle.std.proofs.Common.{◌≡◌, ℕ, true, List, [], ◌∷◌, ◌++◌, refl, sym, ap, ◌∙◌, subst, append_assoc, append-nil}
use Rattle.std.proofs.lemmas.List.{map-append}
use Rattle.bril_lex.specs.Spelling.{IsTokenOf, is_blank, is_mark}
use Rattle.bril_lex.specs.Piece.{IsFront}
use Rattle.bril_lex.specs.Cut.{Piece, bytes_of, AreLongest}
use Rattle.bril_lex.specs.Printed.{ends_before}
use Rattle.bril_lex.specs.declared.class.Class.TheVariants.{OfKind, Blank}
use Rattle.bril_lex.specs.declared.token.Kind.{Kind}
use Rattle.bril_lex.specs.declared.token.Kind.TheVariants as kind
use Rattle.bril_lex.proofs.Cuts.{bytes_of-append, AreLongest-append}
use Rattle.bril_lex.proofs.Lexemes.{lexeme_at, lexemes_in}
use Rattle.bril_lex.proofs.Longest.{token_is_front, blank_is_front}
use Rattle.bril_grammar.specs.Terminal.{Terminal, terminal_as, terminal_of, terminals_of, mark_terminal}

-- where these bytes follow, the text is cut into the longest pieces, and their tokens are these terminals
pub record Prints (text following : List ℕ) (terminals : List Terminal) : Type 0 where
  pub pieces : List Piece
  pub cut : bytes_of pieces ≡ text
  pub longest : AreLongest pieces following
  pub are : terminals_of (lexemes_in pieces) ≡ terminals

pub nothing : (following : List ℕ) → Prints [] following []
nothing following = record { pieces = []; cut = refl; longest = tt; are = refl }

-- a token that what follows doesn't continue
pub token : (k : Kind) (text more following : List ℕ) (terminals : List Terminal) → IsTokenOf k text → ends_before k (more ++ following) ≡ true → Prints more following terminals → Prints (text ++ more) following (terminal_as k text ∷ terminals)
token k text more following terminals is ends p = record {
  pieces = record { class = OfKind k; text = text } ∷ p.pieces;
  cut = ap (λ l. text ++ l) p.cut;
  longest = (subst (λ l. IsFront (OfKind k) text (l ++ following)) (sym p.cut) (token_is_front k text (more ++ following) is ends), p.longest);
  are = ap (λ l. terminal_as k text ∷ l) p.are;
}

pub blank : (byte : ℕ) (more following : List ℕ) (terminals : List Terminal) → is_blank byte ≡ true → Prints more following terminals → Prints (byte ∷ more) following terminals
blank byte more following terminals is p = record {
  pieces = record { class = Blank; text = byte ∷ [] } ∷ p.pieces;
  cut = ap (λ l. byte ∷ l) p.cut;
  longest = (blank_is_front byte (bytes_of p.pieces ++ following) is, p.longest);
  are = p.are;
}

-- nothing continues a mark, a char literal or a path
pub mark_ends : (l : List ℕ) → ends_before kind.Mark l ≡ true
mark_ends [] = refl
mark_ends (x ∷ xs) = refl

pub char_ends : (l : List ℕ) → ends_before kind.Char l ≡ true
char_ends [] = refl
char_ends (x ∷ xs) = refl

pub path_ends : (l : List ℕ) → ends_before kind.Path l ≡ true
path_ends [] = refl
path_ends (x ∷ xs) = refl

pub mark : (byte : ℕ) (more following : List ℕ) (terminals : List Terminal) → is_mark byte ≡ true → Prints more following terminals → Prints (byte ∷ more) following (mark_terminal (byte ∷ []) ∷ terminals)
mark byte more following terminals is p = token kind.Mark (byte ∷ []) more following terminals (byte, refl, is) (mark_ends (more ++ following)) p

lexemes_in-append : (ps qs : List Piece) → lexemes_in (ps ++ qs) ≡ lexemes_in ps ++ lexemes_in qs
lexemes_in-append [] qs = refl
lexemes_in-append (p ∷ ps) qs = ap (λ l. lexeme_at p.class p.text ++ l) (lexemes_in-append ps qs) ∙ sym (append_assoc (lexeme_at p.class p.text) (lexemes_in ps) (lexemes_in qs))

-- one text after another
pub both : (a b following : List ℕ) (v w : List Terminal) → Prints a (b ++ following) v → Prints b following w → Prints (a ++ b) following (v ++ w)
both a b following v w p q = record {
  pieces = p.pieces ++ q.pieces;
  cut = sym (append-nil (bytes_of (p.pieces ++ q.pieces))) ∙ bytes_of-append p.pieces q.pieces [] ∙ (λ i. p.cut i ++ (append-nil (bytes_of q.pieces) ∙ q.cut) i);
  longest = AreLongest-append p.pieces q.pieces following (subst (λ l. AreLongest p.pieces (l ++ following)) (sym q.cut) p.longest) q.longest;
  are = ap terminals_of (lexemes_in-append p.pieces q.pieces) ∙ map-append terminal_of (lexemes_in p.pieces) (lexemes_in q.pieces) ∙ (λ i. p.are i ++ q.are i);
}

-- along an equation of texts
pub same_text : (text other following : List ℕ) (terminals : List Terminal) → text ≡ other → Prints text following terminals → Prints other following terminals
same_text text other following terminals e p = subst (λ l. Prints l following terminals) e p
