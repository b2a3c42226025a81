-- A source cut by the longest rule: its tokens, or the byte at which nothing begins.
use Rattle.std.specs.Prelude.{◌≡◌, ◌≢◌, ◌≤◌, ◌<◌, ◌+◌, ℕ, List, [], ◌∷◌, ◌++◌, length}
use Rattle.bril_lex.specs.Piece.{IsFront, BeginsNothing}
use Rattle.bril_lex.specs.declared.class.Class.{Class}
use Rattle.bril_lex.specs.declared.class.Class.TheVariants.{OfKind, Blank, Comment}
use Rattle.bril_lex.specs.declared.token.Token.{Token}
use Rattle.bril_lex.specs.declared.cut.LexFault.{LexFault}
use Rattle.bril_lex.specs.declared.cut.LexFault.TheVariants.{At, Memory}

-- a part of a source
pub record Piece : Type 0 where
  pub class : Class
  pub text : List ℕ

-- the bytes of the pieces, one after another
abbrev pub bytes_of : List Piece → List ℕ
bytes_of [] = []
bytes_of (piece ∷ pieces) = piece.text ++ bytes_of pieces

-- each piece is the longest at its position, where the rest follows the last
abbrev pub AreLongest : List Piece → List ℕ → Type 0
AreLongest [] rest = Unit {0}
AreLongest (piece ∷ pieces) rest = IsFront piece.class piece.text (bytes_of pieces ++ rest) × AreLongest pieces rest

-- the token that a piece of this class between two positions is, if it is one
abbrev pub token_at : Class → ℕ → ℕ → List Token
token_at (OfKind kind) from to = record { kind = kind; from = from; to = to } ∷ []
token_at Blank from to = []
token_at Comment from to = []

-- the tokens among the pieces, the first of which begins at this position
abbrev pub tokens_from : ℕ → List Piece → List Token
tokens_from at [] = []
tokens_from at (piece ∷ pieces) = token_at piece.class at (at + length piece.text) ++ tokens_from (at + length piece.text) pieces

-- the source cut into pieces has these tokens
pub record AreTokens (source : List ℕ) (tokens : List Token) : Type 0 where
  pub pieces : List Piece
  pub cut : source ≡ bytes_of pieces
  pub longest : AreLongest pieces []
  pub are : tokens ≡ tokens_from 0 pieces

-- the bytes before this position are cut into pieces, and nothing begins there
pub record StopsAt (source : List ℕ) (at : ℕ) : Type 0 where
  pub pieces : List Piece
  pub rest : List ℕ
  pub cut : source ≡ bytes_of pieces ++ rest
  pub longest : AreLongest pieces rest
  pub position : at ≡ length (bytes_of pieces)
  pub more : rest ≢ []
  pub nothing : BeginsNothing rest

-- what a fault says about the source; running out of memory says nothing
abbrev pub IsFaultOf : List ℕ → LexFault → Type 0
IsFaultOf source (At at) = StopsAt source at
IsFaultOf source Memory = Unit {0}

-- between two positions the spans are in order and don't overlap, and none is empty
abbrev pub AreInOrder : ℕ → List Token → ℕ → Type 0
AreInOrder at [] end = at ≤ end
AreInOrder at (token ∷ tokens) end = (at ≤ token.from) × (token.from < token.to) × AreInOrder token.to tokens end
