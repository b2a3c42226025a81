-- Which tree a source of Bril's text form spells, and which fault it has.
use Rattle.std.specs.Prelude.{◌≡◌, ℕ, ◌-◌, ◌≤◌, ◌⊎◌, List, [], ◌∷◌, length, drop}
use Rattle.bril_tree.specs.declared.tree.Tree.{Tree}
use Rattle.bril_lex.specs.Cut.{AreTokens, StopsAt}
use Rattle.bril_lex.specs.Lexeme.{lexemes_of}
use Rattle.bril_lex.specs.declared.token.Token.{Token}
use Rattle.bril_grammar.specs.Fault.{FirstFault}
use Rattle.bril_grammar.specs.Written.{IsProgram}
use Rattle.bril_grammar.specs.declared.fault.FaultKind.{FaultKind}
use Rattle.bril_grammar.specs.declared.fault.FaultKind.TheVariants as kind
use Rattle.bril_lex.specs.declared.cut.LexFault.{LexFault}
use Rattle.bril_lex.specs.declared.cut.LexFault.TheVariants as lex
use Rattle.bril_text.specs.declared.parse.ParseFault.{ParseFault}
use Rattle.bril_text.specs.declared.parse.ParseFault.TheVariants as parse
use Rattle.bril_text.specs.declared.fault.TextFault.{TextFault}
use Rattle.bril_text.specs.declared.fault.TextFault.TheVariants.{Lex, Grammar, IntRange, Float, Deep, Memory}

-- the bytes have tokens, and these spell the tree
pub record Spells (source : List ℕ) (tree : Tree) : Type 0 where
  pub tokens : List Token
  pub are : AreTokens source tokens
  pub spell : IsProgram (lexemes_of source tokens) tree

-- where the first of the tokens begins, or the source's end where there is none
abbrev pub position_of : List ℕ → List Token → ℕ
position_of source [] = length source
position_of source (token ∷ tokens) = token.from

-- the bytes have tokens, and the first of these that doesn't fit is at this byte
pub record HasFaultAt (source : List ℕ) (kind : FaultKind) (at : ℕ) : Type 0 where
  pub tokens : List Token
  pub are : AreTokens source tokens
  pub left : ℕ
  pub first : FirstFault (lexemes_of source tokens) (record { kind = kind; left = left })
  pub position : at ≡ position_of source (drop (length tokens - left) tokens)

-- the source has this fault
abbrev pub HasFault : List ℕ → TextFault → Type 0
HasFault source (Lex at) = StopsAt source at
HasFault source (Grammar at) = HasFaultAt source kind.Grammar at
HasFault source (IntRange at) = HasFaultAt source kind.IntRange at
HasFault source (Float at) = HasFaultAt source kind.Float at
HasFault source (Deep at) = HasFaultAt source kind.Deep at
HasFault source Memory = ⊥

-- what a fault says about the source; running out of memory says nothing
abbrev pub IsFaultOf : List ℕ → TextFault → Type 0
IsFaultOf source fault = (fault ≡ Memory) ⊎ HasFault source fault

-- the fault of a kind at a byte
abbrev pub fault_of_kind : FaultKind → ℕ → TextFault
fault_of_kind kind.Float at = Float at
fault_of_kind kind.IntRange at = IntRange at
fault_of_kind kind.Deep at = Deep at
fault_of_kind kind.Grammar at = Grammar at

-- a fault of the bytes
abbrev pub lexed : LexFault → TextFault
lexed (lex.At at) = Lex at
lexed lex.Memory = Memory

-- a fault of the parser has at most as many tokens left as there are
abbrev pub IsWithin : List Token → ParseFault → Type 0
IsWithin tokens (parse.At fault) = fault.left ≤ length tokens
IsWithin tokens parse.Memory = Unit {0}

-- the fault at the byte where its token begins
abbrev pub text_fault : List ℕ → List Token → ParseFault → TextFault
text_fault source tokens (parse.At fault) = fault_of_kind fault.kind (position_of source (drop (length tokens - fault.left) tokens))
text_fault source tokens parse.Memory = Memory
