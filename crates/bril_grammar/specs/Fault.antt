-- Why terminals are no program: the first terminal that doesn't fit. What may come at a position is said by terminals
-- that can come nowhere else.
use Rattle.std.specs.Prelude.{◌≡◌, ℕ, ◌<◌, List, [], ◌∷◌, ◌++◌, length, replicate, pos, Option, Some, None, ◌⊎◌, codes}
use Rattle.bril_tree.specs.declared.tree.Tree.{Tree}
use Rattle.bril_lex.specs.Lexeme.{Lexeme}
use Rattle.bril_grammar.specs.declared.fault.Fault.{Fault}
use Rattle.bril_grammar.specs.declared.fault.FaultKind.{FaultKind}
use Rattle.bril_grammar.specs.declared.fault.FaultKind.TheVariants.{Float, IntRange, Deep, Grammar}
use Rattle.bril_grammar.specs.declared.keyword.Keyword.TheVariants.{FloatType, FloatOperation}
use Rattle.bril_grammar.specs.declared.mark.Mark.TheVariants.{Colon, Greater}
use Rattle.bril_grammar.specs.Keyword.{keyword_of}
use Rattle.bril_grammar.specs.Terminal.{Terminal, terminals_of}
use Rattle.bril_grammar.specs.Written.{Spells, pointer_terminals}

-- some program begins with these terminals
abbrev pub Readable : List Terminal → Type 0
Readable terminals = (x : List Terminal) × (tree : Tree) × Spells (terminals ++ x) tree

-- the first terminal, where there is one
abbrev pub front : List Terminal → Option Terminal
front [] = None
front (w ∷ ws) = Some w

-- no program continues `before` with the next terminal or, where no terminal is left, ends there
abbrev pub NoReading : List Terminal → List Terminal → Type 0
NoReading before rest = (x : List Terminal) (tree : Tree) → front x ≡ front rest → Spells (before ++ x) tree → ⊥

-- a number comes only where a literal may
abbrev pub TakesLiteral : List Terminal → Type 0
TakesLiteral before = Readable (before ++ (Terminal.Number (Some (pos 0)) ∷ []))

-- `<` comes only in a type, and so does `>`
abbrev pub TakesType : List Terminal → Type 0
TakesType before = Readable (before ++ pointer_terminals) ⊎ Readable (before ++ (Terminal.Name (codes "int") ∷ Terminal.Punctuation Greater ∷ []))

-- a label before `:` comes only where an item begins, and a number after `const` only where `const` is an operation
abbrev pub TakesOperation : List Terminal → Type 0
TakesOperation before =
    Readable (before ++ (Terminal.Label (codes "l") ∷ Terminal.Punctuation Colon ∷ []))
    ⊎ Readable (before ++ (Terminal.Name (codes "const") ∷ Terminal.Number (Some (pos 0)) ∷ []))

-- a type may come here, inside 32 `ptr <`
abbrev pub TakesDeepType : List Terminal → Type 0
TakesDeepType before = Readable (before ++ (Terminal.Name (codes "int") ∷ replicate 32 (Terminal.Punctuation Greater)))

-- a floating point literal, type or operation at the front, where it isn't the name of a destination
pub data IsFloatAt (before rest : List Terminal) : Type 0 where
  FloatLiteral : (r : List Terminal) → rest ≡ Terminal.Float ∷ r → TakesLiteral before → IsFloatAt before rest
  FloatTypeName : (text : List ℕ) (r : List Terminal) → rest ≡ Terminal.Name text ∷ r → keyword_of text ≡ FloatType → TakesType before → IsFloatAt before rest
  FloatOperationName : (text : List ℕ) (r : List Terminal) → rest ≡ Terminal.Name text ∷ r → keyword_of text ≡ FloatOperation → (front r ≡ Some (Terminal.Punctuation Colon) → ⊥) → TakesOperation before → IsFloatAt before rest

-- the fault is at the first terminal of `rest`, after `before`
abbrev pub Holds : FaultKind → List Terminal → List Terminal → Type 0
Holds Float before rest = IsFloatAt before rest
Holds IntRange before rest = (r : List Terminal) × (rest ≡ Terminal.Number None ∷ r) × TakesLiteral before
Holds Deep before rest = (r : List Terminal) × (rest ≡ Terminal.Name (codes "ptr") ∷ r) × TakesDeepType before
Holds Grammar before rest = NoReading before rest

-- the order in which the kinds of fault count at one terminal
abbrev pub rank : FaultKind → ℕ
rank Float = 0
rank IntRange = 1
rank Deep = 2
rank Grammar = 3

-- The fault is the first one: what comes before can be read, the fault holds there, no fault holds at an earlier
-- terminal, and no kind of lower rank holds at this one.
pub record IsFirstFault (terminals : List Terminal) (f : Fault) : Type 0 where
  pub before : List Terminal
  pub rest : List Terminal
  pub cut : terminals ≡ before ++ rest
  pub left : f.left ≡ length rest
  pub readable : Readable before
  pub holds : Holds f.kind before rest
  pub earlier : (w v : List Terminal) (kind : FaultKind) → terminals ≡ w ++ v → length w < length before → Holds kind w v → ⊥
  pub order : (kind : FaultKind) → rank kind < rank f.kind → Holds kind before rest → ⊥

abbrev pub FirstFault : List Lexeme → Fault → Type 0
FirstFault lexemes f = IsFirstFault (terminals_of lexemes) f
