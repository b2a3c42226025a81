-- Laws of terminals, and of the grammar and its machine.
use Rattle.std.specs.Prelude.{◌≡◌, ℕ, ℤ, FitsSigned, List, [], ◌∷◌, Some, None, Ok, Err}
use Rattle.std.specs.Int.{w64}
use Rattle.bril_nums.specs.Decimal.{IsInt}
use Rattle.bril_tree.specs.declared.tree.Tree.{Tree}
use Rattle.bril_lex.specs.Lexeme.{Lexeme}
use Rattle.bril_lex.specs.Spelling.{SpellsChar, SpellsPath}
use Rattle.bril_lex.specs.declared.token.Kind.TheVariants as kind
use Rattle.bril_grammar.specs.declared.fault.Fault.{Fault}
use Rattle.bril_grammar.specs.declared.mark.Mark.{Mark}
use Rattle.bril_grammar.specs.Fault.{FirstFault}
use Rattle.bril_grammar.specs.Machine.{read}
use Rattle.bril_grammar.specs.Terminal.{Terminal, terminal_as, mark_byte}
use Rattle.bril_grammar.specs.Written.{IsProgram}

-- The terminal of a token is what its text spells: its name, its number where that is an int of 64 bits, its char, its
-- path, or its mark.
pub record TerminalsAreSpelled : Type 0 where
  pub identifiers : (text : List ℕ) → terminal_as kind.Identifier text ≡ Terminal.Name text
  pub functions : (name : List ℕ) → terminal_as kind.Function (64 ∷ name) ≡ Terminal.Function name
  pub labels : (name : List ℕ) → terminal_as kind.Label (46 ∷ name) ≡ Terminal.Label name
  pub numbers : (text : List ℕ) (z : ℤ) → FitsSigned w64 z → IsInt text z → terminal_as kind.Number text ≡ Terminal.Number (Some z)
  pub others : (text : List ℕ) → ((z : ℤ) → FitsSigned w64 z → IsInt text z → ⊥) → terminal_as kind.Number text ≡ Terminal.Number None
  pub floats : (text : List ℕ) → terminal_as kind.Float text ≡ Terminal.Float
  pub chars : (text : List ℕ) (c : ℕ) → SpellsChar c text → terminal_as kind.Char text ≡ Terminal.Char c
  pub paths : (text path : List ℕ) (spelled : SpellsPath path text) → terminal_as kind.Path text ≡ Terminal.Path (record { bytes = path; is_path = spelled.is_path })
  pub marks : (mark : Mark) → terminal_as kind.Mark (mark_byte mark ∷ []) ≡ Terminal.Punctuation mark

-- a spelling of a tree is read as that tree
abbrev pub ProgramsAreRead : Type 0
ProgramsAreRead = (lexemes : List Lexeme) (tree : Tree) → IsProgram lexemes tree → read lexemes ≡ Ok tree

-- what is read as a tree is a spelling of it
abbrev pub ReadingsAreSpellings : Type 0
ReadingsAreSpellings = (lexemes : List Lexeme) (tree : Tree) → read lexemes ≡ Ok tree → IsProgram lexemes tree

-- lexemes spell at most one tree
abbrev pub SpellOneTree : Type 0
SpellOneTree = (lexemes : List Lexeme) (t u : Tree) → IsProgram lexemes t → IsProgram lexemes u → t ≡ u

-- the fault that is read is the first
abbrev pub ReadFaultIsFirst : Type 0
ReadFaultIsFirst = (lexemes : List Lexeme) (f : Fault) → read lexemes ≡ Err f → FirstFault lexemes f

-- the first fault is the one that is read
abbrev pub FirstFaultIsRead : Type 0
FirstFaultIsRead = (lexemes : List Lexeme) (f : Fault) → FirstFault lexemes f → read lexemes ≡ Err f

-- lexemes that spell a tree have no fault
abbrev pub ProgramsHaveNoFault : Type 0
ProgramsHaveNoFault = (lexemes : List Lexeme) (tree : Tree) (f : Fault) → IsProgram lexemes tree → FirstFault lexemes f → ⊥

-- lexemes that spell no tree have exactly one first fault
abbrev pub OthersHaveOneFault : Type 0
OthersHaveOneFault = (lexemes : List Lexeme) → ((tree : Tree) → IsProgram lexemes tree → ⊥) → (f : Fault) × FirstFault lexemes f × ((g : Fault) → FirstFault lexemes g → g ≡ f)
