-- The grammar. A source is a tree with what the tree leaves out: whether a function without arguments has parentheses,
-- and the order of operands of different kinds. Each source has one spelling in terminals.
use Rattle.std.specs.Prelude.{◌≡◌, ℕ, List, [], ◌∷◌, ◌++◌, map, replicate, Option, Some, None, codes}
use Rattle.std.specs.List.{flat_map, join_by, repeat}
use Rattle.bril_tree.specs.declared.function_tree.Dest.{Dest}
use Rattle.bril_tree.specs.declared.function_tree.FuncTree.{FuncTree}
use Rattle.bril_tree.specs.declared.function_tree.Item.{Item}
use Rattle.bril_tree.specs.declared.function_tree.Item.TheVariants as item
use Rattle.bril_tree.specs.declared.import.Import.{Import}
use Rattle.bril_tree.specs.declared.import.Taken.{Taken}
use Rattle.bril_tree.specs.declared.operation.Op.{Op}
use Rattle.bril_tree.specs.declared.tree.Tree.{Tree}
use Rattle.bril_tree.specs.declared.types.Ty.{Ty}
use Rattle.bril_tree.specs.declared.value.Lit.{Lit}
use Rattle.bril_tree.specs.declared.value.Lit.TheVariants as literal
use Rattle.bril_lex.specs.Lexeme.{Lexeme}
use Rattle.bril_grammar.specs.declared.mark.Mark.TheVariants.{OpenBrace, CloseBrace, OpenParen, CloseParen, Colon, Comma, Semicolon, Equals, Less, Greater}
use Rattle.bril_tree.specs.Spelling.{operation_text, base_text, truth_text}
use Rattle.bril_grammar.specs.Terminal.{Terminal, terminals_of}

pub data Operand : Type 0 where
  VariableOperand : (name : List ℕ) → Operand
  FunctionOperand : (name : List ℕ) → Operand
  LabelOperand : (name : List ℕ) → Operand

-- a label, a constant, or another instruction with its operands in order
pub data Line : Type 0 where
  LabelLine : (name : List ℕ) → Line
  ConstLine : (dest : List ℕ) (ty : Ty) (value : Lit) → Line
  ActLine : (dest : Option Dest) (operation : Op) (operands : List Operand) → Line

-- a function; it has no argument list, or a list of any number of arguments
pub record Written : Type 0 where
  pub name : List ℕ
  pub args : Option (List Dest)
  pub ret : Option Ty
  pub lines : List Line

pub record Source : Type 0 where
  pub imports : List Import
  pub functions : List Written

-- the operands of each kind, in order
abbrev pub variables : List Operand → List (List ℕ)
variables [] = []
variables (VariableOperand x ∷ os) = x ∷ variables os
variables (FunctionOperand f ∷ os) = variables os
variables (LabelOperand l ∷ os) = variables os

abbrev pub functions : List Operand → List (List ℕ)
functions [] = []
functions (VariableOperand x ∷ os) = functions os
functions (FunctionOperand f ∷ os) = f ∷ functions os
functions (LabelOperand l ∷ os) = functions os

abbrev pub labels : List Operand → List (List ℕ)
labels [] = []
labels (VariableOperand x ∷ os) = labels os
labels (FunctionOperand f ∷ os) = labels os
labels (LabelOperand l ∷ os) = l ∷ labels os

-- the tree of a source
abbrev pub item_of : Line → Item
item_of (LabelLine name) = item.Label name
item_of (ConstLine dest ty value) = item.Const dest ty value
item_of (ActLine dest operation operands) = item.Act dest operation (variables operands) (functions operands) (labels operands)

abbrev pub listed : Option (List Dest) → List Dest
listed None = []
listed (Some args) = args

abbrev pub function_of : Written → FuncTree
function_of f = record { name = f.name; args = listed f.args; ret = f.ret; code = map item_of f.lines }

abbrev pub tree_of : Source → Tree
tree_of s = record { imports = s.imports; funcs = map function_of s.functions }

-- `import f` or `import f as g`
abbrev pub alias_terminals : Option (List ℕ) → List Terminal
alias_terminals None = []
alias_terminals (Some alias) = Terminal.Name (codes "as") ∷ Terminal.Function alias ∷ []

abbrev pub taken_terminals : Taken → List Terminal
taken_terminals taken = Terminal.Function taken.name ∷ alias_terminals taken.alias

-- `from "path" import .. ;`
abbrev pub import_terminals : Import → List Terminal
import_terminals i =
    Terminal.Name (codes "from") ∷ Terminal.Path (record { bytes = i.path; is_path = i.has_path }) ∷ Terminal.Name (codes "import")
    ∷ (join_by taken_terminals (Terminal.Punctuation Comma ∷ []) i.names ++ (Terminal.Punctuation Semicolon ∷ []))

-- as many `ptr <` as the type is deep, its base, and as many `>`
abbrev pub pointer_terminals : List Terminal
pointer_terminals = Terminal.Name (codes "ptr") ∷ Terminal.Punctuation Less ∷ []

abbrev pub type_terminals : Ty → List Terminal
type_terminals ty = repeat ty.depth pointer_terminals ++ (Terminal.Name (base_text ty.base) ∷ replicate ty.depth (Terminal.Punctuation Greater))

-- `name : type`
abbrev pub typed_terminals : Dest → List Terminal
typed_terminals dest = Terminal.Name dest.name ∷ Terminal.Punctuation Colon ∷ type_terminals dest.ty

abbrev pub args_terminals : Option (List Dest) → List Terminal
args_terminals None = []
args_terminals (Some args) = Terminal.Punctuation OpenParen ∷ (join_by typed_terminals (Terminal.Punctuation Comma ∷ []) args ++ (Terminal.Punctuation CloseParen ∷ []))

abbrev pub ret_terminals : Option Ty → List Terminal
ret_terminals None = []
ret_terminals (Some ty) = Terminal.Punctuation Colon ∷ type_terminals ty

abbrev pub literal_terminal : Lit → Terminal
literal_terminal (literal.Int n) = Terminal.Number (Some n)
literal_terminal (literal.Bool b) = Terminal.Name (truth_text b)
literal_terminal (literal.Char c) = Terminal.Char c

abbrev pub operand_terminal : Operand → Terminal
operand_terminal (VariableOperand x) = Terminal.Name x
operand_terminal (FunctionOperand f) = Terminal.Function f
operand_terminal (LabelOperand l) = Terminal.Label l

abbrev pub dest_terminals : Option Dest → List Terminal
dest_terminals None = []
dest_terminals (Some dest) = typed_terminals dest ++ (Terminal.Punctuation Equals ∷ [])

abbrev pub line_terminals : Line → List Terminal
line_terminals (LabelLine name) = Terminal.Label name ∷ Terminal.Punctuation Colon ∷ []
line_terminals (ConstLine dest ty value) =
    typed_terminals (record { name = dest; ty = ty })
    ++ (Terminal.Punctuation Equals ∷ Terminal.Name (codes "const") ∷ literal_terminal value ∷ Terminal.Punctuation Semicolon ∷ [])
line_terminals (ActLine dest operation operands) =
    dest_terminals dest ++ (Terminal.Name (operation_text operation) ∷ (map operand_terminal operands ++ (Terminal.Punctuation Semicolon ∷ [])))

abbrev pub function_terminals : Written → List Terminal
function_terminals f =
    Terminal.Function f.name
    ∷ (args_terminals f.args ++ (ret_terminals f.ret ++ (Terminal.Punctuation OpenBrace ∷ (flat_map line_terminals f.lines ++ (Terminal.Punctuation CloseBrace ∷ [])))))

abbrev pub source_terminals : Source → List Terminal
source_terminals s = flat_map import_terminals s.imports ++ flat_map function_terminals s.functions

-- the terminals are a spelling of the tree
abbrev pub Spells : List Terminal → Tree → Type 0
Spells terminals tree = (s : Source) × (terminals ≡ source_terminals s) × (tree ≡ tree_of s)

-- the lexemes are a spelling of the tree
abbrev pub IsProgram : List Lexeme → Tree → Type 0
IsProgram lexemes tree = Spells (terminals_of lexemes) tree
