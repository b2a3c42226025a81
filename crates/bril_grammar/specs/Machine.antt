-- The machine that reads terminals one by one.
use Rattle.std.specs.Prelude.{ℕ, zero, suc, min, Bool, true, false, ◌==◌, List, [], ◌∷◌, ◌++◌, length, Option, Some, None, Result, Ok, Err, if◌then◌else◌, nat_lt}
use Rattle.bril_tree.specs.declared.function_tree.Dest.{Dest}
use Rattle.bril_tree.specs.declared.function_tree.FuncTree.{FuncTree}
use Rattle.bril_tree.specs.declared.function_tree.Item.{Item}
use Rattle.bril_tree.specs.declared.function_tree.Item.TheVariants as item
use Rattle.bril_tree.specs.declared.import.Import.{Import}
use Rattle.bril_tree.specs.declared.import.Taken.{Taken}
use Rattle.bril_tree.specs.declared.operation.Op.{Op}
use Rattle.bril_tree.specs.declared.tree.Tree.{Tree}
use Rattle.bril_tree.specs.declared.types.Base.{Base}
use Rattle.bril_tree.specs.declared.types.Ty.{Ty}
use Rattle.bril_tree.specs.declared.value.Lit.{Lit}
use Rattle.bril_tree.specs.declared.value.Lit.TheVariants as literal
use Rattle.bril_lex.specs.Lexeme.{Lexeme}
use Rattle.bril_grammar.specs.declared.fault.Fault.{Fault}
use Rattle.bril_grammar.specs.declared.fault.FaultKind.{FaultKind}
use Rattle.bril_grammar.specs.declared.fault.FaultKind.TheVariants.{Float, IntRange, Deep, Grammar}
use Rattle.bril_grammar.specs.declared.keyword.Keyword.{Keyword}
use Rattle.bril_grammar.specs.declared.keyword.Keyword.TheVariants as keyword
use Rattle.bril_grammar.specs.declared.mark.Mark.{Mark}
use Rattle.bril_grammar.specs.declared.mark.Mark.TheVariants.{OpenBrace, CloseBrace, OpenParen, CloseParen, Colon, Comma, Semicolon, Equals, Less, Greater}
use Rattle.bril_grammar.specs.Keyword.{keyword_of}
use Rattle.bril_grammar.specs.State.{Begun, TypePosition, ArgumentType, ReturnType, DestinationType, Importing, Acting, State, AtImport, AtPath, AtImportKeyword, AtTaken, AfterTaken, AtAlias, AfterAlias, AtFunction, AfterName, AtFirstArg, AtArg, AfterArg, AfterArgs, AtItem, AfterOperation, AtOperation, AtLiteral, AtOperand, AtType, Expect}
use Rattle.bril_tree.specs.Path.{ImportPath}
use Rattle.bril_grammar.specs.Terminal.{Terminal, Name, Function, Label, Number, Char, Path, Punctuation, mark_byte, terminals_of}
use Rattle.bril_grammar.specs.Pieces.{push-some}
use native.Mathlib.Nat.{min-le_right}

-- What a terminal leads to: a state; a state where `:` must come next, with the fault Float where it doesn't; the fault
-- Float unless `:` comes next, and then Grammar; or a fault.
pub data Move : Type 0 where
  Goes : (next : State) → Move
  GoesBeforeColon : (next : State) → Move
  FloatUnlessColon : Move
  Fails : (kind : FaultKind) → Move

-- a type of this depth, at most 32
abbrev pub type_of : ℕ → Base → Ty
type_of depth base = record { depth = min depth 32; base = base; nests = min-le_right depth 32 }

-- an import that takes one more function
abbrev pub import_of : Importing → Taken → Import
import_of i taken = record { path = i.path.bytes; names = i.names ++ (taken ∷ []); has_path = i.path.is_path; takes_some = push-some i.names taken }

abbrev pub taking : Importing → Taken → Importing
taking i taken = record i { names = i.names ++ (taken ∷ []) }

-- a function that begins
abbrev pub begin : List Import → List FuncTree → List ℕ → Begun
begin imports funcs name = record { imports = imports; funcs = funcs; name = name; args = []; ret = None; code = [] }

abbrev pub with_arg : Begun → Dest → Begun
with_arg b arg = record b { args = b.args ++ (arg ∷ []) }

abbrev pub with_ret : Begun → Ty → Begun
with_ret b ty = record b { ret = Some ty }

abbrev pub with_item : Begun → Item → Begun
with_item b i = record b { code = b.code ++ (i ∷ []) }

-- the begun function, as it is now
abbrev pub function_begun : Begun → FuncTree
function_begun b = record { name = b.name; args = b.args; ret = b.ret; code = b.code }

-- after the function's `}`
abbrev pub finished : Begun → State
finished b = AtFunction b.imports (b.funcs ++ (function_begun b ∷ []))

abbrev pub dest_of_type : List ℕ → Ty → Dest
dest_of_type name ty = record { name = name; ty = ty }

-- after a type
abbrev pub typed : TypePosition → Ty → State
typed (ArgumentType b name) ty = AfterArg (with_arg b (dest_of_type name ty))
typed (ReturnType b) ty = Expect OpenBrace (AtItem (with_ret b ty))
typed (DestinationType b name) ty = Expect Equals (AtOperation b (dest_of_type name ty))

-- where this many `>` must come
abbrev pub closing : ℕ → State → State
closing zero next = next
closing (suc n) next = Expect Greater (closing n next)

-- after the name of an argument, and of a destination
abbrev pub arg_named : Begun → List ℕ → State
arg_named b name = Expect Colon (AtType (ArgumentType b name) 0)

abbrev pub dest_type : Begun → List ℕ → State
dest_type b name = AtType (DestinationType b name) 0

-- after a literal
abbrev pub const_of : Begun → Dest → Lit → State
const_of b dest value = Expect Semicolon (AtItem (with_item b (item.Const dest.name dest.ty value)))

-- an instruction with no operands yet
abbrev pub act : Begun → Option Dest → Op → Acting
act b dest operation = record { begun = b; dest = dest; operation = operation; args = []; funcs = []; labels = [] }

abbrev pub with_variable : Acting → List ℕ → Acting
with_variable a name = record a { args = a.args ++ (name ∷ []) }

abbrev pub with_function : Acting → List ℕ → Acting
with_function a name = record a { funcs = a.funcs ++ (name ∷ []) }

abbrev pub with_label : Acting → List ℕ → Acting
with_label a name = record a { labels = a.labels ++ (name ∷ []) }

-- after the `;` of an instruction
abbrev pub acted : Acting → State
acted a = AtItem (with_item a.begun (item.Act a.dest a.operation a.args a.funcs a.labels))

-- a mark, and the state after it
pub record Transition : Type 0 where
  pub mark : Mark
  pub next : State

abbrev pub same_mark : Mark → Mark → Bool
same_mark m n = mark_byte m == mark_byte n

-- the state after this mark, where there is one
abbrev pub mark_move : List Transition → Mark → Move
mark_move [] m = Fails Grammar
mark_move (w ∷ ws) m = if same_mark m w.mark then Goes w.next else mark_move ws m

abbrev pub transition : Mark → State → Transition
transition m next = record { mark = m; next = next }

-- where only a mark may come
abbrev pub marks_alone : List Transition → Terminal → Move
marks_alone transitions (Punctuation m) = mark_move transitions m
marks_alone transitions _ = Fails Grammar

abbrev pub taken_transitions : Importing → Taken → List Transition
taken_transitions i taken = transition Comma (AtTaken (taking i taken)) ∷ transition Semicolon (AtImport (i.imports ++ (import_of i taken ∷ []))) ∷ []

abbrev pub head_transitions : Begun → List Transition
head_transitions b = transition Colon (AtType (ReturnType b) 0) ∷ transition OpenBrace (AtItem b) ∷ []

abbrev pub first_import_keyword : List Import → Keyword → Move
first_import_keyword imports keyword.From = Goes (AtPath imports)
first_import_keyword imports _ = Fails Grammar

abbrev pub import_move : List Import → Terminal → Move
import_move imports (Name text) = first_import_keyword imports (keyword_of text)
import_move imports (Function name) = Goes (AfterName (begin imports [] name))
import_move imports _ = Fails Grammar

abbrev pub path_move : List Import → Terminal → Move
path_move imports (Path path) = Goes (AtImportKeyword imports path)
path_move imports _ = Fails Grammar

abbrev pub import_keyword : List Import → ImportPath → Keyword → Move
import_keyword imports path keyword.Import = Goes (AtTaken (record { imports = imports; path = path; names = [] }))
import_keyword imports path _ = Fails Grammar

abbrev pub import_keyword_move : List Import → ImportPath → Terminal → Move
import_keyword_move imports path (Name text) = import_keyword imports path (keyword_of text)
import_keyword_move imports path _ = Fails Grammar

abbrev pub taken_move : Importing → Terminal → Move
taken_move i (Function name) = Goes (AfterTaken i name)
taken_move i _ = Fails Grammar

abbrev pub as_keyword : Importing → List ℕ → Keyword → Move
as_keyword i name keyword.As = Goes (AtAlias i name)
as_keyword i name _ = Fails Grammar

abbrev pub after_taken_move : Importing → List ℕ → Terminal → Move
after_taken_move i name (Name text) = as_keyword i name (keyword_of text)
after_taken_move i name (Punctuation m) = mark_move (taken_transitions i (record { name = name; alias = None })) m
after_taken_move i name _ = Fails Grammar

abbrev pub alias_move : Importing → List ℕ → Terminal → Move
alias_move i name (Function alias) = Goes (AfterAlias i (record { name = name; alias = Some alias }))
alias_move i name _ = Fails Grammar

abbrev pub function_move : List Import → List FuncTree → Terminal → Move
function_move imports funcs (Function name) = Goes (AfterName (begin imports funcs name))
function_move imports funcs _ = Fails Grammar

abbrev pub first_arg_move : Begun → Terminal → Move
first_arg_move b (Name name) = Goes (arg_named b name)
first_arg_move b (Punctuation m) = mark_move (transition CloseParen (AfterArgs b) ∷ []) m
first_arg_move b _ = Fails Grammar

abbrev pub arg_move : Begun → Terminal → Move
arg_move b (Name name) = Goes (arg_named b name)
arg_move b _ = Fails Grammar

-- an identifier where an item may come
abbrev pub first_keyword : Begun → List ℕ → Keyword → Move
first_keyword b text (keyword.Operation operation) = Goes (AfterOperation b operation text)
first_keyword b text keyword.FloatOperation = GoesBeforeColon (dest_type b text)
first_keyword b text _ = Goes (Expect Colon (dest_type b text))

abbrev pub item_move : Begun → Terminal → Move
item_move b (Name text) = first_keyword b text (keyword_of text)
item_move b (Label name) = Goes (Expect Colon (AtItem (with_item b (item.Label name))))
item_move b (Punctuation m) = mark_move (transition CloseBrace (finished b) ∷ []) m
item_move b _ = Fails Grammar

-- an operand, or a mark
abbrev pub operand_move : Acting → List Transition → Terminal → Move
operand_move a transitions (Name name) = Goes (AtOperand (with_variable a name))
operand_move a transitions (Function name) = Goes (AtOperand (with_function a name))
operand_move a transitions (Label name) = Goes (AtOperand (with_label a name))
operand_move a transitions (Punctuation m) = mark_move transitions m
operand_move a transitions _ = Fails Grammar

-- an identifier after `=`
abbrev pub operation_keyword : Begun → Dest → Keyword → Move
operation_keyword b dest keyword.Const = Goes (AtLiteral b dest)
operation_keyword b dest (keyword.Operation operation) = Goes (AtOperand (act b (Some dest) operation))
operation_keyword b dest keyword.FloatOperation = FloatUnlessColon
operation_keyword b dest _ = Fails Grammar

abbrev pub operation_move : Begun → Dest → Terminal → Move
operation_move b dest (Name text) = operation_keyword b dest (keyword_of text)
operation_move b dest _ = Fails Grammar

-- an identifier where a literal may come
abbrev pub truth_keyword : Begun → Dest → Keyword → Move
truth_keyword b dest (keyword.Truth value) = Goes (const_of b dest (literal.Bool value))
truth_keyword b dest _ = Fails Grammar

abbrev pub literal_move : Begun → Dest → Terminal → Move
literal_move b dest (Name text) = truth_keyword b dest (keyword_of text)
literal_move b dest (Number (Some n)) = Goes (const_of b dest (literal.Int n))
literal_move b dest (Number None) = Fails IntRange
literal_move b dest Terminal.Float = Fails Float
literal_move b dest (Char value) = Goes (const_of b dest (literal.Char value))
literal_move b dest _ = Fails Grammar

-- an identifier where a type may come
abbrev pub type_keyword : TypePosition → ℕ → Keyword → Move
type_keyword position depth (keyword.BaseType base) = Goes (closing depth (typed position (type_of depth base)))
type_keyword position depth keyword.Ptr = if nat_lt depth 32 then Goes (Expect Less (AtType position (suc depth))) else Fails Deep
type_keyword position depth keyword.FloatType = Fails Float
type_keyword position depth _ = Fails Grammar

abbrev pub type_move : TypePosition → ℕ → Terminal → Move
type_move position depth (Name text) = type_keyword position depth (keyword_of text)
type_move position depth _ = Fails Grammar

-- what a terminal leads to
abbrev pub move : State → Terminal → Move
move (AtImport imports) w = import_move imports w
move (AtPath imports) w = path_move imports w
move (AtImportKeyword imports path) w = import_keyword_move imports path w
move (AtTaken i) w = taken_move i w
move (AfterTaken i name) w = after_taken_move i name w
move (AtAlias i name) w = alias_move i name w
move (AfterAlias i taken) w = marks_alone (taken_transitions i taken) w
move (AtFunction imports funcs) w = function_move imports funcs w
move (AfterName b) w = marks_alone (transition OpenParen (AtFirstArg b) ∷ head_transitions b) w
move (AtFirstArg b) w = first_arg_move b w
move (AtArg b) w = arg_move b w
move (AfterArg b) w = marks_alone (transition Comma (AtArg b) ∷ transition CloseParen (AfterArgs b) ∷ []) w
move (AfterArgs b) w = marks_alone (head_transitions b) w
move (AtItem b) w = item_move b w
move (AfterOperation b operation text) w =
    operand_move (act b None operation) (transition Colon (dest_type b text) ∷ transition Semicolon (acted (act b None operation)) ∷ []) w
move (AtOperation b dest) w = operation_move b dest w
move (AtLiteral b dest) w = literal_move b dest w
move (AtOperand a) w = operand_move a (transition Semicolon (acted a) ∷ []) w
move (AtType position depth) w = type_move position depth w
move (Expect m next) w = marks_alone (transition m next ∷ []) w

-- whether the next terminal is `:`
abbrev pub is_colon : Terminal → Bool
is_colon (Punctuation m) = same_mark m Colon
is_colon _ = false

abbrev pub begins_with_colon : List Terminal → Bool
begins_with_colon [] = false
begins_with_colon (w ∷ ws) = is_colon w

-- the result of a move, once it is known whether `:` comes next
abbrev pub decided : Move → Bool → Result State FaultKind
decided (Goes next) colon = Ok next
decided (GoesBeforeColon next) true = Ok (Expect Colon next)
decided (GoesBeforeColon next) false = Err Float
decided FloatUnlessColon true = Err Grammar
decided FloatUnlessColon false = Err Float
decided (Fails kind) colon = Err kind

-- the end of the terminals
abbrev pub at_end : State → Result Tree Fault
at_end (AtImport imports) = Ok (record { imports = imports; funcs = [] })
at_end (AtFunction imports funcs) = Ok (record { imports = imports; funcs = funcs })
at_end _ = Err (record { kind = Grammar; left = 0 })

-- the run from the next state, or the fault where this many terminals are left
abbrev pub go_on : Result State FaultKind → (State → Result Tree Fault) → ℕ → Result Tree Fault
go_on (Ok next) rest left = rest next
go_on (Err kind) rest left = Err (record { kind = kind; left = left })

-- what the terminals give from this state on: a tree, or the first fault
abbrev pub run : State → List Terminal → Result Tree Fault
run s [] = at_end s
run s (w ∷ ws) = go_on (decided (move s w) (begins_with_colon ws)) (λ next. run next ws) (suc (length ws))

-- the tree of the lexemes, or their first fault
abbrev pub read : List Lexeme → Result Tree Fault
read lexemes = run (AtImport []) (terminals_of lexemes)
