-- What a function of the parser says about the machine: which run is left.
use Rattle.std.specs.Prelude.{◌≡◌, ℕ, suc, Bool, false, Option, Some, None, Result, Ok, Err, List, [], ◌∷◌, length}
use Rattle.bril_tree.specs.declared.function_tree.Dest.{Dest}
use Rattle.bril_tree.specs.declared.function_tree.FuncTree.{FuncTree}
use Rattle.bril_tree.specs.declared.function_tree.Item.{Item}
use Rattle.bril_tree.specs.declared.import.Import.{Import}
use Rattle.bril_tree.specs.declared.import.Taken.{Taken}
use Rattle.bril_tree.specs.declared.operation.Op.{Op}
use Rattle.bril_tree.specs.declared.tree.Tree.{Tree}
use Rattle.bril_tree.specs.declared.types.Ty.{Ty}
use Rattle.bril_lex.specs.Lexeme.{Lexeme}
use Rattle.bril_grammar.specs.declared.fault.Fault.{Fault}
use Rattle.bril_grammar.specs.declared.fault.FaultKind.{FaultKind}
use Rattle.bril_grammar.specs.declared.fault.FaultKind.TheVariants.{Grammar}
use Rattle.bril_grammar.specs.declared.keyword.Keyword.{Keyword}
use Rattle.bril_grammar.specs.declared.keyword.Keyword.TheVariants as keyword
use Rattle.bril_grammar.specs.declared.mark.Mark.{Mark}
use Rattle.bril_grammar.specs.Fault.{front}
use Rattle.bril_grammar.specs.Keyword.{keyword_of}
use Rattle.bril_grammar.specs.Machine.{Move, run, with_item, decided, go_on, begins_with_colon, same_mark}
use Rattle.bril_grammar.specs.State.{State, AtItem, Begun, Importing, Acting}
use Rattle.bril_tree.specs.Path.{ImportPath}
use Rattle.bril_grammar.specs.Terminal.{Terminal, terminals_of, Name, Punctuation}
use Rattle.bril_text.specs.declared.operands.Operands.{Operands}
use Rattle.bril_text.specs.declared.parse.ParseFault.{ParseFault}
use Rattle.bril_text.specs.declared.parse.ParseFault.TheVariants.{At, Memory}

-- the run stops with the fault; running out of memory says nothing
abbrev pub Fails : Result Tree Fault → ParseFault → Type 0
Fails before (At fault) = before ≡ Err fault
Fails before Memory = Unit {0}

-- the run is the one that is left after what was read, or it fails
abbrev pub Runs : {X : Type 0} → Result Tree Fault → Result X ParseFault → (X → Result Tree Fault) → Type 0
Runs before (Ok x) after = before ≡ after x
Runs before (Err fault) after = Fails before fault

-- the run from where a function was begun and from these terminals is the one that is left after an item, with that item in the function, or
-- it fails
abbrev pub ReadsItem : (Begun → State) → List Terminal → Result (Item × List Lexeme) ParseFault → Type 0
ReadsItem from terminals result =
    (begun : Begun) → Runs (run (from begun) terminals) result (λ x. run (AtItem (with_item begun x.0)) (terminals_of x.1))

-- the same, where what is left isn't determined by what was read
abbrev pub LeadsTo : {X : Type 0} → Result Tree Fault → Result X ParseFault → (X → Type 0) → Type 0
LeadsTo before (Ok x) P = P x
LeadsTo before (Err fault) P = Fails before fault

-- the fault is of this kind, where this many terminals are left
abbrev pub StopsAtTerminal : ParseFault → FaultKind → ℕ → Type 0
StopsAtTerminal fault kind left = fault ≡ At (record { kind = kind; left = left })

-- where a terminal must come next, by where it leads
abbrev pub go : (Terminal → Move) → List Terminal → Result Tree Fault
go moves [] = Err (record { kind = Grammar; left = 0 })
go moves (w ∷ ws) = go_on (decided (moves w) (begins_with_colon ws)) (λ next. run next ws) (suc (length ws))

-- the terminal is this mark
abbrev pub is_terminal_of : Mark → Terminal → Bool
is_terminal_of mark (Punctuation m) = same_mark m mark
is_terminal_of mark _ = false

-- the terminal, if there is one, is this mark
abbrev pub is_front_of : Mark → Option Terminal → Bool
is_front_of mark None = false
is_front_of mark (Some w) = is_terminal_of mark w

-- this mark comes next
abbrev pub begins_with : Mark → List Terminal → Bool
begins_with mark ws = is_front_of mark (front ws)

-- what a terminal is to the grammar
abbrev pub keyword_as : Terminal → Keyword
keyword_as (Name text) = keyword_of text
keyword_as _ = keyword.Plain

abbrev pub keyword_in : Option Terminal → Keyword
keyword_in None = keyword.Plain
keyword_in (Some w) = keyword_as w

-- what the next terminal is to the grammar
abbrev pub keyword_at : List Terminal → Keyword
keyword_at ws = keyword_in (front ws)

-- a function that was begun, from its parts
abbrev pub begun_with : List Import → List FuncTree → List ℕ → List Dest → Option Ty → List Item → Begun
begun_with imports funcs name args ret code = record { imports = imports; funcs = funcs; name = name; args = args; ret = ret; code = code }

-- an import that was begun, from its parts
abbrev pub begin_import : List Import → ImportPath → List Taken → Importing
begin_import imports path names = record { imports = imports; path = path; names = names }

-- an instruction with its operands
abbrev pub with_operands : Begun → Option Dest → Op → Operands → Acting
with_operands begun dest operation operands =
    record { begun = begun; dest = dest; operation = operation; args = operands.args; funcs = operands.funcs; labels = operands.labels }
