-- The machine reads every spelling of a tree.
use Rattle.std.proofs.Common.{◌≡◌, ℕ, zero, suc, ◌+◌, ◌≤◌, ◌<◌, true, cond, nat_lt, List, [], ◌∷◌, ◌++◌, map, length, replicate, Option, Some, None, Ok, codes, refl, sym, ap, ◌∙◌, arith, append_assoc, append-nil, lt-ltb}
use Rattle.std.specs.List.{flat_map, join_by, repeat}
use Rattle.bril_tree.specs.declared.function_tree.Dest.{Dest}
use Rattle.bril_tree.specs.declared.function_tree.FuncTree.{FuncTree}
use Rattle.bril_tree.specs.declared.function_tree.Item.TheVariants as item
use Rattle.bril_tree.specs.declared.import.Import.{Import}
use Rattle.bril_tree.specs.declared.import.Taken.{Taken}
use Rattle.bril_tree.specs.declared.operation.Op.{Op}
use Rattle.bril_tree.specs.declared.tree.Tree.{Tree}
use Rattle.bril_tree.specs.declared.types.Ty.{Ty}
use Rattle.bril_tree.specs.declared.value.Lit.{Lit}
use Rattle.bril_tree.specs.declared.value.Lit.TheVariants as literal
use Rattle.bril_grammar.specs.declared.fault.FaultKind.TheVariants.{Deep}
use Rattle.bril_grammar.specs.declared.keyword.Keyword.{Keyword}
use Rattle.bril_grammar.specs.declared.keyword.Keyword.TheVariants as keyword
use Rattle.bril_grammar.specs.declared.mark.Mark.TheVariants.{OpenBrace, CloseBrace, CloseParen, Colon, Comma, Semicolon, Equals, Less, Greater}
use Rattle.bril_grammar.specs.Keyword.{keyword_of}
use Rattle.bril_tree.specs.Spelling.{operation_text, base_text, truth_text}
use Rattle.bril_grammar.specs.Machine.{Goes, Fails, type_of, import_of, taking, begin, with_arg, with_item, typed, closing, const_of, act, with_variable, with_function, with_label, type_keyword, first_import_keyword, import_keyword, as_keyword, operation_keyword, first_keyword, truth_keyword, dest_type, decided, go_on, run}
use Rattle.bril_grammar.specs.State.{Begun, TypePosition, ArgumentType, ReturnType, DestinationType, Importing, Acting, State, AtImport, AtPath, AtImportKeyword, AtTaken, AfterTaken, AtAlias, AfterAlias, AtFunction, AfterName, AtFirstArg, AtArg, AfterArg, AfterArgs, AtItem, AfterOperation, AtOperation, AtLiteral, AtOperand, AtType, Expect}
use Rattle.bril_tree.specs.Path.{ImportPath}
use Rattle.bril_grammar.specs.Terminal.{Terminal, Name, Function, Path, Punctuation}
use Rattle.bril_grammar.specs.Written.{Operand, VariableOperand, FunctionOperand, LabelOperand, Line, LabelLine, ConstLine, ActLine, Written, Source, variables, functions, labels, item_of, listed, function_of, tree_of, alias_terminals, taken_terminals, import_terminals, pointer_terminals, type_terminals, typed_terminals, args_terminals, ret_terminals, literal_terminal, operand_terminal, line_terminals, function_terminals, source_terminals, Spells}
use Rattle.bril_tree.proofs.Equal.{Import-equal}
use Rattle.bril_grammar.proofs.Keywords.{keyword_from, keyword_import, keyword_as, keyword_ptr, keyword_const, keyword_base, keyword_truth, keyword_operation}
use Rattle.bril_grammar.proofs.Steps.{goes, type_of-ty}

-- types

type_opens : (position : TypePosition) (d k m : ℕ) (ws : List Terminal) → k + d ≡ m → m ≤ 32 → run (AtType position k) (repeat d pointer_terminals ++ ws) ≡ run (AtType position m) ws
type_opens position zero k m ws e h = let same : k ≡ m = omega arith in ap (λ n. run (AtType position n) ws) same
type_opens position (suc d) k m ws e h =
    let below : k < 32 = omega arith in
    let test : nat_lt k 32 ≡ true = lt-ltb k 32 below in
    let opened : type_keyword position k keyword.Ptr ≡ Goes (Expect Less (AtType position (suc k))) = ap (λ b. cond b (Goes (Expect Less (AtType position (suc k)))) (Fails Deep)) test in
    goes (AtType position k) (Name (codes "ptr")) (Punctuation Less ∷ (repeat d pointer_terminals ++ ws)) (Expect Less (AtType position (suc k))) (ap (type_keyword position k) keyword_ptr ∙ opened)
    ∙ type_opens position d (suc k) m ws (omega arith) h

pub closing-run : (n : ℕ) (s : State) (ws : List Terminal) → run (closing n s) (replicate n (Punctuation Greater) ++ ws) ≡ run s ws
closing-run zero s ws = refl
closing-run (suc n) s ws = closing-run n s ws

pub type-run : (position : TypePosition) (ty : Ty) (ws : List Terminal) → run (AtType position 0) (type_terminals ty ++ ws) ≡ run (typed position ty) ws
type-run position ty ws =
    ap (run (AtType position 0)) (append_assoc (repeat ty.depth pointer_terminals) (Name (base_text ty.base) ∷ replicate ty.depth (Punctuation Greater)) ws)
    ∙ (type_opens position ty.depth 0 ty.depth (Name (base_text ty.base) ∷ (replicate ty.depth (Punctuation Greater) ++ ws)) (omega arith) ty.nests
    ∙ (goes (AtType position ty.depth) (Name (base_text ty.base)) (replicate ty.depth (Punctuation Greater) ++ ws) (closing ty.depth (typed position (type_of ty.depth ty.base))) (ap (type_keyword position ty.depth) (keyword_base ty.base))
    ∙ (closing-run ty.depth (typed position (type_of ty.depth ty.base)) ws
    ∙ ap (λ t. run (typed position t) ws) (type_of-ty ty))))

-- imports

regroup3 : {A : Type 0} (a b c d : List A) → ((a ++ b) ++ c) ++ d ≡ a ++ (b ++ (c ++ d))
regroup3 a b c d = simp append_assoc

abbrev next_taken : Taken → List Terminal
next_taken taken = (Punctuation Comma ∷ []) ++ taken_terminals taken

alias_run : (i : Importing) (name : List ℕ) (alias : Option (List ℕ)) (more : List Taken) (ws : List Terminal) → run (AfterTaken i name) (alias_terminals alias ++ (flat_map next_taken more ++ (Punctuation Semicolon ∷ ws))) ≡ run (AfterAlias i (record { name = name; alias = alias })) (flat_map next_taken more ++ (Punctuation Semicolon ∷ ws))
alias_run i name None [] ws = refl
alias_run i name None (t ∷ more) ws = refl
alias_run i name (Some alias) more ws =
    goes (AfterTaken i name) (Name (codes "as")) (Function alias ∷ (flat_map next_taken more ++ (Punctuation Semicolon ∷ ws))) (AtAlias i name) (ap (as_keyword i name) keyword_as)

more_taken : (i : Importing) (t : Taken) (more : List Taken) (made : Import) (ws : List Terminal) → made.path ≡ i.path.bytes → made.names ≡ i.names ++ (t ∷ more) → run (AfterAlias i t) (flat_map next_taken more ++ (Punctuation Semicolon ∷ ws)) ≡ run (AtImport (i.imports ++ (made ∷ []))) ws
more_taken i t [] made ws p n = ap (λ m. run (AtImport (i.imports ++ (m ∷ []))) ws) (Import-equal (import_of i t) made (sym p) (sym n))
more_taken i t (u ∷ more) made ws p n =
    ap (run (AfterTaken (taking i t) u.name)) (append_assoc (alias_terminals u.alias) (flat_map next_taken more) (Punctuation Semicolon ∷ ws))
    ∙ (alias_run (taking i t) u.name u.alias more ws
    ∙ more_taken (taking i t) u more made ws p (n ∙ sym (append_assoc i.names (t ∷ []) (u ∷ more))))

names_run : (imports : List Import) (path : ImportPath) (names : List Taken) (made : Import) (ws : List Terminal) → 0 < length names → made.path ≡ path.bytes → made.names ≡ names → run (AtTaken (record { imports = imports; path = path; names = [] })) ((join_by taken_terminals (Punctuation Comma ∷ []) names ++ (Punctuation Semicolon ∷ [])) ++ ws) ≡ run (AtImport (imports ++ (made ∷ []))) ws
names_run imports path [] made ws some p n = absurd (omega (arith, some))
names_run imports path (t ∷ more) made ws some p n =
    ap (run (AfterTaken (record { imports = imports; path = path; names = [] }) t.name)) (regroup3 (alias_terminals t.alias) (flat_map next_taken more) (Punctuation Semicolon ∷ []) ws)
    ∙ (alias_run (record { imports = imports; path = path; names = [] }) t.name t.alias more ws
    ∙ more_taken (record { imports = imports; path = path; names = [] }) t more made ws p n)

pub import-run : (imports : List Import) (i : Import) (ws : List Terminal) → run (AtImport imports) (import_terminals i ++ ws) ≡ run (AtImport (imports ++ (i ∷ []))) ws
import-run imports i ws =
    let path : ImportPath = record { bytes = i.path; is_path = i.has_path } in
    let names : List Terminal = (join_by taken_terminals (Punctuation Comma ∷ []) i.names ++ (Punctuation Semicolon ∷ [])) ++ ws in
    goes (AtImport imports) (Name (codes "from")) (Path path ∷ Name (codes "import") ∷ names) (AtPath imports) (ap (first_import_keyword imports) keyword_from)
    ∙ (goes (AtImportKeyword imports path) (Name (codes "import")) names (AtTaken (record { imports = imports; path = path; names = [] })) (ap (import_keyword imports path) keyword_import)
    ∙ names_run imports path i.names i ws i.takes_some refl refl)

-- the head of a function

abbrev next_arg : Dest → List Terminal
next_arg dest = (Punctuation Comma ∷ []) ++ typed_terminals dest

arg_run : (b : Begun) (d : Dest) (ws : List Terminal) → run (AtArg b) (typed_terminals d ++ ws) ≡ run (AfterArg (with_arg b d)) ws
arg_run b d ws = type-run (ArgumentType b d.name) d.ty ws

more_args : (b : Begun) (d : Dest) (more : List Dest) (ws : List Terminal) → run (AfterArg (with_arg b d)) (flat_map next_arg more ++ (Punctuation CloseParen ∷ ws)) ≡ run (AfterArgs (record b { args = b.args ++ (d ∷ more) })) ws
more_args b d [] ws = refl
more_args b d (e ∷ more) ws =
    ap (run (AtArg (with_arg b d))) (append_assoc (typed_terminals e) (flat_map next_arg more) (Punctuation CloseParen ∷ ws))
    ∙ (arg_run (with_arg b d) e (flat_map next_arg more ++ (Punctuation CloseParen ∷ ws))
    ∙ (more_args (with_arg b d) e more ws
    ∙ ap (λ args. run (AfterArgs (record b { args = args })) ws) (append_assoc b.args (d ∷ []) (e ∷ more))))

ret_run : (b : Begun) (ret : Option Ty) (ws : List Terminal) → b.ret ≡ None → run (AfterArgs b) (ret_terminals ret ++ (Punctuation OpenBrace ∷ ws)) ≡ run (AtItem (record b { ret = ret })) ws
ret_run b None ws e = ap (λ r. run (AtItem (record b { ret = r })) ws) e
ret_run b (Some ty) ws e = type-run (ReturnType b) ty (Punctuation OpenBrace ∷ ws)

no_args : (b : Begun) (ret : Option Ty) (ws : List Terminal) → run (AfterName b) (ret_terminals ret ++ (Punctuation OpenBrace ∷ ws)) ≡ run (AfterArgs b) (ret_terminals ret ++ (Punctuation OpenBrace ∷ ws))
no_args b None ws = refl
no_args b (Some ty) ws = refl

some_args : (b : Begun) (args : List Dest) (ws : List Terminal) → b.args ≡ [] → run (AtFirstArg b) ((join_by typed_terminals (Punctuation Comma ∷ []) args ++ (Punctuation CloseParen ∷ [])) ++ ws) ≡ run (AfterArgs (record b { args = args })) ws
some_args b [] ws e = ap (λ args. run (AfterArgs (record b { args = args })) ws) e
some_args b (d ∷ more) ws e =
    ap (run (AtArg b)) (regroup3 (typed_terminals d) (flat_map next_arg more) (Punctuation CloseParen ∷ []) ws)
    ∙ (arg_run b d (flat_map next_arg more ++ (Punctuation CloseParen ∷ ws))
    ∙ (more_args b d more ws
    ∙ ap (λ args. run (AfterArgs (record b { args = args ++ (d ∷ more) })) ws) e))

head_run : (b : Begun) (args : Option (List Dest)) (ret : Option Ty) (ws : List Terminal) → b.args ≡ [] → b.ret ≡ None → run (AfterName b) (args_terminals args ++ (ret_terminals ret ++ (Punctuation OpenBrace ∷ ws))) ≡ run (AtItem (record b { args = listed args; ret = ret })) ws
head_run b None ret ws a r = no_args b ret ws ∙ (ret_run b ret ws r ∙ ap (λ args. run (AtItem (record b { args = args; ret = ret })) ws) a)
head_run b (Some args) ret ws a r = some_args b args (ret_terminals ret ++ (Punctuation OpenBrace ∷ ws)) a ∙ ret_run (record b { args = args }) ret ws r

-- items

pub dest-run : (b : Begun) (name : List ℕ) (ws : List Terminal) → run (AtItem b) (Name name ∷ Punctuation Colon ∷ ws) ≡ run (dest_type b name) ws
dest-run b name ws = by (keyword_of name)
  where
    by : (k : Keyword) → go_on (decided (first_keyword b name k) true) (λ next. run next (Punctuation Colon ∷ ws)) (suc (suc (length ws))) ≡ run (dest_type b name) ws
    by (keyword.Operation o) = refl
    by keyword.FloatOperation = refl
    by _ = refl

operands_run : (a : Acting) (os : List Operand) (ws : List Terminal) → run (AtOperand a) (map operand_terminal os ++ (Punctuation Semicolon ∷ ws)) ≡ run (AtItem (with_item a.begun (item.Act a.dest a.operation (a.args ++ variables os) (a.funcs ++ functions os) (a.labels ++ labels os)))) ws
operands_run a [] ws =
    let same : item.Act a.dest a.operation a.args a.funcs a.labels ≡ item.Act a.dest a.operation (a.args ++ []) (a.funcs ++ []) (a.labels ++ []) = rw (append-nil a.args, append-nil a.funcs, append-nil a.labels) refl in
    ap (λ i. run (AtItem (with_item a.begun i)) ws) same
operands_run a (VariableOperand x ∷ os) ws =
    operands_run (with_variable a x) os ws
    ∙ ap (λ xs. run (AtItem (with_item a.begun (item.Act a.dest a.operation xs (a.funcs ++ functions os) (a.labels ++ labels os)))) ws) (append_assoc a.args (x ∷ []) (variables os))
operands_run a (FunctionOperand x ∷ os) ws =
    operands_run (with_function a x) os ws
    ∙ ap (λ xs. run (AtItem (with_item a.begun (item.Act a.dest a.operation (a.args ++ variables os) xs (a.labels ++ labels os)))) ws) (append_assoc a.funcs (x ∷ []) (functions os))
operands_run a (LabelOperand x ∷ os) ws =
    operands_run (with_label a x) os ws
    ∙ ap (λ xs. run (AtItem (with_item a.begun (item.Act a.dest a.operation (a.args ++ variables os) (a.funcs ++ functions os) xs))) ws) (append_assoc a.labels (x ∷ []) (labels os))

plain_operands : (b : Begun) (o : Op) (text : List ℕ) (os : List Operand) (ws : List Terminal) → run (AfterOperation b o text) (map operand_terminal os ++ (Punctuation Semicolon ∷ ws)) ≡ run (AtOperand (act b None o)) (map operand_terminal os ++ (Punctuation Semicolon ∷ ws))
plain_operands b o text [] ws = refl
plain_operands b o text (VariableOperand x ∷ os) ws = refl
plain_operands b o text (FunctionOperand x ∷ os) ws = refl
plain_operands b o text (LabelOperand x ∷ os) ws = refl

literal_run : (b : Begun) (dest : Dest) (value : Lit) (ws : List Terminal) → run (AtLiteral b dest) (literal_terminal value ∷ ws) ≡ run (const_of b dest value) ws
literal_run b dest (literal.Int n) ws = refl
literal_run b dest (literal.Bool v) ws = goes (AtLiteral b dest) (Name (truth_text v)) ws (const_of b dest (literal.Bool v)) (ap (truth_keyword b dest) (keyword_truth v))
literal_run b dest (literal.Char c) ws = refl

line_run : (b : Begun) (line : Line) (ws : List Terminal) → run (AtItem b) (line_terminals line ++ ws) ≡ run (AtItem (with_item b (item_of line))) ws
line_run b (LabelLine name) ws = refl
line_run b (ConstLine dest ty value) ws =
    let d : Dest = record { name = dest; ty = ty } in
    let rest : List Terminal = Name (codes "const") ∷ literal_terminal value ∷ Punctuation Semicolon ∷ ws in
    ap (run (AtItem b)) (append_assoc (typed_terminals d) (Punctuation Equals ∷ Name (codes "const") ∷ literal_terminal value ∷ Punctuation Semicolon ∷ []) ws)
    ∙ (dest-run b dest (type_terminals ty ++ (Punctuation Equals ∷ rest))
    ∙ (type-run (DestinationType b dest) ty (Punctuation Equals ∷ rest)
    ∙ (goes (AtOperation b d) (Name (codes "const")) (literal_terminal value ∷ Punctuation Semicolon ∷ ws) (AtLiteral b d) (ap (operation_keyword b d) keyword_const)
    ∙ literal_run b d value (Punctuation Semicolon ∷ ws))))
line_run b (ActLine None o os) ws =
    let rest : List Terminal = map operand_terminal os ++ (Punctuation Semicolon ∷ ws) in
    ap (λ r. run (AtItem b) (Name (operation_text o) ∷ r)) (append_assoc (map operand_terminal os) (Punctuation Semicolon ∷ []) ws)
    ∙ (goes (AtItem b) (Name (operation_text o)) rest (AfterOperation b o (operation_text o)) (ap (first_keyword b (operation_text o)) (keyword_operation o))
    ∙ (plain_operands b o (operation_text o) os ws
    ∙ operands_run (act b None o) os ws))
line_run b (ActLine (Some d) o os) ws =
    let rest : List Terminal = map operand_terminal os ++ (Punctuation Semicolon ∷ ws) in
    ap (run (AtItem b)) (regrouped (typed_terminals d) (Punctuation Equals) (Name (operation_text o)) (map operand_terminal os) (Punctuation Semicolon ∷ []) ws)
    ∙ (dest-run b d.name (type_terminals d.ty ++ (Punctuation Equals ∷ Name (operation_text o) ∷ rest))
    ∙ (type-run (DestinationType b d.name) d.ty (Punctuation Equals ∷ Name (operation_text o) ∷ rest)
    ∙ (goes (AtOperation b d) (Name (operation_text o)) rest (AtOperand (act b (Some d) o)) (ap (operation_keyword b d) (keyword_operation o))
    ∙ operands_run (act b (Some d) o) os ws)))
  where
    regrouped : (t : List Terminal) (e n : Terminal) (xs s r : List Terminal) → ((t ++ (e ∷ [])) ++ (n ∷ (xs ++ s))) ++ r ≡ t ++ (e ∷ n ∷ (xs ++ (s ++ r)))
    regrouped t e n xs s r = simp append_assoc

lines_run : (b : Begun) (lines : List Line) (ws : List Terminal) → run (AtItem b) (flat_map line_terminals lines ++ ws) ≡ run (AtItem (record b { code = b.code ++ map item_of lines })) ws
lines_run b [] ws = ap (λ code. run (AtItem (record b { code = code })) ws) (sym (append-nil b.code))
lines_run b (l ∷ lines) ws =
    ap (run (AtItem b)) (append_assoc (line_terminals l) (flat_map line_terminals lines) ws)
    ∙ (line_run b l (flat_map line_terminals lines ++ ws)
    ∙ (lines_run (with_item b (item_of l)) lines ws
    ∙ ap (λ code. run (AtItem (record b { code = code })) ws) (append_assoc b.code (item_of l ∷ []) (map item_of lines))))

-- functions and programs

abbrev body_terminals : Written → List Terminal
body_terminals f = args_terminals f.args ++ (ret_terminals f.ret ++ (Punctuation OpenBrace ∷ (flat_map line_terminals f.lines ++ (Punctuation CloseBrace ∷ []))))

function_run : (imports : List Import) (funcs : List FuncTree) (f : Written) (ws : List Terminal) → run (AfterName (begin imports funcs f.name)) (body_terminals f ++ ws) ≡ run (AtFunction imports (funcs ++ (function_of f ∷ []))) ws
function_run imports funcs f ws =
    let b : Begun = record { imports = imports; funcs = funcs; name = f.name; args = listed f.args; ret = f.ret; code = [] } in
    ap (run (AfterName (begin imports funcs f.name))) (regrouped (args_terminals f.args) (ret_terminals f.ret) (Punctuation OpenBrace) (flat_map line_terminals f.lines) (Punctuation CloseBrace ∷ []) ws)
    ∙ (head_run (begin imports funcs f.name) f.args f.ret (flat_map line_terminals f.lines ++ (Punctuation CloseBrace ∷ ws)) refl refl
    ∙ lines_run b f.lines (Punctuation CloseBrace ∷ ws))
  where
    regrouped : (a r : List Terminal) (o : Terminal) (ls c w : List Terminal) → (a ++ (r ++ (o ∷ (ls ++ c)))) ++ w ≡ a ++ (r ++ (o ∷ (ls ++ (c ++ w))))
    regrouped a r o ls c w = simp append_assoc

functions_run : (imports : List Import) (funcs : List FuncTree) (fs : List Written) → run (AtFunction imports funcs) (flat_map function_terminals fs) ≡ Ok (record { imports = imports; funcs = funcs ++ map function_of fs })
functions_run imports funcs [] = ap (λ funcs. Ok (record { imports = imports; funcs = funcs })) (sym (append-nil funcs))
functions_run imports funcs (f ∷ fs) =
    function_run imports funcs f (flat_map function_terminals fs)
    ∙ (functions_run imports (funcs ++ (function_of f ∷ [])) fs
    ∙ ap (λ funcs. Ok (record { imports = imports; funcs = funcs })) (append_assoc funcs (function_of f ∷ []) (map function_of fs)))

imports_run : (done : List Import) (imports : List Import) (ws : List Terminal) → run (AtImport done) (flat_map import_terminals imports ++ ws) ≡ run (AtImport (done ++ imports)) ws
imports_run done [] ws = ap (λ is. run (AtImport is) ws) (sym (append-nil done))
imports_run done (i ∷ imports) ws =
    ap (run (AtImport done)) (append_assoc (import_terminals i) (flat_map import_terminals imports) ws)
    ∙ (import-run done i (flat_map import_terminals imports ++ ws)
    ∙ (imports_run (done ++ (i ∷ [])) imports ws
    ∙ ap (λ is. run (AtImport is) ws) (append_assoc done (i ∷ []) imports)))

first_function : (imports : List Import) (fs : List Written) → run (AtImport imports) (flat_map function_terminals fs) ≡ Ok (record { imports = imports; funcs = map function_of fs })
first_function imports [] = refl
first_function imports (f ∷ fs) = function_run imports [] f (flat_map function_terminals fs) ∙ functions_run imports (function_of f ∷ []) fs

source_run : (s : Source) → run (AtImport []) (source_terminals s) ≡ Ok (tree_of s)
source_run s = imports_run [] s.imports (flat_map function_terminals s.functions) ∙ first_function s.imports s.functions

-- every spelling of a tree is read as that tree
pub spelling-run : (terminals : List Terminal) (tree : Tree) → Spells terminals tree → run (AtImport []) terminals ≡ Ok tree
spelling-run terminals tree h = ap (run (AtImport [])) h.1 ∙ (source_run h.0 ∙ ap Ok (sym h.2))
