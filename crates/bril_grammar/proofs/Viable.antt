-- From each state some terminals lead to the end, and what may come at a position shows which state it is.
use Rattle.std.proofs.Common.{◌≡◌, ℕ, List, [], ◌∷◌, ◌++◌, replicate, pos, Some, Ok, codes, refl, ap, ◌∙◌, arith}
use Rattle.bril_tree.specs.declared.function_tree.Dest.{Dest}
use Rattle.bril_tree.specs.declared.import.Import.{Import}
use Rattle.bril_tree.specs.declared.tree.Tree.{Tree}
use Rattle.bril_tree.specs.declared.types.Base.TheVariants as base
use Rattle.bril_tree.specs.declared.types.Ty.{Ty}
use Rattle.bril_grammar.specs.declared.mark.Mark.{Mark}
use Rattle.bril_grammar.specs.declared.mark.Mark.TheVariants.{OpenBrace, CloseBrace, OpenParen, CloseParen, Colon, Comma, Semicolon, Equals, Less, Greater}
use Rattle.bril_grammar.specs.Machine.{type_of, typed, closing, import_keyword, operation_keyword, type_keyword, run}
use Rattle.bril_grammar.specs.State.{Begun, TypePosition, ArgumentType, ReturnType, DestinationType, Importing, State, AtImport, AtPath, AtImportKeyword, AtTaken, AfterTaken, AtAlias, AfterAlias, AtFunction, AfterName, AtFirstArg, AtArg, AfterArg, AfterArgs, AtItem, AfterOperation, AtOperation, AtLiteral, AtOperand, AtType, Expect}
use Rattle.bril_tree.specs.Path.{ImportPath}
use Rattle.bril_grammar.specs.Terminal.{Terminal, Name, Function, Number, Path, Punctuation}
use Rattle.bril_grammar.proofs.Complete.{closing-run}
use Rattle.bril_grammar.proofs.Keywords.{keyword_base, keyword_const, keyword_import}
use Rattle.bril_grammar.proofs.Steps.{goes}

-- the terminals can be read from this state on, as the first of more
abbrev pub CanRead : State → List Terminal → Type 0
CanRead s terminals = (x : List Terminal) × (tree : Tree) × (run s (terminals ++ x) ≡ Ok tree)

pub expect-run : (m : Mark) (s : State) (ws : List Terminal) → run (Expect m s) (Punctuation m ∷ ws) ≡ run s ws
expect-run OpenBrace s ws = refl
expect-run CloseBrace s ws = refl
expect-run OpenParen s ws = refl
expect-run CloseParen s ws = refl
expect-run Colon s ws = refl
expect-run Comma s ws = refl
expect-run Semicolon s ws = refl
expect-run Equals s ws = refl
expect-run Less s ws = refl
expect-run Greater s ws = refl

-- the first terminals, by those after them
front_of : (s next : State) (terminals x : List Terminal) (tree : Tree) → run s (terminals ++ x) ≡ run next x → run next x ≡ Ok tree → CanRead s terminals
front_of s next terminals x tree e f = (x, tree, e ∙ f)

abbrev pub number : List Terminal
number = Number (Some (pos 0)) ∷ []

sample_path : ImportPath
sample_path = record { bytes = codes "p"; is_path = record { some = omega arith; short = omega arith; spelled = refl } }

viable_item : (b : Begun) → CanRead (AtItem b) []
viable_item b = (Punctuation CloseBrace ∷ [], _, refl)

viable_literal : (b : Begun) (d : Dest) → CanRead (AtLiteral b d) []
viable_literal b d = (Number (Some (pos 0)) ∷ Punctuation Semicolon ∷ Punctuation CloseBrace ∷ [], _, refl)

viable_operation : (b : Begun) (d : Dest) → CanRead (AtOperation b d) []
viable_operation b d =
    let rest = viable_literal b d in
    (Name (codes "const") ∷ rest.0, rest.1, goes (AtOperation b d) (Name (codes "const")) rest.0 (AtLiteral b d) (ap (operation_keyword b d) keyword_const) ∙ rest.2)

pub viable_typed : (position : TypePosition) (ty : Ty) → CanRead (typed position ty) []
viable_typed (ArgumentType b name) ty = (Punctuation CloseParen ∷ Punctuation OpenBrace ∷ Punctuation CloseBrace ∷ [], _, refl)
viable_typed (ReturnType b) ty = (Punctuation OpenBrace ∷ Punctuation CloseBrace ∷ [], _, refl)
viable_typed (DestinationType b name) ty =
    let rest = viable_operation b (record { name = name; ty = ty }) in
    (Punctuation Equals ∷ rest.0, rest.1, rest.2)

-- a base and as many `>` as there are `ptr <`
pub base_run : (position : TypePosition) (k : ℕ) (ws : List Terminal) → run (AtType position k) (Name (codes "int") ∷ (replicate k (Punctuation Greater) ++ ws)) ≡ run (typed position (type_of k base.Int)) ws
base_run position k ws =
    goes (AtType position k) (Name (codes "int")) (replicate k (Punctuation Greater) ++ ws) (closing k (typed position (type_of k base.Int))) (ap (type_keyword position k) (keyword_base base.Int))
    ∙ closing-run k (typed position (type_of k base.Int)) ws

viable_type : (position : TypePosition) (k : ℕ) → CanRead (AtType position k) []
viable_type position k =
    let rest = viable_typed position (type_of k base.Int) in
    (Name (codes "int") ∷ (replicate k (Punctuation Greater) ++ rest.0), rest.1, base_run position k rest.0 ∙ rest.2)

viable_taken : (i : Importing) → CanRead (AtTaken i) []
viable_taken i = (Function (codes "f") ∷ Punctuation Semicolon ∷ [], _, refl)

viable_import : (imports : List Import) (path : ImportPath) → CanRead (AtImportKeyword imports path) []
viable_import imports path =
    let i : Importing = record { imports = imports; path = path; names = [] } in
    let rest = viable_taken i in
    (Name (codes "import") ∷ rest.0, rest.1, goes (AtImportKeyword imports path) (Name (codes "import")) rest.0 (AtTaken i) (ap (import_keyword imports path) keyword_import) ∙ rest.2)

viable_path : (imports : List Import) → CanRead (AtPath imports) []
viable_path imports = let rest = viable_import imports sample_path in (Path sample_path ∷ rest.0, rest.1, rest.2)

viable_arg : (b : Begun) → CanRead (AtArg b) []
viable_arg b = let rest = viable_type (ArgumentType b (codes "x")) 0 in (Name (codes "x") ∷ Punctuation Colon ∷ rest.0, rest.1, rest.2)

-- from each state the end can be reached
pub viable : (s : State) → CanRead s []
viable (AtImport imports) = ([], _, refl)
viable (AtPath imports) = viable_path imports
viable (AtImportKeyword imports path) = viable_import imports path
viable (AtTaken i) = viable_taken i
viable (AfterTaken i name) = (Punctuation Semicolon ∷ [], _, refl)
viable (AtAlias i name) = (Function (codes "f") ∷ Punctuation Semicolon ∷ [], _, refl)
viable (AfterAlias i taken) = (Punctuation Semicolon ∷ [], _, refl)
viable (AtFunction imports funcs) = ([], _, refl)
viable (AfterName b) = (Punctuation OpenBrace ∷ Punctuation CloseBrace ∷ [], _, refl)
viable (AtFirstArg b) = (Punctuation CloseParen ∷ Punctuation OpenBrace ∷ Punctuation CloseBrace ∷ [], _, refl)
viable (AtArg b) = viable_arg b
viable (AfterArg b) = (Punctuation CloseParen ∷ Punctuation OpenBrace ∷ Punctuation CloseBrace ∷ [], _, refl)
viable (AfterArgs b) = (Punctuation OpenBrace ∷ Punctuation CloseBrace ∷ [], _, refl)
viable (AtItem b) = viable_item b
viable (AfterOperation b o text) = (Punctuation Semicolon ∷ Punctuation CloseBrace ∷ [], _, refl)
viable (AtOperation b d) = viable_operation b d
viable (AtLiteral b d) = viable_literal b d
viable (AtOperand a) = (Punctuation Semicolon ∷ Punctuation CloseBrace ∷ [], _, refl)
viable (AtType position k) = viable_type position k
viable (Expect m next) = let rest = viable next in (Punctuation m ∷ rest.0, rest.1, expect-run m next rest.0 ∙ rest.2)
