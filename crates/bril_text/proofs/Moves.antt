-- Steps of the machine where the parser looks at more than one state at once.
use Rattle.std.proofs.Common.{◌≡◌, ℕ, suc, ◌+◌, ◌-◌, ◌<◌, true, false, cond, List, [], ◌∷◌, length, drop, None, Result, refl, sym, ap, ◌∙◌, subst, arith, lt-ltb}
use Rattle.bril_tree.specs.declared.import.Import.{Import}
use Rattle.bril_tree.specs.declared.import.Taken.{Taken}
use Rattle.bril_tree.specs.declared.operation.Op.{Op}
use Rattle.bril_tree.specs.declared.tree.Tree.{Tree}
use Rattle.bril_tree.specs.declared.types.Ty.{Ty}
use Rattle.bril_grammar.specs.declared.fault.Fault.{Fault}
use Rattle.bril_grammar.specs.declared.keyword.Keyword.{Keyword}
use Rattle.bril_grammar.specs.declared.keyword.Keyword.TheVariants as keyword
use Rattle.bril_lex.specs.Lexeme.{Lexeme}
use Rattle.bril_grammar.specs.declared.mark.Mark.{Mark}
use Rattle.bril_grammar.specs.declared.mark.Mark.TheVariants.{Colon, Comma, CloseParen, Semicolon, Less, Greater}
use Rattle.bril_grammar.specs.declared.fault.FaultKind.TheVariants.{Deep, Grammar}
use Rattle.bril_grammar.specs.Keyword.{keyword_of}
use Rattle.bril_grammar.specs.Machine.{Goes, Fails, run, closing, typed, type_keyword, as_keyword, first_import_keyword, taken_transitions, marks_alone, transition, mark_move, decided, go_on, begins_with_colon, head_transitions, first_keyword, dest_type, act, acted}
use Rattle.bril_grammar.specs.State.{AtAlias, AtImport, AtItem, AfterOperation, AtOperand, State, Begun, TypePosition, Importing, AtType, AtPath, AtImportKeyword, AtArg, AfterArg, AfterArgs, AtFirstArg, AfterAlias, AfterTaken, Expect}
use Rattle.bril_tree.specs.Path.{ImportPath}
use Rattle.bril_grammar.specs.Terminal.{Terminal, Name, Function, Label, Number, Char, Path, Punctuation, Other, path_terminal, terminal_of, terminals_of}
use Rattle.bril_grammar.proofs.Steps.{goes, mark_same, type_of-ty}
use Rattle.bril_grammar.proofs.Terminals.{path_terminal-path}
use Rattle.bril_text.specs.declared.parse.ParseFault.{ParseFault}
use Rattle.bril_text.specs.Parse.{Fails as FailsAt, go, begins_with, is_terminal_of, keyword_as, keyword_at}

-- a fault of a run is one of each run that is the same
pub fails_along : (a b : Result Tree Fault) (e : ParseFault) → a ≡ b → FailsAt b e → FailsAt a e
fails_along a b e same fails = subst (λ r. FailsAt r e) (sym same) fails

-- one `>` of some
pub closing_step : (depth i : ℕ) → i < depth → (next : State) → closing (depth - i) next ≡ Expect Greater (closing (depth - (i + 1)) next)
closing_step depth i below next = let e : depth - i ≡ suc (depth - (i + 1)) = omega arith in ap (λ n. closing n next) e

-- a base
pub base_run : (position : TypePosition) (ty : Ty) (text : List ℕ) (ws : List Terminal) → keyword_of text ≡ keyword.BaseType ty.base → run (AtType position ty.depth) (Name text ∷ ws) ≡ run (closing ty.depth (typed position ty)) ws
base_run position ty text ws e =
    goes (AtType position ty.depth) (Name text) ws (closing ty.depth (typed position ty)) (ap (type_keyword position ty.depth) e ∙ ap (λ t. Goes (closing ty.depth (typed position t))) (type_of-ty ty))

-- a `ptr`
pub pointer_run : (position : TypePosition) (depth : ℕ) (text : List ℕ) (ws : List Terminal) → keyword_of text ≡ keyword.Ptr → depth < 32 → run (AtType position depth) (Name text ∷ ws) ≡ run (Expect Less (AtType position (suc depth))) ws
pointer_run position depth text ws e below =
    goes (AtType position depth) (Name text) ws (Expect Less (AtType position (suc depth))) (ap (type_keyword position depth) e ∙ ap (λ t. cond t (Goes (Expect Less (AtType position (suc depth)))) (Fails Deep)) (lt-ltb depth 32 below))

pub along : (e : ParseFault) {a b : Result Tree Fault} → a ≡ b → FailsAt b e → FailsAt a e
along e {a} {b} same fails = fails_along a b e same fails

-- a terminal that is this mark
is_mark : (m : Mark) (w : Terminal) → is_terminal_of m w ≡ true → w ≡ Punctuation m
is_mark m (Name text) e = cc
is_mark m (Function name) e = cc
is_mark m (Label name) e = cc
is_mark m (Number value) e = cc
is_mark m Terminal.Float e = cc
is_mark m (Char value) e = cc
is_mark m (Path path) e = cc
is_mark m (Punctuation k) e = ap Punctuation (mark_same k m e)
is_mark m Other e = cc

-- where a mark comes next, it is the first terminal
pub begins_skip : (m : Mark) (ls : List Lexeme) → begins_with m (terminals_of ls) ≡ true → terminals_of ls ≡ Punctuation m ∷ terminals_of (drop 1 ls)
begins_skip m [] e = cc
begins_skip m (l ∷ ls) e = ap (λ w. w ∷ terminals_of ls) (is_mark m (terminal_of l) e)

-- an identifier comes next, and it is this keyword
pub record IsNamed (k : Keyword) (ls : List Lexeme) : Type 0 where
  pub text : List ℕ
  pub first : terminals_of ls ≡ Name text ∷ terminals_of (drop 1 ls)
  pub means : keyword_of text ≡ k

named_terminal : (k : Keyword) (w : Terminal) (ws : List Terminal) → (k ≡ keyword.Plain → ⊥) → keyword_as w ≡ k → (text : List ℕ) × ((w ∷ ws) ≡ Name text ∷ ws) × (keyword_of text ≡ k)
named_terminal k (Name text) ws some e = (text, refl, e)
named_terminal k (Function name) ws some e = absurd (some (sym e))
named_terminal k (Label name) ws some e = absurd (some (sym e))
named_terminal k (Number value) ws some e = absurd (some (sym e))
named_terminal k Terminal.Float ws some e = absurd (some (sym e))
named_terminal k (Char value) ws some e = absurd (some (sym e))
named_terminal k (Path path) ws some e = absurd (some (sym e))
named_terminal k (Punctuation m) ws some e = absurd (some (sym e))
named_terminal k Other ws some e = absurd (some (sym e))

pub named : (k : Keyword) (ls : List Lexeme) → (k ≡ keyword.Plain → ⊥) → keyword_at (terminals_of ls) ≡ k → IsNamed k ls
named k [] some e = absurd (some (sym e))
named k (l ∷ ls) some e = let n = named_terminal k (terminal_of l) (terminals_of ls) some e in record { text = n.0; first = n.1; means = n.2 }

-- `as`
pub alias_run : (i : Importing) (name : List ℕ) (ls : List Lexeme) → keyword_at (terminals_of ls) ≡ keyword.As → run (AfterTaken i name) (terminals_of ls) ≡ run (AtAlias i name) (terminals_of (drop 1 ls))
alias_run i name ls e =
    let n = named keyword.As ls (λ f. cc) e in
    ap (run (AfterTaken i name)) n.first ∙ goes (AfterTaken i name) (Name n.text) (terminals_of (drop 1 ls)) (AtAlias i name) (ap (as_keyword i name) n.means)

-- `from`
pub from_run : (imports : List Import) (ls : List Lexeme) → keyword_at (terminals_of ls) ≡ keyword.From → run (AtImport imports) (terminals_of ls) ≡ run (AtPath imports) (terminals_of (drop 1 ls))
from_run imports ls e =
    let n = named keyword.From ls (λ f. cc) e in
    ap (run (AtImport imports)) n.first ∙ goes (AtImport imports) (Name n.text) (terminals_of (drop 1 ls)) (AtPath imports) (ap (first_import_keyword imports) n.means)

-- after an imported function, and after an argument
pub after_alias : (i : Importing) (taken : Taken) (ws : List Terminal) → run (AfterAlias i taken) ws ≡ go (marks_alone (taken_transitions i taken)) ws
after_alias i taken [] = refl
after_alias i taken (w ∷ ws) = refl

pub after_arg : (b : Begun) (ws : List Terminal) → run (AfterArg b) ws ≡ go (marks_alone (transition Comma (AtArg b) ∷ transition CloseParen (AfterArgs b) ∷ [])) ws
after_arg b [] = refl
after_arg b (w ∷ ws) = refl

-- a comma, or another mark
pub comma_first : (m : Mark) (again end : State) (ls : List Lexeme) → begins_with Comma (terminals_of ls) ≡ true → go (marks_alone (transition Comma again ∷ transition m end ∷ [])) (terminals_of ls) ≡ run (Expect Comma again) (terminals_of ls)
comma_first m again end ls e =
    let first = begins_skip Comma ls e in
    ap (go (marks_alone (transition Comma again ∷ transition m end ∷ []))) first ∙ sym (ap (run (Expect Comma again)) first)

-- one of two marks, where the first doesn't come next
pub second_mark : (m n : Mark) (one two : State) (ws : List Terminal) → begins_with m ws ≡ false → go (marks_alone (transition m one ∷ transition n two ∷ [])) ws ≡ run (Expect n two) ws
second_mark m n one two [] e = refl
second_mark m n one two (Name text ∷ ws) e = refl
second_mark m n one two (Function name ∷ ws) e = refl
second_mark m n one two (Label name ∷ ws) e = refl
second_mark m n one two (Number value ∷ ws) e = refl
second_mark m n one two (Terminal.Float ∷ ws) e = refl
second_mark m n one two (Char value ∷ ws) e = refl
second_mark m n one two (Path path ∷ ws) e = refl
second_mark m n one two (Punctuation k ∷ ws) e =
    ap (λ t. go_on (decided (cond t (Goes one) (mark_move (transition n two ∷ []) k)) (begins_with_colon ws)) (λ next. run next ws) (suc (length ws))) e
second_mark m n one two (Other ∷ ws) e = refl

-- after the arguments
pub after_args : (b : Begun) (ws : List Terminal) → run (AfterArgs b) ws ≡ go (marks_alone (head_transitions b)) ws
after_args b [] = refl
after_args b (w ∷ ws) = refl

-- the first argument
pub first_arg : (b : Begun) (ws : List Terminal) → begins_with CloseParen ws ≡ false → run (AtFirstArg b) ws ≡ run (AtArg b) ws
first_arg b [] e = refl
first_arg b (Name text ∷ ws) e = refl
first_arg b (Function name ∷ ws) e = refl
first_arg b (Label name ∷ ws) e = refl
first_arg b (Number value ∷ ws) e = refl
first_arg b (Terminal.Float ∷ ws) e = refl
first_arg b (Char value ∷ ws) e = refl
first_arg b (Path path ∷ ws) e = refl
first_arg b (Punctuation k ∷ ws) e =
    ap (λ t. go_on (decided (cond t (Goes (AfterArgs b)) (Fails Grammar)) (begins_with_colon ws)) (λ next. run next ws) (suc (length ws))) e
first_arg b (Other ∷ ws) e = refl

-- an identifier before `:` is the name of a destination
colon_terminal : (b : Begun) (text : List ℕ) (ws : List Terminal) (k : Keyword) →
    go_on (decided (first_keyword b text k) true) (λ next. run next (Punctuation Colon ∷ ws)) (suc (suc (length ws))) ≡ run (Expect Colon (dest_type b text)) (Punctuation Colon ∷ ws)
colon_terminal b text ws keyword.From = refl
colon_terminal b text ws keyword.Import = refl
colon_terminal b text ws keyword.As = refl
colon_terminal b text ws (keyword.BaseType base) = refl
colon_terminal b text ws keyword.Ptr = refl
colon_terminal b text ws keyword.FloatType = refl
colon_terminal b text ws keyword.Const = refl
colon_terminal b text ws (keyword.Truth value) = refl
colon_terminal b text ws (keyword.Operation operation) = refl
colon_terminal b text ws keyword.FloatOperation = refl
colon_terminal b text ws keyword.Plain = refl

pub item_colon : (b : Begun) (text : List ℕ) (ls : List Lexeme) → begins_with Colon (terminals_of ls) ≡ true → run (AtItem b) (Name text ∷ terminals_of ls) ≡ run (Expect Colon (dest_type b text)) (terminals_of ls)
item_colon b text ls e =
    let first = begins_skip Colon ls e in
    ap (λ ws. run (AtItem b) (Name text ∷ ws)) first ∙ colon_terminal b text (terminals_of (drop 1 ls)) (keyword_of text) ∙ sym (ap (run (Expect Colon (dest_type b text))) first)

-- an operation that isn't before `:`
operation_later : (b : Begun) (operation : Op) (text : List ℕ) (ws : List Terminal) → begins_with Colon ws ≡ false → run (AfterOperation b operation text) ws ≡ run (AtOperand (act b None operation)) ws
operation_later b operation text [] e = refl
operation_later b operation text (Name name ∷ ws) e = refl
operation_later b operation text (Function name ∷ ws) e = refl
operation_later b operation text (Label name ∷ ws) e = refl
operation_later b operation text (Number value ∷ ws) e = refl
operation_later b operation text (Terminal.Float ∷ ws) e = refl
operation_later b operation text (Char value ∷ ws) e = refl
operation_later b operation text (Path path ∷ ws) e = refl
operation_later b operation text (Punctuation k ∷ ws) e =
    ap (λ t. go_on (decided (cond t (Goes (dest_type b text)) (mark_move (transition Semicolon (acted (act b None operation)) ∷ []) k)) (begins_with_colon ws)) (λ next. run next ws) (suc (length ws))) e
operation_later b operation text (Other ∷ ws) e = refl

pub item_operation : (b : Begun) (operation : Op) (text : List ℕ) (ws : List Terminal) → keyword_of text ≡ keyword.Operation operation → begins_with Colon ws ≡ false → run (AtItem b) (Name text ∷ ws) ≡ run (AtOperand (act b None operation)) ws
item_operation b operation text ws kw e =
    goes (AtItem b) (Name text) ws (AfterOperation b operation text) (ap (first_keyword b text) kw) ∙ operation_later b operation text ws e

-- a path
pub path_run : (imports : List Import) (path : ImportPath) (bytes : List ℕ) (ws : List Terminal) → path.bytes ≡ bytes → run (AtPath imports) (path_terminal bytes ∷ ws) ≡ run (AtImportKeyword imports path) ws
path_run imports path bytes ws e = ap (λ w. run (AtPath imports) (w ∷ ws)) (sym (ap path_terminal e) ∙ path_terminal-path path.bytes path.is_path)
