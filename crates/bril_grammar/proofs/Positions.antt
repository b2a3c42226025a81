-- Why a terminal doesn't fit in a state, and what may come there instead.
use Rattle.std.proofs.Common.{◌≡◌, ℕ, zero, suc, ◌+◌, ◌-◌, ◌≤◌, Bool, true, false, cond, nat_lt, List, [], ◌∷◌, ◌++◌, replicate, pos, Some, None, Err, codes, refl, sym, ap, ◌∙◌, arith, inl, inr, ◌⊎◌, ltb-false, append_assoc}
use Rattle.bril_tree.specs.declared.function_tree.Dest.{Dest}
use Rattle.bril_tree.specs.declared.function_tree.FuncTree.{FuncTree}
use Rattle.bril_tree.specs.declared.import.Import.{Import}
use Rattle.bril_tree.specs.declared.types.Base.TheVariants as base
use Rattle.bril_grammar.specs.declared.fault.FaultKind.{FaultKind}
use Rattle.bril_grammar.specs.declared.fault.FaultKind.TheVariants.{Float, IntRange, Deep, Grammar}
use Rattle.bril_grammar.specs.declared.keyword.Keyword.{Keyword}
use Rattle.bril_grammar.specs.declared.keyword.Keyword.TheVariants as keyword
use Rattle.bril_grammar.specs.declared.mark.Mark.{Mark}
use Rattle.bril_grammar.specs.declared.mark.Mark.TheVariants.{CloseBrace, OpenParen, CloseParen, Colon, Comma, Semicolon, Less, Greater}
use Rattle.bril_grammar.specs.Keyword.{keyword_of}
use Rattle.bril_grammar.specs.Machine.{Move, Goes, GoesBeforeColon, FloatUnlessColon, Fails, Transition, type_of, dest_type, first_import_keyword, import_keyword, as_keyword, first_keyword, operation_keyword, truth_keyword, type_keyword, mark_move, move, same_mark, decided, run}
use Rattle.bril_grammar.specs.State.{Begun, TypePosition, Importing, Acting, State, AtImport, AtPath, AtImportKeyword, AtTaken, AfterTaken, AtAlias, AfterAlias, AtFunction, AfterName, AtFirstArg, AtArg, AfterArg, AfterArgs, AtItem, AfterOperation, AtOperation, AtLiteral, AtOperand, AtType, Expect}
use Rattle.bril_tree.specs.Path.{ImportPath}
use Rattle.bril_grammar.specs.Terminal.{Terminal, Name, Function, Label, Number, Char, Path, Punctuation}
use Rattle.bril_grammar.specs.Written.{pointer_terminals}
use Rattle.bril_grammar.specs.Machine.{transition, taken_transitions, head_transitions, finished, act, acted, import_move, path_move, import_keyword_move, taken_move, after_taken_move, alias_move, function_move, first_arg_move, arg_move, item_move, operand_move, operation_move, literal_move, type_move, marks_alone}
use Rattle.bril_grammar.proofs.Keywords.{keyword_ptr, keyword_const}
use Rattle.bril_grammar.proofs.Steps.{goes}
use Rattle.bril_grammar.proofs.Viable.{CanRead, number, viable, viable_typed, base_run}

-- terminals that come only where a type, an operation, or a type inside 32 `ptr <` may come
abbrev pub inner_base : List Terminal
inner_base = Name (codes "int") ∷ Punctuation Greater ∷ []

abbrev pub label_item : List Terminal
label_item = Label (codes "l") ∷ Punctuation Colon ∷ []

abbrev pub number_const : List Terminal
number_const = Name (codes "const") ∷ Number (Some (pos 0)) ∷ []

abbrev pub deep_base : List Terminal
deep_base = Name (codes "int") ∷ replicate 32 (Punctuation Greater)

abbrev pub ReadsType : State → Type 0
ReadsType s = CanRead s pointer_terminals ⊎ CanRead s inner_base

abbrev pub ReadsOperation : State → Type 0
ReadsOperation s = CanRead s label_item ⊎ CanRead s number_const

-- an identifier that is this keyword
abbrev pub IsKeyword : Keyword → Terminal → Type 0
IsKeyword k w = (text : List ℕ) × (w ≡ Name text) × (keyword_of text ≡ k)

abbrev pub WhyFails : State → Terminal → FaultKind → Type 0
WhyFails s w Float = ((w ≡ Terminal.Float) × CanRead s number) ⊎ (IsKeyword keyword.FloatType w × ReadsType s)
WhyFails s w IntRange = (w ≡ Number None) × CanRead s number
WhyFails s w Deep = IsKeyword keyword.Ptr w × CanRead s deep_base
WhyFails s w Grammar = Unit {0}

-- what a move says about the terminal and the state
abbrev pub Why : State → Terminal → Move → Type 0
Why s w (Goes next) = Unit {0}
Why s w (GoesBeforeColon next) = IsKeyword keyword.FloatOperation w × ReadsOperation s
Why s w FloatUnlessColon = IsKeyword keyword.FloatOperation w × ReadsOperation s
Why s w (Fails kind) = WhyFails s w kind

-- moves that say nothing: to another state, or the fault Grammar
IsPlain : Move → Type 0
IsPlain (Goes next) = Unit {0}
IsPlain (GoesBeforeColon next) = ⊥
IsPlain FloatUnlessColon = ⊥
IsPlain (Fails Float) = ⊥
IsPlain (Fails IntRange) = ⊥
IsPlain (Fails Deep) = ⊥
IsPlain (Fails Grammar) = Unit {0}

plain : (s : State) (w : Terminal) (m : Move) → IsPlain m → Why s w m
unfolding IsPlain
plain s w (Goes next) h = tt
plain s w (GoesBeforeColon next) h = absurd h
plain s w FloatUnlessColon h = absurd h
plain s w (Fails Float) h = absurd h
plain s w (Fails IntRange) h = absurd h
plain s w (Fails Deep) h = absurd h
plain s w (Fails Grammar) h = tt

plain_marks : (transitions : List Transition) (m : Mark) → IsPlain (mark_move transitions m)
unfolding IsPlain
plain_marks [] m = tt
plain_marks (w ∷ ws) m = by (same_mark m w.mark) (plain_marks ws m)
  where
    by : (b : Bool) → IsPlain (mark_move ws m) → IsPlain (cond b (Goes w.next) (mark_move ws m))
    by true h = tt
    by false h = h

plain_alone : (transitions : List Transition) (w : Terminal) → IsPlain (marks_alone transitions w)
unfolding IsPlain
plain_alone transitions (Punctuation m) = plain_marks transitions m
plain_alone transitions _ = tt

plain_import : (imports : List Import) (w : Terminal) → IsPlain (import_move imports w)
unfolding IsPlain
plain_import imports (Name text) = by (keyword_of text)
  where
    by : (k : Keyword) → IsPlain (first_import_keyword imports k)
    by keyword.From = tt
    by _ = tt
plain_import imports (Function name) = tt
plain_import imports _ = tt

plain_path : (imports : List Import) (w : Terminal) → IsPlain (path_move imports w)
unfolding IsPlain
plain_path imports (Path path) = tt
plain_path imports _ = tt

plain_import_keyword : (imports : List Import) (path : ImportPath) (w : Terminal) → IsPlain (import_keyword_move imports path w)
unfolding IsPlain
plain_import_keyword imports path (Name text) = by (keyword_of text)
  where
    by : (k : Keyword) → IsPlain (import_keyword imports path k)
    by keyword.Import = tt
    by _ = tt
plain_import_keyword imports path _ = tt

plain_taken : (i : Importing) (w : Terminal) → IsPlain (taken_move i w)
unfolding IsPlain
plain_taken i (Function name) = tt
plain_taken i _ = tt

plain_after_taken : (i : Importing) (name : List ℕ) (w : Terminal) → IsPlain (after_taken_move i name w)
unfolding IsPlain
plain_after_taken i name (Name text) = by (keyword_of text)
  where
    by : (k : Keyword) → IsPlain (as_keyword i name k)
    by keyword.As = tt
    by _ = tt
plain_after_taken i name (Punctuation m) = plain_marks (taken_transitions i (record { name = name; alias = None })) m
plain_after_taken i name _ = tt

plain_alias : (i : Importing) (name : List ℕ) (w : Terminal) → IsPlain (alias_move i name w)
unfolding IsPlain
plain_alias i name (Function alias) = tt
plain_alias i name _ = tt

plain_functions : (imports : List Import) (funcs : List FuncTree) (w : Terminal) → IsPlain (function_move imports funcs w)
unfolding IsPlain
plain_functions imports funcs (Function name) = tt
plain_functions imports funcs _ = tt

plain_first_arg : (b : Begun) (w : Terminal) → IsPlain (first_arg_move b w)
unfolding IsPlain
plain_first_arg b (Name name) = tt
plain_first_arg b (Punctuation m) = plain_marks (transition CloseParen (AfterArgs b) ∷ []) m
plain_first_arg b _ = tt

plain_arg : (b : Begun) (w : Terminal) → IsPlain (arg_move b w)
unfolding IsPlain
plain_arg b (Name name) = tt
plain_arg b _ = tt

plain_operand : (a : Acting) (transitions : List Transition) (w : Terminal) → IsPlain (operand_move a transitions w)
unfolding IsPlain
plain_operand a transitions (Name name) = tt
plain_operand a transitions (Function name) = tt
plain_operand a transitions (Label name) = tt
plain_operand a transitions (Punctuation m) = plain_marks transitions m
plain_operand a transitions _ = tt

-- where an item, an operation, a literal and a type may come

item_reads : (b : Begun) → CanRead (AtItem b) label_item
item_reads b = (Punctuation CloseBrace ∷ [], _, refl)

why_item : (b : Begun) (w : Terminal) → Why (AtItem b) w (item_move b w)
unfolding IsPlain
why_item b (Name text) = by (keyword_of text) refl
  where
    by : (k : Keyword) → keyword_of text ≡ k → Why (AtItem b) (Name text) (first_keyword b text k)
    by (keyword.Operation o) e = tt
    by keyword.FloatOperation e = ((text, refl, e), inl (item_reads b))
    by _ e = tt
why_item b (Label name) = tt
why_item b (Punctuation m) = plain (AtItem b) (Punctuation m) (item_move b (Punctuation m)) (plain_marks (transition CloseBrace (finished b) ∷ []) m)
why_item b _ = tt

operation_reads : (b : Begun) (d : Dest) → CanRead (AtOperation b d) number_const
operation_reads b d =
    (Punctuation Semicolon ∷ Punctuation CloseBrace ∷ [], _, goes (AtOperation b d) (Name (codes "const")) (Number (Some (pos 0)) ∷ Punctuation Semicolon ∷ Punctuation CloseBrace ∷ []) (AtLiteral b d) (ap (operation_keyword b d) keyword_const))

why_operation : (b : Begun) (d : Dest) (w : Terminal) → Why (AtOperation b d) w (operation_move b d w)
why_operation b d (Name text) = by (keyword_of text) refl
  where
    by : (k : Keyword) → keyword_of text ≡ k → Why (AtOperation b d) (Name text) (operation_keyword b d k)
    by keyword.Const e = tt
    by (keyword.Operation o) e = tt
    by keyword.FloatOperation e = ((text, refl, e), inr (operation_reads b d))
    by _ e = tt
why_operation b d _ = tt

literal_reads : (b : Begun) (d : Dest) → CanRead (AtLiteral b d) number
literal_reads b d = (Punctuation Semicolon ∷ Punctuation CloseBrace ∷ [], _, refl)

why_literal : (b : Begun) (d : Dest) (w : Terminal) → Why (AtLiteral b d) w (literal_move b d w)
why_literal b d (Name text) = by (keyword_of text)
  where
    by : (k : Keyword) → Why (AtLiteral b d) (Name text) (truth_keyword b d k)
    by (keyword.Truth v) = tt
    by _ = tt
why_literal b d (Number (Some n)) = tt
why_literal b d (Number None) = (refl, literal_reads b d)
why_literal b d Terminal.Float = inl (refl, literal_reads b d)
why_literal b d (Char c) = tt
why_literal b d _ = tt

type_reads : (position : TypePosition) (k : ℕ) → ReadsType (AtType position k)
type_reads position zero =
    let rest = viable (AtType position 1) in
    inl (rest.0, rest.1, goes (AtType position 0) (Name (codes "ptr")) (Punctuation Less ∷ rest.0) (Expect Less (AtType position 1)) (ap (type_keyword position 0) keyword_ptr) ∙ rest.2)
type_reads position (suc k) =
    let rest = viable_typed position (type_of (suc k) base.Int) in
    inr (replicate k (Punctuation Greater) ++ rest.0, rest.1, base_run position (suc k) rest.0 ∙ rest.2)

many : (n j m : ℕ) (x : Terminal) → n + j ≡ m → replicate n x ++ replicate j x ≡ replicate m x
many zero j m x e = let same : j ≡ m = omega arith in ap (λ k. replicate k x) same
many (suc n) j zero x e = absurd (omega arith)
many (suc n) j (suc m) x e = ap (λ xs. x ∷ xs) (many n j m x (omega arith))

deep_reads : (position : TypePosition) (k : ℕ) → nat_lt k 32 ≡ false → CanRead (AtType position k) deep_base
deep_reads position k e =
    let rest = viable_typed position (type_of k base.Int) in
    let more : ℕ = k - 32 in
    let high : 32 ≤ k = ltb-false k 32 e in
    let whole : 32 + more ≡ k = omega arith in
    let closers : replicate 32 (Punctuation Greater) ++ (replicate more (Punctuation Greater) ++ rest.0) ≡ replicate k (Punctuation Greater) ++ rest.0 =
    sym (append_assoc (replicate 32 (Punctuation Greater)) (replicate more (Punctuation Greater)) rest.0)
    ∙ ap (λ xs. xs ++ rest.0) (many 32 more k (Punctuation Greater) whole) in
    (replicate more (Punctuation Greater) ++ rest.0, rest.1, ap (λ xs. run (AtType position k) (Name (codes "int") ∷ xs)) closers ∙ (base_run position k rest.0 ∙ rest.2))

why_type : (position : TypePosition) (k : ℕ) (w : Terminal) → Why (AtType position k) w (type_move position k w)
why_type position k (Name text) = by (keyword_of text) refl
  where
    deep : (b : Bool) → nat_lt k 32 ≡ b → keyword_of text ≡ keyword.Ptr → Why (AtType position k) (Name text) (cond b (Goes (Expect Less (AtType position (suc k)))) (Fails Deep))
    deep true test e = tt
    deep false test e = ((text, refl, e), deep_reads position k test)

    by : (key : Keyword) → keyword_of text ≡ key → Why (AtType position k) (Name text) (type_keyword position k key)
    by (keyword.BaseType base) e = tt
    by keyword.Ptr e = deep (nat_lt k 32) refl e
    by keyword.FloatType e = inr ((text, refl, e), type_reads position k)
    by _ e = tt
why_type position k _ = tt

-- each move says why
pub why : (s : State) (w : Terminal) → Why s w (move s w)
why (AtImport imports) w = plain (AtImport imports) w (import_move imports w) (plain_import imports w)
why (AtPath imports) w = plain (AtPath imports) w (path_move imports w) (plain_path imports w)
why (AtImportKeyword imports path) w = plain (AtImportKeyword imports path) w (import_keyword_move imports path w) (plain_import_keyword imports path w)
why (AtTaken i) w = plain (AtTaken i) w (taken_move i w) (plain_taken i w)
why (AfterTaken i name) w = plain (AfterTaken i name) w (after_taken_move i name w) (plain_after_taken i name w)
why (AtAlias i name) w = plain (AtAlias i name) w (alias_move i name w) (plain_alias i name w)
why (AfterAlias i taken) w = plain (AfterAlias i taken) w (move (AfterAlias i taken) w) (plain_alone (taken_transitions i taken) w)
why (AtFunction imports funcs) w = plain (AtFunction imports funcs) w (function_move imports funcs w) (plain_functions imports funcs w)
why (AfterName b) w = plain (AfterName b) w (move (AfterName b) w) (plain_alone (transition OpenParen (AtFirstArg b) ∷ head_transitions b) w)
why (AtFirstArg b) w = plain (AtFirstArg b) w (first_arg_move b w) (plain_first_arg b w)
why (AtArg b) w = plain (AtArg b) w (arg_move b w) (plain_arg b w)
why (AfterArg b) w = plain (AfterArg b) w (move (AfterArg b) w) (plain_alone (transition Comma (AtArg b) ∷ transition CloseParen (AfterArgs b) ∷ []) w)
why (AfterArgs b) w = plain (AfterArgs b) w (move (AfterArgs b) w) (plain_alone (head_transitions b) w)
why (AtItem b) w = why_item b w
why (AfterOperation b o text) w = plain (AfterOperation b o text) w (move (AfterOperation b o text) w) (plain_operand (act b None o) (transition Colon (dest_type b text) ∷ transition Semicolon (acted (act b None o)) ∷ []) w)
why (AtOperation b d) w = why_operation b d w
why (AtLiteral b d) w = why_literal b d w
why (AtOperand a) w = plain (AtOperand a) w (move (AtOperand a) w) (plain_operand a (transition Semicolon (acted a) ∷ []) w)
why (AtType position k) w = why_type position k w
why (Expect m next) w = plain (Expect m next) w (move (Expect m next) w) (plain_alone (transition m next ∷ []) w)

-- the states in which terminals may come that come nowhere else

pub literal_position : (s : State) → CanRead s number → (move s Terminal.Float ≡ Fails Float) × (move s (Number None) ≡ Fails IntRange)
literal_position (AtLiteral b d) h = (refl, refl)
literal_position _ h = cc

pub type_position : (s : State) → ReadsType s → (text : List ℕ) → keyword_of text ≡ keyword.FloatType → move s (Name text) ≡ Fails Float
unfolding keyword_of
type_position (AtType position k) h text e = ap (type_keyword position k) e
type_position _ (inl h) text e = cc
type_position _ (inr h) text e = cc

pub operation_position : (s : State) → ReadsOperation s → (text : List ℕ) → keyword_of text ≡ keyword.FloatOperation → decided (move s (Name text)) false ≡ Err Float
unfolding keyword_of
operation_position (AtItem b) h text e = ap (λ k. decided (first_keyword b text k) false) e
operation_position (AtOperation b d) h text e = ap (λ k. decided (operation_keyword b d k) false) e
operation_position _ (inl h) text e = cc
operation_position _ (inr h) text e = cc
