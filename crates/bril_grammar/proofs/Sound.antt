-- What the machine reads is a spelling of the tree that it gives.
use Rattle.std.proofs.Common.{◌≡◌, ℕ, zero, suc, ◌+◌, ◌≤◌, ◌<◌, Bool, true, false, cond, nat_lt, List, [], ◌∷◌, ◌++◌, map, length, replicate, inl, inr, ◌⊎◌, ltb-true, Option, Some, None, Ok, codes, refl, sym, ap, ◌∙◌, subst, arith, append_assoc, append-nil}
use Rattle.std.specs.List.{flat_map, join_by, repeat}
use Rattle.bril_tree.specs.declared.function_tree.Dest.{Dest}
use Rattle.bril_tree.specs.declared.function_tree.FuncTree.{FuncTree}
use Rattle.bril_tree.specs.declared.function_tree.Item.TheVariants as item
use Rattle.bril_tree.specs.declared.import.Import.{Import}
use Rattle.bril_tree.specs.declared.import.Taken.{Taken}
use Rattle.bril_tree.specs.declared.operation.Op.{Op}
use Rattle.bril_tree.specs.declared.tree.Tree.{Tree}
use Rattle.bril_tree.specs.declared.types.Base.{Base}
use Rattle.bril_tree.specs.declared.types.Ty.{Ty}
use Rattle.bril_tree.specs.declared.value.Lit.{Lit}
use Rattle.bril_tree.specs.declared.value.Lit.TheVariants as literal
use Rattle.bril_grammar.specs.declared.fault.FaultKind.TheVariants.{Deep}
use Rattle.bril_grammar.specs.declared.keyword.Keyword.{Keyword}
use Rattle.bril_grammar.specs.declared.mark.Mark.{Mark}
use Rattle.bril_grammar.specs.declared.keyword.Keyword.TheVariants as keyword
use Rattle.bril_grammar.specs.declared.mark.Mark.TheVariants.{OpenBrace, CloseBrace, OpenParen, CloseParen, Colon, Comma, Semicolon, Equals, Less, Greater}
use Rattle.bril_grammar.specs.Keyword.{keyword_of}
use Rattle.bril_tree.specs.Spelling.{operation_text, base_text}
use Rattle.bril_grammar.specs.Machine.{Goes, Fails, type_of, import_of, begin, with_arg, with_ret, with_item, function_begun, finished, typed, closing, const_of, act, acted, with_variable, with_function, with_label, type_keyword, first_import_keyword, import_keyword, as_keyword, operation_keyword, first_keyword, truth_keyword, dest_type, decided, at_end, run, transition, taken_transitions, head_transitions, move, import_move, path_move, import_keyword_move, taken_move, after_taken_move, alias_move, function_move, first_arg_move, arg_move, item_move, operation_move, literal_move, type_move, marks_alone, begins_with_colon}
use Rattle.bril_grammar.specs.State.{Begun, TypePosition, ArgumentType, ReturnType, DestinationType, Importing, Acting, State, AtImport, AtPath, AtImportKeyword, AtTaken, AfterTaken, AtAlias, AfterAlias, AtFunction, AfterName, AtFirstArg, AtArg, AfterArg, AfterArgs, AtItem, AfterOperation, AtOperation, AtLiteral, AtOperand, AtType, Expect}
use Rattle.bril_tree.specs.Path.{ImportPath}
use Rattle.bril_grammar.specs.Terminal.{Terminal, Name, Function, Label, Number, Char, Path, Punctuation}
use Rattle.bril_grammar.specs.Written.{Operand, VariableOperand, FunctionOperand, LabelOperand, Line, LabelLine, ConstLine, ActLine, Written, variables, functions, labels, item_of, listed, function_of, alias_terminals, taken_terminals, import_terminals, pointer_terminals, type_terminals, typed_terminals, args_terminals, ret_terminals, literal_terminal, operand_terminal, line_terminals, function_terminals, Spells}
use Rattle.bril_tree.proofs.Equal.{ImportPath-equal}
use Rattle.bril_grammar.proofs.Keywords.{Means, means}
use Rattle.bril_grammar.proofs.Steps.{OnState, led, OneTransition, mark_led, type_of-ty}

-- What is left to read at each state, so that the whole is the tree.

abbrev next_taken : Taken → List Terminal
next_taken taken = (Punctuation Comma ∷ []) ++ taken_terminals taken

abbrev next_arg : Dest → List Terminal
next_arg dest = (Punctuation Comma ∷ []) ++ typed_terminals dest

abbrev FunctionsLeft : List Import → List FuncTree → List Terminal → Tree → Type 0
FunctionsLeft imports funcs ws t = (fs : List Written) × (ws ≡ flat_map function_terminals fs) × (t ≡ record { imports = imports; funcs = funcs ++ map function_of fs })

abbrev ItemsLeft : Begun → List Terminal → Tree → Type 0
ItemsLeft b ws t = (lines : List Line) × (r : List Terminal) × (ws ≡ flat_map line_terminals lines ++ (Punctuation CloseBrace ∷ r))
    × FunctionsLeft b.imports (b.funcs ++ (function_begun (record b { code = b.code ++ map item_of lines }) ∷ [])) r t

-- a mark, and then what P says
abbrev MarkLeft : Mark → (List Terminal → Tree → Type 0) → List Terminal → Tree → Type 0
MarkLeft m P ws t = (r : List Terminal) × (ws ≡ Punctuation m ∷ r) × P r t

abbrev OperandsLeft : Acting → List Terminal → Tree → Type 0
OperandsLeft a ws t = (os : List Operand) × (r : List Terminal) × (ws ≡ map operand_terminal os ++ (Punctuation Semicolon ∷ r))
    × ItemsLeft (with_item a.begun (item.Act a.dest a.operation (a.args ++ variables os) (a.funcs ++ functions os) (a.labels ++ labels os))) r t

abbrev LiteralLeft : Begun → Dest → List Terminal → Tree → Type 0
LiteralLeft b d ws t = (v : Lit) × (r : List Terminal) × (ws ≡ literal_terminal v ∷ Punctuation Semicolon ∷ r) × ItemsLeft (with_item b (item.Const d.name d.ty v)) r t

abbrev OperationLeft : Begun → Dest → List Terminal → Tree → Type 0
OperationLeft b d ws t = ((r : List Terminal) × (ws ≡ Name (codes "const") ∷ r) × LiteralLeft b d r t)
    ⊎ ((o : Op) × (r : List Terminal) × (ws ≡ Name (operation_text o) ∷ r) × OperandsLeft (act b (Some d) o) r t)

-- after the arguments: no type, or a type
abbrev RetLeft : Begun → List Terminal → Tree → Type 0
RetLeft b ws t = MarkLeft OpenBrace (ItemsLeft b) ws t
    ⊎ ((ty : Ty) × (r : List Terminal) × (ws ≡ Punctuation Colon ∷ (type_terminals ty ++ (Punctuation OpenBrace ∷ r))) × ItemsLeft (with_ret b ty) r t)

abbrev ArgsLeft : Begun → List Terminal → Tree → Type 0
ArgsLeft b ws t = (more : List Dest) × (r : List Terminal) × (ws ≡ flat_map next_arg more ++ (Punctuation CloseParen ∷ r)) × RetLeft (record b { args = b.args ++ more }) r t

abbrev ArgLeft : Begun → List Terminal → Tree → Type 0
ArgLeft b ws t = (d : Dest) × (r : List Terminal) × (ws ≡ typed_terminals d ++ r) × ArgsLeft (with_arg b d) r t

abbrev FirstArgLeft : Begun → List Terminal → Tree → Type 0
FirstArgLeft b ws t = MarkLeft CloseParen (RetLeft b) ws t ⊎ ArgLeft b ws t

abbrev HeadLeft : Begun → List Terminal → Tree → Type 0
HeadLeft b ws t = RetLeft b ws t ⊎ MarkLeft OpenParen (FirstArgLeft b) ws t

-- after a type
abbrev PositionLeft : TypePosition → Ty → List Terminal → Tree → Type 0
PositionLeft (ArgumentType b name) ty ws t = ArgsLeft (with_arg b (record { name = name; ty = ty })) ws t
PositionLeft (ReturnType b) ty ws t = MarkLeft OpenBrace (ItemsLeft (with_ret b ty)) ws t
PositionLeft (DestinationType b name) ty ws t = MarkLeft Equals (OperationLeft b (record { name = name; ty = ty })) ws t

-- inside k times `ptr <`
record TypeLeft (position : TypePosition) (k : ℕ) (ws : List Terminal) (t : Tree) : Type 0 where
  deeper : ℕ
  depth : ℕ
  base : Base
  rest : List Terminal
  sum : k + deeper ≡ depth
  small : k ≤ 32 → depth ≤ 32
  cut : ws ≡ repeat deeper pointer_terminals ++ (Name (base_text base) ∷ (replicate depth (Punctuation Greater) ++ rest))
  left : PositionLeft position (type_of depth base) rest t

abbrev AfterOperationLeft : Begun → Op → List ℕ → List Terminal → Tree → Type 0
AfterOperationLeft b o text ws t = OperandsLeft (act b None o) ws t ⊎ MarkLeft Colon (TypeLeft (DestinationType b text) 0) ws t

abbrev ImportsLeft : List Import → List Terminal → Tree → Type 0
ImportsLeft imports ws t = (more : List Import) × (fs : List Written) × (ws ≡ flat_map import_terminals more ++ flat_map function_terminals fs)
    × (t ≡ record { imports = imports ++ more; funcs = map function_of fs })

abbrev TakenLeft : Importing → Taken → List Terminal → Tree → Type 0
TakenLeft i taken ws t = (more : List Taken) × (r : List Terminal) × (made : Import) × (ws ≡ flat_map next_taken more ++ (Punctuation Semicolon ∷ r))
    × (made.path ≡ i.path.bytes) × (made.names ≡ i.names ++ (taken ∷ more)) × ImportsLeft (i.imports ++ (made ∷ [])) r t

abbrev AliasLeft : Importing → List ℕ → List Terminal → Tree → Type 0
AliasLeft i name ws t = (alias : List ℕ) × (r : List Terminal) × (ws ≡ Function alias ∷ r) × TakenLeft i (record { name = name; alias = Some alias }) r t

abbrev AfterTakenLeft : Importing → List ℕ → List Terminal → Tree → Type 0
AfterTakenLeft i name ws t = (alias : Option (List ℕ)) × (r : List Terminal) × (ws ≡ alias_terminals alias ++ r) × TakenLeft i (record { name = name; alias = alias }) r t

abbrev FirstTakenLeft : Importing → List Terminal → Tree → Type 0
FirstTakenLeft i ws t = (taken : Taken) × (r : List Terminal) × (ws ≡ taken_terminals taken ++ r) × TakenLeft i taken r t

abbrev ImportKeywordLeft : List Import → ImportPath → List Terminal → Tree → Type 0
ImportKeywordLeft imports path ws t = (r : List Terminal) × (ws ≡ Name (codes "import") ∷ r) × FirstTakenLeft (record { imports = imports; path = path; names = [] }) r t

abbrev PathLeft : List Import → List Terminal → Tree → Type 0
PathLeft imports ws t = (path : ImportPath) × (r : List Terminal) × (ws ≡ Path path ∷ r) × ImportKeywordLeft imports path r t

abbrev Left : State → List Terminal → Tree → Type 0
Left (AtImport imports) ws t = ImportsLeft imports ws t
Left (AtPath imports) ws t = PathLeft imports ws t
Left (AtImportKeyword imports path) ws t = ImportKeywordLeft imports path ws t
Left (AtTaken i) ws t = FirstTakenLeft i ws t
Left (AfterTaken i name) ws t = AfterTakenLeft i name ws t
Left (AtAlias i name) ws t = AliasLeft i name ws t
Left (AfterAlias i taken) ws t = TakenLeft i taken ws t
Left (AtFunction imports funcs) ws t = FunctionsLeft imports funcs ws t
Left (AfterName b) ws t = HeadLeft b ws t
Left (AtFirstArg b) ws t = FirstArgLeft b ws t
Left (AtArg b) ws t = ArgLeft b ws t
Left (AfterArg b) ws t = ArgsLeft b ws t
Left (AfterArgs b) ws t = RetLeft b ws t
Left (AtItem b) ws t = ItemsLeft b ws t
Left (AfterOperation b o text) ws t = AfterOperationLeft b o text ws t
Left (AtOperation b d) ws t = OperationLeft b d ws t
Left (AtLiteral b d) ws t = LiteralLeft b d ws t
Left (AtOperand a) ws t = OperandsLeft a ws t
Left (AtType position k) ws t = TypeLeft position k ws t
Left (Expect m next) ws t = MarkLeft m (Left next) ws t

-- types

placed : (position : TypePosition) (ty : Ty) (ws : List Terminal) (t : Tree) → Left (typed position ty) ws t → PositionLeft position ty ws t
placed (ArgumentType b name) ty ws t h = h
placed (ReturnType b) ty ws t h = h
placed (DestinationType b name) ty ws t h = h

closed : (n : ℕ) (s : State) (ws : List Terminal) (t : Tree) → Left (closing n s) ws t → (r : List Terminal) × (ws ≡ replicate n (Punctuation Greater) ++ r) × Left s r t
closed zero s ws t h = (ws, refl, h)
closed (suc n) s ws t h =
    let later = closed n s h.0 t h.2 in
    (later.0, h.1 ∙ ap (λ r. Punctuation Greater ∷ r) later.1, later.2)

type_back : (position : TypePosition) (k : ℕ) (text : List ℕ) (key : Keyword) (ws : List Terminal) (t : Tree) → Means text key → OnState (λ n. Left n ws t) (decided (type_keyword position k key) true) → TypeLeft position k (Name text ∷ ws) t
type_back position k text (keyword.BaseType base) ws t e h =
    let end = closed k (typed position (type_of k base)) ws t h in
    record {
      deeper = 0;
      depth = k;
      base = base;
      rest = end.0;
      sum = omega arith;
      small = λ below. below;
      cut = ap (λ x. Name x ∷ ws) e ∙ ap (λ r. Name (base_text base) ∷ r) end.1;
      left = placed position (type_of k base) end.0 t end.2;
    }
type_back position k text keyword.Ptr ws t e h = by (nat_lt k 32) refl h
  where
    by : (b : Bool) → nat_lt k 32 ≡ b → OnState (λ n. Left n ws t) (decided (cond b (Goes (Expect Less (AtType position (suc k)))) (Fails Deep)) true) → TypeLeft position k (Name text ∷ ws) t
    by true test l =
        let inner = l.2 in
        let below : k < 32 = ltb-true k 32 test in
        let more = inner.sum in
        record {
          deeper = suc inner.deeper;
          depth = inner.depth;
          base = inner.base;
          rest = inner.rest;
          sum = omega arith;
          small = λ b. inner.small below;
          cut = ap (λ x. Name x ∷ ws) e ∙ (ap (λ r. Name (codes "ptr") ∷ r) l.1 ∙ ap (λ r. Name (codes "ptr") ∷ Punctuation Less ∷ r) inner.cut);
          left = inner.left;
        }
    by false test l = absurd l
type_back position k text keyword.FloatType ws t e h = absurd h
type_back position k text _ ws t e h = absurd h

-- a whole type, and what is left after it
record WholeType (position : TypePosition) (ws : List Terminal) (t : Tree) : Type 0 where
  ty : Ty
  rest : List Terminal
  cut : ws ≡ type_terminals ty ++ rest
  left : PositionLeft position ty rest t

whole_type : (position : TypePosition) (ws : List Terminal) (t : Tree) → TypeLeft position 0 ws t → WholeType position ws t
whole_type position ws t h =
    let sum = h.sum in
    let same : h.deeper ≡ h.depth = omega arith in
    let below : h.depth ≤ 32 = h.small (omega arith) in
    let ty : Ty = record { depth = h.depth; base = h.base; nests = below } in
    record {
      ty = ty;
      rest = h.rest;
      cut = h.cut ∙ (ap (λ n. repeat n pointer_terminals ++ (Name (base_text h.base) ∷ (replicate h.depth (Punctuation Greater) ++ h.rest))) same
          ∙ sym (append_assoc (repeat h.depth pointer_terminals) (Name (base_text h.base) ∷ replicate h.depth (Punctuation Greater)) h.rest));
      left = subst (λ u. PositionLeft position u h.rest t) (type_of-ty ty) h.left;
    }

-- items

items_cons : (b : Begun) (line : Line) (ws r : List Terminal) (t : Tree) → ws ≡ line_terminals line ++ r → ItemsLeft (with_item b (item_of line)) r t → ItemsLeft b ws t
items_cons b line ws r t e h = (
  line ∷ h.0,
  h.1,
  e ∙ (ap (λ x. line_terminals line ++ x) h.2 ∙ sym (append_assoc (line_terminals line) (flat_map line_terminals h.0) (Punctuation CloseBrace ∷ h.1))),
  subst (λ code. FunctionsLeft b.imports (b.funcs ++ (function_begun (record b { code = code }) ∷ [])) h.1 t) (append_assoc b.code (item_of line ∷ []) (map item_of h.0)) h.3,
)

act_line : (b : Begun) (o : Op) (ws : List Terminal) (t : Tree) → OperandsLeft (act b None o) ws t → ItemsLeft b (Name (operation_text o) ∷ ws) t
act_line b o ws t h =
    items_cons b (ActLine None o h.0) (Name (operation_text o) ∷ ws) h.1 t
    (ap (λ x. Name (operation_text o) ∷ x) (h.2 ∙ sym (append_assoc (map operand_terminal h.0) (Punctuation Semicolon ∷ []) h.1))) h.3

const_line : (b : Begun) (x : List ℕ) (ty : Ty) (ws : List Terminal) (t : Tree) → LiteralLeft b (record { name = x; ty = ty }) ws t → ItemsLeft b (Name x ∷ Punctuation Colon ∷ (type_terminals ty ++ (Punctuation Equals ∷ Name (codes "const") ∷ ws))) t
const_line b x ty ws t h =
    items_cons b (ConstLine x ty h.0) (Name x ∷ Punctuation Colon ∷ (type_terminals ty ++ (Punctuation Equals ∷ Name (codes "const") ∷ ws))) h.1 t
    (ap (λ y. Name x ∷ Punctuation Colon ∷ (type_terminals ty ++ (Punctuation Equals ∷ Name (codes "const") ∷ y))) h.2
    ∙ sym (append_assoc (Name x ∷ Punctuation Colon ∷ type_terminals ty) (Punctuation Equals ∷ Name (codes "const") ∷ literal_terminal h.0 ∷ Punctuation Semicolon ∷ []) h.1)) h.3

dest_line : (b : Begun) (x : List ℕ) (ty : Ty) (o : Op) (ws : List Terminal) (t : Tree) → OperandsLeft (act b (Some (record { name = x; ty = ty })) o) ws t → ItemsLeft b (Name x ∷ Punctuation Colon ∷ (type_terminals ty ++ (Punctuation Equals ∷ Name (operation_text o) ∷ ws))) t
dest_line b x ty o ws t h =
    items_cons b (ActLine (Some (record { name = x; ty = ty })) o h.0) (Name x ∷ Punctuation Colon ∷ (type_terminals ty ++ (Punctuation Equals ∷ Name (operation_text o) ∷ ws))) h.1 t
    (ap (λ y. Name x ∷ Punctuation Colon ∷ (type_terminals ty ++ (Punctuation Equals ∷ Name (operation_text o) ∷ y))) h.2
    ∙ sym (regrouped (Name x ∷ Punctuation Colon ∷ type_terminals ty) (Punctuation Equals) (Name (operation_text o)) (map operand_terminal h.0) (Punctuation Semicolon ∷ []) h.1)) h.3
  where
    regrouped : (u : List Terminal) (e n : Terminal) (xs s r : List Terminal) → ((u ++ (e ∷ [])) ++ (n ∷ (xs ++ s))) ++ r ≡ u ++ (e ∷ n ∷ (xs ++ (s ++ r)))
    regrouped u e n xs s r = simp append_assoc

typed_line : (b : Begun) (x : List ℕ) (ty : Ty) (ws : List Terminal) (t : Tree) → OperationLeft b (record { name = x; ty = ty }) ws t → ItemsLeft b (Name x ∷ Punctuation Colon ∷ (type_terminals ty ++ (Punctuation Equals ∷ ws))) t
typed_line b x ty ws t (inl h) =
    subst (λ y. ItemsLeft b (Name x ∷ Punctuation Colon ∷ (type_terminals ty ++ (Punctuation Equals ∷ y))) t) (sym h.1) (const_line b x ty h.0 t h.2)
typed_line b x ty ws t (inr h) =
    subst (λ y. ItemsLeft b (Name x ∷ Punctuation Colon ∷ (type_terminals ty ++ (Punctuation Equals ∷ y))) t) (sym h.2) (dest_line b x ty h.0 h.1 t h.3)

named_line : (b : Begun) (x : List ℕ) (ws : List Terminal) (t : Tree) → MarkLeft Colon (TypeLeft (DestinationType b x) 0) ws t → ItemsLeft b (Name x ∷ ws) t
named_line b x ws t h =
    let whole = whole_type (DestinationType b x) h.0 t h.2 in
    let line = typed_line b x whole.ty whole.left.0 t whole.left.2 in
    let shown : Name x ∷ ws ≡ Name x ∷ Punctuation Colon ∷ (type_terminals whole.ty ++ (Punctuation Equals ∷ whole.left.0)) =
    ap (λ y. Name x ∷ y) h.1 ∙ (ap (λ y. Name x ∷ Punctuation Colon ∷ y) whole.cut ∙ ap (λ y. Name x ∷ Punctuation Colon ∷ (type_terminals whole.ty ++ y)) whole.left.1) in
    subst (λ y. ItemsLeft b y t) (sym shown) line

keyword_back : (b : Begun) (x : List ℕ) (key : Keyword) (ws : List Terminal) (t : Tree) → Means x key → OnState (λ n. Left n ws t) (decided (first_keyword b x key) true) → ItemsLeft b (Name x ∷ ws) t
keyword_back b x (keyword.Operation o) ws t e (inl h) = subst (λ y. ItemsLeft b (Name y ∷ ws) t) (sym e) (act_line b o ws t h)
keyword_back b x (keyword.Operation o) ws t e (inr h) = named_line b x ws t h
keyword_back b x keyword.FloatOperation ws t e h = named_line b x ws t h
keyword_back b x _ ws t e h = named_line b x ws t h

item_back : (b : Begun) (w : Terminal) (ws : List Terminal) (t : Tree) → OnState (λ n. Left n ws t) (decided (item_move b w) true) → ItemsLeft b (w ∷ ws) t
item_back b (Name x) ws t h = keyword_back b x (keyword_of x) ws t (means x) h
item_back b (Label l) ws t h = items_cons b (LabelLine l) (Label l ∷ ws) h.0 t (ap (λ y. Label l ∷ y) h.1) h.2
item_back b (Punctuation m) ws t h = by (mark_led (λ n. Left n ws t) m (record { mark = CloseBrace; next = finished b } ∷ []) h)
  where
    by : OneTransition (λ n. Left n ws t) m (record { mark = CloseBrace; next = finished b } ∷ []) → ItemsLeft b (Punctuation m ∷ ws) t
    by (inl f) = ([], ws, ap (λ n. Punctuation n ∷ ws) f.0, subst (λ code. FunctionsLeft b.imports (b.funcs ++ (function_begun (record b { code = code }) ∷ [])) ws t) (sym (append-nil b.code)) f.1)
    by (inr f) = absurd f
item_back b _ ws t h = absurd h

-- operands

variable_cons : (a : Acting) (x : List ℕ) (ws : List Terminal) (t : Tree) → OperandsLeft (with_variable a x) ws t → OperandsLeft a (Name x ∷ ws) t
variable_cons a x ws t h = (
  VariableOperand x ∷ h.0,
  h.1,
  ap (λ y. Name x ∷ y) h.2,
  subst (λ xs. ItemsLeft (with_item a.begun (item.Act a.dest a.operation xs (a.funcs ++ functions h.0) (a.labels ++ labels h.0))) h.1 t) (append_assoc a.args (x ∷ []) (variables h.0)) h.3,
)

function_cons : (a : Acting) (x : List ℕ) (ws : List Terminal) (t : Tree) → OperandsLeft (with_function a x) ws t → OperandsLeft a (Function x ∷ ws) t
function_cons a x ws t h = (
  FunctionOperand x ∷ h.0,
  h.1,
  ap (λ y. Function x ∷ y) h.2,
  subst (λ xs. ItemsLeft (with_item a.begun (item.Act a.dest a.operation (a.args ++ variables h.0) xs (a.labels ++ labels h.0))) h.1 t) (append_assoc a.funcs (x ∷ []) (functions h.0)) h.3,
)

label_cons : (a : Acting) (x : List ℕ) (ws : List Terminal) (t : Tree) → OperandsLeft (with_label a x) ws t → OperandsLeft a (Label x ∷ ws) t
label_cons a x ws t h = (
  LabelOperand x ∷ h.0,
  h.1,
  ap (λ y. Label x ∷ y) h.2,
  subst (λ xs. ItemsLeft (with_item a.begun (item.Act a.dest a.operation (a.args ++ variables h.0) (a.funcs ++ functions h.0) xs)) h.1 t) (append_assoc a.labels (x ∷ []) (labels h.0)) h.3,
)

no_operand : (a : Acting) (m : Mark) (ws : List Terminal) (t : Tree) → m ≡ Semicolon → Left (acted a) ws t → OperandsLeft a (Punctuation m ∷ ws) t
no_operand a m ws t e h =
    let same : item.Act a.dest a.operation a.args a.funcs a.labels ≡ item.Act a.dest a.operation (a.args ++ []) (a.funcs ++ []) (a.labels ++ []) = rw (append-nil a.args, append-nil a.funcs, append-nil a.labels) refl in
    ([], ws, ap (λ n. Punctuation n ∷ ws) e, subst (λ i. ItemsLeft (with_item a.begun i) ws t) same h)

operand_back : (a : Acting) (w : Terminal) (ws : List Terminal) (t : Tree) → OnState (λ n. Left n ws t) (decided (move (AtOperand a) w) true) → OperandsLeft a (w ∷ ws) t
operand_back a (Name x) ws t h = variable_cons a x ws t h
operand_back a (Function x) ws t h = function_cons a x ws t h
operand_back a (Label x) ws t h = label_cons a x ws t h
operand_back a (Punctuation m) ws t h = by (mark_led (λ n. Left n ws t) m (transition Semicolon (acted a) ∷ []) h)
  where
    by : OneTransition (λ n. Left n ws t) m (transition Semicolon (acted a) ∷ []) → OperandsLeft a (Punctuation m ∷ ws) t
    by (inl f) = no_operand a m ws t f.0 f.1
    by (inr f) = absurd f
operand_back a _ ws t h = absurd h

after_operation_back : (b : Begun) (o : Op) (text : List ℕ) (w : Terminal) (ws : List Terminal) (t : Tree) → OnState (λ n. Left n ws t) (decided (move (AfterOperation b o text) w) true) → AfterOperationLeft b o text (w ∷ ws) t
after_operation_back b o text (Name x) ws t h = inl (variable_cons (act b None o) x ws t h)
after_operation_back b o text (Function x) ws t h = inl (function_cons (act b None o) x ws t h)
after_operation_back b o text (Label x) ws t h = inl (label_cons (act b None o) x ws t h)
after_operation_back b o text (Punctuation m) ws t h = by (mark_led (λ n. Left n ws t) m (transition Colon (dest_type b text) ∷ transition Semicolon (acted (act b None o)) ∷ []) h)
  where
    by : OneTransition (λ n. Left n ws t) m (transition Colon (dest_type b text) ∷ transition Semicolon (acted (act b None o)) ∷ []) → AfterOperationLeft b o text (Punctuation m ∷ ws) t
    by (inl f) = inr (ws, ap (λ n. Punctuation n ∷ ws) f.0, f.1)
    by (inr (inl f)) = inl (no_operand (act b None o) m ws t f.0 f.1)
    by (inr (inr f)) = absurd f
after_operation_back b o text _ ws t h = absurd h

-- constants and operations after a destination

literal_left : (b : Begun) (d : Dest) (v : Lit) (w : Terminal) (ws : List Terminal) (t : Tree) → w ≡ literal_terminal v → Left (const_of b d v) ws t → LiteralLeft b d (w ∷ ws) t
literal_left b d v w ws t e h = (v, h.0, ap (λ x. x ∷ ws) e ∙ ap (λ r. literal_terminal v ∷ r) h.1, h.2)

truth_back : (b : Begun) (d : Dest) (x : List ℕ) (key : Keyword) (ws : List Terminal) (t : Tree) → Means x key → OnState (λ n. Left n ws t) (decided (truth_keyword b d key) true) → LiteralLeft b d (Name x ∷ ws) t
truth_back b d x (keyword.Truth v) ws t e h = literal_left b d (literal.Bool v) (Name x) ws t (ap Name e) h
truth_back b d x _ ws t e h = absurd h

literal_back : (b : Begun) (d : Dest) (w : Terminal) (ws : List Terminal) (t : Tree) → OnState (λ n. Left n ws t) (decided (literal_move b d w) true) → LiteralLeft b d (w ∷ ws) t
literal_back b d (Name x) ws t h = truth_back b d x (keyword_of x) ws t (means x) h
literal_back b d (Number (Some n)) ws t h = literal_left b d (literal.Int n) (Number (Some n)) ws t refl h
literal_back b d (Number None) ws t h = absurd h
literal_back b d (Char c) ws t h = literal_left b d (literal.Char c) (Char c) ws t refl h
literal_back b d _ ws t h = absurd h

operation_keyword_back : (b : Begun) (d : Dest) (x : List ℕ) (key : Keyword) (ws : List Terminal) (t : Tree) → Means x key → OnState (λ n. Left n ws t) (decided (operation_keyword b d key) true) → OperationLeft b d (Name x ∷ ws) t
operation_keyword_back b d x keyword.Const ws t e h = inl (ws, ap (λ y. Name y ∷ ws) e, h)
operation_keyword_back b d x (keyword.Operation o) ws t e h = inr (o, ws, ap (λ y. Name y ∷ ws) e, h)
operation_keyword_back b d x keyword.FloatOperation ws t e h = absurd h
operation_keyword_back b d x _ ws t e h = absurd h

operation_back : (b : Begun) (d : Dest) (w : Terminal) (ws : List Terminal) (t : Tree) → OnState (λ n. Left n ws t) (decided (operation_move b d w) true) → OperationLeft b d (w ∷ ws) t
operation_back b d (Name x) ws t h = operation_keyword_back b d x (keyword_of x) ws t (means x) h
operation_back b d _ ws t h = absurd h

type_keyword_back : (position : TypePosition) (k : ℕ) (w : Terminal) (ws : List Terminal) (t : Tree) → OnState (λ n. Left n ws t) (decided (type_move position k w) true) → TypeLeft position k (w ∷ ws) t
type_keyword_back position k (Name x) ws t h = type_back position k x (keyword_of x) ws t (means x) h
type_keyword_back position k _ ws t h = absurd h

-- the head of a function

ret_transitions : (b : Begun) (m : Mark) (ws : List Terminal) (t : Tree) → OneTransition (λ n. Left n ws t) m (head_transitions b) → RetLeft b (Punctuation m ∷ ws) t
ret_transitions b m ws t (inl f) =
    let whole = whole_type (ReturnType b) ws t f.1 in
    inr (
      whole.ty,
      whole.left.0,
      ap (λ n. Punctuation n ∷ ws) f.0 ∙ (ap (λ y. Punctuation Colon ∷ y) whole.cut ∙ ap (λ y. Punctuation Colon ∷ (type_terminals whole.ty ++ y)) whole.left.1),
      whole.left.2,
    )
ret_transitions b m ws t (inr (inl f)) = inl (ws, ap (λ n. Punctuation n ∷ ws) f.0, f.1)
ret_transitions b m ws t (inr (inr f)) = absurd f

after_args_back : (b : Begun) (w : Terminal) (ws : List Terminal) (t : Tree) → OnState (λ n. Left n ws t) (decided (marks_alone (head_transitions b) w) true) → RetLeft b (w ∷ ws) t
after_args_back b (Punctuation m) ws t h = ret_transitions b m ws t (mark_led (λ n. Left n ws t) m (head_transitions b) h)
after_args_back b _ ws t h = absurd h

name_back : (b : Begun) (w : Terminal) (ws : List Terminal) (t : Tree) → OnState (λ n. Left n ws t) (decided (move (AfterName b) w) true) → HeadLeft b (w ∷ ws) t
name_back b (Punctuation m) ws t h = by (mark_led (λ n. Left n ws t) m (transition OpenParen (AtFirstArg b) ∷ head_transitions b) h)
  where
    by : OneTransition (λ n. Left n ws t) m (transition OpenParen (AtFirstArg b) ∷ head_transitions b) → HeadLeft b (Punctuation m ∷ ws) t
    by (inl f) = inr (ws, ap (λ n. Punctuation n ∷ ws) f.0, f.1)
    by (inr f) = inl (ret_transitions b m ws t f)
name_back b _ ws t h = absurd h

named_arg : (b : Begun) (x : List ℕ) (ws : List Terminal) (t : Tree) → MarkLeft Colon (TypeLeft (ArgumentType b x) 0) ws t → ArgLeft b (Name x ∷ ws) t
named_arg b x ws t h =
    let whole = whole_type (ArgumentType b x) h.0 t h.2 in
    (record { name = x; ty = whole.ty }, whole.rest, ap (λ y. Name x ∷ y) h.1 ∙ ap (λ y. Name x ∷ Punctuation Colon ∷ y) whole.cut, whole.left)

arg_back : (b : Begun) (w : Terminal) (ws : List Terminal) (t : Tree) → OnState (λ n. Left n ws t) (decided (arg_move b w) true) → ArgLeft b (w ∷ ws) t
arg_back b (Name x) ws t h = named_arg b x ws t h
arg_back b _ ws t h = absurd h

first_arg_back : (b : Begun) (w : Terminal) (ws : List Terminal) (t : Tree) → OnState (λ n. Left n ws t) (decided (first_arg_move b w) true) → FirstArgLeft b (w ∷ ws) t
first_arg_back b (Name x) ws t h = inr (named_arg b x ws t h)
first_arg_back b (Punctuation m) ws t h = by (mark_led (λ n. Left n ws t) m (transition CloseParen (AfterArgs b) ∷ []) h)
  where
    by : OneTransition (λ n. Left n ws t) m (transition CloseParen (AfterArgs b) ∷ []) → FirstArgLeft b (Punctuation m ∷ ws) t
    by (inl f) = inl (ws, ap (λ n. Punctuation n ∷ ws) f.0, f.1)
    by (inr f) = absurd f
first_arg_back b _ ws t h = absurd h

after_arg_back : (b : Begun) (w : Terminal) (ws : List Terminal) (t : Tree) → OnState (λ n. Left n ws t) (decided (move (AfterArg b) w) true) → ArgsLeft b (w ∷ ws) t
after_arg_back b (Punctuation m) ws t h = by (mark_led (λ n. Left n ws t) m (transition Comma (AtArg b) ∷ transition CloseParen (AfterArgs b) ∷ []) h)
  where
    by : OneTransition (λ n. Left n ws t) m (transition Comma (AtArg b) ∷ transition CloseParen (AfterArgs b) ∷ []) → ArgsLeft b (Punctuation m ∷ ws) t
    by (inl f) =
        let arg = f.1 in
        let rest = arg.3 in (
          arg.0 ∷ rest.0,
          rest.1,
          ap (λ n. Punctuation n ∷ ws) f.0 ∙ (ap (λ y. Punctuation Comma ∷ y) arg.2 ∙ (ap (λ y. Punctuation Comma ∷ (typed_terminals arg.0 ++ y)) rest.2
              ∙ sym (append_assoc (next_arg arg.0) (flat_map next_arg rest.0) (Punctuation CloseParen ∷ rest.1)))),
          subst (λ args. RetLeft (record b { args = args }) rest.1 t) (append_assoc b.args (arg.0 ∷ []) rest.0) rest.3,
        )
    by (inr (inl f)) = ([], ws, ap (λ n. Punctuation n ∷ ws) f.0, subst (λ args. RetLeft (record b { args = args }) ws t) (sym (append-nil b.args)) f.1)
    by (inr (inr f)) = absurd f
after_arg_back b _ ws t h = absurd h

-- functions

-- a function after its name, and what is left after it
record WholeFunction (imports : List Import) (funcs : List FuncTree) (name : List ℕ) (ws : List Terminal) (t : Tree) : Type 0 where
  function : Written
  rest : List Terminal
  cut : Function name ∷ ws ≡ function_terminals function ++ rest
  left : FunctionsLeft imports (funcs ++ (function_of function ∷ [])) rest t

function_regrouped : (n : Terminal) (a r : List Terminal) (o : Terminal) (ls c w : List Terminal) → (n ∷ (a ++ (r ++ (o ∷ (ls ++ c))))) ++ w ≡ n ∷ (a ++ (r ++ (o ∷ (ls ++ (c ++ w)))))
function_regrouped n a r o ls c w = simp append_assoc

whole_body : (imports : List Import) (funcs : List FuncTree) (name : List ℕ) (args : Option (List Dest)) (ws v : List Terminal) (t : Tree) → ws ≡ args_terminals args ++ v → RetLeft (record { imports = imports; funcs = funcs; name = name; args = listed args; ret = None; code = [] }) v t → WholeFunction imports funcs name ws t
whole_body imports funcs name args ws v t e (inl h) =
    let body = h.2 in
    record {
      function = record { name = name; args = args; ret = None; lines = body.0 };
      rest = body.1;
      cut = ap (λ y. Function name ∷ y) (e ∙ ap (λ y. args_terminals args ++ y) (h.1 ∙ ap (λ y. Punctuation OpenBrace ∷ y) body.2))
          ∙ sym (function_regrouped (Function name) (args_terminals args) [] (Punctuation OpenBrace) (flat_map line_terminals body.0) (Punctuation CloseBrace ∷ []) body.1);
      left = body.3;
    }
whole_body imports funcs name args ws v t e (inr h) =
    let body = h.3 in
    record {
      function = record { name = name; args = args; ret = Some h.0; lines = body.0 };
      rest = body.1;
      cut = ap (λ y. Function name ∷ y) (e ∙ ap (λ y. args_terminals args ++ y) (h.2 ∙ ap (λ y. ret_terminals (Some h.0) ++ (Punctuation OpenBrace ∷ y)) body.2))
          ∙ sym (function_regrouped (Function name) (args_terminals args) (ret_terminals (Some h.0)) (Punctuation OpenBrace) (flat_map line_terminals body.0) (Punctuation CloseBrace ∷ []) body.1);
      left = body.3;
    }

args_regrouped : (o : Terminal) (a m : List Terminal) (c : Terminal) (v : List Terminal) → (o ∷ ((a ++ m) ++ (c ∷ []))) ++ v ≡ o ∷ (a ++ (m ++ (c ∷ v)))
args_regrouped o a m c v = simp append_assoc

whole_function : (imports : List Import) (funcs : List FuncTree) (name : List ℕ) (ws : List Terminal) (t : Tree) → HeadLeft (begin imports funcs name) ws t → WholeFunction imports funcs name ws t
whole_function imports funcs name ws t (inl h) = whole_body imports funcs name None ws ws t refl h
whole_function imports funcs name ws t (inr (r, e, inl h)) =
    whole_body imports funcs name (Some []) ws h.0 t (e ∙ ap (λ y. Punctuation OpenParen ∷ y) h.1) h.2
whole_function imports funcs name ws t (inr (r, e, inr h)) =
    let more = h.3 in
    whole_body imports funcs name (Some (h.0 ∷ more.0)) ws more.1 t
    (e ∙ (ap (λ y. Punctuation OpenParen ∷ y) (h.2 ∙ ap (λ y. typed_terminals h.0 ++ y) more.2)
    ∙ sym (args_regrouped (Punctuation OpenParen) (typed_terminals h.0) (flat_map next_arg more.0) (Punctuation CloseParen) more.1)))
    more.3

function_back : (imports : List Import) (funcs : List FuncTree) (w : Terminal) (ws : List Terminal) (t : Tree) → OnState (λ n. Left n ws t) (decided (function_move imports funcs w) true) → FunctionsLeft imports funcs (w ∷ ws) t
function_back imports funcs (Function name) ws t h =
    let whole = whole_function imports funcs name ws t h in
    let later = whole.left in (
      whole.function ∷ later.0,
      whole.cut ∙ ap (λ y. function_terminals whole.function ++ y) later.1,
      later.2 ∙ ap (λ funcs. record { imports = imports; funcs = funcs }) (append_assoc funcs (function_of whole.function ∷ []) (map function_of later.0)),
    )
function_back imports funcs _ ws t h = absurd h

-- imports

import_regrouped : (f p n : Terminal) (a m : List Terminal) (s : Terminal) (r : List Terminal) → (f ∷ p ∷ n ∷ ((a ++ m) ++ (s ∷ []))) ++ r ≡ f ∷ p ∷ n ∷ (a ++ (m ++ (s ∷ r)))
import_regrouped f p n a m s r = simp append_assoc

-- an import after `from`
from_left : (imports : List Import) (ws : List Terminal) (t : Tree) → PathLeft imports ws t → ImportsLeft imports (Name (codes "from") ∷ ws) t
from_left imports ws t h =
    let path = h.0 in
    let terminal = h.3 in
    let first = terminal.2 in
    let taken = first.3 in
    let made = taken.2 in
    let later = taken.6 in
    let P : List Taken → Type 0 = λ names. Name (codes "from") ∷ ws ≡ (Name (codes "from") ∷ Path path ∷ Name (codes "import") ∷ (join_by taken_terminals (Punctuation Comma ∷ []) names ++ (Punctuation Semicolon ∷ []))) ++ taken.1 in
    let shown : P (first.0 ∷ taken.0) =
    ap (λ y. Name (codes "from") ∷ y) h.2 ∙ (ap (λ y. Name (codes "from") ∷ Path path ∷ y) terminal.1
    ∙ (ap (λ y. Name (codes "from") ∷ Path path ∷ Name (codes "import") ∷ y) (first.2 ∙ ap (λ y. taken_terminals first.0 ++ y) taken.3)
    ∙ sym (import_regrouped (Name (codes "from")) (Path path) (Name (codes "import")) (taken_terminals first.0) (flat_map next_taken taken.0) (Punctuation Semicolon) taken.1))) in
    let named : P made.names = subst P (sym taken.5) shown in
    let same : Path path ≡ Path (record { bytes = made.path; is_path = made.has_path }) = ap Path (ImportPath-equal path (record { bytes = made.path; is_path = made.has_path }) (sym taken.4)) in
    let spelled : Name (codes "from") ∷ ws ≡ import_terminals made ++ taken.1 =
    named ∙ ap (λ p. (Name (codes "from") ∷ p ∷ Name (codes "import") ∷ (join_by taken_terminals (Punctuation Comma ∷ []) made.names ++ (Punctuation Semicolon ∷ []))) ++ taken.1) same in (
      made ∷ later.0,
      later.1,
      spelled ∙ (ap (λ y. import_terminals made ++ y) later.2 ∙ sym (append_assoc (import_terminals made) (flat_map import_terminals later.0) (flat_map function_terminals later.1))),
      later.3 ∙ ap (λ is. record { imports = is; funcs = map function_of later.1 }) (append_assoc imports (made ∷ []) later.0),
    )

first_keyword_back : (imports : List Import) (x : List ℕ) (key : Keyword) (ws : List Terminal) (t : Tree) → Means x key → OnState (λ n. Left n ws t) (decided (first_import_keyword imports key) true) → ImportsLeft imports (Name x ∷ ws) t
first_keyword_back imports x keyword.From ws t e h = subst (λ y. ImportsLeft imports (Name y ∷ ws) t) (sym e) (from_left imports ws t h)
first_keyword_back imports x _ ws t e h = absurd h

import_back : (imports : List Import) (w : Terminal) (ws : List Terminal) (t : Tree) → OnState (λ n. Left n ws t) (decided (import_move imports w) true) → ImportsLeft imports (w ∷ ws) t
import_back imports (Name x) ws t h = first_keyword_back imports x (keyword_of x) ws t (means x) h
import_back imports (Function name) ws t h =
    let whole = whole_function imports [] name ws t h in
    let later = whole.left in (
      [],
      whole.function ∷ later.0,
      whole.cut ∙ ap (λ y. function_terminals whole.function ++ y) later.1,
      later.2 ∙ ap (λ is. record { imports = is; funcs = map function_of (whole.function ∷ later.0) }) (sym (append-nil imports)),
    )
import_back imports _ ws t h = absurd h

path_back : (imports : List Import) (w : Terminal) (ws : List Terminal) (t : Tree) → OnState (λ n. Left n ws t) (decided (path_move imports w) true) → PathLeft imports (w ∷ ws) t
path_back imports (Path path) ws t h = (path, ws, refl, h)
path_back imports _ ws t h = absurd h

import_keyword_key : (imports : List Import) (path : ImportPath) (x : List ℕ) (key : Keyword) (ws : List Terminal) (t : Tree) → Means x key → OnState (λ n. Left n ws t) (decided (import_keyword imports path key) true) → ImportKeywordLeft imports path (Name x ∷ ws) t
import_keyword_key imports path x keyword.Import ws t e h = (ws, ap (λ y. Name y ∷ ws) e, h)
import_keyword_key imports path x _ ws t e h = absurd h

import_keyword_back : (imports : List Import) (path : ImportPath) (w : Terminal) (ws : List Terminal) (t : Tree) → OnState (λ n. Left n ws t) (decided (import_keyword_move imports path w) true) → ImportKeywordLeft imports path (w ∷ ws) t
import_keyword_back imports path (Name x) ws t h = import_keyword_key imports path x (keyword_of x) ws t (means x) h
import_keyword_back imports path _ ws t h = absurd h

taken_back : (i : Importing) (w : Terminal) (ws : List Terminal) (t : Tree) → OnState (λ n. Left n ws t) (decided (taken_move i w) true) → FirstTakenLeft i (w ∷ ws) t
taken_back i (Function name) ws t h = (record { name = name; alias = h.0 }, h.1, ap (λ y. Function name ∷ y) h.2, h.3)
taken_back i _ ws t h = absurd h

taken_transitions_back : (i : Importing) (taken : Taken) (m : Mark) (ws : List Terminal) (t : Tree) → OneTransition (λ n. Left n ws t) m (taken_transitions i taken) → TakenLeft i taken (Punctuation m ∷ ws) t
taken_transitions_back i taken m ws t (inl f) =
    let next = f.1 in
    let later = next.3 in (
      next.0 ∷ later.0,
      later.1,
      later.2,
      ap (λ n. Punctuation n ∷ ws) f.0 ∙ (ap (λ y. Punctuation Comma ∷ y) next.2 ∙ (ap (λ y. next_taken next.0 ++ y) later.3
          ∙ sym (append_assoc (next_taken next.0) (flat_map next_taken later.0) (Punctuation Semicolon ∷ later.1)))),
      later.4,
      later.5 ∙ append_assoc i.names (taken ∷ []) (next.0 ∷ later.0),
      later.6,
    )
taken_transitions_back i taken m ws t (inr (inl f)) = ([], ws, import_of i taken, ap (λ n. Punctuation n ∷ ws) f.0, refl, refl, f.1)
taken_transitions_back i taken m ws t (inr (inr f)) = absurd f

as_key : (i : Importing) (name x : List ℕ) (key : Keyword) (ws : List Terminal) (t : Tree) → Means x key → OnState (λ n. Left n ws t) (decided (as_keyword i name key) true) → AfterTakenLeft i name (Name x ∷ ws) t
as_key i name x keyword.As ws t e h = (Some h.0, h.1, ap (λ y. Name y ∷ ws) e ∙ ap (λ y. Name (codes "as") ∷ y) h.2, h.3)
as_key i name x _ ws t e h = absurd h

after_taken_back : (i : Importing) (name : List ℕ) (w : Terminal) (ws : List Terminal) (t : Tree) → OnState (λ n. Left n ws t) (decided (after_taken_move i name w) true) → AfterTakenLeft i name (w ∷ ws) t
after_taken_back i name (Name x) ws t h = as_key i name x (keyword_of x) ws t (means x) h
after_taken_back i name (Punctuation m) ws t h =
    (None, Punctuation m ∷ ws, refl, taken_transitions_back i (record { name = name; alias = None }) m ws t (mark_led (λ n. Left n ws t) m (taken_transitions i (record { name = name; alias = None })) h))
after_taken_back i name _ ws t h = absurd h

alias_back : (i : Importing) (name : List ℕ) (w : Terminal) (ws : List Terminal) (t : Tree) → OnState (λ n. Left n ws t) (decided (alias_move i name w) true) → AliasLeft i name (w ∷ ws) t
alias_back i name (Function alias) ws t h = (alias, ws, refl, h)
alias_back i name _ ws t h = absurd h

after_alias_back : (i : Importing) (taken : Taken) (w : Terminal) (ws : List Terminal) (t : Tree) → OnState (λ n. Left n ws t) (decided (marks_alone (taken_transitions i taken) w) true) → TakenLeft i taken (w ∷ ws) t
after_alias_back i taken (Punctuation m) ws t h = taken_transitions_back i taken m ws t (mark_led (λ n. Left n ws t) m (taken_transitions i taken) h)
after_alias_back i taken _ ws t h = absurd h

expect_back : (m : Mark) (next : State) (w : Terminal) (ws : List Terminal) (t : Tree) → OnState (λ n. Left n ws t) (decided (marks_alone (transition m next ∷ []) w) true) → MarkLeft m (Left next) (w ∷ ws) t
expect_back m next (Punctuation n) ws t h = by (mark_led (λ s. Left s ws t) n (transition m next ∷ []) h)
  where
    by : OneTransition (λ s. Left s ws t) n (transition m next ∷ []) → MarkLeft m (Left next) (Punctuation n ∷ ws) t
    by (inl f) = (ws, ap (λ k. Punctuation k ∷ ws) f.0, f.1)
    by (inr f) = absurd f
expect_back m next _ ws t h = absurd h

-- all states

back : (s : State) (w : Terminal) (ws : List Terminal) (t : Tree) → OnState (λ n. Left n ws t) (decided (move s w) true) → Left s (w ∷ ws) t
back (AtImport imports) w ws t h = import_back imports w ws t h
back (AtPath imports) w ws t h = path_back imports w ws t h
back (AtImportKeyword imports path) w ws t h = import_keyword_back imports path w ws t h
back (AtTaken i) w ws t h = taken_back i w ws t h
back (AfterTaken i name) w ws t h = after_taken_back i name w ws t h
back (AtAlias i name) w ws t h = alias_back i name w ws t h
back (AfterAlias i taken) w ws t h = after_alias_back i taken w ws t h
back (AtFunction imports funcs) w ws t h = function_back imports funcs w ws t h
back (AfterName b) w ws t h = name_back b w ws t h
back (AtFirstArg b) w ws t h = first_arg_back b w ws t h
back (AtArg b) w ws t h = arg_back b w ws t h
back (AfterArg b) w ws t h = after_arg_back b w ws t h
back (AfterArgs b) w ws t h = after_args_back b w ws t h
back (AtItem b) w ws t h = item_back b w ws t h
back (AfterOperation b o text) w ws t h = after_operation_back b o text w ws t h
back (AtOperation b d) w ws t h = operation_back b d w ws t h
back (AtLiteral b d) w ws t h = literal_back b d w ws t h
back (AtOperand a) w ws t h = operand_back a w ws t h
back (AtType position k) w ws t h = type_keyword_back position k w ws t h
back (Expect m next) w ws t h = expect_back m next w ws t h

ended : (s : State) (t : Tree) → at_end s ≡ Ok t → Left s [] t
ended (AtImport imports) t e =
    let made : record { imports = imports; funcs = [] } ≡ t = cc in
    ([], [], refl, sym made ∙ ap (λ is. record { imports = is; funcs = [] }) (sym (append-nil imports)))
ended (AtFunction imports funcs) t e =
    let made : record { imports = imports; funcs = funcs } ≡ t = cc in
    ([], refl, sym made ∙ ap (λ fs. record { imports = imports; funcs = fs }) (sym (append-nil funcs)))
ended _ t e = cc

left : (ws : List Terminal) (s : State) (t : Tree) → run s ws ≡ Ok t → Left s ws t
left [] s t e = ended s t e
left (w ∷ ws) s t e = back s w ws t (led (move s w) (begins_with_colon ws) (λ next. run next ws) (suc (length ws)) t (λ n. Left n ws t) (λ next f. left ws next t f) e)

-- what is read is a spelling
pub spelled : (terminals : List Terminal) (tree : Tree) → run (AtImport []) terminals ≡ Ok tree → Spells terminals tree
spelled terminals tree e =
    let h = left terminals (AtImport []) tree e in
    (record { imports = h.0; functions = h.1 }, h.2, h.3)
