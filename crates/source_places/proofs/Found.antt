-- What the search finds in a program, as the grammar has it.
use Rattle.std.proofs.Common.{◌≡◌, ℕ, zero, suc, ◌+◌, ◌-◌, Bool, true, false, List, [], ◌∷◌, ◌++◌, map, length, drop, replicate, Option, Some, None, codes, refl, sym, ap, ◌∙◌, subst, arith, append_assoc, length-append}
use Rattle.std.specs.List.{All, flat_map, join_by, repeat}
use Rattle.std.proofs.lemmas.List.{map-append, length-map}
use Rattle.std.proofs.lemmas.Grind.{flat_map-append}
use Rattle.bril_tree.specs.declared.function_tree.Dest.{Dest}
use Rattle.bril_tree.specs.declared.import.Import.{Import}
use Rattle.bril_tree.specs.declared.import.Taken.{Taken}
use Rattle.bril_tree.specs.declared.types.Ty.{Ty}
use Rattle.bril_tree.specs.declared.value.Lit.{Lit}
use Rattle.bril_tree.specs.declared.value.Lit.TheVariants as literal
use Rattle.bril_tree.specs.Spelling.{operation_text, base_text}
use Rattle.bril_lex.specs.Cut.{AreInOrder, AreTokens}
use Rattle.bril_lex.specs.Lexeme.{Lexeme, lexeme_of, lexemes_of}
use Rattle.bril_lex.specs.Spelling.{IsTokenOf}
use Rattle.bril_lex.specs.declared.token.Token.{Token}
use Rattle.bril_lex.proofs.Cuts.{cuts_in_one_way}
use Rattle.bril_text.proofs.Whole.{all_in}
use Rattle.bril_text.specs.Reading.{position_of}
use Rattle.bril_text.specs.Terminals.{IsTokenIn}
use Rattle.bril_grammar.specs.declared.mark.Mark.TheVariants.{OpenBrace, CloseBrace, CloseParen, Comma, Semicolon, Equals, Greater}
use Rattle.bril_grammar.specs.Terminal.{Terminal, terminal_of, terminals_of}
use Rattle.bril_grammar.specs.Written.{Operand, VariableOperand, FunctionOperand, LabelOperand, Line, LabelLine, ConstLine, ActLine, Written, Source, alias_terminals, taken_terminals, import_terminals, pointer_terminals, type_terminals, typed_terminals, args_terminals, ret_terminals, literal_terminal, operand_terminal, dest_terminals, line_terminals, function_terminals, source_terminals}
use Rattle.source_places.specs.declared.sign.Sign.{Sign}
use Rattle.source_places.specs.declared.sign.Sign.TheVariants as sign
use Rattle.source_places.specs.Search.{body, head, past_item, past_items, past_semicolon}
use Rattle.source_places.specs.Sign.{sign_in, sign_of, signs_of}
use Rattle.source_places.specs.Standing.{BeforeFunction, BeforeItem, BeginsAt, head_terminals}

-- ---- terminals of which each has a sign of some kind

abbrev Each : (Sign → Bool) → List Terminal → Type 0
Each p [] = Unit {0}
Each p (w ∷ ws) = (p (sign_of w) ≡ true) × Each p ws

Each-append : (p : Sign → Bool) (a b : List Terminal) → Each p a → Each p b → Each p (a ++ b)
Each-append p [] b h k = k
Each-append p (w ∷ a) b h k = (h.0, Each-append p a b h.1 k)

Each-weaken : (p q : Sign → Bool) → ((s : Sign) → p s ≡ true → q s ≡ true) → (a : List Terminal) → Each p a → Each q a
Each-weaken p q f [] h = tt
Each-weaken p q f (w ∷ a) h = (f (sign_of w) h.0, Each-weaken p q f a h.1)

Each-flat : {X : Type 0} (p : Sign → Bool) (f : X → List Terminal) → ((x : X) → Each p (f x)) → (xs : List X) → Each p (flat_map f xs)
Each-flat p f each [] = tt
Each-flat p f each (x ∷ xs) = Each-append p (f x) (flat_map f xs) (each x) (Each-flat p f each xs)

Each-join : {X : Type 0} (p : Sign → Bool) (f : X → List Terminal) (between : List Terminal) → Each p between → ((x : X) → Each p (f x)) → (xs : List X) → Each p (join_by f between xs)
Each-join p f between h each [] = tt
Each-join p f between h each (x ∷ xs) =
    Each-append p (f x) (flat_map (λ y. between ++ f y) xs) (each x) (Each-flat p (λ y. between ++ f y) (λ y. Each-append p between (f y) h (each y)) xs)

Each-repeat : (p : Sign → Bool) (n : ℕ) (ws : List Terminal) → Each p ws → Each p (repeat n ws)
Each-repeat p zero ws h = tt
Each-repeat p (suc n) ws h = Each-append p ws (repeat n ws) h (Each-repeat p n ws h)

Each-replicate : (p : Sign → Bool) (n : ℕ) (w : Terminal) → p (sign_of w) ≡ true → Each p (replicate n w)
Each-replicate p zero w h = tt
Each-replicate p (suc n) w h = (h, Each-replicate p n w h)

abbrev is_other : Sign → Bool
is_other sign.Other = true
is_other sign.Function = false
is_other sign.Label = false
is_other sign.Opening = false
is_other sign.Semicolon = false

abbrev is_no_brace : Sign → Bool
is_no_brace sign.Opening = false
is_no_brace sign.Other = true
is_no_brace sign.Function = true
is_no_brace sign.Label = true
is_no_brace sign.Semicolon = true

abbrev is_operand : Sign → Bool
is_operand sign.Opening = false
is_operand sign.Semicolon = false
is_operand sign.Other = true
is_operand sign.Function = true
is_operand sign.Label = true

other_operand : (s : Sign) → is_other s ≡ true → is_operand s ≡ true
other_operand sign.Other e = refl
other_operand sign.Function e = cc
other_operand sign.Label e = refl
other_operand sign.Opening e = cc
other_operand sign.Semicolon e = cc

operand_no_brace : (s : Sign) → is_operand s ≡ true → is_no_brace s ≡ true
operand_no_brace sign.Other e = refl
operand_no_brace sign.Function e = refl
operand_no_brace sign.Label e = refl
operand_no_brace sign.Opening e = e
operand_no_brace sign.Semicolon e = refl

-- ---- the parts of a program

type_other : (ty : Ty) → Each is_other (type_terminals ty)
type_other ty =
    Each-append is_other (repeat ty.depth pointer_terminals) (Terminal.Name (base_text ty.base) ∷ replicate ty.depth (Terminal.Punctuation Greater))
    (Each-repeat is_other ty.depth pointer_terminals (refl, (refl, tt)))
    (refl, Each-replicate is_other ty.depth (Terminal.Punctuation Greater) refl)

typed_other : (dest : Dest) → Each is_other (typed_terminals dest)
typed_other dest = (refl, (refl, type_other dest.ty))

args_other : (args : Option (List Dest)) → Each is_other (args_terminals args)
args_other None = tt
args_other (Some args) = (
  refl,
  Each-append is_other (join_by typed_terminals (Terminal.Punctuation Comma ∷ []) args) (Terminal.Punctuation CloseParen ∷ [])
      (Each-join is_other typed_terminals (Terminal.Punctuation Comma ∷ []) (refl, tt) typed_other args) (refl, tt),
)

ret_other : (ret : Option Ty) → Each is_other (ret_terminals ret)
ret_other None = tt
ret_other (Some ty) = (refl, type_other ty)

literal_other : (value : Lit) → is_other (sign_of (literal_terminal value)) ≡ true
literal_other (literal.Int n) = refl
literal_other (literal.Bool b) = refl
literal_other (literal.Char c) = refl

operands_are : (os : List Operand) → Each is_operand (map operand_terminal os)
operands_are [] = tt
operands_are (VariableOperand x ∷ os) = (refl, operands_are os)
operands_are (FunctionOperand f ∷ os) = (refl, operands_are os)
operands_are (LabelOperand l ∷ os) = (refl, operands_are os)

dest_operand : (dest : Option Dest) → Each is_operand (dest_terminals dest)
dest_operand None = tt
dest_operand (Some dest) =
    Each-append is_operand (typed_terminals dest) (Terminal.Punctuation Equals ∷ [])
    (Each-weaken is_other is_operand other_operand (typed_terminals dest) (typed_other dest)) (refl, tt)

operands_end : (o : List ℕ) (os : List Operand) → Each is_operand (Terminal.Name o ∷ map operand_terminal os)
operands_end o os = (refl, operands_are os)

-- a semicolon ends no brace
semicolon_no_brace : (a : List Terminal) → Each is_operand a → Each is_no_brace (a ++ (Terminal.Punctuation Semicolon ∷ []))
semicolon_no_brace a h = Each-append is_no_brace a (Terminal.Punctuation Semicolon ∷ []) (Each-weaken is_operand is_no_brace operand_no_brace a h) (refl, tt)

-- an item that is no label up to its semicolon
abbrev const_front : List ℕ → Ty → Lit → List Terminal
const_front dest ty value = typed_terminals (record { name = dest; ty = ty }) ++ (Terminal.Punctuation Equals ∷ Terminal.Name (codes "const") ∷ literal_terminal value ∷ [])

const_operand : (dest : List ℕ) (ty : Ty) (value : Lit) → Each is_operand (const_front dest ty value)
const_operand dest ty value =
    Each-weaken is_other is_operand other_operand (const_front dest ty value)
    (Each-append is_other (typed_terminals (record { name = dest; ty = ty })) (Terminal.Punctuation Equals ∷ Terminal.Name (codes "const") ∷ literal_terminal value ∷ [])
    (typed_other (record { name = dest; ty = ty })) (refl, (refl, (literal_other value, tt))))

const_ends : (dest : List ℕ) (ty : Ty) (value : Lit) → line_terminals (ConstLine dest ty value) ≡ const_front dest ty value ++ (Terminal.Punctuation Semicolon ∷ [])
const_ends dest ty value = sym (append_assoc (typed_terminals (record { name = dest; ty = ty })) (Terminal.Punctuation Equals ∷ Terminal.Name (codes "const") ∷ literal_terminal value ∷ []) (Terminal.Punctuation Semicolon ∷ []))

abbrev act_front : Option Dest → List ℕ → List Operand → List Terminal
act_front dest o os = dest_terminals dest ++ (Terminal.Name o ∷ map operand_terminal os)

act_operand : (dest : Option Dest) (o : List ℕ) (os : List Operand) → Each is_operand (act_front dest o os)
act_operand dest o os = Each-append is_operand (dest_terminals dest) (Terminal.Name o ∷ map operand_terminal os) (dest_operand dest) (operands_end o os)

act_ends : (dest : Option Dest) (o : List ℕ) (os : List Operand) → dest_terminals dest ++ (Terminal.Name o ∷ (map operand_terminal os ++ (Terminal.Punctuation Semicolon ∷ []))) ≡ act_front dest o os ++ (Terminal.Punctuation Semicolon ∷ [])
act_ends dest o os = sym (append_assoc (dest_terminals dest) (Terminal.Name o ∷ map operand_terminal os) (Terminal.Punctuation Semicolon ∷ []))

line_no_brace : (l : Line) → Each is_no_brace (line_terminals l)
line_no_brace (LabelLine name) = (refl, (refl, tt))
line_no_brace (ConstLine dest ty value) = subst (Each is_no_brace) (sym (const_ends dest ty value)) (semicolon_no_brace (const_front dest ty value) (const_operand dest ty value))
line_no_brace (ActLine dest operation os) =
    subst (Each is_no_brace) (sym (act_ends dest (operation_text operation) os))
    (semicolon_no_brace (act_front dest (operation_text operation) os) (act_operand dest (operation_text operation) os))

taken_no_brace : (t : Taken) (alias : Option (List ℕ)) → Each is_no_brace (Terminal.Function t.name ∷ alias_terminals alias)
taken_no_brace t None = (refl, tt)
taken_no_brace t (Some alias) = (refl, (refl, (refl, tt)))

import_no_brace : (i : Import) → Each is_no_brace (import_terminals i)
import_no_brace i = (
  refl,
  (
    refl,
    (
      refl,
      Each-append is_no_brace (join_by taken_terminals (Terminal.Punctuation Comma ∷ []) i.names) (Terminal.Punctuation Semicolon ∷ [])
          (Each-join is_no_brace taken_terminals (Terminal.Punctuation Comma ∷ []) (refl, tt) (λ t. taken_no_brace t t.alias) i.names) (refl, tt),
    ),
  ),
)

-- ---- the search passes them

body_past : (a b : List Terminal) (left : ℕ) → Each is_no_brace a → body (signs_of (a ++ b)) left ≡ body (signs_of b) left
body_past [] b left h = refl
body_past (w ∷ a) b left h = past (sign_of w) h.0 (signs_of (a ++ b)) ∙ body_past a b left h.1
  where
    past : (s : Sign) → is_no_brace s ≡ true → (rest : List Sign) → body (s ∷ rest) left ≡ body rest left
    past sign.Opening e rest = cc
    past sign.Other e rest = refl
    past sign.Function e rest = refl
    past sign.Label e rest = refl
    past sign.Semicolon e rest = refl

head_past : (a b : List Terminal) (left : ℕ) (found : List Sign) → Each is_no_brace a → (other : List Sign) × (head (signs_of (a ++ b)) left found ≡ head (signs_of b) left other)
head_past [] b left found h = (found, refl)
head_past (w ∷ a) b left found h =
    let first = past (sign_of w) h.0 (signs_of (a ++ b)) in
    let rest = head_past a b left first.0 h.1 in
    (rest.0, first.1 ∙ rest.1)
  where
    past : (s : Sign) → is_no_brace s ≡ true → (rest : List Sign) → (other : List Sign) × (head (s ∷ rest) left found ≡ head rest left other)
    past sign.Opening e rest = cc
    past sign.Other e rest = (found, refl)
    past sign.Function e rest = (sign.Function ∷ rest, refl)
    past sign.Label e rest = (found, refl)
    past sign.Semicolon e rest = (found, refl)

head_stays : (a b : List Terminal) (left : ℕ) (found : List Sign) → Each is_other a → head (signs_of (a ++ b)) left found ≡ head (signs_of b) left found
head_stays [] b left found h = refl
head_stays (w ∷ a) b left found h = past (sign_of w) h.0 (signs_of (a ++ b)) ∙ head_stays a b left found h.1
  where
    past : (s : Sign) → is_other s ≡ true → (rest : List Sign) → head (s ∷ rest) left found ≡ head rest left found
    past sign.Opening e rest = cc
    past sign.Other e rest = refl
    past sign.Function e rest = cc
    past sign.Label e rest = refl
    past sign.Semicolon e rest = refl

semicolon_past : (a b : List Terminal) → Each is_operand a → past_semicolon (signs_of (a ++ (Terminal.Punctuation Semicolon ∷ b))) ≡ signs_of b
semicolon_past [] b h = refl
semicolon_past (w ∷ a) b h = past (sign_of w) h.0 (signs_of (a ++ (Terminal.Punctuation Semicolon ∷ b))) ∙ semicolon_past a b h.1
  where
    past : (s : Sign) → is_operand s ≡ true → (rest : List Sign) → past_semicolon (s ∷ rest) ≡ past_semicolon rest
    past sign.Opening e rest = refl
    past sign.Other e rest = refl
    past sign.Function e rest = refl
    past sign.Label e rest = refl
    past sign.Semicolon e rest = cc

-- what ends with a semicolon and begins with no label is an item
item_past : (a b : List Terminal) (rest : List Sign) → signs_of a ≡ sign.Other ∷ rest → Each is_operand a → past_item (signs_of ((a ++ (Terminal.Punctuation Semicolon ∷ [])) ++ b)) ≡ signs_of b
item_past a b rest e h =
    let whole : signs_of ((a ++ (Terminal.Punctuation Semicolon ∷ [])) ++ b) ≡ signs_of a ++ (sign.Semicolon ∷ signs_of b) =
    ap signs_of (append_assoc a (Terminal.Punctuation Semicolon ∷ []) b) ∙ map-append sign_of a (Terminal.Punctuation Semicolon ∷ b) in
    let again : past_semicolon (signs_of a ++ (sign.Semicolon ∷ signs_of b)) ≡ signs_of b =
    ap past_semicolon (sym (map-append sign_of a (Terminal.Punctuation Semicolon ∷ b))) ∙ semicolon_past a b h in
    ap past_item whole
    ∙ ap (λ (s : List Sign). past_item (s ++ (sign.Semicolon ∷ signs_of b))) e
    ∙ ap (λ (s : List Sign). past_semicolon (s ++ (sign.Semicolon ∷ signs_of b))) (sym e)
    ∙ again

line_past : (l : Line) (b : List Terminal) → past_item (signs_of (line_terminals l ++ b)) ≡ signs_of b
line_past (LabelLine name) b = refl
line_past (ConstLine dest ty value) b =
    ap (λ (a : List Terminal). past_item (signs_of (a ++ b))) (const_ends dest ty value)
    ∙ item_past (const_front dest ty value) b _ refl (const_operand dest ty value)
line_past (ActLine None operation os) b =
    ap (λ (a : List Terminal). past_item (signs_of (a ++ b))) (act_ends None (operation_text operation) os)
    ∙ item_past (act_front None (operation_text operation) os) b _ refl (act_operand None (operation_text operation) os)
line_past (ActLine (Some dest) operation os) b =
    ap (λ (a : List Terminal). past_item (signs_of (a ++ b))) (act_ends (Some dest) (operation_text operation) os)
    ∙ item_past (act_front (Some dest) (operation_text operation) os) b _ refl (act_operand (Some dest) (operation_text operation) os)

lines_past : (ls : List Line) (b : List Terminal) → past_items (length ls) (signs_of (flat_map line_terminals ls ++ b)) ≡ signs_of b
lines_past [] b = refl
lines_past (l ∷ ls) b =
    ap (λ (a : List Terminal). past_items (length ls) (past_item (signs_of a))) (append_assoc (line_terminals l) (flat_map line_terminals ls) b)
    ∙ ap (past_items (length ls)) (line_past l (flat_map line_terminals ls ++ b))
    ∙ lines_past ls b

-- ---- functions

-- a function in its parts: its name and type, the brace, its items, the brace
abbrev front_of : Written → List Terminal
front_of f = args_terminals f.args ++ ret_terminals f.ret

front_other : (f : Written) → Each is_other (front_of f)
front_other f = Each-append is_other (args_terminals f.args) (ret_terminals f.ret) (args_other f.args) (ret_other f.ret)

other_no_brace : (s : Sign) → is_other s ≡ true → is_no_brace s ≡ true
other_no_brace s e = operand_no_brace s (other_operand s e)

front_no_brace : (f : Written) → Each is_no_brace (Terminal.Function f.name ∷ front_of f)
front_no_brace f = (refl, Each-weaken is_other is_no_brace other_no_brace (front_of f) (front_other f))

-- what stands behind the brace that opens it
abbrev inner : Written → List Terminal → List Terminal
inner f b = flat_map line_terminals f.lines ++ (Terminal.Punctuation CloseBrace ∷ b)

function_parts : (f : Written) (b : List Terminal) → function_terminals f ++ b ≡ (Terminal.Function f.name ∷ front_of f) ++ (Terminal.Punctuation OpenBrace ∷ inner f b)
function_parts f b = simp append_assoc

inner_no_brace : (f : Written) → Each is_no_brace (flat_map line_terminals f.lines ++ (Terminal.Punctuation CloseBrace ∷ []))
inner_no_brace f =
    Each-append is_no_brace (flat_map line_terminals f.lines) (Terminal.Punctuation CloseBrace ∷ []) (Each-flat is_no_brace line_terminals line_no_brace f.lines) (refl, tt)

inner_parts : (f : Written) (b : List Terminal) → inner f b ≡ (flat_map line_terminals f.lines ++ (Terminal.Punctuation CloseBrace ∷ [])) ++ b
inner_parts f b = sym (append_assoc (flat_map line_terminals f.lines) (Terminal.Punctuation CloseBrace ∷ []) b)

body_of_function : (f : Written) (b : List Terminal) → body (signs_of (function_terminals f ++ b)) 0 ≡ signs_of (inner f b)
body_of_function f b =
    ap (λ (a : List Terminal). body (signs_of a) 0) (function_parts f b)
    ∙ body_past (Terminal.Function f.name ∷ front_of f) (Terminal.Punctuation OpenBrace ∷ inner f b) 0 (front_no_brace f)

body_past_function : (f : Written) (b : List Terminal) (left : ℕ) → body (signs_of (function_terminals f ++ b)) (suc left) ≡ body (signs_of b) left
body_past_function f b left =
    ap (λ (a : List Terminal). body (signs_of a) (suc left)) (function_parts f b)
    ∙ body_past (Terminal.Function f.name ∷ front_of f) (Terminal.Punctuation OpenBrace ∷ inner f b) (suc left) (front_no_brace f)
    ∙ ap (λ (a : List Terminal). body (signs_of a) left) (inner_parts f b)
    ∙ body_past (flat_map line_terminals f.lines ++ (Terminal.Punctuation CloseBrace ∷ [])) b left (inner_no_brace f)

body_past_functions : (fs : List Written) (b : List Terminal) → body (signs_of (flat_map function_terminals fs ++ b)) (length fs) ≡ body (signs_of b) 0
body_past_functions [] b = refl
body_past_functions (f ∷ fs) b =
    ap (λ (a : List Terminal). body (signs_of a) (suc (length fs))) (append_assoc (function_terminals f) (flat_map function_terminals fs) b)
    ∙ body_past_function f (flat_map function_terminals fs ++ b) (length fs)
    ∙ body_past_functions fs b

head_of_function : (f : Written) (b : List Terminal) (found : List Sign) → head (signs_of (function_terminals f ++ b)) 0 found ≡ signs_of (function_terminals f ++ b)
head_of_function f b found =
    let whole : List Sign = signs_of ((Terminal.Function f.name ∷ front_of f) ++ (Terminal.Punctuation OpenBrace ∷ inner f b)) in
    ap (λ (a : List Terminal). head (signs_of a) 0 found) (function_parts f b)
    ∙ head_stays (front_of f) (Terminal.Punctuation OpenBrace ∷ inner f b) 0 whole (front_other f)
    ∙ sym (ap signs_of (function_parts f b))

head_past_function : (f : Written) (b : List Terminal) (left : ℕ) (found : List Sign) → (other : List Sign) × (head (signs_of (function_terminals f ++ b)) (suc left) found ≡ head (signs_of b) left other)
head_past_function f b left found =
    let front = head_past (Terminal.Function f.name ∷ front_of f) (Terminal.Punctuation OpenBrace ∷ inner f b) (suc left) found (front_no_brace f) in
    let rest = head_past (flat_map line_terminals f.lines ++ (Terminal.Punctuation CloseBrace ∷ [])) b left front.0 (inner_no_brace f) in (
      rest.0,
      ap (λ (a : List Terminal). head (signs_of a) (suc left) found) (function_parts f b) ∙ front.1
          ∙ ap (λ (a : List Terminal). head (signs_of a) left front.0) (inner_parts f b) ∙ rest.1,
    )

head_past_functions : (fs : List Written) (b : List Terminal) (found : List Sign) → (other : List Sign) × (head (signs_of (flat_map function_terminals fs ++ b)) (length fs) found ≡ head (signs_of b) 0 other)
head_past_functions [] b found = (found, refl)
head_past_functions (f ∷ fs) b found =
    let first = head_past_function f (flat_map function_terminals fs ++ b) (length fs) found in
    let rest = head_past_functions fs b first.0 in
    (rest.0, ap (λ (a : List Terminal). head (signs_of a) (suc (length fs)) found) (append_assoc (function_terminals f) (flat_map function_terminals fs) b) ∙ first.1 ∙ rest.1)

-- ---- the whole

-- What is found is the signs of what is left behind the terminals before it.
abbrev pub Leaves : Source → List Terminal → List Sign → Type 0
Leaves w before found = (after : List Terminal) × (source_terminals w ≡ before ++ after) × (found ≡ signs_of after)

-- the functions of a source from one on
abbrev from_function : Written → List Written → List Terminal
from_function f more = function_terminals f ++ flat_map function_terminals more

source_parts : (w : Source) (fs : List Written) (f : Written) (more : List Written) → w.functions ≡ fs ++ (f ∷ more)
    → source_terminals w ≡ flat_map import_terminals w.imports ++ (flat_map function_terminals fs ++ from_function f more)
source_parts w fs f more e =
    ap (λ (all : List Written). flat_map import_terminals w.imports ++ flat_map function_terminals all) e
    ∙ ap (λ (ws : List Terminal). flat_map import_terminals w.imports ++ ws) (flat_map-append function_terminals fs (f ∷ more))

pub function_found : (w : Source) (func : ℕ) (before : List Terminal) → BeforeFunction w func before → Leaves w before (head (signs_of (source_terminals w)) func [])
function_found w func before h =
    let imports = flat_map import_terminals w.imports in
    let after = from_function h.f h.more in
    let parts = source_parts w h.functions h.f h.more h.all in
    let past_imports = head_past imports (flat_map function_terminals h.functions ++ after) func [] (Each-flat is_no_brace import_terminals import_no_brace w.imports) in
    let past_functions = head_past_functions h.functions after past_imports.0 in (
      after,
      parts ∙ sym (append_assoc imports (flat_map function_terminals h.functions) after) ∙ ap (λ (ws : List Terminal). ws ++ after) (sym h.are),
      ap (λ (ws : List Terminal). head (signs_of ws) func []) parts ∙ past_imports.1
          ∙ ap (λ (n : ℕ). head (signs_of (flat_map function_terminals h.functions ++ after)) n past_imports.0) (sym h.number)
          ∙ past_functions.1 ∙ head_of_function h.f (flat_map function_terminals h.more) past_functions.0,
    )

pub item_found : (w : Source) (func item : ℕ) (before : List Terminal) → BeforeItem w func item before → Leaves w before (past_items item (body (signs_of (source_terminals w)) func))
item_found w func item before h =
    let imports = flat_map import_terminals w.imports in
    let fs = h.function.functions in
    let f = h.function.f in
    let rest = flat_map function_terminals h.function.more in
    let after = flat_map line_terminals h.more ++ (Terminal.Punctuation CloseBrace ∷ rest) in
    let lines = flat_map line_terminals h.lines in
    let parts = source_parts w fs f h.function.more h.function.all in
    let inside : inner f rest ≡ lines ++ after =
    ap (λ (ls : List Line). flat_map line_terminals ls ++ (Terminal.Punctuation CloseBrace ∷ rest)) h.all
    ∙ ap (λ (ws : List Terminal). ws ++ (Terminal.Punctuation CloseBrace ∷ rest)) (flat_map-append line_terminals h.lines h.more)
    ∙ append_assoc lines (flat_map line_terminals h.more) (Terminal.Punctuation CloseBrace ∷ rest) in
    let opened : function_terminals f ++ rest ≡ head_terminals f ++ (lines ++ after) =
    function_parts f rest ∙ ap (λ (ws : List Terminal). (Terminal.Function f.name ∷ front_of f) ++ (Terminal.Punctuation OpenBrace ∷ ws)) inside ∙ simp append_assoc in
    let whole : source_terminals w ≡ before ++ after =
    parts ∙ sym (append_assoc imports (flat_map function_terminals fs) (function_terminals f ++ rest))
    ∙ ap (λ (ws : List Terminal). ws ++ (function_terminals f ++ rest)) (sym h.function.are)
    ∙ ap (λ (ws : List Terminal). h.front ++ ws) opened
    ∙ ap (λ (ws : List Terminal). h.front ++ ws) (sym (append_assoc (head_terminals f) lines after))
    ∙ sym (append_assoc h.front (head_terminals f ++ lines) after)
    ∙ ap (λ (ws : List Terminal). ws ++ after) (sym h.are) in
    let found : body (signs_of (source_terminals w)) func ≡ signs_of (lines ++ after) =
    ap (λ (ws : List Terminal). body (signs_of ws) func) parts
    ∙ body_past imports (flat_map function_terminals fs ++ (function_terminals f ++ rest)) func (Each-flat is_no_brace import_terminals import_no_brace w.imports)
    ∙ ap (λ (n : ℕ). body (signs_of (flat_map function_terminals fs ++ (function_terminals f ++ rest))) n) (sym h.function.number)
    ∙ body_past_functions fs (function_terminals f ++ rest)
    ∙ body_of_function f rest ∙ ap signs_of inside in
    (after, whole, ap (past_items item) found ∙ ap (λ (n : ℕ). past_items n (signs_of (lines ++ after))) (sym h.number) ∙ lines_past h.lines after)

-- ---- the byte at which it begins

signs_same : (source : List ℕ) (ts : List Token) → map (sign_in source) ts ≡ signs_of (terminals_of (lexemes_of source ts))
signs_same source [] = refl
signs_same source (t ∷ ts) = ap (λ (signs : List Sign). sign_in source t ∷ signs) (signs_same source ts)

terminals_length : (source : List ℕ) (ts : List Token) → length (terminals_of (lexemes_of source ts)) ≡ length ts
terminals_length source ts = length-map (lexemes_of source ts) terminal_of ∙ length-map ts (lexeme_of source)

-- the tokens of a source are in it
pub tokens_in : (source : List ℕ) (ts found : List Token) → ts ≡ found → AreInOrder 0 found (length source) → All (λ (l : Lexeme). IsTokenOf l.kind l.text) (lexemes_of source found) → All (IsTokenIn source) ts
tokens_in source ts found e order spelled = subst (All (IsTokenIn source)) (sym e) (all_in source found 0 order spelled)

-- where the search leaves what is behind the terminals before something, that begins at the first token that is left
pub begins : (source : List ℕ) (ts : List Token) (search : List Sign → List Sign) (StandBefore : Source → List Terminal → Type 0)
    → ((w : Source) (before : List Terminal) → StandBefore w before → Leaves w before (search (signs_of (source_terminals w))))
    → AreTokens source ts
    → BeginsAt source StandBefore (position_of source (drop (length ts - length (search (map (sign_in source) ts))) ts))
begins source ts search StandBefore leaves are tokens are_tokens w e before h =
    let same : tokens ≡ ts = cuts_in_one_way.tokens source tokens ts are_tokens are in
    let left = leaves w before h in
    let signs : map (sign_in source) ts ≡ signs_of (source_terminals w) = ap (map (sign_in source)) (sym same) ∙ signs_same source tokens ∙ ap signs_of e in
    let found : length (search (map (sign_in source) ts)) ≡ length left.0 = ap (λ (s : List Sign). length (search s)) signs ∙ ap length left.2 ∙ length-map left.0 sign_of in
    let all : length ts ≡ length before + length left.0 =
    ap length (sym same) ∙ sym (terminals_length source tokens) ∙ ap length (e ∙ left.1) ∙ length-append before left.0 in
    let size : length ts - length (search (map (sign_in source) ts)) ≡ length before = omega (arith, found, all) in
    ap (λ (n : ℕ). position_of source (drop n ts)) size ∙ ap (λ (all : List Token). position_of source (drop (length before) all)) (sym same)
