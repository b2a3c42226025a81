-- Literals, operations and operands as they are printed.
use Rattle.std.proofs.Common.{◌≡◌, ℕ, ℤ, Bool, true, false, ◌&&◌, List, [], ◌∷◌, ◌++◌, map, Some, None, refl, sym, ap, ◌∙◌, subst, append_assoc, codes, FitsSigned, cond}
use Rattle.std.specs.Int.{w64}
use Rattle.std.specs.Fmt.{signed_decimal}
use Rattle.std.proofs.lemmas.Bool.{and_parts}
use Rattle.std.proofs.lemmas.List.Elements.{All-head, All-tail}
use Rattle.bril_nums.specs.Decimal.{is_int_text, fits_int, int_of}
use Rattle.std.specs.Str.Parse.{signed_digits_value}
use Rattle.bril_nums.proofs.PlainText.{int_of-signed_decimal}
use Rattle.bril_tree.specs.Identifier.{is_identifier}
use Rattle.bril_tree.specs.declared.operation.Op.{Op}
use Rattle.bril_tree.proofs.Named.{each_passes}
use Rattle.bril_tree.specs.declared.value.Lit.{Lit}
use Rattle.bril_tree.specs.declared.value.Lit.TheVariants as literal
use Rattle.bril_lex.specs.Spelling.{is_number}
use Rattle.bril_lex.specs.Printed.{ends_before}
use Rattle.bril_lex.specs.declared.token.Kind.TheVariants as kind
use Rattle.bril_tree.specs.Spelling.{operation_text}
use Rattle.bril_grammar.specs.Terminal.{Terminal, char_value, terminal_as}
use Rattle.bril_grammar.specs.Written.{Operand, VariableOperand, FunctionOperand, LabelOperand, operand_terminal, literal_terminal}
use Rattle.bril_grammar.proofs.Terminals.{inside-quoted}
use Rattle.bril_text.specs.Canonical.{inner_char_text, literal_text, names_text}
use Rattle.bril_tree.specs.TreeForm.{IsName, AreNames, IsLiteral}
use Rattle.bril_text.proofs.WritingChars.{inner_char_is}
use Rattle.bril_text.proofs.WritingPieces.{Prints, token, blank, same_text, char_ends}
use Rattle.bril_text.proofs.WritingTypes.{Ends}

found : {A : Type 0} (b : Bool) (v z : A) → cond b (Some v) None ≡ Some z → b ≡ true
found true v z e = refl
found false v z e = cc

is_number-signed_decimal : (z : ℤ) → FitsSigned w64 z → is_number (signed_decimal z) ≡ true
unfolding int_of
is_number-signed_decimal z f =
    let bytes = signed_decimal z in
    let test = found (is_int_text bytes && fits_int (signed_digits_value 10 bytes)) (signed_digits_value 10 bytes) z (int_of-signed_decimal z f) in
    (and_parts (is_int_text bytes) (fits_int (signed_digits_value 10 bytes)) test).0

char_prints : (c : ℕ) (more following : List ℕ) (terminals : List Terminal) → IsLiteral (literal.Char c) → Prints more following terminals → Prints (literal_text (literal.Char c) ++ more) following (Terminal.Char c ∷ terminals)
char_prints c more following terminals s p =
    let is = inner_char_is c s in
    let text = literal_text (literal.Char c) in
    let value : terminal_as kind.Char text ≡ Terminal.Char c = ap (λ l. Terminal.Char (char_value l)) (inside-quoted 39 (inner_char_text c)) ∙ ap (λ n. Terminal.Char n) is.value in
    subst (λ w. Prints (text ++ more) following (w ∷ terminals)) value (token kind.Char text more following terminals (c, is.spells) (char_ends (more ++ following)) p)

-- a literal, where a `;` follows
pub literal_prints : (value : Lit) (more following : List ℕ) (terminals : List Terminal) → IsLiteral value → Prints (59 ∷ more) following terminals → Prints (literal_text value ++ (59 ∷ more)) following (literal_terminal value ∷ terminals)
literal_prints (literal.Int n) more following terminals f p =
    subst (λ v. Prints (signed_decimal n ++ (59 ∷ more)) following (Terminal.Number v ∷ terminals)) (int_of-signed_decimal n f)
    (token kind.Number (signed_decimal n) (59 ∷ more) following terminals (is_number-signed_decimal n f) refl p)
literal_prints (literal.Bool true) more following terminals f p = token kind.Identifier (codes "true") (59 ∷ more) following terminals refl refl p
literal_prints (literal.Bool false) more following terminals f p = token kind.Identifier (codes "false") (59 ∷ more) following terminals refl refl p
literal_prints (literal.Char c) more following terminals f p = char_prints c (59 ∷ more) following terminals f p

-- each operation is spelled by an identifier
operation_is : (o : Op) → is_identifier (operation_text o) ≡ true
operation_is o = each_passes (λ (p : Op). is_identifier (operation_text p)) refl o

pub operation_prints : (o : Op) (more following : List ℕ) (terminals : List Terminal) → Ends (more ++ following) → Prints more following terminals → Prints (operation_text o ++ more) following (Terminal.Name (operation_text o) ∷ terminals)
operation_prints o more following terminals e p = token kind.Identifier (operation_text o) more following terminals (operation_is o) e p

-- names, each after a blank and a sign
pub names_end : (sign : List ℕ) (names : List (List ℕ)) (more following : List ℕ) → Ends (more ++ following) → Ends ((names_text (32 ∷ sign) names ++ more) ++ following)
names_end sign [] more following e = e
names_end sign (n ∷ ns) more following e = refl

pub names_print : (sign : List ℕ) (operand : List ℕ → Operand) (each : (name more following : List ℕ) (terminals : List Terminal) → IsName name → Ends (more ++ following) → Prints more following terminals → Prints (sign ++ (name ++ more)) following (operand_terminal (operand name) ∷ terminals)) (names : List (List ℕ)) (more following : List ℕ) (os : List Operand) (terminals : List Terminal) → AreNames names → Ends (more ++ following) → Prints more following (map operand_terminal os ++ terminals) → Prints (names_text (32 ∷ sign) names ++ more) following (map operand_terminal (map operand names ++ os) ++ terminals)
names_print sign operand each [] more following os terminals are e p = p
names_print sign operand each (n ∷ ns) more following os terminals are e p =
    let after = names_text (32 ∷ sign) ns in
    let later = map operand_terminal (map operand ns ++ os) ++ terminals in
    let next = names_print sign operand each ns more following os terminals (All-tail IsName n ns are) e p in
    let here : Prints (sign ++ (n ++ (after ++ more))) following (operand_terminal (operand n) ∷ later) = each n (after ++ more) following later (All-head IsName n ns are) (names_end sign ns more following e) next in
    let joined : sign ++ (n ++ (after ++ more)) ≡ ((sign ++ n) ++ after) ++ more = sym (append_assoc (sign ++ n) after more ∙ append_assoc sign n (after ++ more)) in
    blank 32 (((sign ++ n) ++ after) ++ more) following (operand_terminal (operand n) ∷ later) refl (same_text _ _ following (operand_terminal (operand n) ∷ later) joined here)

-- what doesn't continue an identifier doesn't continue a function or a label
pub function_ends : (l : List ℕ) → Ends l → ends_before kind.Function l ≡ true
function_ends [] e = refl
function_ends (x ∷ xs) e = e

label_ends : (l : List ℕ) → Ends l → ends_before kind.Label l ≡ true
label_ends [] e = refl
label_ends (x ∷ xs) e = e

pub function_each : (name more following : List ℕ) (terminals : List Terminal) → IsName name → Ends (more ++ following) → Prints more following terminals → Prints (codes "@" ++ (name ++ more)) following (operand_terminal (FunctionOperand name) ∷ terminals)
function_each name more following terminals is e p = token kind.Function (64 ∷ name) more following terminals (name, refl, is) (function_ends (more ++ following) e) p

pub variable_each : (name more following : List ℕ) (terminals : List Terminal) → IsName name → Ends (more ++ following) → Prints more following terminals → Prints ([] ++ (name ++ more)) following (operand_terminal (VariableOperand name) ∷ terminals)
variable_each name more following terminals is e p = token kind.Identifier name more following terminals is e p

pub label_each : (name more following : List ℕ) (terminals : List Terminal) → IsName name → Ends (more ++ following) → Prints more following terminals → Prints (codes "." ++ (name ++ more)) following (operand_terminal (LabelOperand name) ∷ terminals)
label_each name more following terminals is e p = token kind.Label (46 ∷ name) more following terminals (name, refl, is) (label_ends (more ++ following) e) p
