-- Each row of plain words is new where it comes.
use Rattle.std.proofs.Common.{◌≡◌, ◌∙◌, refl, true, false, not, List, [], ◌∷◌, ◌++◌, codes, length, arith}
use Rattle.std.specs.List.{list_any}
use Rattle.std.specs.Str.{bytes_eq}
use Rattle.std.proofs.lemmas.List.Folds.{list_any-append}
use Rattle.std.proofs.lemmas.Bool.{and_parts, or_parts, not-true}
use Rattle.clap.specs.Walk.{Row, Text, has_row}
use Rattle.bril_words.specs.declared.options.Operand.{Operand}
use Rattle.bril_words.specs.Options.{option_name, flag_name, operand_id}
use Rattle.bril_words.specs.Plain.{Piece, apart, joined, flag, operand, are_distinct, names_in, operands_in}
use Rattle.bril_words.proofs.OptionWords.{flag_apart, operand_apart, operand_of_flag, option_apart}
use Rattle.bril_words.proofs.Pieces.{AllOf, AreNew}
use Rattle.bril_words.proofs.Steps.{given}

abbrev IsNew : List Row → Text → Type 0
IsNew rows name = has_row name rows ≡ false

-- no operand has the id of another
abbrev pub OperandsDiffer : List Operand → Type 0
OperandsDiffer [] = Unit {0}
OperandsDiffer (o ∷ os) = AllOf (λ (p : Operand). bytes_eq (operand_id o) (operand_id p) ≡ false) os × OperandsDiffer os

new_more : (rows : List Row) (name id : Text) (values : List Text) → IsNew rows name → bytes_eq id name ≡ false → IsNew (rows ++ given id values ∷ []) name
new_more rows name id values new other =
    list_any-append (λ (r : Row). bytes_eq r.id name) rows (given id values ∷ []) ∙ rw (new, other) refl

all_new : {X : Type 0} (name : X → Text) (xs : List X) (rows : List Row) (id : Text) (values : List Text) → AllOf (λ x. IsNew rows (name x)) xs
    → AllOf (λ x. bytes_eq id (name x) ≡ false) xs → AllOf (λ x. IsNew (rows ++ given id values ∷ []) (name x)) xs
all_new name [] rows id values new other = tt
all_new name (x ∷ xs) rows id values new other = (new_more rows (name x) id values new.0 other.0, all_new name xs rows id values new.1 other.1)

none_same : (id : Text) (xs : List Text) → list_any (bytes_eq id) xs ≡ false → AllOf (λ x. bytes_eq id x ≡ false) xs
none_same id [] e = tt
none_same id (x ∷ xs) e = let both = or_parts (bytes_eq id x) (list_any (bytes_eq id) xs) e in (both.0, none_same id xs both.1)

operands_apart : (id : Text) (os : List Operand) → ((o : Operand) → bytes_eq id (operand_id o) ≡ false) → AllOf (λ o. bytes_eq id (operand_id o) ≡ false) os
operands_apart id [] f = tt
operands_apart id (o ∷ os) f = (f o, operands_apart id os f)

names_apart : (o : Operand) (ps : List Piece) → AllOf (λ x. bytes_eq (operand_id o) x ≡ false) (names_in ps)
names_apart o [] = tt
names_apart o (apart x v ∷ ps) = (option_apart o x, names_apart o ps)
names_apart o (joined x v ∷ ps) = (option_apart o x, names_apart o ps)
names_apart o (flag x ∷ ps) = (flag_apart o x, names_apart o ps)
names_apart o (operand v ∷ ps) = names_apart o ps

-- a name that stands once is new, and so are those after it
name_new : (id : Text) (values : List Text) (ps : List Piece) (os : List Operand) (rows : List Row) → AllOf (IsNew rows) (id ∷ names_in ps) → AllOf (λ o. IsNew rows (operand_id o)) os
    → are_distinct (id ∷ names_in ps) ≡ true → ((o : Operand) → bytes_eq id (operand_id o) ≡ false)
    → (AllOf (IsNew (rows ++ given id values ∷ [])) (names_in ps) → AllOf (λ o. IsNew (rows ++ given id values ∷ []) (operand_id o)) os → are_distinct (names_in ps) ≡ true → AreNew (rows ++ given id values ∷ []) os ps)
    → IsNew rows id × AreNew (rows ++ given id values ∷ []) os ps
name_new id values ps os rows new operands distinct apart_ rest =
    let both = and_parts (not (list_any (bytes_eq id) (names_in ps))) (are_distinct (names_in ps)) distinct in (
      new.0,
      rest (all_new (λ n. n) (names_in ps) rows id values new.1 (none_same id (names_in ps) (not-true _ both.0))) (all_new operand_id os rows id values operands (operands_apart id os apart_)) both.1,
    )

pub are_new : (ps : List Piece) (os : List Operand) (rows : List Row) → AllOf (IsNew rows) (names_in ps) → AllOf (λ o. IsNew rows (operand_id o)) os
    → are_distinct (names_in ps) ≡ true → OperandsDiffer os → length (operands_in ps) ≡ length os → AreNew rows os ps
are_new [] os rows new operands distinct differ e = tt
are_new (apart x v ∷ ps) os rows new operands distinct differ e =
    name_new (option_name x) (v ∷ []) ps os rows new operands distinct (λ o. operand_apart o x) (λ n o d. are_new ps os (rows ++ given (option_name x) (v ∷ []) ∷ []) n o d differ e)
are_new (joined x v ∷ ps) os rows new operands distinct differ e =
    name_new (option_name x) (v ∷ []) ps os rows new operands distinct (λ o. operand_apart o x) (λ n o d. are_new ps os (rows ++ given (option_name x) (v ∷ []) ∷ []) n o d differ e)
are_new (flag x ∷ ps) os rows new operands distinct differ e =
    name_new (flag_name x) (codes "true" ∷ []) ps os rows new operands distinct (λ o. operand_of_flag o x) (λ n o d. are_new ps os (rows ++ given (flag_name x) (codes "true" ∷ []) ∷ []) n o d differ e)
are_new (operand v ∷ ps) [] rows new operands distinct differ e = absurd (omega arith)
are_new (operand v ∷ ps) (o ∷ os) rows new operands distinct differ e = (
  operands.0,
  are_new ps os (rows ++ given (operand_id o) (v ∷ []) ∷ [])
      (all_new (λ n. n) (names_in ps) rows (operand_id o) (v ∷ []) new (names_apart o ps))
      (all_new operand_id os rows (operand_id o) (v ∷ []) operands.1 differ.0)
      distinct differ.1 (omega arith),
)
