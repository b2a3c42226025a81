-- What is found in the rows of pieces.
use Rattle.std.proofs.Common.{◌≡◌, refl, sym, Bool, true, false, cond, List, [], ◌∷◌, ◌||◌, true≢false, Option, Some, codes, length, inl, inr, arith}
use Rattle.std.proofs.lemmas.Bool.{or_right}
use Rattle.std.specs.Prelude.{option_and_then, slice_get, if◌then◌else◌}
use Rattle.std.specs.Option.{option_map_or}
use Rattle.std.specs.Str.{bytes_eq}
use Rattle.bril_tree.specs.Membership.{In}
use Rattle.clap.specs.Facts.{explicit_source}
use Rattle.clap.specs.Walk.{Row, Text, first_of, has_row}
use Rattle.clap.specs.Takes.{is_given}
use Rattle.bril_words.specs.declared.options.Operand.{Operand}
use Rattle.bril_words.specs.declared.options.Operand.TheVariants.{File, Listing, Elf, Script, Functions}
use Rattle.bril_words.specs.Options.{option_name, flag_name, operand_id}
use Rattle.bril_words.specs.Plain.{Piece, apart, joined, flag, operand, found_in, operands_in}
use Rattle.bril_words.proofs.Defaults.{find_id}
use Rattle.bril_words.proofs.Pieces.{AllOf, rows_in}
use Rattle.bril_words.proofs.Steps.{given}

one_more : (name id v : Text) (rows : List Row) (rest : Option Text) → first_of id rows ≡ rest
    → first_of id (given name (v ∷ []) ∷ rows) ≡ (if bytes_eq name id then Some v else rest)
one_more name id v rows rest e = go (bytes_eq name id)
  where
    go : (b : Bool) → option_and_then (λ (r : Row). slice_get r.values 0) (cond b (Some (given name (v ∷ []))) (find_id id rows)) ≡ (if b then Some v else rest)
    go true = refl
    go false = e

pub first_found : (os : List Operand) (ps : List Piece) (id : Text) → first_of id (rows_in os ps) ≡ found_in os ps id
first_found os [] id = refl
first_found os (apart x v ∷ ps) id = one_more (option_name x) id v (rows_in os ps) (found_in os ps id) (first_found os ps id)
first_found os (joined x v ∷ ps) id = one_more (option_name x) id v (rows_in os ps) (found_in os ps id) (first_found os ps id)
first_found os (flag x ∷ ps) id = one_more (flag_name x) id (codes "true") (rows_in os ps) (found_in os ps id) (first_found os ps id)
first_found [] (operand v ∷ ps) id = first_found [] ps id
first_found (o ∷ os) (operand v ∷ ps) id = one_more (operand_id o) id v (rows_in os ps) (found_in os ps id) (first_found os ps id)

-- every row comes from the words
given_more : (name id v : Text) (rows : List Row) → (has_row id rows ≡ true → is_given id rows ≡ true) → has_row id (given name (v ∷ []) ∷ rows) ≡ true
    → is_given id (given name (v ∷ []) ∷ rows) ≡ true
given_more name id v rows rest there = go (bytes_eq name id) there
  where
    go : (b : Bool) → (b || has_row id rows) ≡ true
        → option_map_or (λ (r : Row). explicit_source r.source) (cond b (Some (given name (v ∷ []))) (find_id id rows)) false ≡ true
    go true e = refl
    go false e = rest e

pub given_there : (os : List Operand) (ps : List Piece) (id : Text) → has_row id (rows_in os ps) ≡ true → is_given id (rows_in os ps) ≡ true
given_there os [] id there = absurd (true≢false (sym there))
given_there os (apart x v ∷ ps) id there = given_more (option_name x) id v (rows_in os ps) (given_there os ps id) there
given_there os (joined x v ∷ ps) id there = given_more (option_name x) id v (rows_in os ps) (given_there os ps id) there
given_there os (flag x ∷ ps) id there = given_more (flag_name x) id (codes "true") (rows_in os ps) (given_there os ps id) there
given_there [] (operand v ∷ ps) id there = given_there [] ps id there
given_there (o ∷ os) (operand v ∷ ps) id there = given_more (operand_id o) id v (rows_in os ps) (given_there os ps id) there

same_operand : (o : Operand) → bytes_eq (operand_id o) (operand_id o) ≡ true
same_operand File = refl
same_operand Listing = refl
same_operand Elf = refl
same_operand Script = refl
same_operand Functions = refl

-- each operand has a row
pub operand_there : (os : List Operand) (ps : List Piece) (o : Operand) → In o os → length (operands_in ps) ≡ length os → has_row (operand_id o) (rows_in os ps) ≡ true
operand_there [] [] o i e = absurd i
operand_there (p ∷ os) [] o i e = absurd (omega arith)
operand_there os (apart x v ∷ ps) o i e = or_right (bytes_eq (option_name x) (operand_id o)) _ (operand_there os ps o i e)
operand_there os (joined x v ∷ ps) o i e = or_right (bytes_eq (option_name x) (operand_id o)) _ (operand_there os ps o i e)
operand_there os (flag x ∷ ps) o i e = or_right (bytes_eq (flag_name x) (operand_id o)) _ (operand_there os ps o i e)
operand_there [] (operand v ∷ ps) o i e = absurd i
operand_there (p ∷ os) (operand v ∷ ps) o (inl same) e = rw (same, same_operand p) refl
operand_there (p ∷ os) (operand v ∷ ps) o (inr i) e = or_right (bytes_eq (operand_id p) (operand_id o)) _ (operand_there os ps o i (omega arith))

pub all_operands : (os : List Operand) (P : Operand → Type 0) → ((o : Operand) → In o os → P o) → AllOf P os
all_operands [] P f = tt
all_operands (o ∷ os) P f = (f o (inl refl), all_operands os P (λ p i. f p (inr i)))
