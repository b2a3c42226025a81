-- Defaults: what they leave of the rows that are there.
use Rattle.std.proofs.Common.{◌≡◌, ◌∙◌, refl, sym, ap, Bool, true, false, not, cond, List, [], ◌∷◌, ◌++◌, ◌||◌, true≢false, Option, Some, None, codes, is_some}
use Rattle.std.specs.Prelude.{find, fold, option_and_then, slice_get}
use Rattle.std.specs.List.{list_all}
use Rattle.std.specs.Str.{bytes_eq}
use Rattle.std.proofs.lemmas.Slice.Eq.{bytes_eq-Decides}
use Rattle.std.proofs.lemmas.Bool.{or_parts, and_parts, not-true}
use Rattle.clap.specs.Walk.{Row, Rule, Text, default_rows, first_of, has_row, is_empty, more_values, reading_by, with_default}
use Rattle.clap.specs.Faults.{default_fault, defaults_fault, given_default_fault}
use Rattle.clap.specs.declared.builder.value_parser.Reading.{Reading}
use Rattle.clap.specs.declared.parser.matches.ValueSource.TheVariants.{DefaultValue}
use Rattle.clap.proofs.SimpleLemmas.{is_nil}
use Rattle.bril_words.specs.CommandLine.{is_true}
use Rattle.bril_words.proofs.Rows.{at_row_fresh, new_row}
use Rattle.bril_words.proofs.Ready.{first_text, is_harmless, is_quiet, spares}

abbrev pub find_id : Text → List Row → Option Row
find_id id rows = find (λ r. bytes_eq r.id id) rows

pub has_find : (id : Text) (rows : List Row) → has_row id rows ≡ is_some (find_id id rows)
has_find id [] = refl
has_find id (r ∷ rs) = go (bytes_eq r.id id) (has_find id rs)
  where
    go : (b : Bool) → has_row id rs ≡ is_some (find_id id rs) → (b || has_row id rs) ≡ is_some (cond b (Some r) (find_id id rs))
    go true e = refl
    go false e = e

pub find_before : (id : Text) (rows more : List Row) → has_row id rows ≡ true → find_id id (rows ++ more) ≡ find_id id rows
find_before id [] more e = absurd (true≢false (sym e))
find_before id (r ∷ rs) more e = go (bytes_eq r.id id) (λ rest. find_before id rs more rest) e
  where
    go : (b : Bool) → (has_row id rs ≡ true → find_id id (rs ++ more) ≡ find_id id rs) → (b || has_row id rs) ≡ true
        → cond b (Some r) (find_id id (rs ++ more)) ≡ cond b (Some r) (find_id id rs)
    go true next is = refl
    go false next is = next is

pub find_after : (id : Text) (rows : List Row) (r : Row) → bytes_eq r.id id ≡ false → find_id id (rows ++ r ∷ []) ≡ find_id id rows
find_after id [] r e = rw e refl
find_after id (x ∷ xs) r e = ap (λ (o : Option Row). cond (bytes_eq x.id id) (Some x) o) (find_after id xs r e)

pub find_last : (id : Text) (rows : List Row) (r : Row) → has_row id rows ≡ false → find_id id (rows ++ r ∷ []) ≡ find_id id (r ∷ [])
find_last id [] r e = refl
find_last id (x ∷ xs) r e =
    let both = or_parts (bytes_eq x.id id) (has_row id xs) e in
    rw both.0 (find_last id xs r both.1)

-- a default comes last, where its id isn't there
default_last : (id : Text) (how : Reading) (values : List Text) (rows : List Row) → has_row id rows ≡ false → (v : Text) (vs : List Text) → values ≡ v ∷ vs
    → default_rows id how values rows ≡ rows ++ new_row id how DefaultValue values ∷ []
default_last id how values rows fresh v vs is =
    rw is (at_row_fresh id (more_values DefaultValue (v ∷ vs)) (new_row id how DefaultValue (v ∷ vs) ∷ []) rows fresh)

pub default_kept : (a : Rule) (id : Text) (rows : List Row) → has_row id rows ≡ true → find_id id (with_default rows a) ≡ find_id id rows
default_kept a id rows there = go (has_row a.id rows) a.defaults refl
  where
    go : (b : Bool) (defaults : List Text) → has_row a.id rows ≡ b
        → find_id id (cond b rows (default_rows a.id (reading_by a) defaults rows)) ≡ find_id id rows
    go true defaults is = refl
    go false [] is = refl
    go false (v ∷ vs) is = ap (find_id id) (default_last a.id (reading_by a) (v ∷ vs) rows is v vs refl) ∙ find_before id rows _ there

pub defaults_kept : (rules : List Rule) (id : Text) (rows : List Row) → has_row id rows ≡ true → find_id id (fold with_default rows rules) ≡ find_id id rows
defaults_kept [] id rows there = refl
defaults_kept (a ∷ rules) id rows there =
    let here = default_kept a id rows there in
    defaults_kept rules id (with_default rows a) (has_find id (with_default rows a) ∙ ap is_some here ∙ sym (has_find id rows) ∙ there) ∙ here

-- a list with an element isn't empty
pub filled_is : {X : Type 0} (x : X) (xs : List X) → is_empty (x ∷ xs) ≡ false
filled_is x xs = go (is_empty (x ∷ xs)) refl
  where
    go : (b : Bool) → is_empty (x ∷ xs) ≡ b → b ≡ false
    go true e = let nil = is_nil (x ∷ xs) e in cc
    go false e = refl

pub default_spared : (a : Rule) (id : Text) (rows : List Row) → spares id a ≡ true → find_id id (with_default rows a) ≡ find_id id rows
default_spared a id rows spared = go (has_row a.id rows) a.defaults refl spared
  where
    go : (b : Bool) (defaults : List Text) → has_row a.id rows ≡ b → (is_empty defaults || not (bytes_eq a.id id)) ≡ true
        → find_id id (cond b rows (default_rows a.id (reading_by a) defaults rows)) ≡ find_id id rows
    go true defaults is e = refl
    go false [] is e = refl
    go false (v ∷ vs) is e =
        ap (find_id id) (default_last a.id (reading_by a) (v ∷ vs) rows is v vs refl)
        ∙ find_after id rows (new_row a.id (reading_by a) DefaultValue (v ∷ vs)) (not-true (bytes_eq a.id id) (rw (filled_is v vs) at e))

pub defaults_spared : (rules : List Rule) (id : Text) (rows : List Row) → list_all (spares id) rules ≡ true → find_id id (fold with_default rows rules) ≡ find_id id rows
defaults_spared [] id rows e = refl
defaults_spared (a ∷ rules) id rows e =
    let both = and_parts (spares id a) (list_all (spares id) rules) e in
    defaults_spared rules id (with_default rows a) both.1 ∙ default_spared a id rows both.0

-- ---- a flag whose default is `false`

abbrev row_value : Option Row → Option Text
row_value = option_and_then (λ (r : Row). slice_get r.values 0)

pub default_quiet : (a : Rule) (id : Text) (rows : List Row) → is_quiet a ≡ true → is_true (first_of id (with_default rows a)) ≡ is_true (first_of id rows)
default_quiet a id rows quiet = go (has_row a.id rows) a.defaults refl quiet
  where
    last : (v : Text) (vs : List Text) (b : Bool) → v ≡ codes "false" → bytes_eq a.id id ≡ b
        → is_true (row_value (find_id id (new_row a.id (reading_by a) DefaultValue (v ∷ vs) ∷ []))) ≡ false
    last v vs true is same = rw (same, is) refl
    last v vs false is same = rw same refl

    absent : has_row id rows ≡ false → first_of id rows ≡ None
    absent e = ap row_value (none (find_id id rows) (sym (has_find id rows) ∙ e))
      where
        none : (o : Option Row) → is_some o ≡ false → o ≡ None
        none None f = refl
        none (Some r) f = absurd (true≢false f)

    added : (v : Text) (vs : List Text) (there : Bool) → has_row id rows ≡ there → v ≡ codes "false"
        → is_true (first_of id (rows ++ new_row a.id (reading_by a) DefaultValue (v ∷ vs) ∷ [])) ≡ is_true (first_of id rows)
    added v vs true is false_ = ap (λ (o : Option Row). is_true (row_value o)) (find_before id rows _ is)
    added v vs false is false_ =
        ap (λ (o : Option Row). is_true (row_value o)) (find_last id rows (new_row a.id (reading_by a) DefaultValue (v ∷ vs)) is)
        ∙ last v vs (bytes_eq a.id id) false_ refl ∙ sym (ap is_true (absent is))

    go : (b : Bool) (defaults : List Text) → has_row a.id rows ≡ b → (is_empty defaults || bytes_eq (first_text defaults) (codes "false")) ≡ true
        → is_true (first_of id (cond b rows (default_rows a.id (reading_by a) defaults rows))) ≡ is_true (first_of id rows)
    go true defaults is e = refl
    go false [] is e = refl
    go false (v ∷ vs) is e =
        ap (λ (r : List Row). is_true (first_of id r)) (default_last a.id (reading_by a) (v ∷ vs) rows is v vs refl)
        ∙ added v vs (has_row id rows) refl ((bytes_eq-Decides v (codes "false")).0 (rw (filled_is v vs) at e))

pub defaults_quiet : (rules : List Rule) (id : Text) (rows : List Row) → list_all is_quiet rules ≡ true
    → is_true (first_of id (fold with_default rows rules)) ≡ is_true (first_of id rows)
defaults_quiet [] id rows e = refl
defaults_quiet (a ∷ rules) id rows e =
    let both = and_parts (is_quiet a) (list_all is_quiet rules) e in
    defaults_quiet rules id (with_default rows a) both.1 ∙ default_quiet a id rows both.0

-- ---- no default fails

default_harmless : (a : Rule) (rows : List Row) → is_harmless a ≡ true → default_fault rows a ≡ []
default_harmless a rows harmless = go (has_row a.id rows) (is_empty a.defaults) harmless
  where
    go : (b empty : Bool) → (empty || is_empty (given_default_fault a a.defaults)) ≡ true → cond (b || empty) [] (given_default_fault a a.defaults) ≡ []
    go true empty e = refl
    go false true e = refl
    go false false e = is_nil (given_default_fault a a.defaults) e

pub defaults_harmless : (rules : List Rule) (rows : List Row) → list_all is_harmless rules ≡ true → defaults_fault rows rules ≡ []
unfolding defaults_fault
defaults_harmless [] rows e = refl
defaults_harmless (a ∷ rules) rows e =
    let both = and_parts (is_harmless a) (list_all is_harmless rules) e in
    rw (default_harmless a rows both.0) (defaults_harmless rules (with_default rows a) both.1)
