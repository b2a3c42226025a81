-- Passes whose names differ are within the rows of all of them.
use Rattle.std.proofs.Common.{◌≡◌, Bool, true, not, ◌&&◌, cond, List, [], ◌∷◌, sym, ap, subst, ◌∙◌}
use Rattle.std.specs.Cmp.Lexicographic.{same_text}
use Rattle.std.proofs.lemmas.Bool.{and_parts, not-true}
use Rattle.std.proofs.lemmas.Cmp.{nat_list_eq_equiv}
use Rattle.pass_law.specs.Meaning.{is_name}
use Rattle.pass_budget_laws.specs.Laws.{IsWithinRow, IsWithinRows}
use Rattle.pass_budget_laws.specs.Rows.{Row, row_of}
use Rattle.pass_budget_laws.specs.Shipped.{Shipped, rows_of}

-- no other pass has the name of this one, and this one has no name of theirs
abbrev pub is_apart : Shipped → List Shipped → Bool
is_apart s [] = true
is_apart s (t ∷ rest) = not (is_name s.row.name t.row.name) && (not (is_name t.row.name s.row.name) && is_apart s rest)

abbrev pub all_apart : List Shipped → Bool
all_apart [] = true
all_apart (s ∷ rest) = is_apart s rest && all_apart rest

-- ---- the row of a pass's name is its own

Own : List Row → List Shipped → Type 0
Own rows [] = Unit {0}
Own rows (s ∷ some) = (row_of rows s.row.name ≡ s.row) × Own rows some

-- a row of another name in front changes nothing
own-behind : (t : Shipped) (rows : List Row) (some : List Shipped) → is_apart t some ≡ true → Own rows some → Own (t.row ∷ rows) some
unfolding Own
own-behind t rows [] e own = tt
own-behind t rows (s ∷ some) e own =
    let first = and_parts (not (is_name t.row.name s.row.name)) (not (is_name s.row.name t.row.name) && is_apart t some) e in
    let rest = and_parts (not (is_name s.row.name t.row.name)) (is_apart t some) first.1 in
    (ap (λ b. cond b t.row (row_of rows s.row.name)) (not-true (is_name t.row.name s.row.name) first.0) ∙ own.0, own-behind t rows some rest.1 own.1)

own-rows : (some : List Shipped) → all_apart some ≡ true → Own (rows_of some) some
unfolding Own
own-rows [] e = tt
own-rows (s ∷ some) e =
    let parts = and_parts (is_apart s some) (all_apart some) e in
    (ap (λ b. cond b s.row (row_of (rows_of some) s.row.name)) (nat_list_eq_equiv.refl s.row.name), own-behind s (rows_of some) some parts.0 (own-rows some parts.1))

-- ---- each is within the rows

abbrev pub AreWithinEach : List Row → List Shipped → Type 0
AreWithinEach rows [] = Unit {0}
AreWithinEach rows (s ∷ some) = IsWithinRows rows s.meaning × AreWithinEach rows some

within-own : (rows : List Row) (s : Shipped) → row_of rows s.row.name ≡ s.row → IsWithinRows rows s.meaning
within-own rows s own name answered =
    let named : name ≡ s.row.name = same_text name s.row.name (sym answered ∙ s.answers name) in
    subst (IsWithinRow s.meaning) (sym (ap (row_of rows) named ∙ own)) s.within

within-each : (rows : List Row) (some : List Shipped) → Own rows some → AreWithinEach rows some
unfolding Own
within-each rows [] own = tt
within-each rows (s ∷ some) own = (within-own rows s own.0, within-each rows some own.1)

pub within-rows : (some : List Shipped) → all_apart some ≡ true → AreWithinEach (rows_of some) some
within-rows some e = within-each (rows_of some) some (own-rows some e)
