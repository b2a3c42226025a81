-- Rows of matches under an id that is new to them.
use Rattle.std.proofs.Common.{◌≡◌, ◌∙◌, refl, ap, false, List, [], ◌∷◌, ◌++◌, append-nil, Some, None}
use Rattle.std.proofs.lemmas.Bool.{or_parts}
use Rattle.std.specs.Str.{bytes_eq}
use Rattle.clap.specs.Walk.{Row, Text, at_row, has_row, more_values, without, with_values}
use Rattle.clap.specs.declared.builder.value_parser.Reading.{Reading}
use Rattle.clap.specs.declared.parser.matches.ValueSource.{ValueSource}
use Rattle.clap.specs.declared.parser.matches.ValueSource.TheVariants.{CommandLine}

pub at_row_fresh : (id : Text) (change : Row → List Row) (missing rows : List Row) → has_row id rows ≡ false
    → at_row id change missing rows ≡ rows ++ missing
at_row_fresh id change missing [] e = refl
at_row_fresh id change missing (r ∷ rs) e =
    let both = or_parts (bytes_eq r.id id) (has_row id rs) e in
    rw both.0 (ap (λ (t : List Row). r ∷ t) (at_row_fresh id change missing rs both.1))

pub without_fresh : (id : Text) (rows : List Row) → has_row id rows ≡ false → without id rows ≡ rows
without_fresh id rows e = at_row_fresh id (λ _. []) [] rows e ∙ append-nil rows

abbrev pub new_row : Text → Reading → ValueSource → List Text → Row
new_row id how source values = record { id = id; values = values; count = None; source = Some source; reading = how }

-- a use of an argument that wasn't used puts its row at the end
pub set_fresh : (id : Text) (how : Reading) (values : List Text) (rows : List Row) → has_row id rows ≡ false
    → with_values id how CommandLine values (without id rows) ≡ rows ++ new_row id how CommandLine values ∷ []
set_fresh id how values rows e =
    ap (with_values id how CommandLine values) (without_fresh id rows e) ∙ at_row_fresh id (more_values CommandLine values) (new_row id how CommandLine values ∷ []) rows e
