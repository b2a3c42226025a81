-- One word after another: what the walk does at the words of a piece.
use Rattle.std.proofs.Common.{◌≡◌, refl, sym, Bool, true, false, ℕ, List, [], ◌∷◌, ◌++◌, true≢false, Option, Some, None, min, ◌+◌, codes}
use Rattle.std.proofs.lemmas.Bool.{not-true}
use Rattle.std.specs.Prelude.{◌==◌}
use Rattle.std.specs.Str.{bytes_eq}
use Rattle.clap.specs.Lexer.{long_of, short_of, usize_max}
use Rattle.clap.specs.Walk.{Held, Row, Rule, Text, Walk, idle, option, arg_by_id, arg_by_index, arg_by_long, has_row, settled_rows, used, walked}
use Rattle.clap.specs.Simple.{Shape}
use Rattle.clap.specs.Faults.{settle_fault, turn_fault, use_fault}
use Rattle.clap.specs.declared.builder.action.ArgAction.TheVariants.{Set, SetTrue}
use Rattle.clap.specs.declared.builder.value_parser.ValueParser.TheVariants as vp
use Rattle.clap.specs.declared.builder.value_parser.Reading.TheVariants.{AsWritten}
use Rattle.clap.specs.declared.parser.matches.ValueSource.TheVariants.{CommandLine}
use Rattle.bril_words.specs.Plain.{is_plain}
use Rattle.bril_words.proofs.Rows.{new_row, set_fresh}

-- an argument that takes one value, as it is built
abbrev pub taking : Text → Option Text → Option ℕ → Bool → Rule
taking id long index required = record {
  id = id;
  long = long;
  aliases = [];
  short = None;
  short_aliases = [];
  index = index;
  action = Some Set;
  range = Some (record { start_inclusive = 1; end_inclusive = 1 });
  value_names = 1;
  defaults = [];
  missing = [];
  trailing_var_arg = false;
  parser = Some vp.String;
  ignore_case = false;
  required = required;
  is_simple = true;
  is_free = true;
}

-- an argument without a value, as it is built
abbrev pub flagging : Text → Rule
flagging id = record {
  id = id;
  long = Some id;
  aliases = [];
  short = None;
  short_aliases = [];
  index = None;
  action = Some SetTrue;
  range = Some (record { start_inclusive = 0; end_inclusive = 0 });
  value_names = 0;
  defaults = codes "false" ∷ [];
  missing = codes "true" ∷ [];
  trailing_var_arg = false;
  parser = Some vp.Bool;
  ignore_case = false;
  required = false;
  is_simple = true;
  is_free = true;
}

abbrev pub given : Text → List Text → Row
given id values = new_row id AsWritten CommandLine values

abbrev pub held_at : List Row → Option (Text × List Text) → Held
held_at rows pending = record { rows = rows; pending = pending; skip = 0 }

-- between two pieces
abbrev pub walk_at : List Row → Option (Text × List Text) → ℕ → Walk
walk_at rows pending position = record { held = held_at rows pending; waiting = idle; position = position; is_trailing = false; stopped = None }

-- after the name of an option whose value is the next word
abbrev pub walk_waiting : List Row → Text → ℕ → Walk
walk_waiting rows id position =
    record { held = held_at rows (Some (id, [])); waiting = option id; position = position; is_trailing = false; stopped = None }

-- a plain word begins no option
pub record IsPlainWord (v : Text) : Type 0 where
  pub long : long_of v ≡ None
  pub short : short_of v ≡ None
  pub dash : bytes_eq v (45 ∷ 45 ∷ []) ≡ false

pub plain_word_is : (v : Text) → is_plain v ≡ true → IsPlainWord v
plain_word_is [] e = absurd (true≢false (sym e))
plain_word_is (b ∷ bs) e =
    let other : (b == 45) ≡ false = not-true (b == 45) e in
    record { long = rw other refl; short = rw other refl; dash = rw other refl }

-- the word names an option, alone or with a value
pub record NamesOption (word name : Text) (value : Option Text) : Type 0 where
  pub dash : bytes_eq word (45 ∷ 45 ∷ []) ≡ false
  pub long : long_of word ≡ Some (name, value)

pub use_free : (again : Bool) (id v : Text) (long : Option Text) (index : Option ℕ) (required : Bool) (rows : List Row) → has_row id rows ≡ false
    → use_fault again (taking id long index required) (v ∷ []) rows ≡ []
use_free again id v long index required rows fresh = rw fresh refl

pub used_taking : (id v : Text) (long : Option Text) (index : Option ℕ) (required : Bool) (rows : List Row) → has_row id rows ≡ false
    → used (taking id long index required) (v ∷ []) rows ≡ rows ++ given id (v ∷ []) ∷ []
used_taking id v long index required rows fresh = set_fresh id AsWritten (v ∷ []) rows fresh

pub used_flagging : (id : Text) (rows : List Row) → has_row id rows ≡ false
    → used (flagging id) [] rows ≡ rows ++ given id (codes "true" ∷ []) ∷ []
used_flagging id rows fresh = set_fresh id AsWritten (codes "true" ∷ []) rows fresh

module _ (s : Shape) where
  -- ---- `--x`, whose value is the next word

  pub opens : (rows : List Row) (pending : Option (Text × List Text)) (position : ℕ) (word id : Text) (required : Bool) → NamesOption word id None
      → arg_by_long s.rules id ≡ Some (taking id (Some id) None required)
      → walked s.rules [] (walk_at rows pending position) word ≡ walk_waiting (settled_rows s.rules pending rows) id position
  unfolding walked
  opens rows pending position word id required names found = rw (names.dash, names.long, found) refl

  pub opens_free : (rows : List Row) (pending : Option (Text × List Text)) (position : ℕ) (word id : Text) (required : Bool) → NamesOption word id None
      → arg_by_long s.rules id ≡ Some (taking id (Some id) None required) → settle_fault s.rules s.args_override_self (held_at rows pending) ≡ []
      → turn_fault s [] (walk_at rows pending position) word ≡ []
  opens_free rows pending position word id required names found free = rw (names.dash, names.long, found, free) refl

  pub takes_value : (rows : List Row) (position : ℕ) (v id : Text) (required : Bool) → IsPlainWord v → bytes_eq id id ≡ true
      → arg_by_id s.rules id ≡ Some (taking id (Some id) None required)
      → walked s.rules [] (walk_waiting rows id position) v ≡ walk_at rows (Some (id, v ∷ [])) position
  unfolding walked
  takes_value rows position v id required plain same found = rw (plain.dash, plain.long, plain.short, found, same) refl

  pub value_free : (rows : List Row) (position : ℕ) (v id : Text) (required : Bool) → IsPlainWord v
      → arg_by_id s.rules id ≡ Some (taking id (Some id) None required) → turn_fault s [] (walk_waiting rows id position) v ≡ []
  value_free rows position v id required plain found = rw (plain.dash, plain.long, plain.short) refl

  -- ---- `--x=v`

  pub joins : (rows : List Row) (pending : Option (Text × List Text)) (position : ℕ) (word v id : Text) (required : Bool) → NamesOption word id (Some v)
      → arg_by_long s.rules id ≡ Some (taking id (Some id) None required)
      → walked s.rules [] (walk_at rows pending position) word
      ≡ walk_at (used (taking id (Some id) None required) (v ∷ []) (settled_rows s.rules pending rows)) None position
  unfolding walked
  joins rows pending position word v id required names found = rw (names.dash, names.long, found) refl

  pub joins_free : (rows : List Row) (pending : Option (Text × List Text)) (position : ℕ) (word v id : Text) (required : Bool) → NamesOption word id (Some v)
      → arg_by_long s.rules id ≡ Some (taking id (Some id) None required) → settle_fault s.rules s.args_override_self (held_at rows pending) ≡ []
      → has_row id (settled_rows s.rules pending rows) ≡ false → turn_fault s [] (walk_at rows pending position) word ≡ []
  joins_free rows pending position word v id required names found free fresh = rw (names.dash, names.long, found, free, fresh) refl

  -- ---- `--x`, without a value

  pub flags : (rows : List Row) (pending : Option (Text × List Text)) (position : ℕ) (word id : Text) → NamesOption word id None
      → arg_by_long s.rules id ≡ Some (flagging id)
      → walked s.rules [] (walk_at rows pending position) word ≡ walk_at (used (flagging id) [] (settled_rows s.rules pending rows)) None position
  unfolding walked
  flags rows pending position word id names found = rw (names.dash, names.long, found) refl

  pub flags_free : (rows : List Row) (pending : Option (Text × List Text)) (position : ℕ) (word id : Text) → NamesOption word id None
      → arg_by_long s.rules id ≡ Some (flagging id) → settle_fault s.rules s.args_override_self (held_at rows pending) ≡ []
      → has_row id (settled_rows s.rules pending rows) ≡ false → turn_fault s [] (walk_at rows pending position) word ≡ []
  flags_free rows pending position word id names found free fresh = rw (names.dash, names.long, found, free, fresh) refl

  -- ---- a word by itself

  and_false : (b : Bool) → Rattle.std.proofs.Common.◌&&◌ b false ≡ false
  and_false true = refl
  and_false false = refl

  pub stands : (rows : List Row) (pending : Option (Text × List Text)) (position : ℕ) (v id : Text) → IsPlainWord v
      → arg_by_index s.rules position ≡ Some (taking id None (Some position) true)
      → walked s.rules [] (walk_at rows pending position) v ≡ walk_at (settled_rows s.rules pending rows) (Some (id, v ∷ [])) (min (position + 1) usize_max)
  unfolding walked
  stands rows pending position v id plain found = rw (plain.dash, plain.long, plain.short, found, and_false) refl

  pub stands_free : (rows : List Row) (pending : Option (Text × List Text)) (position : ℕ) (v id : Text) → IsPlainWord v
      → arg_by_index s.rules position ≡ Some (taking id None (Some position) true) → settle_fault s.rules s.args_override_self (held_at rows pending) ≡ []
      → turn_fault s [] (walk_at rows pending position) v ≡ []
  stands_free rows pending position v id plain found free = rw (plain.dash, plain.long, plain.short, found, and_false, free) refl
