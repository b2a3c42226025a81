-- Where a byte stands in a source: its line, and its column in the line.
use Rattle.std.specs.Prelude.{ℕ, ◌≡◌, ◌≢◌, ◌<◌, ◌≤◌, ◌+◌, ◌⊎◌, ◌==◌, ◌||◌, Bool, nat_le, nat_lt, List, length, take, count_by, slice_index, slice_range}
use Rattle.source_places.specs.declared.place.Place.{Place}

-- LF
abbrev pub ends_line : ℕ → Bool
ends_line byte = byte == 10

-- the byte begins a character of UTF-8, and doesn't go on with one
abbrev pub begins_character : ℕ → Bool
begins_character byte = nat_lt byte 128 || nat_le 192 byte

-- a line begins here, and this byte stands in it
pub record BeginsLine (source : List ℕ) (at from : ℕ) : Type 0 where
  pub before : from ≤ at
  pub begins : (from ≡ 0) ⊎ ((last : ℕ) × (from ≡ last + 1) × (slice_index source last ≡ 10))
  pub unbroken : (k : ℕ) → from ≤ k → k < at → slice_index source k ≢ 10

-- the line of this byte goes on up to here
pub record EndsLine (source : List ℕ) (at to : ℕ) : Type 0 where
  pub behind : at ≤ to
  pub inside : to ≤ length source
  pub ends : (to ≡ length source) ⊎ (slice_index source to ≡ 10)
  pub unbroken : (k : ℕ) → at ≤ k → k < to → slice_index source k ≢ 10

-- The place is that of the byte: its line is one more than the LFs before it, and its column one more than the characters before it in
-- the line, which goes from `from` up to `to`.
pub record IsPlace (source : List ℕ) (at : ℕ) (p : Place) : Type 0 where
  pub line : p.line ≡ 1 + count_by ends_line (take at source)
  pub column : p.column ≡ 1 + count_by begins_character (slice_range source p.from at)
  pub begins : BeginsLine source at p.from
  pub ends : EndsLine source at p.to
