-- The items that read a location.
use Rattle.std.specs.Prelude.{◌≡◌, ◌≢◌, ◌==◌, ℕ, List, Option, Some, None, slice_get, if◌then◌else◌}
use Rattle.bril_tree.specs.Membership.{In}
use Rattle.flow_graph.specs.declared.reads.Access.{Access}
use Rattle.side_pairs.specs.declared.readers.Readers.{Readers}
use Rattle.side_pairs.specs.declared.readers.Readers.TheVariants.{Nobody, One, Many}

abbrev pub with_reader : ℕ → Readers → Readers
with_reader item Nobody = One item
with_reader item (One other) = if other == item then One other else Many
with_reader item Many = Many

abbrev pub or_nobody : Option Readers → Readers
or_nobody None = Nobody
or_nobody (Some readers) = readers

-- the readers of a location by the table; none where the table ends before it
abbrev pub readers_at : List Readers → ℕ → Readers
readers_at table location = or_nobody (slice_get table location)

-- one read more is in the table
pub record AreNoted (read : Access) (table noted : List Readers) : Type 0 where
  pub here : readers_at noted read.location ≡ with_reader read.item (readers_at table read.location)
  pub elsewhere : (location : ℕ) → location ≢ read.location → readers_at noted location ≡ readers_at table location

-- a read of the location, one of these
pub record HasRead (reads : List Access) (location : ℕ) : Type 0 where
  pub read : Access
  pub among : In read reads
  pub of : read.location ≡ location

-- each read of the location is one by the item
pub record HasOne (reads : List Access) (location item : ℕ) : Type 0 where
  pub each : (read : Access) → In read reads → read.location ≡ location → read.item ≡ item
  pub some : HasRead reads location

-- two items read the location
pub record HasMany (reads : List Access) (location : ℕ) : Type 0 where
  pub first : HasRead reads location
  pub second : HasRead reads location
  pub apart : first.read.item ≢ second.read.item

-- these are the readers of the location
abbrev pub AreReadersOf : List Access → ℕ → Readers → Type 0
AreReadersOf reads location Nobody = HasRead reads location → ⊥
AreReadersOf reads location (One item) = HasOne reads location item
AreReadersOf reads location Many = HasMany reads location

-- the table has the readers of each location
pub record AreReaders (reads : List Access) (table : List Readers) : Type 0 where
  pub at : (location : ℕ) → AreReadersOf reads location (readers_at table location)
