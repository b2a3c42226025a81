-- The laws of listings.
use Rattle.std.specs.Prelude.{◌≡◌, ◌⊎◌, ℕ, ◌^◌, ◌<◌, List, All}
use Rattle.rv64_listing.specs.Line.{line_of, listing, TellsWord, IsEmptyLine}
use Rattle.rv64_listing.specs.Listing.{IsListing, IsFirstFault}

-- the line of 32 bits tells them
abbrev pub WrittenIsRead : Type 0
WrittenIsRead = (bits : ℕ) → bits < 2 ^ 32 → TellsWord (line_of bits) bits

-- no line tells two words, or a word and nothing
pub record LinesTellOneWord : Type 0 where
  pub one : (line : List ℕ) (bits other : ℕ) → TellsWord line bits → TellsWord line other → bits ≡ other
  pub some : (line : List ℕ) (bits : ℕ) → TellsWord line bits → IsEmptyLine line → ⊥

-- The listing of words is one of these words. Each source is a listing of one list of words, or has one first fault, and
-- never both.
pub record ListingsAreExact : Type 0 where
  pub again : (words : List ℕ) → All (λ w. w < 2 ^ 32) words → IsListing (listing words) words
  pub each : (source : List ℕ) → ((words : List ℕ) × IsListing source words) ⊎ ((line : ℕ) × IsFirstFault source line)
  pub one : (source v w : List ℕ) → IsListing source v → IsListing source w → v ≡ w
  pub sound : (source words : List ℕ) (line : ℕ) → IsListing source words → IsFirstFault source line → ⊥
  pub first : (source : List ℕ) (m n : ℕ) → IsFirstFault source m → IsFirstFault source n → m ≡ n
