-- What a line that a command wrote means.
use Rattle.std.specs.Prelude.{ℕ, ◌≡◌, ◌&&◌, ◌||◌, Bool, nat_eq, List, [], ◌∷◌, Option, Some, None}
use Rattle.std.specs.List.{starts_with}
use Rattle.bril_outside.specs.Sink.{SinkSeen}
use Rattle.bril_commands.specs.Outcome.{WritesPieces}
use Rattle.bril_report.specs.Report.{status_number}
use Rattle.bril_report.specs.declared.status.Status.{Status}
use Rattle.bril_explain.specs.declared.lines.Row.{Row}

-- the piece stands somewhere in the bytes
abbrev pub contains : List ℕ → List ℕ → Bool
contains piece [] = starts_with nat_eq [] piece
contains piece (byte ∷ bytes) = starts_with nat_eq (byte ∷ bytes) piece || contains piece bytes

-- the line begins as the row says, and has what it says
abbrev pub fits : Row → List ℕ → Bool
fits row line = starts_with nat_eq line row.begins.now && contains row.has.now line

-- The answer is the number of a status of writing what the row means.
pub record WritesMeaning (row : Row) (result : ℕ) (s t : SinkSeen) : Type 0 where
  pub how : Status
  pub answer : result ≡ status_number how
  pub writes : WritesPieces how (row.means.now ∷ []) s t

abbrev pub TellsMeaning : Option Row → ℕ → SinkSeen → SinkSeen → Type 0
TellsMeaning None result s t = (result ≡ 64) × (t ≡ s)
TellsMeaning (Some row) result s t = WritesMeaning row result s t
