-- `asm`: the machine words that a listing tells are written.
use Rattle.std.specs.Prelude.{ℕ, ◌≡◌, List, []}
use Rattle.bril_report.specs.declared.status.Status.TheVariants as status
use Rattle.bril_report.specs.declared.status.Status.{Status}
use Rattle.rv64_listing.specs.Listing.{IsFirstFault, IsListing}
use Rattle.bril_commands.specs.Command.{OfBytes}
use Rattle.bril_commands.specs.Outcome.{writes}
use Rattle.bril_commands.specs.commands.Emit.{listing}

-- why bytes are no listing: this line, from 1, is the first that tells nothing it may
abbrev pub RefusesListing : Status → (path bytes : List ℕ) → Type 0
RefusesListing (status.MisreadListing other line) path bytes = (other ≡ path) × IsFirstFault bytes line
RefusesListing status.OutOfMemory path bytes = Unit {0}
RefusesListing _ path bytes = ⊥

-- The words of the listing are written as `emit` writes those of an image.
abbrev pub assembles : OfBytes
assembles = record {
  Read = List ℕ;
  AreRead = IsListing;
  RefusesBytes = RefusesListing;
  AreGiven = λ words args values. values ≡ [];
  RefusesArguments = λ how words args. ⊥;
  outcome = λ words values. writes [] (λ output. output ≡ listing words);
}
