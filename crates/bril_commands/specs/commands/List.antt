-- `list`: the machine words of an accepted program are written as a listing.
use Rattle.std.specs.Prelude.{ℕ, List, [], ◌∷◌}
use Rattle.rv64_listing.specs.Line as line
use Rattle.rv64_words.specs.declared.image.Image.{Image}
use Rattle.bril_commands.specs.Command.{OfProgram}
use Rattle.bril_commands.specs.commands.Emit.{emits}

-- an image as `list` shows it: the listing of its words, by one put
abbrev pub listed : Image → List (List ℕ)
listed image = line.listing image.words ∷ []

-- The listing of the image's words is written.
abbrev pub emits_listing : (frames cells : ℕ) → OfProgram
emits_listing = emits listed
