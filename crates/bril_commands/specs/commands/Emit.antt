-- `emit`: the machine words of an accepted program are written.
use Rattle.std.specs.Prelude.{ℕ, ◌≡◌, ◌/◌, ◌%◌, ◌^◌, true, List, [], ◌∷◌, map}
use Rattle.bril_tree.specs.declared.limits.Limits.{Limits}
use Rattle.bril_tree.specs.declared.program.Prog.{Prog}
use Rattle.rv64_image_laws.specs.Implements.{Implements}
use Rattle.rv64_words.specs.declared.image.Image.{Image}
use Rattle.rv64_words.specs.Hexadecimal.{hex_digit}
use Rattle.bril_commands.specs.Command.{OfProgram, NoArguments, ImageFor, AreLimitsOf}
use Rattle.bril_commands.specs.Outcome.{writes}
use Rattle.bril_commands.specs.Profiles.{NamedFile}

-- ---- the text of words

-- a word in eight hexadecimal digits, and LF
abbrev pub word_line : ℕ → List ℕ
word_line w =
    hex_digit (w / 2 ^ 28 % 16) ∷ hex_digit (w / 2 ^ 24 % 16) ∷ hex_digit (w / 2 ^ 20 % 16) ∷ hex_digit (w / 2 ^ 16 % 16) ∷
    hex_digit (w / 2 ^ 12 % 16) ∷ hex_digit (w / 2 ^ 8 % 16) ∷ hex_digit (w / 2 ^ 4 % 16) ∷ hex_digit (w % 16) ∷ 10 ∷ []

-- the lines of words, a piece each
abbrev pub listing : List ℕ → List (List ℕ)
listing words = map word_line words

-- an image as `emit` shows it
abbrev pub shown : Image → List (List ℕ)
shown image = listing image.words

-- ---- the command

-- The output shows an image that does what the program does.
pub record ShowsImage (shows : Image → List (List ℕ)) (q : Prog) (frames cells : ℕ) (output : List (List ℕ)) : Type 0 where
  pub limits : Limits
  pub are : AreLimitsOf (ImageFor frames cells) limits
  pub image : Image
  pub implements : Implements image q limits
  pub text : output ≡ shows image

-- The image of the program that the list makes, for limits of so many frames and cells, is written as `shows` has it.
abbrev pub emits : (Image → List (List ℕ)) → (frames cells : ℕ) → OfProgram
emits shows frames cells = record {
  arguments = NoArguments;
  profile = NamedFile;
  takes_passes = true;
  emission = ImageFor frames cells;
  outcome = λ on. writes [] (ShowsImage shows on.made frames cells);
}

-- The words of the image are written.
abbrev pub emits_words : (frames cells : ℕ) → OfProgram
emits_words = emits shown
