-- `elf`: the machine words of an accepted program are written as an ELF file.
use Rattle.std.specs.Prelude.{ℕ, List, [], ◌∷◌}
use Rattle.elf_wrap.specs.Form.{wrapped}
use Rattle.rv64_words.specs.declared.image.Image.{Image}
use Rattle.bril_commands.specs.Command.{OfProgram}
use Rattle.bril_commands.specs.commands.Emit.{emits}

-- an image as `elf` shows it: its file, by one put
abbrev pub wrapped_whole : Image → List (List ℕ)
wrapped_whole image = wrapped image.stack image.words ∷ []

-- The file of the image is written.
abbrev pub emits_file : (frames cells : ℕ) → OfProgram
emits_file = emits wrapped_whole
