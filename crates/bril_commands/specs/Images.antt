-- The image of an accepted program, or why it has none.
use Rattle.std.specs.Prelude.{ℕ, ◌≡◌, ◌≤◌, ◌<◌, IsTrue, List, Option}
use Rattle.std.specs.Option.{option_map}
use Rattle.bril_report.specs.declared.status.Status.TheVariants as status
use Rattle.bril_report.specs.declared.status.Status.{Status}
use Rattle.bril_tree.specs.declared.limits.End.{End}
use Rattle.bril_tree.specs.declared.limits.Limits.{Limits}
use Rattle.bril_tree.specs.declared.program.Prog.{Prog}
use Rattle.bril_tree.specs.declared.value.Value.{Value}
use Rattle.pass_law.specs.Bounds.{capped}
use Rattle.rv64_image_laws.specs.Implements.{Implements, image_after}
use Rattle.rv64_image_laws.specs.WordBounds.{has_fixed_bounds, word_bounds, IsStackSize, IsWithin}
use Rattle.rv64_words.specs.Region.{most_words, most_stack}
use Rattle.rv64_words.specs.State.{Finished}
use Rattle.rv64_words.specs.declared.image.Image.{Image}

-- Why no image was made of a program: out of memory only where it is within the bounds, or where the bounds of words can't be
-- told before memory is taken.
abbrev pub RefusesImage : Status → Prog → Limits → Type 0
RefusesImage (status.CodeTooBig words) p limits = (most_words < word_bounds p) × (words ≡ capped (word_bounds p))
RefusesImage (status.StackTooBig words) p limits =
    (word_bounds p ≤ most_words) × ((size : ℕ) × IsStackSize p limits size × (most_stack < size) × (words ≡ capped size))
RefusesImage status.OutOfMemory p limits = IsTrue (has_fixed_bounds p) → IsWithin p limits
RefusesImage _ p limits = ⊥

-- Once it has executed so many words of an image that implements the program, the machine has ended so, or runs on for None,
-- and has printed this.
pub record MachineShows (p : Prog) (limits : Limits) (values : List Value) (words : ℕ) (ended : Option End) (output : List ℕ) : Type 0 where
  pub image : Image
  pub implements : Implements image p limits
  pub ends : (image_after image limits values words).stopped ≡ option_map Finished ended
  pub prints : (image_after image limits values words).printed ≡ output
