-- Why no image is made of a program.
use Rattle.std.specs.Prelude.{ℕ, ◌≡◌, ◌-◌, ◌^◌, ◌<◌, ◌≤◌, IsTrue, min}
use Rattle.bril_tree.specs.declared.limits.Limits.{Limits}
use Rattle.bril_tree.specs.declared.program.Prog.{Prog}
use Rattle.rv64_words.specs.declared.fault.EmitFault.{EmitFault}
use Rattle.rv64_words.specs.declared.fault.EmitFault.TheVariants.{CodeTooBig, StackTooBig, Memory}
use Rattle.rv64_image_laws.specs.WordBounds.{has_fixed_bounds, word_bounds, IsStackSize, IsWithin}
use Rattle.rv64_words.specs.Region.{most_words, most_stack}

-- a number in 64 bits: the greatest of them where it is greater
abbrev pub capped : ℕ → ℕ
capped n = min n (2 ^ 64 - 1)

-- The cause of a refusal: the code comes before the stack. Memory is a cause only where both are within their bounds, or where
-- the bounds of words can't be told before memory is taken to count locations.
abbrev pub EmitRefuses : Prog → Limits → EmitFault → Type 0
EmitRefuses p limits (CodeTooBig words) = (most_words < word_bounds p) × (words ≡ capped (word_bounds p))
EmitRefuses p limits (StackTooBig words) =
    (word_bounds p ≤ most_words) × ((size : ℕ) × IsStackSize p limits size × (most_stack < size) × (words ≡ capped size))
EmitRefuses p limits Memory = IsTrue (has_fixed_bounds p) → IsWithin p limits
