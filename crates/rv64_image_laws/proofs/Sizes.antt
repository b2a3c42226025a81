-- A program has one size of stack under its limits, so it is within the bounds or passes one of them, and never both.
use Rattle.std.proofs.Common.{◌≡◌, ℕ, ◌*◌, ◌<◌, ap, sym, ◌∙◌, arith}
use Rattle.bril_tree.specs.declared.limits.Limits.{Limits}
use Rattle.bril_tree.specs.declared.program.Prog.{Prog}
use Rattle.bril_tree.specs.FrameWords.{AreFrameWords}
use Rattle.program_numbers.proofs.Measures.{IsGreatest-one}
use Rattle.rv64_image_laws.specs.WordBounds.{IsStackSize, IsWithin}
use Rattle.rv64_words.specs.Region.{most_stack}

pub IsStackSize-one : (p : Prog) (limits : Limits) (m n : ℕ) → IsStackSize p limits m → IsStackSize p limits n → m ≡ n
IsStackSize-one p limits m n a b = a.is ∙ (ap (λ f. limits.frames * f) (IsGreatest-one AreFrameWords p a.frame b.frame a.largest b.largest) ∙ sym b.is)

-- a program within the bounds has no stack that is too large
pub within_not_beyond : (p : Prog) (limits : Limits) (n : ℕ) → IsWithin p limits → IsStackSize p limits n → most_stack < n → ⊥
within_not_beyond p limits n within size beyond =
    let same : within.stack ≡ n = IsStackSize-one p limits within.stack n within.size size in
    let few = within.few in
    absurd (omega arith)
