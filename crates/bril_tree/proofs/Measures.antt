-- A function has one depth and one size of its frame.
use Rattle.std.proofs.Common.{◌≡◌, ℕ, ◌+◌, ◌*◌, ◌≤◌, List, sym, ap, ◌∙◌, subst, le_antisymm}
use Rattle.bril_tree.specs.declared.numbered.Instr.{Instr}
use Rattle.bril_tree.specs.declared.numbered_function.Func.{Func}
use Rattle.bril_tree.specs.FrameWords.{IsDepth, AreFrameWords, location_count, frame_head}

pub IsDepth-one : (code : List Instr) (m n : ℕ) → IsDepth code m → IsDepth code n → m ≡ n
IsDepth-one code m n a b =
    le_antisymm (subst (λ k. k ≤ n) a.reaches (b.most a.deepest a.is)) (subst (λ k. k ≤ m) b.reaches (a.most b.deepest b.is))

pub AreFrameWords-one : (f : Func) (m n : ℕ) → AreFrameWords f m → AreFrameWords f n → m ≡ n
AreFrameWords-one f m n a b = a.are ∙ ap (λ d. frame_head + location_count f * (1 + d)) (IsDepth-one f.code a.depth b.depth a.is b.is) ∙ sym b.are
