-- Limits, by their numbers.
use Rattle.std.proofs.Common.{◌≡◌, ℕ, ◌≤◌, sym, arith}
use Rattle.std.proofs.Props.{props}
use mathlib.Core.HLevel.{is_prop→PathP}
use Rattle.bril_tree.specs.declared.limits.Limits.{Limits}
use Rattle.bril_words.specs.Defaults.{brought, limits_of}

below-prop : (a b : ℕ) → IsProp (a ≤ b)
below-prop a b = hlevel props

-- they are the same where they have as many frames and cells
pub limits_same : (a b : Limits) → a.frames ≡ b.frames → a.cells ≡ b.cells → a ≡ b
limits_same a b f c = λ i. record {
  frames = f i;
  cells = c i;
  some_frames = is_prop→PathP (λ j. 1 ≤ f j) (λ j. below-prop 1 (f j)) a.some_frames b.some_frames i;
  few_frames = is_prop→PathP (λ j. f j ≤ 65536) (λ j. below-prop (f j) 65536) a.few_frames b.few_frames i;
  some_cells = is_prop→PathP (λ j. 1 ≤ c j) (λ j. below-prop 1 (c j)) a.some_cells b.some_cells i;
  few_cells = is_prop→PathP (λ j. c j ≤ 4194304) (λ j. below-prop (c j) 4194304) a.few_cells b.few_cells i;
}

-- a number in the range stays
brought_same : (most n : ℕ) → 1 ≤ n → n ≤ most → brought most n ≡ n
brought_same most n some few = omega arith

-- limits are those of their numbers
pub limits_are : (a : Limits) → a ≡ limits_of a.frames a.cells
unfolding limits_of
limits_are a = limits_same a (limits_of a.frames a.cells) (sym (brought_same 65536 a.frames a.some_frames a.few_frames)) (sym (brought_same 4194304 a.cells a.some_cells a.few_cells))
