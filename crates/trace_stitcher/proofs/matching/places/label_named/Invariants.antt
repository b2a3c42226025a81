use Rattle.std.proofs.Common.{◌≡◌, ℕ, ◌<◌}
use Rattle.bril_tree.specs.Numbered.{named}
use Rattle.trace_stitcher.proofs.matching.places.label_named.Given as goal

abbrev pub invariant-loop-number : goal.invariant-loop-number
invariant-loop-number l = (k : ℕ) → k < l.number → named l.labels k ≡ l.name → ⊥
