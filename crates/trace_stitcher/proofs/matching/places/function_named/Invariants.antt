use Rattle.std.proofs.Common.{◌≡◌, ℕ, ◌<◌}
use Rattle.bril_tree.specs.Numbered.{named, names_of_functions}
use Rattle.trace_stitcher.proofs.matching.places.function_named.Given as goal

abbrev pub invariant-loop-number : goal.invariant-loop-number
invariant-loop-number l = (k : ℕ) → k < l.number → named (names_of_functions l.funcs) k ≡ l.name → ⊥
