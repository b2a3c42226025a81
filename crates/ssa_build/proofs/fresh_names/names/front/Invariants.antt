use Rattle.std.proofs.Common.{ℕ, ◌<◌, ◌≤◌}
use Rattle.bril_tree.specs.Numbered.{named, variable_names}
use Rattle.ssa_build.specs.fresh_names.Names.{front_of}
use Rattle.ssa_build.proofs.fresh_names.names.front.Given as goal

abbrev pub invariant-loop-x : goal.invariant-loop-x
invariant-loop-x l =
    ((x : ℕ) → x < l.x → front_of (named (variable_names l.vars) x) ≤ l.front) × ((n : ℕ) → ((x : ℕ) → x < l.x → front_of (named (variable_names l.vars) x) ≤ n) → l.front ≤ n)
