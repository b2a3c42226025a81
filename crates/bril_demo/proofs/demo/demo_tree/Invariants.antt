use Rattle.std.proofs.Common.{◌≡◌, map}
use Rattle.std.specs.List.{range_with_len}
use Rattle.bril_demo.specs.Demo.{demo_function}
use Rattle.bril_demo.proofs.demo.demo_tree.Given as goal

abbrev pub invariant-loop-j : goal.invariant-loop-j
invariant-loop-j l = l.funcs ≡ map (demo_function l.n) (range_with_len 0 l.j)
