use Rattle.std.proofs.Common.{◌≡◌, ◌∷◌, codes}
use Rattle.std.specs.List.{flat_map, range_with_len}
use Rattle.bril_demo.specs.Demo.{calling, constant}
use Rattle.bril_demo.proofs.demo.demo_main.Given as goal

abbrev pub invariant-loop-j : goal.invariant-loop-j
invariant-loop-j l = l.code ≡ constant (codes "n") 40 ∷ flat_map calling (range_with_len 0 l.j)
