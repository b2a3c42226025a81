use Rattle.std.proofs.Common.{◌≡◌, map, take}
use Rattle.bril_tree.specs.Numbered.{function_tree}
use Rattle.bril_names.proofs.unnumbering.unnumber.Given as goal

abbrev pub invariant-loop-f : goal.invariant-loop-f
invariant-loop-f l = l.funcs ≡ map (function_tree (map (λ f. f.name) l.prog.funcs)) (take l.f-index l.prog.funcs)
