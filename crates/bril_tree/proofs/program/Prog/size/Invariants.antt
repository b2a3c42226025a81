use Rattle.std.proofs.Common.{◌≡◌, length, take}
use Rattle.std.specs.List.{sum_by}
use Rattle.bril_tree.proofs.program.Prog.size.Given as goal

-- the items of the functions so far
abbrev pub invariant-loop-func : goal.invariant-loop-func
invariant-loop-func l = l.items ≡ sum_by (λ f. length f.code) (take l.func-index l.self.funcs)
