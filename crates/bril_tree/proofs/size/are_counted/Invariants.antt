use Rattle.std.proofs.Common.{◌<◌, length, take, All}
use Rattle.std.specs.Prelude.{◌^◌, ◌-◌}
use Rattle.bril_tree.proofs.size.are_counted.Given as goal

-- the items of the funcs so far have numbers of 32 bits
abbrev pub invariant-loop-func : goal.invariant-loop-func
invariant-loop-func l = All (λ f. length f.code < 2 ^ 32 - 1) (take l.func-index l.funcs)
