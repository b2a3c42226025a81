use Rattle.std.proofs.Common.{◌≡◌, ◌++◌, ◌/◌, map, take}
use Rattle.ssa_build.proofs.code.names.push_got.Given as goal

abbrev pub invariant-loop-get : goal.invariant-loop-get
invariant-loop-get l = l.variables.items ≡ l.fn.variables.items ++ map (λ get. get.location / 2) (take l.get-index l.list)
