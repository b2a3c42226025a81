use Rattle.std.proofs.Common.{take, All}
use Rattle.bril_tree.specs.Accepted.{IsPlainType}
use Rattle.bril_checker.proofs.checker.are_plain.Given as goal

-- the variables so far are plain
abbrev pub invariant-loop-v : goal.invariant-loop-v
invariant-loop-v l = All (λ v. IsPlainType v.ty) (take l.v-index l.vars)
