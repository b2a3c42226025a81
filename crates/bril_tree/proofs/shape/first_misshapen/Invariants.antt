use Rattle.std.proofs.Common.{◌≡◌, true, take, All}
use Rattle.bril_tree.specs.Shape.{is_shaped}
use Rattle.bril_tree.proofs.shape.first_misshapen.Given as goal

-- all items so far have their shapes
abbrev pub invariant-loop-number : goal.invariant-loop-number
invariant-loop-number l = All (λ item. is_shaped l.returns item ≡ true) (take l.number l.items)
