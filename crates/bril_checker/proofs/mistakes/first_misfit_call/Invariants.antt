use Rattle.std.proofs.Common.{◌≡◌, true, take, All}
use Rattle.bril_tree.specs.Typing.{is_call_shaped}
use Rattle.bril_checker.proofs.mistakes.first_misfit_call.Given as goal

-- each call so far fits
abbrev pub invariant-loop-number : goal.invariant-loop-number
invariant-loop-number l = All (λ item. is_call_shaped l.prog l.func item ≡ true) (take l.number l.items)
