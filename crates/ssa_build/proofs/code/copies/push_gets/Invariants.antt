use Rattle.std.proofs.Common.{◌≡◌, ◌++◌, take}
use Rattle.ssa_build.specs.code.Items.{get_items}
use Rattle.ssa_build.proofs.code.copies.push_gets.Given as goal

abbrev pub invariant-loop-get : goal.invariant-loop-get
invariant-loop-get l = l.code ≡ l.fn.code ++ get_items l.vars l.names (take l.get-index l.gets)
