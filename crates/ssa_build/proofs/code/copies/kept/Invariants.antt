use Rattle.std.proofs.Common.{◌≡◌, take}
use Rattle.ssa_build.specs.code.Items.{kept}
use Rattle.ssa_build.proofs.code.copies.kept.Given as goal

abbrev pub invariant-loop-get : goal.invariant-loop-get
invariant-loop-get l = l.made.items ≡ kept l.find (take l.get-index l.gets)
