use Rattle.std.proofs.Common.{◌≡◌, ◌++◌, take}
use Rattle.ssa_build.specs.code.Items.{set_items}
use Rattle.ssa_build.proofs.code.copies.push_sets.Given as goal

abbrev pub invariant-loop-get : goal.invariant-loop-get
invariant-loop-get l = l.code ≡ l.fn.code ++ set_items l.layout.names.now l.layout.find.now l.now (take l.get-index l.gets)
