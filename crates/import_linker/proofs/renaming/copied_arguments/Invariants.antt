-- The copies so far.
use Rattle.std.proofs.Common.{◌≡◌, take}
use Rattle.import_linker.proofs.renaming.copied_arguments.Given as goal

abbrev pub invariant-loop-arg : goal.invariant-loop-arg
invariant-loop-arg l = l.copies ≡ take l.arg-index l.args
