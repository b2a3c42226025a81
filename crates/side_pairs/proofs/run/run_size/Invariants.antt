use Rattle.std.proofs.Common.{◌+◌, ◌<◌, length}
use Rattle.side_pairs.proofs.Running.{IsWithin}
use Rattle.side_pairs.proofs.run.run_size.Given as goal

abbrev pub invariant-loop-size : goal.invariant-loop-size
invariant-loop-size l = record {
  inside : l.start + l.size < length l.code;
  within : IsWithin l.code l.start l.size;
}
