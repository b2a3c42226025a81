-- The files so far were read in order and kept, and what they name is known.
use Rattle.std.proofs.Common.{◌≡◌, ◌≤◌, ◌-◌, length}
use Rattle.import_linker.specs.Order.{most_files}
use Rattle.bril_explain.specs.Kept.{AreOf, bytes_at}
use Rattle.bril_explain.proofs.SoFar.{ReadSoFar}
use Rattle.bril_explain.proofs.files.read_files.Given as goal

abbrev pub invariant-loop-path : goal.invariant-loop-path
invariant-loop-path g l = record {
  holds : (g.F.Files.seen l.files).holds ≡ (g.F.Files.seen l.fn.files).holds;
  faults : (g.F.Files.seen l.fn.files).faults ≤ (g.F.Files.seen l.files).faults;
  are : AreOf (g.F.Files.seen l.fn.files).holds (bytes_at l.kept);
  far : ReadSoFar l.kept l.root l.known l.total;
}

abbrev pub decreases-loop-path : goal.decreases-loop-path
decreases-loop-path g l = most_files - length l.kept
