use Rattle.std.proofs.Common.{◌≡◌, ◌-◌}
use Rattle.rv64_processor.specs.RegionView.{words_in, size_in}
use Rattle.rv64_sliding.proofs.Sliding.{Slides}
use Rattle.rv64_sliding.proofs.slide.slide.Given as goal

abbrev pub invariant-loop-slid : goal.invariant-loop-slid
invariant-loop-slid l = record {
  slides : Slides (words_in l.fn.table) (words_in l.fn.cells) l.fn.blocks l.slid (words_in l.table) (words_in l.cells) l.to;
  table_size : size_in l.table ≡ size_in l.fn.table;
  cells_size : size_in l.cells ≡ size_in l.fn.cells;
}

abbrev pub decreases-loop-slid : goal.decreases-loop-slid
decreases-loop-slid l = l.fn.blocks - l.slid
