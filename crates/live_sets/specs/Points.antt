-- Sets of points, as they are kept.
use Rattle.std.specs.Prelude.{ℕ, Bool, false, slice_index_or}
use Rattle.live_sets.specs.Among.{is_among}
use Rattle.live_sets.specs.declared.points.Points.{Points}
use Rattle.live_sets.specs.declared.points.Points.TheVariants.{Marked, Sorted}

abbrev pub has_point : Points → ℕ → Bool
has_point (Marked marked) point = slice_index_or marked.marks.items point false
has_point (Sorted sorted) point = is_among point sorted.points.items
