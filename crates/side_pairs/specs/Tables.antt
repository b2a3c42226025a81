-- The points of labels, as a table has them.
use Rattle.std.specs.Prelude.{◌≡◌, ℕ, List, length, slice_get, unwrap_or}
use Rattle.bril_tree.specs.declared.numbered.Instr.{Instr}
use Rattle.bril_tree.specs.Step.{point_of}

-- The table has the point of each label; the end of the code is that of a label that the table lacks.
pub record IsPointTable (code : List Instr) (points : List ℕ) : Type 0 where
  pub at : (label : ℕ) → unwrap_or (slice_get points label) (length code) ≡ point_of label code
