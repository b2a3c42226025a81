-- The points of labels.
use Rattle.std.specs.Prelude.{◌≡◌, ℕ, suc, ◌<◌, List, [], ◌∷◌, ◌++◌, length, Some, slice_get}
use Rattle.bril_tree.specs.declared.numbered.Instr.{Instr}
use Rattle.bril_tree.specs.declared.numbered.Instr.TheVariants.{Label, Const, Act}
use Rattle.bril_tree.specs.Step.{point_of}

-- the point where a label stands at it
abbrev pub label_here : ℕ → Instr → List ℕ
label_here point (Label l) = point ∷ []
label_here point (Const dest ty value) = []
label_here point (Act dest ty operation args funcs labels) = []

-- the points of the labels among items that begin at a point, in order
abbrev pub labels_from : ℕ → List Instr → List ℕ
labels_from point [] = []
labels_from point (item ∷ items) = label_here point item ++ labels_from (suc point) items

-- The table has the point of each label that it has an entry for.
pub record IsLabelTable (code : List Instr) (points : List ℕ) : Type 0 where
  pub at : (label : ℕ) → label < length points → slice_get points label ≡ Some (point_of label code)
