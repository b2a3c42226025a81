-- How many different locations edges leave from to each label: what a form with copies on the edges has to pay.
use Rattle.std.specs.Prelude.{◌≡◌, ◌≢◌, ℕ, ◌≤◌, List, length, All, Option, Some, None, slice_get}
use Rattle.std.specs.List.{Contains, AllPairs}
use Rattle.bril_tree.specs.declared.edge.Edge.{Edge}
use Rattle.bril_tree.specs.declared.numbered.Instr.{Instr}
use Rattle.bril_tree.specs.declared.numbered.Instr.TheVariants.{Label}
use Rattle.bril_tree.specs.Leaving.{IsEdge}

-- So many different things are such: they are those of a list without repetition.
pub record AreSoMany {X : Type 0} (P : X → Type 0) (number : ℕ) : Type 0 where
  pub members : List X
  pub differ : AllPairs (λ x y. x ≢ y) members
  pub are : All P members
  pub all : (x : X) → P x → Contains members x
  pub count : length members ≡ number

-- From the leave point an edge goes to the label. The start of the function counts as a leave point, None, with one
-- edge, to its first item.
abbrev pub Enters : List Instr → Option ℕ → ℕ → Type 0
Enters code None label = slice_get code 0 ≡ Some (Label label)
Enters code (Some point) label = (edge : Edge) × IsEdge code edge × (edge.leave ≡ point) × (slice_get code edge.to ≡ Some (Label label))

-- the number of different pairs of a leave point and a label that an edge joins
abbrev pub IsEntryCount : List Instr → ℕ → Type 0
IsEntryCount code count = AreSoMany (λ (pair : Option ℕ × ℕ). Enters code pair.0 pair.1) count

-- the greatest number of different labels to which edges go from one leave point
pub record IsEntryWidth (code : List Instr) (width : ℕ) : Type 0 where
  pub widest : Option ℕ
  pub has : AreSoMany (Enters code widest) width
  pub most : (leave : Option ℕ) (count : ℕ) → AreSoMany (Enters code leave) count → count ≤ width
