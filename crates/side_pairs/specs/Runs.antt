-- Where a run begins, as the program has it.
use Rattle.std.specs.Prelude.{◌≡◌, ℕ, suc, ◌+◌, ◌<◌, ◌≤◌, true, List, [], ◌∷◌, Option, Some, None, IsTrue, slice_get}
use Rattle.bril_tree.specs.declared.numbered.Instr.{Instr}
use Rattle.bril_tree.specs.declared.numbered.Instr.TheVariants.{Act}
use Rattle.bril_tree.specs.declared.operation.Op.TheVariants as op
use Rattle.bril_tree.specs.Edge.{leads_away}
use Rattle.bril_tree.specs.Step.{point_of}
use Rattle.side_laws.specs.Paired as paired
use Rattle.side_laws.specs.Paired.{Within, Commits, IsRun, is_guard, item_place, labels_of_item}
use Rattle.side_pairs.specs.declared.run.Run.{Run}

abbrev pub run_of : Run → paired.Run
run_of r = record { start = r.start; size = r.size; bail = r.bail }

-- a `speculate` stands there
abbrev pub IsOpening : List Instr → ℕ → Type 0
IsOpening code k = slice_get code k ≡ Some (Act None None op.Speculate [] [] [])

-- so many items stand behind the point, and then a `commit`
pub record IsSize (code : List Instr) (k size : ℕ) : Type 0 where
  pub few : size ≤ 512
  pub within : (n : ℕ) → n < size → item_place (slice_get code (suc (k + n))) ≡ Within
  pub closes : item_place (slice_get code (suc (k + size))) ≡ Commits

abbrev pub HasSize : List Instr → ℕ → Option ℕ → Type 0
HasSize code k None = (size : ℕ) → IsSize code k size → ⊥
HasSize code k (Some size) = IsSize code k size

-- the item names no label but this one, where it is a guard
abbrev pub NamesOnly : List Instr → ℕ → ℕ → Type 0
NamesOnly code point bail = is_guard (slice_get code point) ≡ true → labels_of_item (slice_get code point) ≡ bail ∷ []

-- so do all of so many items behind the point
abbrev pub NamesAll : List Instr → ℕ → ℕ → ℕ → Type 0
NamesAll code k size bail = (n : ℕ) → n < size → NamesOnly code (suc (k + n)) bail

-- a guard among so many items behind the point has this label alone
pub record IsFirstBail (code : List Instr) (k size bail : ℕ) : Type 0 where
  pub guard : ℕ
  pub guard_in : guard < size
  pub guard_is : is_guard (slice_get code (suc (k + guard))) ≡ true
  pub names : labels_of_item (slice_get code (suc (k + guard))) ≡ bail ∷ []

-- there is a guard, and all guards name this label
pub record IsBail (code : List Instr) (k size bail : ℕ) : Type 0 where
  pub first : IsFirstBail code k size bail
  pub guards : NamesAll code k size bail

-- control leads away from the item just before the label
pub record IsAway (code : List Instr) (label : ℕ) : Type 0 where
  pub before : ℕ
  pub at : suc before ≡ point_of label code
  pub away : IsTrue (leads_away (slice_get code before))

-- this run begins at the point, or none does
abbrev pub HasRun : List Instr → ℕ → Option Run → Type 0
HasRun code k None = (r : paired.Run) → r.start ≡ k → IsRun code r → ⊥
HasRun code k (Some r) = (r.start ≡ k) × IsRun code (run_of r)
