-- Numbers of two functions that stand for the same names.
use Rattle.std.specs.Prelude.{◌≡◌, ℕ, ◌<◌, List, [], length}
use Rattle.bril_tree.specs.declared.numbered.Instr.{Instr}
use Rattle.bril_tree.specs.declared.numbered.Instr.TheVariants.{Label, Const, Act}
use Rattle.bril_tree.specs.Numbered.{named}
use Rattle.bril_tree.specs.Operand.{Location, Variable, Shadow}

-- the arguments of an item
abbrev pub args_of : Instr → List ℕ
args_of (Label l) = []
args_of (Const d ty v) = []
args_of (Act d ty o args fns ls) = args

abbrev pub SameName : List (List ℕ) → List (List ℕ) → ℕ → ℕ → Type 0
SameName V W x y = (x < length V) × (y < length W) × (named V x ≡ named W y)

abbrev pub SameLocation : List (List ℕ) → List (List ℕ) → Location → Location → Type 0
SameLocation V W (Variable x) (Variable y) = SameName V W x y
SameLocation V W (Variable x) (Shadow y) = ⊥
SameLocation V W (Shadow x) (Variable y) = ⊥
SameLocation V W (Shadow x) (Shadow y) = SameName V W x y
