-- The points of an image: the words at which its program's items begin.
use Rattle.std.specs.Prelude.{◌≡◌, ℕ, ◌*◌, ◌<◌, Bool, true, false, length, None, Some, slice_get}
use Rattle.bril_tree.specs.declared.numbered.Instr.{Instr}
use Rattle.bril_tree.specs.declared.numbered.Instr.TheVariants.{Label, Const, Act}
use Rattle.bril_tree.specs.declared.operation.Op.{Op}
use Rattle.bril_tree.specs.declared.operation.Op.TheVariants as op
use Rattle.bril_tree.specs.declared.program.Prog.{Prog}
use Rattle.bril_tree.specs.Step.{item_at}
use Rattle.rv64_words.specs.declared.image.Image.{Image}
use Rattle.rv64_words.specs.declared.points.PointAt.{PointAt}
use Rattle.rv64_words.specs.declared.points.Points.{Points}
use Rattle.rv64_words.specs.State.{State}

-- ---- the items that have points

-- A monitor stops at each item other than a label and a `nop`.
abbrev pub is_stop_operation : Op → Bool
is_stop_operation op.Nop = false
is_stop_operation _ = true

abbrev pub is_stop : Instr → Bool
is_stop (Label l) = false
is_stop (Const dest ty value) = true
is_stop (Act dest ty operation args funcs labels) = is_stop_operation operation

-- an item of the program is such a one
pub record IsStopAt (p : Prog) (f i : ℕ) : Type 0 where
  pub item : Instr
  pub is_item : item_at p f i ≡ Some item
  pub stops : is_stop item ≡ true

-- ---- points

-- No word has two points, and each is inside the image.
pub record ArePointsIn (image : Image) (points : Points) : Type 0 where
  pub inside : (k : ℕ) (at : PointAt) → slice_get points.points k ≡ Some at → at.word < length image.words
  pub once : (j k : ℕ) (a b : PointAt) → slice_get points.points j ≡ Some a → slice_get points.points k ≡ Some b → a.word ≡ b.word → j ≡ k

-- The machine runs, and is before the word of this point. A machine that has stopped keeps its pc.
pub record IsAtPoint (points : Points) (t : State) (at : PointAt) : Type 0 where
  pub place : ℕ
  pub is : slice_get points.points place ≡ Some at
  pub running : t.stopped ≡ None
  pub at_word : t.pc ≡ 4 * at.word
