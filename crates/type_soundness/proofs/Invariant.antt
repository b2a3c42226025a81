-- What each step of an accepted program keeps.
use Rattle.std.proofs.Common.{◌≡◌, ℕ, List, [], ◌∷◌, Option, Some}
use Rattle.std.specs.Prelude.{slice_get, slice_index}
use Rattle.bril_tree.specs.declared.numbered.Instr.TheVariants.{Act}
use Rattle.bril_tree.specs.declared.numbered_function.Func.{Func}
use Rattle.bril_tree.specs.declared.operation.Op.TheVariants as op
use Rattle.bril_tree.specs.declared.program.Prog.{Prog}
use Rattle.bril_tree.specs.declared.types.Ty.{Ty}
use Rattle.bril_tree.specs.State.{Frame, Block, State}
use Rattle.type_soundness.proofs.Blocks.{Remembers}
use Rattle.type_soundness.proofs.Frames.{Sits, Sits-more}
use Rattle.type_soundness.proofs.Typed.{Cell, Extends}

-- A frame that waits stands at a call of the function of the frame above it.
pub record Waits (p : Prog) (heap : List Cell) (above : ℕ) (frame : Frame) : Type 0 where
  pub function : Func
  pub sits : Sits p heap function frame
  pub dest : Option ℕ
  pub ty : Option Ty
  pub args : List ℕ
  pub funcs : List ℕ
  pub labels : List ℕ
  pub at : slice_get function.code frame.point ≡ Some (Act dest ty op.Call args funcs labels)
  pub callee : slice_index funcs 0 ≡ above

-- so does each of the older frames
abbrev pub Stack : Prog → List Cell → ℕ → List Frame → Type 0
Stack p heap above [] = Unit {0}
Stack p heap above (frame ∷ older) = Waits p heap above frame × Stack p heap frame.function older

-- Blocks and frames hold values of their types.
pub record Stands (p : Prog) (blocks : List Block) (frame : Frame) (older : List Frame) : Type 0 where
  pub heap : List Cell
  pub memory : Remembers heap blocks
  pub function : Func
  pub sits : Sits p heap function frame
  pub stack : Stack p heap frame.function older

-- the state has a newest frame, and stands so
pub record Runs (p : Prog) (s : State) : Type 0 where
  pub frame : Frame
  pub older : List Frame
  pub frames : s.frames ≡ frame ∷ older
  pub stands : Stands p s.blocks frame older

Waits-more : (p : Prog) (heap more : List Cell) (above : ℕ) (frame : Frame) → Extends heap more → Waits p heap above frame → Waits p more above frame
Waits-more p heap more above frame x w = record {
  function = w.function;
  sits = Sits-more p heap more w.function frame x w.sits;
  dest = w.dest;
  ty = w.ty;
  args = w.args;
  funcs = w.funcs;
  labels = w.labels;
  at = w.at;
  callee = w.callee;
}

pub Stack-more : (p : Prog) (heap more : List Cell) (above : ℕ) (older : List Frame) → Extends heap more → Stack p heap above older → Stack p more above older
Stack-more p heap more above [] x h = tt
Stack-more p heap more above (frame ∷ older) x h = (Waits-more p heap more above frame x h.0, Stack-more p heap more frame.function older x h.1)
