-- A program that was accepted.
use Rattle.std.specs.Prelude.{ℕ, List}
use Rattle.std.specs.List.{AllZip}
use Rattle.bril_tree.specs.Accepted.{IsAccepted}
use Rattle.bril_tree.specs.FrameWords.{AreFrameWords}
use Rattle.bril_tree.specs.Size.{IsCounted}
use Rattle.bril_tree.specs.declared.program.Prog.{Prog}

-- An accepted program, as clauses see it: the words of its frames follow from it.
pub record CheckedView : Type 0 where
  pub prog : Prog

-- what holds of an accepted program and of the sizes of its functions' frames
pub record IsChecked (prog : Prog) (sizes : List ℕ) : Type 0 where
  pub accepted : IsAccepted prog
  pub words : AllZip AreFrameWords prog.funcs sizes
  pub counted : IsCounted prog
