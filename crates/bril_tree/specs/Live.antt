-- Live locations: live variables in the textbook sense (Aho, Lam, Sethi and Ullman, "Compilers", 9.2.5), by paths, with
-- aborts that leave from their `speculate`.
use Rattle.std.specs.Prelude.{◌≡◌, ℕ, List, Some, slice_get}
use Rattle.std.specs.List.{Contains}
use Rattle.bril_tree.specs.declared.numbered.Instr.{Instr}
use Rattle.bril_tree.specs.Assigned.{assigns_at}
use Rattle.bril_tree.specs.Edge.{Branch}
use Rattle.bril_tree.specs.Leaving.{Leaves}
use Rattle.bril_tree.specs.Operand.{Location, reads_of}

-- From the point one can go, by branches from where they leave, to an item that reads the location, with no item
-- before it that assigns it. At a point that no walk leads to it goes by the branches from there other than aborts.
pub data IsLive (code : List Instr) (location : Location) : ℕ → Type 0 where
  Here : (point : ℕ) (item : Instr) → slice_get code point ≡ Some item → Contains (reads_of item) location → IsLive code location point
  Later : (point : ℕ) (branch : Branch) → Leaves code point branch → ¬ Contains (assigns_at (slice_get code point)) location → IsLive code location branch.to → IsLive code location point
