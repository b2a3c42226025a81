-- Laws of the names of operations, of the semantics, of the trees of programs, of live locations and of frames.
use Rattle.std.specs.Prelude.{◌≡◌, ◌↔◌, ℕ, ◌*◌, ◌<◌, ◌^◌, List, All, Some, length}
use Rattle.std.specs.List.{Contains}
use Rattle.simulation.specs.System.{IsSystem}
use Rattle.bril_tree.specs.declared.limits.Limits.{Limits}
use Rattle.bril_tree.specs.declared.operation.Op.{Op}
use Rattle.bril_tree.specs.declared.numbered_function.Func.{Func}
use Rattle.bril_tree.specs.declared.program.Prog.{Prog}
use Rattle.bril_tree.specs.declared.tree.Tree.{Tree}
use Rattle.bril_tree.specs.Accepted.{IsAcceptedFunction}
use Rattle.bril_tree.specs.Assigned.{assigned_of}
use Rattle.bril_tree.specs.Edge.{Branch}
use Rattle.bril_tree.specs.FrameWords.{AreFrameWords}
use Rattle.bril_tree.specs.Live.{IsLive}
use Rattle.bril_tree.specs.Numbered.{Numbered, tree_of, tree_size}
use Rattle.bril_tree.specs.Operand.{Location}
use Rattle.bril_tree.specs.Run.{program, Refines}
use Rattle.bril_tree.specs.Size.{item_count, IsCounted}
use Rattle.bril_tree.specs.Spelling.{operation_text, operation_of}
use Rattle.bril_tree.specs.Walk.{IsWalk, end_of}

-- an operation is found by its own name, and by no other
abbrev pub OperationsAreNamed : Type 0
OperationsAreNamed = (o : Op) (name : List ℕ) → (operation_of name ≡ Some o) ↔ (name ≡ operation_text o)

-- a run that ended rests, and what was printed only grows
abbrev pub RunsAreSystems : Type 0
RunsAreSystems = (p : Prog) (limits : Limits) → IsSystem (program p limits)

-- each program refines itself with the factor 1
abbrev pub RefinesItself : Type 0
RefinesItself = (p : Prog) → Refines p p 1

-- refinement composes, and the factors multiply
abbrev pub RefinesOn : Type 0
RefinesOn = (p q r : Prog) (k j : ℕ) → Refines p q k → Refines q r j → Refines p r (k * j)

-- a program is the numbering of its tree
abbrev pub ProgramsHaveTrees : Type 0
ProgramsHaveTrees = (p : Prog) → Numbered (tree_of p) p

-- and of no other
abbrev pub TreesAreOne : Type 0
TreesAreOne = (tree : Tree) (p : Prog) → Numbered tree p → tree ≡ tree_of p

-- numbering keeps how many functions and items there are
abbrev pub NumberingKeepsCounts : Type 0
NumberingKeepsCounts = (tree : Tree) (p : Prog) → Numbered tree p → (length p.funcs ≡ length tree.funcs) × (item_count p ≡ tree_size tree)

-- and each function's bound on its items
abbrev pub NumberingKeepsBounds : Type 0
NumberingKeepsBounds = (tree : Tree) (p : Prog) (n : ℕ) → Numbered tree p → All (λ f. length f.code < n) tree.funcs → All (λ f. length f.code < n) p.funcs

-- functions and items that have numbers of 32 bits have a sum of 64 bits
abbrev pub CountedHaveSize : Type 0
CountedHaveSize = (p : Prog) → IsCounted p → item_count p < 2 ^ 64

-- each walk to a point of an accepted function has assigned what is live there
abbrev pub LiveAreAssigned : Type 0
LiveAreAssigned = (p : Prog) (f : Func) → IsAcceptedFunction p f → (location : Location) (point : ℕ) → IsLive f.code location point →
    (walk : List Branch) → IsWalk f.code walk → end_of walk ≡ point → Contains (assigned_of f.code f.args walk).locations location

-- a function has one number of frame words at most
abbrev pub FrameWordsAreOne : Type 0
FrameWordsAreOne = (f : Func) (m n : ℕ) → AreFrameWords f m → AreFrameWords f n → m ≡ n
