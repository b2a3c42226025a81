-- Laws of numbering.
use Rattle.std.specs.Prelude.{◌≡◌, ◌⊎◌, []}
use Rattle.std.specs.List.{AllZip}
use Rattle.bril_tree.specs.Numbered.{Numbered, tree_of}
use Rattle.bril_tree.specs.declared.program.Prog.{Prog}
use Rattle.bril_tree.specs.declared.tree.Tree.{Tree}
use Rattle.bril_names.specs.Faults.{HasFault, IsSoundEdit, function_names}
use Rattle.bril_names.specs.declared.fault.NameFault.{NameFault}

-- a tree has one numbered program at most
abbrev pub TreesHaveOneProgram : Type 0
TreesHaveOneProgram = (tree : Tree) (p q : Prog) → Numbered tree p → Numbered tree q → p ≡ q

-- a program is the numbering of one tree at most
abbrev pub ProgramsHaveOneTree : Type 0
ProgramsHaveOneTree = (t u : Tree) (p : Prog) → Numbered t p → Numbered u p → t ≡ u

-- a tree has one fault at most
abbrev pub TreesHaveOneFault : Type 0
TreesHaveOneFault = (tree : Tree) (f g : NameFault) → HasFault tree f → HasFault tree g → f ≡ g

-- a tree with a numbered program has no fault
abbrev pub NumberedHaveNoFault : Type 0
NumberedHaveNoFault = (tree : Tree) (p : Prog) (f : NameFault) → Numbered tree p → HasFault tree f → ⊥

-- a tree without imports has a numbered program or a fault
abbrev pub EachHasProgramOrFault : Type 0
EachHasProgramOrFault = (tree : Tree) → tree.imports ≡ [] → ((p : Prog) × Numbered tree p) ⊎ ((f : NameFault) × HasFault tree f)

-- a tree whose functions are sound edits of a program's has no fault
abbrev pub SoundEditsHaveNoFault : Type 0
SoundEditsHaveNoFault = (p : Prog) (tree : Tree) (f : NameFault) → AllZip (IsSoundEdit (function_names (tree_of p))) (tree_of p).funcs tree.funcs → HasFault tree f → ⊥
