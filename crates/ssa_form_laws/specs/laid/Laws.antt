-- What follows of a tree in SSA form: its tables are those of laid code, so the program of the tree does what its program did, and is
-- accepted.
use Rattle.std.specs.Prelude.{ℕ, ◌+◌, ◌*◌}
use Rattle.bril_tree.specs.declared.program.Prog.{Prog}
use Rattle.bril_tree.specs.declared.tree.Tree.{Tree}
use Rattle.bril_tree.specs.Accepted.{IsAccepted}
use Rattle.bril_tree.specs.Numbered.{Numbered}
use Rattle.bril_tree.specs.Run.{Refines}
use Rattle.program_numbers.specs.ProgramNumbers.{IsGreatestWidth, most_locations}
use Rattle.ssa_laws.specs.layout.Laid.{Laid}
use Rattle.ssa_build.specs.tree.Made.{IsLaidTree}
use Rattle.ssa_form_laws.specs.laid.Tables.{gets, names, sets, tables}

-- The tables of a tree of an accepted program in SSA form are those by which its code is laid out. Before an item stand a `get` and a
-- `set` at most for each location, and a `set` of each location for each label that is entered from there.
abbrev pub LaidTreesAreLaid : Type 0
LaidTreesAreLaid = (P Q : Prog) (tree : Tree) → IsAccepted P → (t : IsLaidTree P tree) → Numbered tree Q → (width : ℕ) → IsGreatestWidth P width
    → Laid P Q (tables P tree t) (names P tree t) (gets P tree t) (sets P tree t) (2 * most_locations P * (width + 1))

-- So the program of the tree does what its program did.
abbrev pub LaidTreesRefine : Type 0
LaidTreesRefine = (P Q : Prog) (tree : Tree) → IsAccepted P → IsLaidTree P tree → Numbered tree Q → (width : ℕ) → IsGreatestWidth P width → Refines P Q (1 + 2 * most_locations P * (width + 1))

-- And it is accepted.
abbrev pub LaidTreesAreAccepted : Type 0
LaidTreesAreAccepted = (P Q : Prog) (tree : Tree) → IsAccepted P → IsLaidTree P tree → Numbered tree Q → IsAccepted Q
