-- What is made of an accepted program is in SSA form.
use Rattle.bril_tree.specs.declared.program.Prog.{Prog}
use Rattle.bril_tree.specs.declared.tree.Tree.{Tree}
use Rattle.bril_tree.specs.Accepted.{IsAccepted}
use Rattle.bril_tree.specs.Numbered.{Numbered}
use Rattle.ssa_form_laws.specs.form.Form.{IsSsa}
use Rattle.ssa_build.specs.tree.Made.{IsLaidTree}

-- The program of the tree is in SSA form, with the heads and labels of the first. Beside `get`s and `set`s it has as many items as the
-- first has in all; what no walk reaches is a label or a `nop`; and its numbers grow by no more than the bound allows.
abbrev pub LaidTreesAreSsa : Type 0
LaidTreesAreSsa = (P Q : Prog) (tree : Tree) → IsAccepted P → IsLaidTree P tree → Numbered tree Q → IsSsa P Q
