-- What follows of a tree that is laid out in SSA form, and of what the pass means.
use Rattle.std.specs.Prelude.{◌≡◌, ℕ, ◌+◌, ◌*◌, ◌≤◌, All}
use Rattle.std.specs.List.{AllZip}
use Rattle.bril_names.specs.Faults.{IsSoundEdit, function_names, labels_of}
use Rattle.bril_tree.specs.declared.program.Prog.{Prog}
use Rattle.bril_tree.specs.declared.tree.Tree.{Tree}
use Rattle.bril_tree.specs.Accepted.{IsAccepted}
use Rattle.bril_tree.specs.Numbered.{tree_of, tree_size}
use Rattle.bril_tree.specs.Size.{item_count}
use Rattle.ssa_laws.specs.live_entries.LiveEntries.{AreLiveEntries}
use Rattle.pass_edit_laws.specs.numbers.Numbers.{NumbersGrow}
use Rattle.ssa_build.specs.tree.Made.{IsLaidTree}
use Rattle.ssa_form_laws.specs.form.Form.{IsSsa, IsSsaForm}
use Rattle.ssa_form_laws.specs.form.Numbers.{IsSsaBound, ssa_growth}

-- The tree that is made of an accepted program is in SSA form.
abbrev pub LaidTreesAreInForm : Type 0
LaidTreesAreInForm = (P : Prog) (tree : Tree) → IsAccepted P → IsLaidTree P tree → All IsSsaForm tree.funcs

-- It has the labels of the program, and can be numbered.
abbrev pub LaidTreesAreEdits : Type 0
LaidTreesAreEdits = (P : Prog) (tree : Tree) → IsLaidTree P tree
    → AllZip (IsSoundEdit (function_names (tree_of P))) (tree_of P).funcs tree.funcs × AllZip (λ f g. labels_of f.code ≡ labels_of g.code) (tree_of P).funcs tree.funcs

-- It has at most two items more than the program for each live entry.
abbrev pub LaidTreesAreShort : Type 0
LaidTreesAreShort = (P : Prog) (tree : Tree) (entries : ℕ) → IsAccepted P → IsLaidTree P tree → AreLiveEntries P entries → tree_size tree ≤ item_count P + 2 * entries

-- The numbers of what the pass makes grow by no more than its bound allows.
abbrev pub SsaKeepsNumbers : Type 0
SsaKeepsNumbers = (P Q : Prog) (bound : ℕ) → IsSsaBound P bound → IsSsa P Q → NumbersGrow P Q (ssa_growth bound)
