-- A program whose paired guards have side exits, by the trees of both programs.
use Rattle.std.specs.Prelude.{◌≡◌, ℕ, zero, suc, ◌+◌, ◌==◌, List, [], ◌∷◌, ◌++◌, codes, length, Option, Some, None, slice_get, if◌then◌else◌}
use Rattle.std.specs.Fmt.{decimal}
use Rattle.std.specs.List.{sum_by}
use Rattle.bril_tree.specs.declared.function_tree.FuncTree.{FuncTree}
use Rattle.bril_tree.specs.declared.function_tree.Item.{Item}
use Rattle.bril_tree.specs.declared.numbered.Instr.{Instr}
use Rattle.bril_tree.specs.declared.program.Prog.{Prog}
use Rattle.bril_tree.specs.declared.tree.Tree.{Tree}
use Rattle.bril_tree.specs.declared.function_tree.Item.TheVariants as item
use Rattle.bril_tree.specs.Size.{item_count}
use Rattle.bril_tree.specs.Numbered.{named, tree_at, tree_of}
use Rattle.bril_tree.specs.Step.{code_of, point_of}
use Rattle.bril_names.specs.Faults.{SameHead}
use Rattle.pass_edit_laws.specs.plan.Spliced.{spliced}
use Rattle.pass_edit_laws.specs.plan.Lines.{jmp_line, listed_item}
use Rattle.pass_edit_laws.specs.labels.Fresh.{IsFresh, labels_in}
use Rattle.side_laws.specs.Paired.{Pair, ArePairs}

-- The side exit of a paired guard: where it goes when it fails, by the name of its label.
pub record SideExit : Type 0 where
  pub pair : Pair
  pub name : List ℕ

-- The J-th pair of a function has the label `sideJ`, with as few `_` in front as make it fresh.
abbrev pub AreExits : List (List ℕ) → ℕ → List Pair → List SideExit → Type 0
AreExits taken J [] exits = exits ≡ []
AreExits taken J (p ∷ pairs) [] = ⊥
AreExits taken J (p ∷ pairs) (w ∷ exits) = (w.pair ≡ p) × IsFresh taken (codes "side" ++ decimal J) w.name × AreExits taken (suc J) pairs exits

-- the exit of the guard that stands at a point
abbrev pub exit_at : List SideExit → ℕ → Option SideExit
exit_at [] i = None
exit_at (w ∷ exits) i = if w.pair.guard == i then Some w else exit_at exits i

-- a guard with another label
abbrev pub retargeted : List ℕ → Item → Item
retargeted label (item.Label name) = item.Label name
retargeted label (item.Const dest ty value) = item.Const dest ty value
retargeted label (item.Act dest operation args funcs labels) = item.Act dest operation args funcs (label ∷ [])

-- the item; a paired guard names the label of its side exit
abbrev pub retargeted_by : Option SideExit → Item → Item
retargeted_by None a = a
retargeted_by (Some w) a = retargeted w.name a

abbrev pub sided_items : List SideExit → ℕ → List Item → List Item
sided_items exits k [] = []
sided_items exits k (a ∷ items) = retargeted_by (exit_at exits k) a ∷ sided_items exits (suc k) items

-- the items at the points of a list
module _ (item_of : ℕ → Option Item) where
  abbrev pub kept_lines : List ℕ → List Item
  kept_lines [] = []
  kept_lines (i ∷ kept) = listed_item (item_of i) ++ kept_lines kept

-- Of a function with these items, and names of labels:
module _ (item_of : ℕ → Option Item) (labels : List (List ℕ)) where
  -- the kept items, and the `jmp` to the other label
  abbrev pub lines_behind : List ℕ → ℕ → List Item
  lines_behind kept other = kept_lines item_of kept ++ jmp_line (named labels other) ∷ []

  -- the same behind a label
  abbrev pub named_exit : List ℕ → List ℕ → ℕ → List Item
  named_exit label kept other = item.Label label ∷ lines_behind kept other

  abbrev pub exit_lines : SideExit → List Item
  exit_lines w = named_exit w.name w.pair.kept w.pair.other

  -- what stands just before an item: the side exits of the guards that named it, in their order
  abbrev pub exits_before : List Instr → List SideExit → ℕ → List Item
  exits_before code [] i = []
  exits_before code (w ∷ exits) i = if point_of w.pair.bail code == i then exit_lines w ++ exits_before code exits i else exits_before code exits i

-- These are the side exits of each function: one for each of its pairs.
pub record AreAllExits (P : Prog) (exits : ℕ → List SideExit) : Type 0 where
  pub pairs : ℕ → List Pair
  pub are_pairs : (f : ℕ) → ArePairs (code_of P f) (pairs f)
  pub are_exits : (f : ℕ) → AreExits (labels_in P f) 1 (pairs f) (exits f)

-- the function of this number, and what is made of it
pub record IsSidedFunction (P : Prog) (exits : List SideExit) (f : ℕ) (F G : FuncTree) : Type 0 where
  pub head : SameHead F G
  pub code : G.code ≡ spliced (exits_before (tree_at P f) (labels_in P f) (code_of P f) exits) (λ i. []) 0 (sided_items exits 0 F.code)

-- the tree has the functions of P with these exits
pub record HasSideExits (P : Prog) (exits : ℕ → List SideExit) (tree : Tree) : Type 0 where
  pub imports : tree.imports ≡ []
  pub many : length (tree_of P).funcs ≡ length tree.funcs
  pub functions : (f : ℕ) (F G : FuncTree) → slice_get (tree_of P).funcs f ≡ Some F → slice_get tree.funcs f ≡ Some G → IsSidedFunction P (exits f) f F G

-- The tree has the functions of P with a side exit for each paired guard.
pub record IsSidedTree (P : Prog) (tree : Tree) : Type 0 where
  pub exits : ℕ → List SideExit
  pub are_exits : AreAllExits P exits
  pub made : HasSideExits P exits tree

-- Q is P with a side exit for each paired guard: the guard names a fresh label, which stands before the label that it named; there its kept
-- items follow, and a `jmp` to the other label of its branch.
abbrev pub IsSided : Prog → Prog → Type 0
IsSided P Q = IsSidedTree P (tree_of Q)

-- ---- the bound

abbrev pub exit_size : SideExit → ℕ
exit_size w = length w.pair.kept + 2

abbrev pub exits_size : (ℕ → List SideExit) → ℕ → ℕ
exits_size exits zero = 0
exits_size exits (suc n) = exits_size exits n + sum_by exit_size (exits n)

abbrev pub exits_count : (ℕ → List SideExit) → ℕ → ℕ
exits_count exits zero = 0
exits_count exits (suc n) = exits_count exits n + length (exits n)

pub record IsSideBound (P : Prog) (bound : ℕ) : Type 0 where
  pub exits : ℕ → List SideExit
  pub are_exits : AreAllExits P exits
  pub is : bound ≡ item_count P + exits_size exits (length P.funcs)
