-- What the sweep over a function's items is lent, and what is laid out by that.
use Rattle.std.specs.Prelude.{◌≡◌, ℕ, ◌+◌, ◌*◌, ◌^◌, ◌<◌, List, None, Option, is_some, length}
use Rattle.std.specs.List.{All}
use Rattle.bril_tree.specs.declared.function_tree.Item.{Item}
use Rattle.bril_tree.specs.Operand.{Location}
use Rattle.bril_tree.specs.Shape.{shape_fault_of}
use Rattle.ssa_build.specs.code.Sweep.{AreGets, IsLaidCode, IsLaidSoFar, LayoutView, before_at, item_at, layout_of, row_in}
use Rattle.ssa_build.specs.declared.code.layout.Layout.{Layout}
use Rattle.ssa_search.specs.declared.renaming.now.WantedGet.{WantedGet}

abbrev pub view_of : Layout → LayoutView
view_of l = layout_of l.func.now.vars l.names.now l.find.now l.starts.now l.list.now l.rows.now

-- the `get`s that are wanted behind a point
abbrev pub row_of : Layout → ℕ → List WantedGet
row_of l k = row_in l.starts.now l.list.now k

-- All is of one function, of less than 2^32 definitions.
pub record IsLayout (l : Layout) : Type 0 where
  pub shaped : shape_fault_of (is_some l.func.now.ret) l.func.now.code ≡ None
  pub points : length l.graph.now.sites ≡ length l.func.now.code + 1
  pub few : l.func.now.args + length l.func.now.code < 2 ^ 32
  pub locations : (k : ℕ) → All (λ get. get.location < 2 * length l.func.now.vars) (row_of l k)

-- what stands before an item, with the definitions of an array, and what stands in its place
abbrev pub before_by : Layout → List ℕ → ℕ → List Item
before_by l = before_at l.func.now l.graph.now.sites (view_of l)

abbrev pub item_by : Layout → List ℕ → ℕ → Item → Item
item_by l = item_at l.func.now l.graph.now.sites (view_of l)

-- ---- with the definitions of any `get`s that stand in the rows

abbrev pub AreGetsBy : Layout → (ℕ → Location → Option ℕ) → Type 0
AreGetsBy l = AreGets l.func.now l.graph.now.sites (view_of l)

abbrev pub IsLaidSoFarBy : Layout → (ℕ → Location → Option ℕ) → ℕ → List Item → List Item → List ℕ → Type 0
IsLaidSoFarBy l = IsLaidSoFar l.func.now l.graph.now.sites (view_of l)

abbrev pub IsLaidBy : Layout → (ℕ → Location → Option ℕ) → List Item → List Item → Type 0
IsLaidBy l = IsLaidCode l.func.now l.graph.now.sites (view_of l)
