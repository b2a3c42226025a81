-- The tables of a tree in SSA form: which definition each location has at each point, the names of definitions, and the `get`s and `set`s
-- that stand before each item.
use Rattle.std.specs.Prelude.{ℕ, zero, suc, ◌-◌, Bool, List, [], ◌∷◌, ◌++◌, map, Option, None, slice_index, slice_index_or, if◌then◌else◌}
use Rattle.std.specs.List.{AllZip, flat_map}
use Rattle.bril_tree.specs.declared.function_tree.FuncTree.{FuncTree}
use Rattle.bril_tree.specs.declared.numbered_function.Func.{Func}
use Rattle.bril_tree.specs.declared.program.Prog.{Prog}
use Rattle.bril_tree.specs.declared.tree.Tree.{Tree}
use Rattle.bril_tree.specs.Numbered.{function_tree, names_of_functions, variable_names}
use Rattle.ssa_build.specs.code.Items.{standing}
use Rattle.ssa_build.specs.code.Names.{variables_written}
use Rattle.ssa_build.specs.code.Sweep.{LayoutView, falls_at, kept_at, layout_of, now_at}
use Rattle.ssa_search.specs.gets.Wants.{gets_of}
use Rattle.ssa_laws.specs.layout.Laid.{Setting}
use Rattle.ssa_build.specs.fresh_names.Names.{definition_name}
use Rattle.ssa_search.specs.declared.renaming.now.WantedGet.{WantedGet}
use Rattle.ssa_laws.specs.reaching_definitions.Tables.{Tables, resolve}
use Rattle.ssa_laws.specs.reaching_definitions.Told.{table_of}
use Rattle.ssa_build.specs.tree.Made.{IsLaidFunction, IsLaidTree}

-- all that is told of one function
pub record FunctionTables : Type 0 where
  pub table : Tables
  pub name : ℕ → List ℕ
  pub gets : ℕ → List ℕ
  pub sets : ℕ → List Setting

-- what is told of a function that isn't there: no location has a definition
abbrev pub no_tables : FunctionTables
no_tables = record {
  table = record { into = λ i a. None; gets = λ i a. None; writes = λ i. i };
  name = λ y. definition_name [] 0 0 (λ z. 0) y;
  gets = λ i. [];
  sets = λ i. [];
}

-- ---- `get`s and `set`s, by what the code is laid out by

-- the definitions of the `get`s that stay behind the label before an item
abbrev pub gets_by : LayoutView → ℕ → List ℕ
gets_by l zero = []
gets_by l (suc i) = map (λ get. get.definition) (kept_at l i)

-- a `get` is set from what stands for the definition that its location has in an array
abbrev pub setting_of : List ℕ → List ℕ → WantedGet → Setting
setting_of find now get = record { get = get.definition; from = standing find now get.location }

-- those of a label's `get`s that stay
abbrev pub settings_to : LayoutView → List ℕ → ℕ → List Setting
settings_to l now k = map (setting_of l.find now) (kept_at l k)

-- those of the item, where that is a label which is entered from the item before it, or where the function starts
abbrev pub settings_falling : LayoutView → List ℕ → Bool → ℕ → List Setting
settings_falling l now falls i = if falls then settings_to l now i else []

-- those of the labels to which edges leave from it
abbrev pub settings_leaving : LayoutView → List ℕ → List ℕ → List Setting
settings_leaving l now row = flat_map (settings_to l now) row

-- the `set`s before an item, with the arrays of all points
abbrev pub sets_by : Func → List (Option (List ℕ)) → LayoutView → List (List ℕ) → ℕ → List Setting
sets_by F sites l nows i = settings_falling l (now_at nows i) (falls_at F.code sites i) i ++ settings_leaving l (now_at nows i) (slice_index_or l.rows i [])

-- ---- a function

module _ (F : Func) (function g : FuncTree) (x : IsLaidFunction F function g) where
  -- what its code is laid out by
  abbrev pub view_of : LayoutView
  view_of = layout_of F.vars x.names x.find x.wants.starts x.wants.list x.rows

  -- what stands for a definition
  abbrev pub find_of : ℕ → ℕ
  find_of d = slice_index x.find d

  -- the variable that a definition other than an argument is one of
  abbrev pub variable_of : ℕ → ℕ
  variable_of y = slice_index (variables_written F.code x.wants.list) (y - F.args)

  -- the name of a definition
  abbrev pub name_by : ℕ → List ℕ
  name_by y = definition_name (variable_names F.vars) F.args x.are_names.front variable_of y

  -- the tables without the trivial `get`s
  abbrev pub resolved_table : Tables
  resolved_table = resolve (table_of F.code F.args (gets_of x.wants)) find_of

  abbrev pub function_tables : FunctionTables
  function_tables = record {
    table = resolved_table;
    name = name_by;
    gets = λ i. gets_by view_of i;
    sets = λ i. sets_by F x.graph.sites view_of x.laid.nows i;
  }

-- ---- a program

-- the tables of the function of a number, among some functions and what is made of them
abbrev pub tables_among : (names : List (List ℕ)) (funcs : List Func) (trees : List FuncTree) → AllZip (λ F g. IsLaidFunction F (function_tree names F) g) funcs trees → ℕ → FunctionTables
tables_among names [] trees laid f = no_tables
tables_among names (F ∷ funcs) [] laid f = no_tables
tables_among names (F ∷ funcs) (g ∷ trees) laid zero = function_tables F (function_tree names F) g laid.0
tables_among names (F ∷ funcs) (g ∷ trees) laid (suc f) = tables_among names funcs trees laid.1 f

module _ (P : Prog) (tree : Tree) (t : IsLaidTree P tree) where
  abbrev pub tables_at : ℕ → FunctionTables
  tables_at f = tables_among (names_of_functions P.funcs) P.funcs tree.funcs t.functions f

  -- the tables of its functions, as laid code takes them
  abbrev pub tables : ℕ → Tables
  tables f = (tables_at f).table

  abbrev pub names : ℕ → ℕ → List ℕ
  names f = (tables_at f).name

  abbrev pub gets : ℕ → ℕ → List ℕ
  gets f = (tables_at f).gets

  abbrev pub sets : ℕ → ℕ → List Setting
  sets f = (tables_at f).sets
