-- What is made of a function and of a program: code that is laid out by the tables of its definitions.
use Rattle.std.specs.Prelude.{◌≡◌, ℕ, ◌+◌, List, [], length, slice_index}
use Rattle.std.specs.List.{AllZip}
use Rattle.bril_tree.specs.declared.function_tree.FuncTree.{FuncTree}
use Rattle.bril_tree.specs.declared.function_tree.Item.{Item}
use Rattle.bril_tree.specs.declared.numbered_function.Func.{Func}
use Rattle.bril_tree.specs.declared.program.Prog.{Prog}
use Rattle.bril_tree.specs.declared.tree.Tree.{Tree}
use Rattle.bril_tree.specs.Numbered.{function_tree, names_of_functions}
use Rattle.flow_graph.specs.Graph.{GraphView, IsGraphOf}
use Rattle.ssa_build.specs.code.Names.{AreNames, variables_written}
use Rattle.ssa_build.specs.code.Rows.{AreRows}
use Rattle.ssa_build.specs.code.Sweep.{AreGets, IsLaidCode, layout_of}
use Rattle.ssa_search.specs.gets.Wants.{AreWantsOf, WantsView, gets_of}
use Rattle.ssa_build.specs.operands.Operands.{base_of}
use Rattle.ssa_build.specs.sources.Sources.{AreRepresentatives}

-- The second tree is that of the function, which has the first one, in SSA form: its wanted `get`s but for the trivial ones stand behind
-- their labels, and `set`s where edges leave for these.
pub record IsLaidFunction (F : Func) (function g : FuncTree) : Type 0 where
  pub graph : GraphView
  pub is_graph : IsGraphOf F.code graph
  -- the wanted `get`s, and which of them stay
  pub wants : WantsView
  pub are_wants : AreWantsOf F wants
  pub find : List ℕ
  pub long : length find ≡ base_of F.code F.args + length wants.list
  pub solved : AreRepresentatives F.code F.args (gets_of wants) (length find) (λ d. slice_index find d)
  -- names of definitions, and where edges leave
  pub names : List (List ℕ)
  pub are_names : AreNames F.vars F.args (variables_written F.code wants.list) names
  pub rows : List (List ℕ)
  pub are_rows : AreRows F.code graph.edges rows
  -- the code
  pub are_gets : AreGets F graph.sites (layout_of F.vars names find wants.starts wants.list rows) (gets_of wants)
  pub made : List Item
  pub laid : IsLaidCode F graph.sites (layout_of F.vars names find wants.starts wants.list rows) (gets_of wants) function.code made
  pub tree : g ≡ record function { code = made }

-- each function of the program is laid out
pub record IsLaidTree (P : Prog) (tree : Tree) : Type 0 where
  pub imports : tree.imports ≡ []
  pub functions : AllZip (λ F g. IsLaidFunction F (function_tree (names_of_functions P.funcs) F) g) P.funcs tree.funcs
