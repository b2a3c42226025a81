-- A program with the traces of a profile's fitting entries, by the trees of both programs.
use Rattle.std.specs.Prelude.{◌≡◌, ℕ, suc, ◌&&◌, not, ◌==◌, Bool, List, [], ◌∷◌, length, Option, Some, None, slice_get, if◌then◌else◌}
use Rattle.bril_names.specs.Faults.{SameHead}
use Rattle.bril_profile.specs.declared.profile.Entry.{Entry}
use Rattle.bril_profile.specs.declared.profile.Profile.{Profile}
use Rattle.bril_tree.specs.declared.function_tree.FuncTree.{FuncTree}
use Rattle.bril_tree.specs.declared.function_tree.Item.{Item}
use Rattle.bril_tree.specs.declared.function_tree.Item.TheVariants as item
use Rattle.bril_tree.specs.declared.program.Prog.{Prog}
use Rattle.bril_tree.specs.declared.tree.Tree.{Tree}
use Rattle.bril_tree.specs.declared.types.Ty.{Ty}
use Rattle.bril_tree.specs.Numbered.{tree_at, tree_of}
use Rattle.bril_tree.specs.Step.{code_of, item_at}
use Rattle.pass_edit_laws.specs.plan.Spliced.{spliced}
use Rattle.trace_laws.specs.lines.Lines.{TraceNames, bool_type, trace_lines}
use Rattle.trace_laws.specs.lines.Names.{AreNames, Bases, is_label_item, trace_bases}
use Rattle.trace_paths.specs.Fits.{Fit, FitsAre, count_of, fit_path}
use Rattle.trace_paths.specs.Path.{path_of}
use Rattle.trace_paths.specs.Taken.{taken}

-- ---- the entries that are laid

-- an entry that fits, with the names of its trace
pub record Laying : Type 0 where
  pub fit : Fit
  pub names : TraceNames

-- those of these entries, with traces from number K on
abbrev pub AreLaid : Bases → Prog → ℕ → List Fit → List Laying → Type 0
AreLaid bases P K [] laid = laid ≡ []
AreLaid bases P K (x ∷ fits) [] = ⊥
AreLaid bases P K (x ∷ fits) (y ∷ laid) = (y.fit ≡ x) × AreNames bases P K x y.names × AreLaid bases P (suc K) fits laid

-- ---- before an item

-- a label of the trace's own is put before the item, since its path stopped there and it is no label itself
abbrev pub stops_before : Prog → Laying → ℕ → ℕ → Bool
stops_before P x f i = (x.fit.function == f) && (((fit_path P x.fit).stop == i) && not (is_label_item (item_at P f i)))

-- those labels, in the order of the traces
abbrev pub stop_lines : Prog → List Laying → ℕ → ℕ → List Item
stop_lines P [] f i = []
stop_lines P (x ∷ laid) f i = if stops_before P x f i then item.Label x.names.stop ∷ stop_lines P laid f i else stop_lines P laid f i

-- ---- behind an item

-- the choices and the names of a trace
pub record Trace : Type 0 where
  pub choices : List Bool
  pub names : TraceNames

abbrev pub trace_of : Laying → Trace
trace_of x = record { choices = x.fit.choices; names = x.names }

-- the trace of the label at a point
abbrev pub trace_at : List Laying → ℕ → ℕ → Option Trace
trace_at [] f i = None
trace_at (x ∷ laid) f i = if (x.fit.function == f) && (x.fit.point == i) then Some (trace_of x) else trace_at laid f i

abbrev pub lines_behind : Prog → Ty → ℕ → ℕ → Option Trace → List Item
lines_behind P bool f i None = []
lines_behind P bool f i (Some t) = trace_lines bool (tree_at P f) t.names (path_of (code_of P f) i t.choices).legs

-- ---- functions and programs

-- the function of this number, and what is made of it
pub record IsTracedFunction (P : Prog) (bool : Ty) (laid : List Laying) (f : ℕ) (F G : FuncTree) : Type 0 where
  pub head : SameHead F G
  pub code : G.code ≡ spliced (stop_lines P laid f) (λ i. lines_behind P bool f i (trace_at laid f i)) 0 F.code

-- the first functions of the program, and what is made of them
abbrev pub AreTraced : Prog → Ty → List Laying → List FuncTree → Type 0
AreTraced P bool laid funcs = (f : ℕ) (F G : FuncTree) → slice_get (tree_of P).funcs f ≡ Some F → slice_get funcs f ≡ Some G → IsTracedFunction P bool laid f F G

-- The tree has the functions of P with these traces. All else is as in P, in its order.
pub record IsLaidTree (P : Prog) (bool : Ty) (laid : List Laying) (tree : Tree) : Type 0 where
  pub imports : tree.imports ≡ []
  pub many : length (tree_of P).funcs ≡ length tree.funcs
  pub functions : AreTraced P bool laid tree.funcs

-- The same for those of these entries that fit, in their order.
pub record IsLaid (bases : Bases) (P : Prog) (bool : Ty) (entries : List Entry) (tree : Tree) : Type 0 where
  pub fits : List Fit
  pub laid : List Laying
  pub are_fits : FitsAre P [] entries fits
  pub are_laid : AreLaid bases P 1 fits laid
  pub spliced_so : IsLaidTree P bool laid tree

-- The pass makes this tree of the program by the profile. It takes the entries by falling count, equal counts in their order.
abbrev pub IsTracedTree : Prog → Profile → Tree → Type 0
IsTracedTree P profile tree = IsLaid trace_bases P bool_type (taken count_of profile.entries) tree

-- Q is P with the traces of the profile's entries
abbrev pub IsTraced : Prog → Profile → Prog → Type 0
IsTraced P profile Q = IsTracedTree P profile (tree_of Q)
