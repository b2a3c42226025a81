-- The names of what traces bring along.
use Rattle.std.specs.Prelude.{◌≡◌, ℕ, suc, ◌≤◌, Bool, true, false, List, ◌++◌, codes, Option, Some, None, slice_get}
use Rattle.std.specs.Fmt.{decimal}
use Rattle.bril_tree.specs.declared.function_tree.Item.TheVariants as item
use Rattle.bril_tree.specs.declared.numbered.Instr.{Instr}
use Rattle.bril_tree.specs.declared.numbered.Instr.TheVariants.{Label, Const, Act}
use Rattle.bril_tree.specs.declared.program.Prog.{Prog}
use Rattle.bril_tree.specs.Numbered.{names_in, tree_at}
use Rattle.bril_tree.specs.Step.{item_at}
use Rattle.pass_edit_laws.specs.labels.Fresh.{IsFresh, IsUnmarked, labels_in}
use Rattle.trace_laws.specs.lines.Lines.{TraceNames}
use Rattle.trace_paths.specs.Fits.{Fit, fit_path}

-- ---- before any `_`

-- The names of trace K, and of its `not` J.
pub record Bases : Type 0 where
  pub bail : ℕ → List ℕ
  pub stop : ℕ → List ℕ
  pub not : ℕ → ℕ → List ℕ

abbrev pub trace_name : ℕ → List ℕ
trace_name K = codes "trace" ++ decimal K

abbrev pub trace_bases : Bases
trace_bases = record {
  bail = λ K. trace_name K ++ codes ".bail";
  stop = λ K. trace_name K ++ codes ".stop";
  not = λ K J. (trace_name K ++ codes ".not") ++ decimal J;
}

-- ---- the names of a trace

abbrev pub is_label_item : Option Instr → Bool
is_label_item None = false
is_label_item (Some (Label l)) = true
is_label_item (Some (Const dest ty value)) = false
is_label_item (Some (Act dest ty operation args funcs labels)) = false

-- Each is fresh among the labels or the variables of the function, but that a path which stopped at a label jumps there. Its `not`s
-- count from 1.
pub record AreNames (bases : Bases) (P : Prog) (K : ℕ) (x : Fit) (names : TraceNames) : Type 0 where
  pub bail : IsFresh (labels_in P x.function) (bases.bail K) names.bail
  pub nots : (n : ℕ) → IsFresh (names_in (slice_get P.funcs x.function)) (bases.not K (suc n)) (names.nots n)
  pub at_label : is_label_item (item_at P x.function (fit_path P x).stop) ≡ true → tree_at P x.function (fit_path P x).stop ≡ Some (item.Label names.stop)
  pub stop : is_label_item (item_at P x.function (fit_path P x).stop) ≡ false → IsFresh (labels_in P x.function) (bases.stop K) names.stop

-- ---- names of different traces

-- The labels' names don't begin with `_`, and each is one trace's, of the 64 that a profile may have.
pub record AreBases (bases : Bases) : Type 0 where
  pub bail_plain : (K : ℕ) → IsUnmarked (bases.bail K)
  pub stop_plain : (K : ℕ) → IsUnmarked (bases.stop K)
  pub bail_once : (K L : ℕ) → K ≤ 64 → L ≤ 64 → bases.bail K ≡ bases.bail L → K ≡ L
  pub stop_once : (K L : ℕ) → K ≤ 64 → L ≤ 64 → bases.stop K ≡ bases.stop L → K ≡ L
  pub differ : (K L : ℕ) → bases.bail K ≡ bases.stop L → ⊥
