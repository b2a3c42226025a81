-- Where a trace goes on.
use Rattle.std.specs.Prelude.{◌≡◌, ℕ, suc, List, Option, Some, None, slice_get}
use Rattle.bril_tree.specs.declared.function_tree.Item.{Item}
use Rattle.bril_tree.specs.declared.function_tree.Item.TheVariants as item
use Rattle.trace_laws.specs.lines.Lines.{TraceNames}
use Rattle.trace_laws.specs.lines.Names.{trace_bases}
use Rattle.pass_edit_laws.specs.labels.Fresh.{IsFresh}

-- the label where a path stops before this item: the item itself, or a fresh one
abbrev pub IsStop : List (List ℕ) → ℕ → Option Item → List ℕ → Type 0
IsStop labels K None stop = IsFresh labels (trace_bases.stop K) stop
IsStop labels K (Some (item.Label label)) stop = stop ≡ label
IsStop labels K (Some (item.Const dest ty value)) stop = IsFresh labels (trace_bases.stop K) stop
IsStop labels K (Some (item.Act dest op args funcs labels')) stop = IsFresh labels (trace_bases.stop K) stop

-- that label, where it has to be put before the item
abbrev pub put_stop : Option Item → List ℕ → Option (List ℕ)
put_stop None stop = Some stop
put_stop (Some (item.Label label)) stop = None
put_stop (Some (item.Const dest ty value)) stop = Some stop
put_stop (Some (item.Act dest op args funcs labels)) stop = Some stop

-- The names of trace K of a function of these items, whose path stops at a point, by the function's names.
pub record AreNamesHere (labels variables : List (List ℕ)) (code : List Item) (K at : ℕ) (names : TraceNames) : Type 0 where
  pub bail : IsFresh labels (trace_bases.bail K) names.bail
  pub nots : (n : ℕ) → IsFresh variables (trace_bases.not K (suc n)) (names.nots n)
  pub stop : IsStop labels K (slice_get code at) names.stop
