-- The names of one trace.
use Rattle.std.proofs.Common.{◌≡◌, ℕ, List, Option, Some, None, sym, subst, ◌∙◌}
use Rattle.std.specs.Prelude.{slice_get}
use Rattle.bril_tree.specs.declared.function_tree.Item.{Item}
use Rattle.bril_tree.specs.declared.function_tree.Item.TheVariants as item
use Rattle.trace_laws.specs.lines.Lines.{TraceNames}
use Rattle.trace_laws.specs.lines.Names.{trace_bases}
use Rattle.pass_edit_laws.specs.labels.Fresh.{IsFresh}
use Rattle.pass_edit_laws.proofs.lemmas.labels.Fresh.{fresh-one}
use Rattle.trace_stitcher.specs.Legs.{AreGuardNames}
use Rattle.trace_stitcher.specs.Stops.{AreNamesHere, IsStop}

-- there is one label at which it goes on
pub stop-one : (labels : List (List ℕ)) (K : ℕ) (o : Option Item) (x y : List ℕ) → IsStop labels K o x → IsStop labels K o y → x ≡ y
stop-one labels K None x y a b = fresh-one labels (trace_bases.stop K) x y a b
stop-one labels K (Some (item.Label l)) x y a b = a ∙ sym b
stop-one labels K (Some (item.Const d ty v)) x y a b = fresh-one labels (trace_bases.stop K) x y a b
stop-one labels K (Some (item.Act d o args fns ls)) x y a b = fresh-one labels (trace_bases.stop K) x y a b

module _ (labels variables : List (List ℕ)) (code : List Item) (K at : ℕ) (names : TraceNames) (are : AreNamesHere labels variables code K at names) where
  pub guard-names : (base bail : List ℕ) → base ≡ trace_bases.bail K → IsFresh labels base bail → AreGuardNames variables K bail names
  guard-names base bail is fresh = record { bail = fresh-one labels (trace_bases.bail K) names.bail bail are.bail (subst (λ b. IsFresh labels b bail) is fresh); nots = are.nots }

  pub stop-name : (stop : List ℕ) → IsStop labels K (slice_get code at) stop → names.stop ≡ stop
  stop-name stop is = stop-one labels K (slice_get code at) names.stop stop are.stop is
