-- What is known of a function with entries.
use Rattle.std.specs.Prelude.{◌≡◌, length, Some, slice_get}
use Rattle.bril_tree.specs.declared.numbered_function.Func.{Func}
use Rattle.bril_tree.specs.declared.program.Prog.{Prog}
use Rattle.bril_tree.specs.Labels.{IsLabelTable}
use Rattle.flow_graph.specs.Graph.{IsGraphOf}
use Rattle.trace_stitcher.specs.declared.matching.surveys.Survey.{Survey}

-- It has the graph of the function, and the points of all its labels.
pub record IsSurveyOf (F : Func) (s : Survey) : Type 0 where
  pub graph : IsGraphOf F.code s.graph
  pub table : IsLabelTable F.code s.points.items
  pub all : length s.points.items ≡ length F.labels

-- that of the function of its number
abbrev pub IsSurvey : Prog → Survey → Type 0
IsSurvey P s = (F : Func) → slice_get P.funcs s.function ≡ Some F → IsSurveyOf F s
