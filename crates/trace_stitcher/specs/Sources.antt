-- What traces are made by.
use Rattle.std.specs.Prelude.{ℕ, List, Option, slice_get}
use Rattle.bril_tree.specs.declared.function_tree.Item.{Item}
use Rattle.trace_laws.specs.lines.Lines.{TraceNames}
use Rattle.trace_stitcher.specs.declared.lines.LineSource.{LineSource}
use Rattle.trace_stitcher.specs.declared.matching.fitting.Fitting.{Fitting}
use Rattle.trace_stitcher.specs.declared.traces.TracedFunction.{TracedFunction}
use Rattle.trace_stitcher.specs.Inserted.{AreNamesFor}
use Rattle.trace_stitcher.specs.Legs.{AreGuardNames}
use Rattle.trace_stitcher.specs.Stops.{AreNamesHere}

-- ---- the lines of one trace

-- the item of its function at a point
abbrev pub item_of : LineSource → ℕ → Option Item
item_of s = slice_get s.code.now

-- its names: those where its guards fail, and of its `not`s
abbrev pub AreNamesOf : LineSource → TraceNames → Type 0
AreNamesOf s = AreGuardNames s.variables.now s.number s.bail.now

-- ---- the traces of a function

-- the names of the trace of a number, whose path stops at a point
abbrev pub AreNamesAt : TracedFunction → (K at : ℕ) → TraceNames → Type 0
AreNamesAt f = AreNamesHere f.labels.now f.variables.now f.code.now

-- the names of all
abbrev pub AreNamesIn : TracedFunction → List Fitting → (ℕ → TraceNames) → Type 0
AreNamesIn f = AreNamesFor f.labels.now f.variables.now f.code.now f.number
