use Rattle.std.proofs.Common.{◌≡◌, ℕ, take}
use Rattle.trace_laws.specs.lines.Lines.{TraceNames}
use Rattle.trace_stitcher.specs.Inserted.{labels_before, lines_behind, row}
use Rattle.trace_stitcher.specs.Sources.{AreNamesIn}
use Rattle.trace_stitcher.proofs.inserted.put_all.Given as goal

abbrev pub invariant-loop-fit : goal.invariant-loop-fit
invariant-loop-fit l = record {
  count : l.number ≡ l.fit-index;
  before : (names : ℕ → TraceNames) → AreNamesIn l.function l.fits names → (i : ℕ) → row l.before i ≡ labels_before l.function.code.now l.function.number names 1 (take l.fit-index l.fits) i;
  behind : (names : ℕ → TraceNames) → AreNamesIn l.function l.fits names → (i : ℕ) → row l.behind i ≡ lines_behind l.function.code.now l.function.number names 1 (take l.fit-index l.fits) i;
}
