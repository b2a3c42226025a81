use Rattle.std.proofs.Common.{take}
use Rattle.std.specs.List.{All, AllPairs}
use Rattle.trace_paths.specs.Fits.{count_of}
use Rattle.trace_paths.specs.Taken.{taken}
use Rattle.trace_stitcher.specs.matching.Fitting.{FitSoFar, HasPath, IsElsewhere}
use Rattle.trace_stitcher.specs.matching.Surveys.{IsSurvey}
use Rattle.trace_stitcher.proofs.matching.fitting.fitting_entries.Given as goal

abbrev pub invariant-loop-rank : goal.invariant-loop-rank
invariant-loop-rank l = record {
  surveys : All (IsSurvey l.prog) l.surveys.items;
  fits : FitSoFar l.prog (take l.rank-index (taken count_of l.entries)) l.found.items;
  paths : All (HasPath l.prog) l.found.items;
  apart : AllPairs IsElsewhere l.found.items;
}
