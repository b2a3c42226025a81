-- The array of a sweep tells the tables: nothing more is told just before a label.
use Rattle.std.proofs.Common.{◌≡◌, suc, ◌+◌}
use Rattle.std.specs.Prelude.{slice_get}
use Rattle.ssa_laws.specs.reaching_definitions.Tables.{else_passed}
use Rattle.ssa_laws.specs.reaching_definitions.Told.{argument, into_at, passed_by}
use Rattle.ssa_laws.proofs.lemmas.reaching_definitions.Made.{entered-same}
use Rattle.ssa_search.specs.renaming.Swept.{SweepTellsTables}

pub sweep-tells_tables : SweepTellsTables
sweep-tells_tables code args gets now = (
  (λ tells a y e. tells a y (entered-same (slice_get code 0) (argument args a) y e)),
  (λ i tells a y e. tells a y (entered-same (slice_get code (suc i)) (else_passed (gets i a) (passed_by (slice_get code i) (args + i) (into_at code args gets i) a)) y e)),
)
