use Rattle.std.proofs.Common.{◌≡◌, ℕ, length, take}
use Rattle.std.specs.Prelude.{slice_get}
use Rattle.side_laws.specs.Sided.{exits_before}
use Rattle.side_traces.specs.Rows.{row}
use Rattle.side_traces.proofs.rows.exit_rows.Given as goal

abbrev pub invariant-loop-place : goal.invariant-loop-place
invariant-loop-place l = record {
  long : length l.rows.items ≡ length l.code;
  rows : (i : ℕ) → row l.rows.items i ≡ exits_before (slice_get l.code) l.func.labels l.func.code (take l.place l.exits) i;
}
