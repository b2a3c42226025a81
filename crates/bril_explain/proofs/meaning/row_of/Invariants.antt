-- No row so far fits.
use Rattle.std.proofs.Common.{◌≡◌, drop}
use Rattle.std.specs.Prelude.{find}
use Rattle.bril_explain.specs.Meaning.{fits}
use Rattle.bril_explain.proofs.meaning.row_of.Given as goal

abbrev pub invariant-loop-row : goal.invariant-loop-row
invariant-loop-row l = find (λ row. fits row l.line) (drop l.row-index l.rows) ≡ find (λ row. fits row l.line) l.rows
