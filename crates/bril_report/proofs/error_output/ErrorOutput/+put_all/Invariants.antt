-- The rest has a piece fewer.
use Rattle.std.proofs.Common.{length}
use Rattle.bril_report.proofs.error_output.ErrorOutput.+put_all.Given as goal

abbrev pub decreases-put_all : goal.decreases-put_all
decreases-put_all g l = length l.pieces.now
