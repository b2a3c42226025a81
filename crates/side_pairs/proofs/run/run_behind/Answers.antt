use Rattle.std.proofs.Common.{sym, subst}
use Rattle.side_pairs.specs.Runs.{HasRun}
use Rattle.side_pairs.proofs.Running.{no-bail}
use Rattle.side_pairs.proofs.run.run_behind.Goals as goal

pub returns-in_err-bail : goal.returns-in_err-bail
returns-in_err-bail c = subst (HasRun c.args.code.now c.args.start) (sym c.from_residual-in_err-bail.ensures) (no-bail c.args.code.now c.args.start c.in_ok-size.size c.in_ok-size.ensures c.in_err-bail.ensures)
