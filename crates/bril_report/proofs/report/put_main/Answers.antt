-- The position is that of `main`.
use Rattle.std.proofs.Common.{◌∷◌, codes, subst}
use Rattle.bril_report.specs.Report.{position_pieces}
use Rattle.bril_report.specs.Told.{Tells}
use Rattle.bril_report.specs.declared.report.FaultPlace.{FaultPlace}
use Rattle.bril_report.proofs.report.put_main.Goals as goal

pub returns : goal.returns
returns g c =
    subst (λ (position : FaultPlace). Tells g.E.Sink.seen c.args.err.now (codes "check 7 function " ∷ position_pieces position (codes "\n")) c.put_placed.new.err)
    c.function_position.ensures c.put_placed.ensures
