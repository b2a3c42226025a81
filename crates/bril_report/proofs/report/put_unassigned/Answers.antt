-- The position is that of the item.
use Rattle.std.proofs.Common.{[], ◌∷◌, ◌++◌, codes, subst}
use Rattle.bril_report.specs.Report.{position_pieces}
use Rattle.bril_report.specs.Told.{Tells}
use Rattle.bril_report.specs.declared.report.FaultPlace.{FaultPlace}
use Rattle.bril_report.proofs.report.put_unassigned.Goals as goal

pub returns : goal.returns
returns g c =
    subst (λ (position : FaultPlace). Tells g.E.Sink.seen c.args.err.now (codes "check 3 function " ∷ (position_pieces position (codes " variable ") ++ c.args.name.now ∷ codes "\n" ∷ [])) c.put_named.new.err)
    c.item_position.ensures c.put_named.ensures
