use Rattle.std.proofs.Common.{sym, ◌∙◌}
use Rattle.std.specs.Prelude.{IsTrue}
use Rattle.flow_graph.proofs.Told.{reach_tells}
use Rattle.rv64_words.specs.Points as stops
use Rattle.rv64_emit.proofs.points.has_point.Goals as goal

pub returns-then-is_stop : goal.returns-then-is_stop
returns-then-is_stop c = λ code is. (
    let stop : IsTrue (stops.is_stop c.args.item.now) = sym c.is_stop.ensures ∙ c.if-is_stop.true in
    let reach = reach_tells code c.args.graph.now is c.args.point c.reach.result c.reach.ensures in
    (λ h. (stop, reach.0 h), λ h. reach.1 h.1))
