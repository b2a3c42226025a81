use Rattle.std.proofs.Common.{◌≡◌, length, sym, ◌∙◌, ap}
use Rattle.std.specs.Prelude.{IsSome}
use Rattle.flow_graph.proofs.Told.{reach_tells}
use Rattle.bril_checker.proofs.walks.falls_off_end.Goals as goal

pub returns-then-is_some : goal.returns-then-is_some
returns-then-is_some c =
    let f = c.args.func.now in
    let gives : IsSome f.ret = sym c.is_some.ensures ∙ c.if-is_some.true in
    let points = c.requires.graph.points in
    let end : length c.as_slice.result.now ≡ length f.code = ap length c.as_slice.ensures in
    let reach = reach_tells f.code c.args.graph.now c.requires.graph (length f.code) c.reach.result (rw end at c.reach.ensures) in
    (λ h. (gives, reach.0 h), λ h. reach.1 h.1)
