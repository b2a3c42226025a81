use Rattle.std.proofs.Common.{get_or}
use Rattle.std.proofs.lemmas.Option.{slice_get-get_or}
use Rattle.rv64_emit_laws.specs.layout.Homes.{variable_home}
use Rattle.rv64_emit.specs.Placed.{homes_in}
use Rattle.rv64_emit.proofs.PointLists.{more_homes}
use Rattle.rv64_emit.proofs.points.homes_at.Goals as goal

pub loop-variable-preserved : goal.loop-variable-preserved
loop-variable-preserved c =
    let variables = c.args.variables.now in
    let at = c.loop-variable.variable-index in
    more_homes (variable_home (homes_in c.args.homes.now)) c.args.func.now.vars variables at c.loop-variable.all c.push.new.self c.home_at.result (get_or variables at 0) (slice_get-get_or variables at 0 c.loop-variable-test.true) c.home_at.ensures
    (c.in_ok-push.ensures {u = tt}).ok c.loop-variable.invariant
