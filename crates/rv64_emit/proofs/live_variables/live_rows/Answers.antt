use Rattle.std.proofs.Common.{◌≡◌, subst, arith}
use Rattle.rv64_emit.specs.LiveVariables.{AreLiveRows}
use Rattle.rv64_emit.proofs.live_variables.live_rows.Goals as goal

pub returns-clause-rows : goal.returns-clause-rows
returns-clause-rows c =
    let all : c.loop-variable.variable ≡ c.args.count = omega (arith, c.loop-variable-test.false, c.loop-variable.auto.variable-end) in
    subst (λ n. AreLiveRows c.args.live.now n c.loop-variable.rows.items) all c.loop-variable.invariant.rows
