use Rattle.rv64_emit_laws.specs.layout.Homes.{variable_home}
use Rattle.rv64_emit.specs.Placed.{homes_in}
use Rattle.rv64_emit.specs.PointLists.{AreHomesFor}
use Rattle.rv64_emit.proofs.points.homes_at.Given as goal

abbrev pub invariant-loop-variable : goal.invariant-loop-variable
invariant-loop-variable l = AreHomesFor (variable_home (homes_in l.homes)) l.func.vars l.variables l.variable-index l.all
