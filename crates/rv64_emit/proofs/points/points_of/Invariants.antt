use Rattle.rv64_emit_laws.specs.Homes.{homes_of}
use Rattle.rv64_emit_laws.specs.layout.Image.{entry_at}
use Rattle.rv64_emit.specs.Placed.{all_homes}
use Rattle.rv64_emit.specs.PointLists.{ArePointsBefore}
use Rattle.rv64_emit.proofs.points.points_of.Given as goal

abbrev pub invariant-loop-number : goal.invariant-loop-number
invariant-loop-number l = ArePointsBefore (homes_of (all_homes l.homes)) (entry_at (all_homes l.homes) l.slots) l.prog l.number 0 l.points
