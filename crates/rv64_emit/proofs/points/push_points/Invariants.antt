use Rattle.std.proofs.Common.{◌≡◌, ℕ}
use Rattle.rv64_emit_laws.specs.Homes.{homes_of}
use Rattle.rv64_emit.specs.Placed.{all_homes}
use Rattle.rv64_emit.specs.PointLists.{ArePointsBefore}
use Rattle.rv64_emit.specs.Tables.{table_at}
use Rattle.rv64_emit.proofs.points.push_points.Given as goal

abbrev pub invariant-loop-item : goal.invariant-loop-item
invariant-loop-item l = (entry : ℕ → ℕ → ℕ) → ((k : ℕ) → table_at l.entries k ≡ entry l.number k) → ArePointsBefore (homes_of (all_homes l.homes)) entry l.prog l.number 0 l.initial.points → ArePointsBefore (homes_of (all_homes l.homes)) entry l.prog l.number l.item l.points
