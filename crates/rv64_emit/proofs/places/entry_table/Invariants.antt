use Rattle.std.proofs.Common.{◌≡◌, map}
use Rattle.std.specs.List.{range_with_len}
use Rattle.rv64_emit_laws.specs.layout.Image.{entry_at}
use Rattle.rv64_emit.specs.Placed.{all_homes}
use Rattle.rv64_emit.proofs.places.entry_table.Given as goal

abbrev pub invariant-loop-point : goal.invariant-loop-point
invariant-loop-point l = (l.entries ≡ map (entry_at (all_homes l.homes) l.slots l.number) (range_with_len 0 l.point)) × (l.at ≡ entry_at (all_homes l.homes) l.slots l.number l.point)
