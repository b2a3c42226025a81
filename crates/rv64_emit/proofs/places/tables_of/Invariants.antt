use Rattle.std.proofs.Common.{◌≡◌, map}
use Rattle.std.specs.List.{range_with_len}
use Rattle.rv64_emit_laws.specs.layout.Image.{start_at}
use Rattle.rv64_emit.specs.Placed.{all_homes}
use Rattle.rv64_emit.specs.Tables.{entry_table}
use Rattle.rv64_emit.proofs.places.tables_of.Given as goal

abbrev pub invariant-loop-number : goal.invariant-loop-number
invariant-loop-number l = record {
  starts : l.starts ≡ map (start_at (all_homes l.homes) l.slots) (range_with_len 0 l.number);
  entries : l.entries ≡ map (entry_table (all_homes l.homes) l.slots) (range_with_len 0 l.number);
  at : l.at ≡ start_at (all_homes l.homes) l.slots l.number;
}
