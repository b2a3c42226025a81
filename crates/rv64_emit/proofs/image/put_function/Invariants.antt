use Rattle.std.proofs.Common.{◌≡◌, ◌++◌, map}
use Rattle.rv64_words.specs.Encoding.{encoded}
use Rattle.rv64_emit_laws.specs.layout.Image.{joined, item_words_at}
use Rattle.rv64_emit.specs.Placed.{all_homes}
use Rattle.rv64_emit.proofs.image.put_function.Given as goal

abbrev pub invariant-loop-point : goal.invariant-loop-point
invariant-loop-point l = l.code ≡ l.initial.code ++ map encoded (joined (item_words_at (all_homes l.homes) l.slots l.number l.func) l.point)
