use Rattle.std.proofs.Common.{◌≡◌, ◌++◌, map, drop}
use Rattle.rv64_words.specs.Encoding.{encoded}
use Rattle.rv64_emit_laws.specs.layout.Items.{spaced_words}
use Rattle.rv64_emit.specs.Placed.{homes_in}
use Rattle.rv64_emit.proofs.items.put_spaced.Given as goal

abbrev pub invariant-loop-arg : goal.invariant-loop-arg
invariant-loop-arg l = l.code ++ map encoded (spaced_words (homes_in l.homes) (drop l.arg-index l.args)) ≡ l.initial.code ++ map encoded (spaced_words (homes_in l.homes) l.args)
