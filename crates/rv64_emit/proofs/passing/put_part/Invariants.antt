use Rattle.std.proofs.Common.{◌≡◌, ◌++◌, map, drop}
use Rattle.rv64_words.specs.Encoding.{encoded}
use Rattle.rv64_emit.specs.PassingParts.{part_words}
use Rattle.rv64_emit.specs.Placed.{homes_in}
use Rattle.rv64_emit.proofs.passing.put_part.Given as goal

abbrev pub invariant-loop-k : goal.invariant-loop-k
invariant-loop-k l =
    l.code ++ map encoded (part_words l.part (homes_in l.homes) l.func l.function l.k (drop l.k l.args)) ≡ l.initial.code ++ map encoded (part_words l.part (homes_in l.homes) l.func l.function 0 l.args)
