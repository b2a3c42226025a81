use Rattle.std.proofs.Common.{◌≡◌, ◌++◌, map, take}
use Rattle.rv64_words.specs.Encoding.{encoded}
use Rattle.rv64_emit.proofs.sequences.put.Given as goal

abbrev pub invariant-loop-word : goal.invariant-loop-word
invariant-loop-word l = l.code ≡ l.initial.code ++ map encoded (take l.word-index l.words)
