use Rattle.std.proofs.Common.{◌≡◌, ◌++◌, map}
use Rattle.rv64_words.specs.Encoding.{encoded}
use Rattle.rv64_emit_laws.specs.layout.Image.{joined, function_words_at, function_guards_at}
use Rattle.rv64_emit.specs.Placed.{all_homes}
use Rattle.rv64_emit.proofs.image.put_functions.Given as goal

abbrev pub invariant-loop-number : goal.invariant-loop-number
invariant-loop-number l = (l.code ≡ l.initial.code ++ map encoded (joined (function_words_at (all_homes l.homes) l.slots) l.number)) × (l.guards ≡ l.initial.guards ++ joined (function_guards_at (all_homes l.homes) l.slots) l.number)
