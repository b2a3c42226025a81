use Rattle.std.proofs.Common.{◌≡◌, ◌++◌, drop}
use Rattle.coalesce.specs.Classes.{firsts_from}
use Rattle.coalesce.proofs.classes.first_variables.Given as goal

abbrev pub invariant-loop-place : goal.invariant-loop-place
invariant-loop-place l = l.keys.items ++ firsts_from l.place (drop l.place l.list) ≡ firsts_from 0 l.list
