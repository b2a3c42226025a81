use Rattle.std.proofs.Common.{◌≡◌, map}
use Rattle.std.specs.Prelude.{string_bytes}
use Rattle.roolvist_explain.proofs.collected.Given as goal

-- the words so far are those that were given so far
abbrev pub invariant-loop-word : goal.invariant-loop-word
invariant-loop-word l = l.words ≡ map string_bytes l.yielded
