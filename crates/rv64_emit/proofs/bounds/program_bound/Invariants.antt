use Rattle.std.proofs.Common.{◌≡◌, ◌+◌, take}
use Rattle.std.specs.List.{sum_by}
use Rattle.rv64_image_laws.specs.WordBounds.{function_bound}
use Rattle.rv64_emit.specs.Refusal.{capped}
use Rattle.rv64_emit.proofs.bounds.program_bound.Given as goal

abbrev pub invariant-loop-number : goal.invariant-loop-number
invariant-loop-number l = l.bound ≡ capped (32 + sum_by function_bound (take l.number l.func-items))
