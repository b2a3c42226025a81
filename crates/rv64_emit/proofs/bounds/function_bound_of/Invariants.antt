use Rattle.std.proofs.Common.{◌≡◌, ◌+◌, take}
use Rattle.std.specs.List.{sum_by}
use Rattle.rv64_image_laws.specs.WordBounds.{word_bound}
use Rattle.rv64_emit.specs.Refusal.{capped}
use Rattle.rv64_emit.proofs.bounds.function_bound_of.Given as goal

abbrev pub invariant-loop-item : goal.invariant-loop-item
invariant-loop-item l = l.bound ≡ capped (40 + sum_by (word_bound l.locations) (take l.item-index l.item-items))
