use Rattle.std.proofs.Common.{◌≡◌, ℕ, Bool, ◌++◌, length, map}
use Rattle.std.specs.List.{filter, range_with_len}
use Rattle.slot_code.specs.Numbering.{passes}
use Rattle.slot_code.specs.declared.item.Slot.TheVariants.{Shadow}
use Rattle.slot_code.proofs.numbering.push_shadows.Given as goal

abbrev pub invariant-loop-x : goal.invariant-loop-x
invariant-loop-x l = (test : ℕ → Bool) → l.marks ≡ map test (range_with_len 0 (length l.marks)) → l.slots ≡ l.initial.slots ++ filter (passes test) (map Shadow (range_with_len 0 l.x))
