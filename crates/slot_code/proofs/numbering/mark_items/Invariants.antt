use Rattle.std.proofs.Common.{◌≡◌, ℕ, ◌<◌, ◌||◌, false, length, get_or, take}
use Rattle.std.specs.List.{list_any}
use Rattle.slot_code.specs.Numbering.{uses_shadow}
use Rattle.slot_code.proofs.numbering.mark_items.Given as goal

-- what was marked, and what the items so far use
abbrev pub invariant-loop-item : goal.invariant-loop-item
invariant-loop-item l =
    (x : ℕ) → x < length l.initial.marks → get_or l.marks x false ≡ (get_or l.initial.marks x false || list_any (uses_shadow x) (take l.item-index l.items))
