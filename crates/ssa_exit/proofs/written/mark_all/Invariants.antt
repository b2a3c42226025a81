use Rattle.std.proofs.Common.{◌≡◌, ℕ, ◌<◌, ◌||◌, false, length, get_or, take}
use Rattle.std.specs.List.{list_any}
use Rattle.ssa_exit.specs.Unssaed.{writes_shadow}
use Rattle.ssa_exit.proofs.written.mark_all.Given as goal

-- what was marked, and what the items so far write
abbrev pub invariant-loop-item : goal.invariant-loop-item
invariant-loop-item l =
    (x : ℕ) → x < length l.initial.marks → get_or l.marks x false ≡ (get_or l.initial.marks x false || list_any (writes_shadow x) (take l.item-index l.items))
