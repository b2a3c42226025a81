use Rattle.std.proofs.Common.{◌≡◌, take}
use Rattle.shadow_place.specs.Marks.{first_rows}
use Rattle.shadow_place.proofs.saved.first_rows.Given as goal

-- the rows of the items so far
abbrev pub invariant-loop-item : goal.invariant-loop-item
invariant-loop-item l = l.rows.items ≡ first_rows l.variables (take l.item-index l.code)
