-- A list in which one item stands in place of those that are marked: a pass's code with `nop`s for items that go.
use Rattle.std.specs.Prelude.{Bool, if◌then◌else◌, List, [], ◌∷◌}

-- items that have no mark stay
abbrev pub with_nops : {X : Type 0} → X → List Bool → List X → List X
with_nops empty [] items = items
with_nops empty (dead ∷ marks) [] = []
with_nops empty (dead ∷ marks) (item ∷ items) = (if dead then empty else item) ∷ with_nops empty marks items
