use Rattle.std.proofs.Common.{◌≡◌, map, take}
use Rattle.bril_tree.specs.Numbered.{variable_names, item_tree}
use Rattle.bril_names.proofs.unnumbering.items.items_of.Given as goal

abbrev pub invariant-loop-item : goal.invariant-loop-item
invariant-loop-item l = l.code ≡ map (item_tree (map (λ g. g.name) l.funcs) (variable_names l.f.vars) l.f.labels) (take l.item-index l.f.code)
