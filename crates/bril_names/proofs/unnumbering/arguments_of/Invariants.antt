use Rattle.std.proofs.Common.{◌≡◌, take}
use Rattle.std.specs.List.{filter_map}
use Rattle.bril_tree.specs.Numbered.{argument_tree}
use Rattle.bril_names.proofs.unnumbering.arguments_of.Given as goal

abbrev pub invariant-loop-var : goal.invariant-loop-var
invariant-loop-var l = l.args ≡ filter_map argument_tree (take l.var-index (take l.f.args l.f.vars))
