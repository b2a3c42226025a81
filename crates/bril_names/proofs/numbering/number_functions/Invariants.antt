use Rattle.std.proofs.Common.{◌≡◌, true, length, map, take}
use Rattle.std.specs.List.{All, list_all}
use Rattle.bril_tree.specs.Numbered.{function_tree}
use Rattle.bril_names.specs.Faults.{IsSound}
use Rattle.bril_names.specs.Numbering.{are_called_below}
use Rattle.bril_names.proofs.numbering.number_functions.Given as goal

-- the functions so far, which have no fault
abbrev pub invariant-loop-k : goal.invariant-loop-k
invariant-loop-k l = record {
  trees : take l.k l.trees ≡ map (function_tree l.functions) l.funcs;
  called : list_all (are_called_below (length l.functions)) l.funcs ≡ true;
  sound : All (IsSound l.functions) (take l.k l.trees);
}
