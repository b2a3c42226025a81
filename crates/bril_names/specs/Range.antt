-- Numbers that stand for something: they are below the counts of what they number.
use Rattle.std.specs.Prelude.{◌≡◌, ℕ, ◌<◌, true, List, [], ◌∷◌}
use Rattle.std.specs.List.{flat_map, list_all}
use Rattle.bril_tree.specs.declared.numbered.Instr.{Instr}
use Rattle.bril_tree.specs.FunctionForm.{variables_of, label_at, targets_of, callees_of, dest_is_typed}

abbrev pub AreBelow : ℕ → List ℕ → Type 0
AreBelow n [] = Unit {0}
AreBelow n (x ∷ xs) = (x < n) × AreBelow n xs

-- The item's numbers are below these counts, and its destination has a type or there is neither.
pub record IsInRange (funcs vars labels : ℕ) (i : Instr) : Type 0 where
  pub variables : AreBelow vars (variables_of i)
  pub callees : AreBelow funcs (callees_of i)
  pub targets : AreBelow labels (targets_of i)
  pub places : AreBelow labels (label_at i)
  pub typed : dest_is_typed i ≡ true

-- each item is in range
pub record AreInRange (funcs vars labels : ℕ) (code : List Instr) : Type 0 where
  pub variables : AreBelow vars (flat_map variables_of code)
  pub callees : AreBelow funcs (flat_map callees_of code)
  pub targets : AreBelow labels (flat_map targets_of code)
  pub places : AreBelow labels (flat_map label_at code)
  pub typed : list_all dest_is_typed code ≡ true
