-- Marks of the variables whose shadows items name.
use Rattle.std.specs.Prelude.{◌≡◌, ◌⊎◌, ℕ, ◌<◌, Bool, true, List, length}
use Rattle.std.specs.List.{Contains}
use Rattle.bril_tree.specs.declared.numbered.Instr.{Instr}
use Rattle.graph_search.specs.Marks.{is_marked}
use Rattle.variable_renaming.specs.Apart.{shadows_of}

-- the variable whose shadow the item names has a mark now, as far as there is one for it, and no other one has got any
pub record MarksShadow (item : Instr) (old new : List Bool) : Type 0 where
  pub long : length new ≡ length old
  pub kept : (x : ℕ) → is_marked old x ≡ true → is_marked new x ≡ true
  pub only : (x : ℕ) → is_marked new x ≡ true → (is_marked old x ≡ true) ⊎ Contains (shadows_of item) x
  pub all : (x : ℕ) → Contains (shadows_of item) x → x < length old → is_marked new x ≡ true
