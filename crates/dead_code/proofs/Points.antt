-- A deadened program by its points, with the numbers of the program that it is made of.
use Rattle.std.proofs.Common.{◌≡◌, ◌⊎◌, ℕ, true, List, Some}
use Rattle.std.specs.Prelude.{slice_get}
use Rattle.std.specs.Option.{option_map}
use Rattle.bril_tree.specs.declared.numbered.Instr.{Instr}
use Rattle.bril_tree.specs.declared.numbered_function.Func.{Func}
use Rattle.bril_tree.specs.declared.program.Prog.{Prog}
use Rattle.bril_tree.specs.Numbered.{item_tree, names_of_functions, tree_at, variable_names}
use Rattle.bril_tree.specs.Step.{code_of}
use Rattle.bril_tree.specs.Walk.{IsReached}
use Rattle.pass_edit_laws.specs.names.NamedPlan.{SameHeads}
use Rattle.dead_code.specs.Removable.{IsRemovable, is_silent}
use Rattle.dead_code.proofs.Chain.{Chain}

pub record Deadened (P Q : Prog) (made : ℕ → List Instr) : Type 0 where
  pub heads : SameHeads P Q
  -- the items of each function became `nop` one after another
  pub chain : (f : ℕ) → Chain (code_of P f) (made f)
  pub tree : (f i : ℕ) (F : Func) → slice_get P.funcs f ≡ Some F → tree_at Q f i ≡ option_map (item_tree (names_of_functions P.funcs) (variable_names F.vars) F.labels) (slice_get (made f) i)
  -- of what no walk reaches labels and `nop` alone stay
  pub stays : (f i : ℕ) (a : Instr) → slice_get (made f) i ≡ Some a → (is_silent a ≡ true) ⊎ IsReached (made f) i
  pub none : (f i : ℕ) → ¬ IsRemovable (made f) i
