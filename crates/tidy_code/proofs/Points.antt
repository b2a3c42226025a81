-- A tidied program by its points: which items are kept, and where they stand.
use Rattle.std.proofs.Common.{◌≡◌, ℕ, zero, suc, Bool, true, false, List, [], ◌∷◌, map, Some, cond}
use Rattle.std.specs.Prelude.{slice_get}
use Rattle.bril_tree.specs.declared.function_tree.Item.{Item}
use Rattle.bril_tree.specs.declared.numbered.Instr.{Instr}
use Rattle.bril_tree.specs.declared.numbered.Instr.TheVariants.{Label, Const, Act}
use Rattle.bril_tree.specs.declared.numbered_function.Func.{Func}
use Rattle.bril_tree.specs.declared.operation.Op.TheVariants as op
use Rattle.bril_tree.specs.declared.program.Prog.{Prog}
use Rattle.bril_tree.specs.Numbered.{variable_names, item_tree, names_of_functions}
use Rattle.bril_tree.specs.Step.{code_of, item_at}
use Rattle.bril_tree.specs.Walk.{IsReached}
use Rattle.pass_edit_laws.specs.names.NamedPlan.{SameHeads}

-- those items at whose number the test holds, counted from a first number
abbrev pub kept_items : {X : Type 0} → (ℕ → Bool) → ℕ → List X → List X
kept_items keep i [] = []
kept_items keep i (x ∷ xs) = cond (keep i) (x ∷ kept_items keep (suc i) xs) (kept_items keep (suc i) xs)

-- how many of so many items from a number on are kept
abbrev pub kept_count : (ℕ → Bool) → ℕ → ℕ → ℕ
kept_count keep i zero = 0
kept_count keep i (suc n) = cond (keep i) (suc (kept_count keep (suc i) n)) (kept_count keep (suc i) n)

abbrev pub IsNop : Instr → Type 0
IsNop (Label l) = ⊥
IsNop (Const d ty v) = ⊥
IsNop (Act d ty op.Nop args fns ls) = Unit {0}
IsNop (Act d ty _ args fns ls) = ⊥

abbrev pub code_tree : Prog → Func → List Item
code_tree p f = map (item_tree (names_of_functions p.funcs) (variable_names f.vars) f.labels) f.code

pub record Tidied (P : Prog) (keep : ℕ → ℕ → Bool) (Q : Prog) : Type 0 where
  pub heads : SameHeads P Q
  -- what is dropped is a nop or never reached, and neither is kept
  pub dropped : (f i : ℕ) (a : Instr) → item_at P f i ≡ Some a → keep f i ≡ false → IsReached (code_of P f) i → IsNop a
  pub kept : (f i : ℕ) (a : Instr) → item_at P f i ≡ Some a → keep f i ≡ true → IsReached (code_of P f) i × (IsNop a → ⊥)
  pub code : (f : ℕ) (F G : Func) → slice_get P.funcs f ≡ Some F → slice_get Q.funcs f ≡ Some G → code_tree Q G ≡ kept_items (keep f) 0 (code_tree P F)
