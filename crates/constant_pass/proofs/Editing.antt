-- What the pass does to an item by its tree is what it does by its numbers.
use Rattle.std.proofs.Common.{◌≡◌, ℕ, ◌+◌, suc, Bool, true, false, List, [], ◌∷◌, ◌++◌, length, map, Option, Some, None, refl, sym, ap, subst, ◌∙◌, arith}
use Rattle.bril_tree.specs.declared.function_tree.Item.{Item}
use Rattle.bril_tree.specs.declared.numbered.Instr.{Instr}
use Rattle.bril_tree.specs.declared.numbered.Instr.TheVariants.{Act}
use Rattle.bril_tree.specs.declared.operation.Op.{Op}
use Rattle.bril_tree.specs.declared.operation.Op.TheVariants as op
use Rattle.bril_tree.specs.declared.types.Ty.{Ty}
use Rattle.bril_tree.specs.declared.value.Lit.{Lit}
use Rattle.bril_tree.specs.Numbered.{item_tree}
use Rattle.std.specs.Prelude.{slice_get}
use Rattle.bril_tree.specs.declared.function_tree.FuncTree.{FuncTree}
use Rattle.bril_tree.specs.declared.numbered_function.Func.{Func}
use Rattle.bril_tree.specs.declared.program.Prog.{Prog}
use Rattle.bril_tree.specs.Numbered.{function_tree, names_of_functions, variable_names}
use Rattle.constant_pass.specs.constants.Answer.{Knowledge, answer}
use Rattle.constant_pass.specs.constants.Ways.{item_condition}
use Rattle.constant_pass.specs.constants.Consistent.{Table}
use Rattle.constant_pass.specs.Edit.{IsMade, AreMade, IsMadeByTable, constant_tree, nop_tree}
use Rattle.constant_pass.specs.Items.{condition, constant_or, folded_item, jump_or, literal_of, nop_or}
use Rattle.constant_pass.specs.Folded.{IsFoldedFunction, folded_from}

module _ (fs V L : List (List ℕ)) where
  pub constant-by : (l : Option Lit) (d : Option ℕ) (ty : Option Ty) (o : Op) (args gs ls : List ℕ) → constant_tree l (item_tree fs V L (Act d ty o args gs ls)) ≡ item_tree fs V L (constant_or l d ty (Act d ty o args gs ls))
  constant-by None d ty o args gs ls = refl
  constant-by (Some l) None ty o args gs ls = refl
  constant-by (Some l) (Some x) None o args gs ls = refl
  constant-by (Some l) (Some x) (Some ty) o args gs ls = refl

  pub nop-by : (b : Option Bool) (a : Instr) → nop_tree b (item_tree fs V L a) ≡ item_tree fs V L (nop_or b a)
  nop-by None a = refl
  nop-by (Some true) a = refl
  nop-by (Some false) a = refl

-- ---- the item by its operation

module _ (k : Knowledge) (a : Instr) (d : Option ℕ) (ty : Option Ty) (o : Op) (args gs ls : List ℕ) (is : a ≡ Act d ty o args gs ls) where
  pub folds-br : o ≡ op.Br → folded_item k a ≡ jump_or (condition (item_condition k a)) ls a
  folds-br e =
      let same : a ≡ Act d ty op.Br args gs ls = is ∙ ap (λ z. Act d ty z args gs ls) e in
      ap (folded_item k) same ∙ ap (λ z. jump_or (condition (item_condition k z)) ls z) (sym same)

  pub folds-guard : o ≡ op.Guard → folded_item k a ≡ nop_or (condition (item_condition k a)) a
  folds-guard e =
      let same : a ≡ Act d ty op.Guard args gs ls = is ∙ ap (λ z. Act d ty z args gs ls) e in
      ap (folded_item k) same ∙ ap (λ z. nop_or (condition (item_condition k z)) z) (sym same)

  by_other : (z : Op) → (z ≡ op.Br → ⊥) → (z ≡ op.Guard → ⊥) → folded_item k (Act d ty z args gs ls) ≡ constant_or (literal_of (answer k (Act d ty z args gs ls))) d ty (Act d ty z args gs ls)
  by_other op.Br n m = absurd (n refl)
  by_other op.Guard n m = absurd (m refl)
  by_other z n m = refl

  pub folds-other : (o ≡ op.Br → ⊥) → (o ≡ op.Guard → ⊥) → folded_item k a ≡ constant_or (literal_of (answer k a)) d ty a
  folds-other n m = ap (folded_item k) is ∙ by_other o n m ∙ sym (ap (λ z. constant_or (literal_of (answer k z)) d ty z) is)

-- ---- the loop

module _ (F : Func) (t : Table) where
  pub made-more : (p : ℕ) (items made : List Item) (i m : Item) → AreMade F t p items made → IsMade F t (p + length items) i m → AreMade F t p (items ++ i ∷ []) (made ++ m ∷ [])
  made-more p [] [] i m h one = ((λ fs a at e. let z : p + 0 ≡ p = omega arith in one' z fs a at e), tt)
    where
      one' : p + 0 ≡ p → IsMade F t p i m
      one' z = subst (λ n. IsMade F t n i m) z one
  made-more p [] (x ∷ made) i m h one = absurd h
  made-more p (x ∷ items) [] i m h one = absurd h
  made-more p (x ∷ items) (y ∷ made) i m h one = (h.0, made-more (suc p) items made i m h.1 (let z : p + suc (length items) ≡ suc p + length items = omega arith in subst (λ n. IsMade F t n i m) z one))

  made-all : (fs : List (List ℕ)) (p : ℕ) (code : List Instr) (made : List Item) → ((k : ℕ) → slice_get F.code (p + k) ≡ slice_get code k) → AreMade F t p (map (item_tree fs (variable_names F.vars) F.labels) code) made → made ≡ map (item_tree fs (variable_names F.vars) F.labels) (folded_from t p code)
  made-all fs p [] [] same h = refl
  made-all fs p [] (m ∷ made) same h = absurd h
  made-all fs p (a ∷ code) [] same h = absurd h
  made-all fs p (a ∷ code) (m ∷ made) same h =
      let z : p + 0 ≡ p = omega arith in
      let one = h.0 fs a (ap (slice_get F.code) (sym z) ∙ same 0) refl in
      let rest = made-all fs (suc p) code made (λ k. let z : suc p + k ≡ p + suc k = omega arith in ap (slice_get F.code) z ∙ same (suc k)) h.1 in
      λ i. one i ∷ rest i

-- the function that the loop gives
pub made-function : (P : Prog) (F : Func) (function g : FuncTree) → function ≡ function_tree (names_of_functions P.funcs) F → IsMadeByTable F function g → IsFoldedFunction P F g
made-function P F function g same m =
    let fs = names_of_functions P.funcs in
    let code : g.code ≡ map (item_tree fs (variable_names F.vars) F.labels) (folded_from m.table 0 F.code) =
    made-all F m.table fs 0 F.code g.code (λ k. let z : 0 + k ≡ k = omega arith in ap (slice_get F.code) z) (subst (λ (f : FuncTree). AreMade F m.table 0 f.code g.code) same m.by_table.code) in
    record { table = m.table; least = m.least; tree = m.by_table.head ∙ (λ i. record (same i) { code = code i }) }
