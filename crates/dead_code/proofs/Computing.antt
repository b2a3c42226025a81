-- What a step at a computation does.
use Rattle.std.proofs.Common.{◌≡◌, ℕ, Bool, true, List, [], ◌∷◌, length, map, Option, Some, None, refl, ap, subst, inl}
use Rattle.std.specs.Prelude.{slice_index, is_some}
use Rattle.bril_tree.specs.declared.limits.Limits.{Limits}
use Rattle.bril_tree.specs.declared.numbered.Instr.{Instr}
use Rattle.bril_tree.specs.declared.numbered.Instr.TheVariants.{Label, Const, Act}
use Rattle.bril_tree.specs.declared.numbered_function.Func.{Func}
use Rattle.bril_tree.specs.declared.operation.Op.{Op}
use Rattle.bril_tree.specs.declared.operation.Op.TheVariants as op
use Rattle.bril_tree.specs.declared.program.Prog.{Prog}
use Rattle.bril_tree.specs.declared.types.Ty.{Ty}
use Rattle.bril_tree.specs.declared.value.Value.{Value}
use Rattle.bril_tree.specs.Assigned.{assigns_of}
use Rattle.bril_tree.specs.Edge.{item_branches, onward}
use Rattle.bril_tree.specs.FunctionForm.{listed}
use Rattle.bril_tree.specs.Locals.{value_at}
use Rattle.bril_tree.specs.Membership.{In}
use Rattle.bril_tree.specs.Operand.{Location, Variable, dest_of}
use Rattle.bril_tree.specs.Outcome.{Yields, outcome_of, argument, shadow_given, undefined}
use Rattle.bril_tree.specs.Shape.{fits_shape, shape_of}
use Rattle.bril_tree.specs.Sites.{Keeps, item_change}
use Rattle.bril_tree.specs.State.{Locals, Frame}
use Rattle.bril_tree.specs.Step.{by_outcome, assigned, shadowed}
use Rattle.bril_tree.specs.Typing.{type_fault}
use Rattle.bril_tree.proofs.Outcomes.{giver-goes_on}
use Rattle.pass_edit_laws.proofs.lemmas.plan.Values.{assigned-other, shadowed-other}
use Rattle.pass_edit_laws.specs.steps.Refinement.{ChangesPlaces}
use Rattle.pass_edit_laws.proofs.lemmas.steps.Shapes.{Shaped}
use Rattle.dead_code.specs.Removable.{only_computes, is_computation}

-- it goes on to the next point, and changes only the location that it assigns
pub record Computes (P : Prog) (limits : Limits) (a : Instr) (f : Frame) : Type 0 where
  pub after_it : Locals
  pub steps : ChangesPlaces P limits a f after_it
  pub others : (x : Location) → (In x (assigns_of a) → ⊥) → value_at after_it x ≡ value_at f.locations x
  pub branches : (code : List Instr) (i : ℕ) → item_branches code i a ≡ onward i ∷ []
  pub keeps : (b : Bool) → item_change (Some a) b ≡ Keeps

unassigned : (d : Option ℕ) (v : Value) (p : Locals) (x : Location) → (In x (map Variable (listed d)) → ⊥) → value_at (assigned d v p) x ≡ value_at p x
unassigned None v p x n = refl
unassigned (Some y) v p x n = assigned-other y v p x (λ e. n (inl e))

giver : (P : Prog) (limits : Limits) (a : Instr) (f : Frame) (v : Value) → outcome_of a f.locations ≡ Yields v → Computes P limits a f
giver P limits a f v e =
    let on = giver-goes_on a f.locations v e in
    record {
      after_it = assigned (dest_of a) v f.locations;
      steps = λ older s. ap (λ o. by_outcome P limits o a f older s) e;
      others = λ x n. unassigned (dest_of a) v f.locations x (subst (λ l. In x l → ⊥) on.assigns n);
      branches = on.branches;
      keeps = on.keeps;
    }

get_value : (P : Prog) (f : Frame) (d : Option ℕ) (n fs ls : ℕ) → fits_shape (shape_of true op.Get) (is_some d) n fs ls ≡ true → (v : Value) × (shadow_given f.locations d ≡ Yields v)
get_value P f None n fs ls s = absurd cc
get_value P f (Some x) n fs ls s = (_, refl)

undef_value : (P : Prog) (F : Func) (d : Option ℕ) (ty : Option Ty) (args fns ls : List ℕ) → fits_shape (shape_of true op.Undef) (is_some d) (length args) (length fns) (length ls) ≡ true → type_fault P F (Act d ty op.Undef args fns ls) ≡ None
    → (v : Value) × (undefined ty ≡ Yields v)
undef_value P F None ty args fns ls s t = absurd cc
undef_value P F (Some x) None args fns ls s t = absurd cc
undef_value P F (Some x) (Some ty) args fns ls s t = (_, refl)

module _ (P : Prog) (limits : Limits) (k : ℕ) (f : Frame) where
  act-computes : (o : Op) (d : Option ℕ) (ty : Option Ty) (args fns ls : List ℕ) → only_computes o ≡ true → Shaped P k (Act d ty o args fns ls) → Computes P limits (Act d ty o args fns ls) f
  act-computes op.Set d ty args fns ls r s = record {
    after_it = shadowed (slice_index args 0) (argument f.locations args 1) f.locations;
    steps = λ older s. refl;
    others = λ x n. shadowed-other (slice_index args 0) (argument f.locations args 1) f.locations x (λ e. n (inl e));
    branches = λ code i. refl;
    keeps = λ b. refl;
  }
  act-computes op.Get d ty args fns ls r s = let v = get_value P f d (length args) (length fns) (length ls) s.shaped in giver P limits (Act d ty op.Get args fns ls) f v.0 v.1
  act-computes op.Undef d ty args fns ls r s = let v = undef_value P s.f d ty args fns ls s.shaped s.typed in giver P limits (Act d ty op.Undef args fns ls) f v.0 v.1
  act-computes op.Id d ty args fns ls r s = giver P limits (Act d ty op.Id args fns ls) f _ refl
  act-computes op.CharToInt d ty args fns ls r s = giver P limits (Act d ty op.CharToInt args fns ls) f _ refl
  act-computes op.Add d ty args fns ls r s = giver P limits (Act d ty op.Add args fns ls) f _ refl
  act-computes op.Sub d ty args fns ls r s = giver P limits (Act d ty op.Sub args fns ls) f _ refl
  act-computes op.Mul d ty args fns ls r s = giver P limits (Act d ty op.Mul args fns ls) f _ refl
  act-computes op.Eq d ty args fns ls r s = giver P limits (Act d ty op.Eq args fns ls) f _ refl
  act-computes op.Lt d ty args fns ls r s = giver P limits (Act d ty op.Lt args fns ls) f _ refl
  act-computes op.Gt d ty args fns ls r s = giver P limits (Act d ty op.Gt args fns ls) f _ refl
  act-computes op.Le d ty args fns ls r s = giver P limits (Act d ty op.Le args fns ls) f _ refl
  act-computes op.Ge d ty args fns ls r s = giver P limits (Act d ty op.Ge args fns ls) f _ refl
  act-computes op.Ceq d ty args fns ls r s = giver P limits (Act d ty op.Ceq args fns ls) f _ refl
  act-computes op.Clt d ty args fns ls r s = giver P limits (Act d ty op.Clt args fns ls) f _ refl
  act-computes op.Cgt d ty args fns ls r s = giver P limits (Act d ty op.Cgt args fns ls) f _ refl
  act-computes op.Cle d ty args fns ls r s = giver P limits (Act d ty op.Cle args fns ls) f _ refl
  act-computes op.Cge d ty args fns ls r s = giver P limits (Act d ty op.Cge args fns ls) f _ refl
  act-computes op.Not d ty args fns ls r s = giver P limits (Act d ty op.Not args fns ls) f _ refl
  act-computes op.And d ty args fns ls r s = giver P limits (Act d ty op.And args fns ls) f _ refl
  act-computes op.Or d ty args fns ls r s = giver P limits (Act d ty op.Or args fns ls) f _ refl
  act-computes _ d ty args fns ls r s = absurd cc

  pub computes : (a : Instr) → is_computation a ≡ true → Shaped P k a → Computes P limits a f
  computes (Label l) r s = absurd cc
  computes (Const d ty v) r s = giver P limits (Const d ty v) f _ refl
  computes (Act d ty o args fns ls) r s = act-computes o d ty args fns ls r s
