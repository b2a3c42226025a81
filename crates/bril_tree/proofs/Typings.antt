-- Types that are equal, and the type of a variable by its destinations.
use Rattle.std.proofs.Common.{◌≡◌, ◌⊎◌, ℕ, suc, zero, ◌<◌, ◌≤◌, Bool, true, false, List, [], ◌∷◌, length, Option, Some, None, refl, sym, ap, subst, ◌∙◌, inl, inr, ⊎_elim}
use Rattle.std.specs.Prelude.{slice_get, ◌==◌}
use Rattle.std.proofs.Props.{props}
use Rattle.std.proofs.lemmas.Bool.{and_parts, cases_lt, eqb-true, eq-eqb}
use Rattle.std.proofs.lemmas.Option.{same_Some}
use Rattle.bril_tree.specs.declared.numbered.Instr.{Instr}
use Rattle.bril_tree.specs.declared.numbered.Instr.TheVariants.{Label, Const, Act}
use Rattle.bril_tree.specs.declared.numbered.VarInfo.{VarInfo}
use Rattle.bril_tree.specs.declared.numbered_function.Func.{Func}
use Rattle.bril_tree.specs.declared.types.Base.{Base}
use Rattle.bril_tree.specs.declared.types.Base.TheVariants as base
use Rattle.bril_tree.specs.declared.types.Ty.{Ty}
use Rattle.bril_tree.specs.FunctionForm.{dest_is_typed, first_of_two, first_type, type_assigned, typed_if}
use Rattle.bril_tree.specs.Membership.{In}
use Rattle.bril_tree.specs.Operand.{dest_of}
use Rattle.bril_tree.specs.Typing.{both_typed, same_base, same_type, variable_type, wrong_unless}
use Rattle.bril_tree.proofs.Elements.{get_inside}

-- ---- no fault

pub typed-unless : (b : Bool) → wrong_unless b ≡ None → b ≡ true
typed-unless true e = refl
typed-unless false e = absurd cc

-- ---- equal types

pub same_base-is : (a b : Base) → same_base a b ≡ true → a ≡ b
same_base-is base.Int base.Int e = refl
same_base-is base.Bool base.Bool e = refl
same_base-is base.Char base.Char e = refl
same_base-is _ _ e = absurd cc

abbrev type_with : (parts : ℕ × Base) → parts.0 ≤ 32 → Ty
type_with parts n = record { depth = parts.0; base = parts.1; nests = n }

le-prop : (m n : ℕ) → IsProp (m ≤ n)
le-prop m n = hlevel props

pub same_type-is : (s t : Ty) → same_type s t ≡ true → s ≡ t
same_type-is s t e =
    let parts = and_parts _ _ e in
    let depth = eqb-true s.depth t.depth parts.0 in
    let b = same_base-is s.base t.base parts.1 in
    let e : ◌≡◌ {A = ℕ × Base} (s.depth, s.base) (t.depth, t.base) = λ i. (depth i, b i) in
    subst (λ (p : ℕ × Base). (n : p.0 ≤ 32) → s ≡ type_with p n) e (λ n. ap (type_with (s.depth, s.base)) (le-prop s.depth 32 s.nests n)) t.nests

pub both_typed-is : (t : Ty) (o : Option Ty) → both_typed same_type (Some t) o ≡ true → o ≡ Some t
both_typed-is t None e = absurd cc
both_typed-is t (Some u) e = ap Some (sym (same_type-is t u e))

-- ---- destinations

-- the type with which an item assigns its destination
abbrev pub type_of : Instr → Option Ty
type_of (Label l) = None
type_of (Const dest ty value) = Some ty
type_of (Act dest ty operation args funcs labels) = ty

test-typed : (b : Bool) (ty : Option Ty) (x y : ℕ) → (x == y) ≡ b → ((Some y ≡ Some x) × (typed_if (x == y) ty ≡ ty)) ⊎ (typed_if (x == y) ty ≡ None)
test-typed true ty x y e = inl (ap Some (sym (eqb-true x y e)), ap (λ c. typed_if c ty) e)
test-typed false ty x y e = inr (ap (λ c. typed_if c ty) e)

-- an item assigns a variable as its destination with its type, or not at all
pub type-assigned : (x : ℕ) (item : Instr) → ((dest_of item ≡ Some x) × (type_assigned x item ≡ type_of item)) ⊎ (type_assigned x item ≡ None)
type-assigned x (Label l) = inr refl
type-assigned x (Const dest ty value) = test-typed (x == dest) (Some ty) x dest refl
type-assigned x (Act None ty o args funcs labels) = inr refl
type-assigned x (Act (Some y) ty o args funcs labels) = test-typed (x == y) ty x y refl

pub type-assigned_own : (x : ℕ) (item : Instr) → dest_of item ≡ Some x → type_assigned x item ≡ type_of item
type-assigned_own x (Label l) d = refl
type-assigned_own x (Const y ty value) d = let e : y ≡ x = cc in ap (λ c. typed_if c (Some ty)) (eq-eqb x y (sym e))
type-assigned_own x (Act None ty o args funcs labels) d = absurd cc
type-assigned_own x (Act (Some y) ty o args funcs labels) d = let e : y ≡ x = cc in ap (λ c. typed_if c ty) (eq-eqb x y (sym e))

-- a destination has a type
pub some_type : (item : Instr) (x : ℕ) → dest_is_typed item ≡ true → dest_of item ≡ Some x → (t : Ty) × (type_of item ≡ Some t)
some_type (Label l) x f d = absurd cc
some_type (Const y ty value) x f d = (ty, refl)
some_type (Act None ty o args funcs labels) x f d = absurd cc
some_type (Act (Some y) None o args funcs labels) x f d = absurd cc
some_type (Act (Some y) (Some ty) o args funcs labels) x f d = (ty, refl)

-- the first type with which a variable is assigned, where there is no other
pub first_type-is : (x : ℕ) (t : Ty) (code : List Instr) → ((item : Instr) → In item code → (type_assigned x item ≡ None) ⊎ (type_assigned x item ≡ Some t)) → (item : Instr) → In item code → type_assigned x item ≡ Some t → first_type x code ≡ Some t
first_type-is x t [] all item i e = absurd i
first_type-is x t (c ∷ code) all item (inl s) e = ap (λ o. first_of_two o (first_type x code)) (ap (type_assigned x) (sym s) ∙ e)
first_type-is x t (c ∷ code) all item (inr i) e =
    let rest = first_type-is x t code (λ d j. all d (inr j)) item i e in
    ⊎_elim (λ n. ap (λ o. first_of_two o (first_type x code)) n ∙ rest) (λ n. ap (λ o. first_of_two o (first_type x code)) n) (all c (inl refl))

-- the variable is the destination of an item
pub record IsDestination (code : List Instr) (x : ℕ) : Type 0 where
  pub point : ℕ
  pub item : Instr
  pub at : slice_get code point ≡ Some item
  pub dest : dest_of item ≡ Some x

destination_or_none : (x : ℕ) (code : List Instr) → IsDestination code x ⊎ (first_type x code ≡ None)
destination_or_none x [] = inr refl
destination_or_none x (item ∷ code) = by (type-assigned x item) (destination_or_none x code)
  where
    by : ((dest_of item ≡ Some x) × (type_assigned x item ≡ type_of item)) ⊎ (type_assigned x item ≡ None) → IsDestination code x ⊎ (first_type x code ≡ None) → IsDestination (item ∷ code) x ⊎ (first_type x (item ∷ code) ≡ None)
    by (inl d) rest = inl (record { point = 0; item = item; at = refl; dest = d.0 })
    by (inr n) (inl d) = inl (record { point = suc d.point; item = d.item; at = d.at; dest = d.dest })
    by (inr n) (inr e) = inr (ap (λ o. first_of_two o (first_type x code)) n ∙ e)

pub variable-has : (vars : List VarInfo) (x : ℕ) (v : VarInfo) → slice_get vars x ≡ Some v → variable_type vars x ≡ v.ty
variable-has [] x v e = absurd (let n : None ≡ Some v = e in cc)
variable-has (w ∷ vars) zero v e = ap (λ (u : VarInfo). u.ty) (same_Some w v e)
variable-has (w ∷ vars) (suc x) v e = variable-has vars x v e

-- a variable is an argument, is a destination, or has no type
pub typed_by : (f : Func) (x : ℕ) → x < length f.vars → (x < f.args) ⊎ (IsDestination f.code x ⊎ (variable_type f.vars x ≡ None))
typed_by f x less = ⊎_elim inl past (cases_lt x f.args)
  where
    past : f.args ≤ x → (x < f.args) ⊎ (IsDestination f.code x ⊎ (variable_type f.vars x ≡ None))
    past high = ⊎_elim (λ d. inr (inl d)) (λ n. inr (inr (let v = get_inside f.vars x less in variable-has f.vars x v.0 v.1 ∙ f.formed.types x v.0 high v.1 ∙ n))) (destination_or_none x f.code)
