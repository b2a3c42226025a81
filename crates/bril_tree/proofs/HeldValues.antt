-- What locations and variables hold after they were assigned.
use Rattle.std.proofs.Common.{◌≡◌, ℕ, zero, suc, ◌+◌, ◌<◌, ◌≤◌, List, [], ◌∷◌, length, Option, Some, pos, refl, sym, ap, ◌∙◌, cond, arith}
use Rattle.std.specs.Prelude.{slice_get, unwrap_or}
use Rattle.std.proofs.lemmas.Bool.{eq-eqb, ne_eqb}
use Rattle.bril_tree.specs.declared.value.Value.{Value}
use Rattle.bril_tree.specs.declared.value.Value.TheVariants.{Int}
use Rattle.bril_tree.specs.Operand.{Location, Variable, Shadow}
use Rattle.bril_tree.specs.Locals.{location_value, value_at}
use Rattle.bril_tree.specs.State.{Locals, Values, with_value}
use Rattle.bril_tree.specs.Step.{assigned, shadowed, arguments_from}

-- ---- maps of values

pub with_value-same : (values : Values) (x y : ℕ) (v : Value) → y ≡ x → with_value values x v y ≡ Some v
with_value-same values x y v e = ap (λ b. cond b (Some v) (values y)) (eq-eqb y x e)

pub with_value-other : (values : Values) (x y : ℕ) (v : Value) → (y ≡ x → ⊥) → with_value values x v y ≡ values y
with_value-other values x y v n = ap (λ b. cond b (Some v) (values y)) (ne_eqb y x n)

-- ---- locations

-- what is read of a location is what it holds, or the int 0
pub value_at-held : (locations : Locals) (a : Location) → value_at locations a ≡ unwrap_or (location_value locations a) (Int (pos 0))
value_at-held locations (Variable x) = refl
value_at-held locations (Shadow x) = refl

pub assigned-same : (x : ℕ) (v : Value) (locations : Locals) (a : Location) → a ≡ Variable x → location_value (assigned (Some x) v locations) a ≡ Some v
assigned-same x v locations (Variable y) e = with_value-same locations.vars x y v (cc)
assigned-same x v locations (Shadow y) e = absurd (cc)

pub assigned-other : (x : ℕ) (v : Value) (locations : Locals) (a : Location) → (a ≡ Variable x → ⊥) → location_value (assigned (Some x) v locations) a ≡ location_value locations a
assigned-other x v locations (Variable y) n = with_value-other locations.vars x y v (λ e. n (ap Variable e))
assigned-other x v locations (Shadow y) n = refl

pub shadowed-same : (x : ℕ) (v : Value) (locations : Locals) (a : Location) → a ≡ Shadow x → location_value (shadowed x v locations) a ≡ Some v
shadowed-same x v locations (Shadow y) e = with_value-same locations.shadows x y v (cc)
shadowed-same x v locations (Variable y) e = absurd (cc)

pub shadowed-other : (x : ℕ) (v : Value) (locations : Locals) (a : Location) → (a ≡ Shadow x → ⊥) → location_value (shadowed x v locations) a ≡ location_value locations a
shadowed-other x v locations (Shadow y) n = with_value-other locations.shadows x y v (λ e. n (ap Shadow e))
shadowed-other x v locations (Variable y) n = refl

-- the same of what is read
module _ (p q : Locals) (a b : Location) where
  pub read-alike : location_value p a ≡ location_value q b → value_at p a ≡ value_at q b
  read-alike e = value_at-held p a ∙ ap (λ (o : Option Value). unwrap_or o (Int (pos 0))) e ∙ sym (value_at-held q b)

pub read-held : (locations : Locals) (a : Location) (v : Value) → location_value locations a ≡ Some v → value_at locations a ≡ v
read-held locations a v e = value_at-held locations a ∙ ap (λ (o : Option Value). unwrap_or o (Int (pos 0))) e

-- ---- the arguments of a call

pub arguments-before : (k j : ℕ) (vs : List Value) (values : Values) → j < k → arguments_from k vs values j ≡ values j
arguments-before k j [] values less = refl
arguments-before k j (v ∷ vs) values less = arguments-before (suc k) j vs (with_value values k v) (omega arith) ∙ with_value-other values k j v (λ e. omega arith)

pub arguments-at : (k x : ℕ) (vs : List Value) (values : Values) → x < length vs → arguments_from k vs values (k + x) ≡ slice_get vs x
arguments-at k x [] values less = absurd (omega arith)
arguments-at k zero (v ∷ vs) values less =
    let same : k + zero ≡ k = omega arith in
    ap (arguments_from (suc k) vs (with_value values k v)) same ∙ arguments-before (suc k) k vs (with_value values k v) (omega arith) ∙ with_value-same values k k v refl
arguments-at k (suc x) (v ∷ vs) values less =
    let same : k + suc x ≡ suc k + x = omega arith in
    ap (arguments_from (suc k) vs (with_value values k v)) same ∙ arguments-at (suc k) x vs (with_value values k v) (omega arith)

pub arguments-past : (k : ℕ) (vs : List Value) (values : Values) (x : ℕ) → k + length vs ≤ x → arguments_from k vs values x ≡ values x
arguments-past k [] values x h = refl
arguments-past k (v ∷ vs) values x h = arguments-past (suc k) vs (with_value values k v) x (omega arith) ∙ with_value-other values k x v (λ e. omega arith)
