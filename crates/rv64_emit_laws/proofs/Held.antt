-- An item of an accepted program finds what it needs.
use Rattle.std.proofs.Common.{◌≡◌, ℕ, zero, suc, ◌+◌, ◌<◌, Bool, true, false, ◌&&◌, eqb, List, [], ◌∷◌, map, Option, Some, None, refl, sym, ap, ◌∙◌, subst, arith, cond, inl, inr}
use Rattle.std.specs.List.{AllByRecursion}
use Rattle.std.proofs.lemmas.Bool.{and_parts, eqb-true}
use Rattle.std.proofs.lemmas.Bool.Decides.{nat_tests}
use Rattle.bril_tree.specs.declared.numbered.VarInfo.{VarInfo}
use Rattle.bril_tree.specs.declared.types.Base.{Base}
use Rattle.bril_tree.specs.declared.types.Base.TheVariants as base
use Rattle.bril_tree.specs.declared.types.Ty.{Ty}
use Rattle.bril_tree.specs.declared.value.Lit.{Lit}
use Rattle.bril_tree.specs.declared.value.Lit.TheVariants as literal
use Rattle.bril_tree.specs.declared.value.Value.{Value}
use Rattle.bril_tree.specs.declared.value.Value.TheVariants.{Int, Bool as Boolean, Char, Ptr}
use Rattle.bril_tree.specs.Outcome.{block_of}
use Rattle.bril_tree.specs.Run.{Suits}
use Rattle.bril_tree.specs.State.{Locals}
use Rattle.bril_tree.specs.Typing.{variable_type, if_typed, both_typed, points_to, is_plain, is_pointer, print_fault, same_base, PrintsPointer}
use Rattle.bril_tree.specs.Value.{IsInRange, IsOfBase, IsOfDepth, IsPointer, zero_at, literal_value}
use Rattle.bril_tree.specs.Membership.{In}
use Rattle.bril_tree.proofs.Typings.{same_base-is}
use Rattle.slot_code.specs.declared.item.Slot.TheVariants as slot
use Rattle.slot_code.specs.Lowered.{kind_of, printed_as}
use Rattle.rv64_emit_laws.proofs.Ready.{HoldsInt, HoldsBool, HoldsChar, HoldsPointer, HoldsValue, HoldsKind}

-- ---- values of a type

suits_plain : (b : Base) (t : Option Ty) (v : Value) → if_typed (is_plain b) t ≡ true → Suits v t → IsInRange v × IsOfBase b v
suits_plain b None v e h = absurd h
suits_plain b (Some ty) v e h =
    let parts = and_parts (eqb ty.depth 0) _ e in
    let depth = eqb-true ty.depth 0 parts.0 in
    let same = same_base-is b ty.base parts.1 in
    (h.0, subst (λ c. IsOfBase c v) (sym same) (subst (λ d. IsOfDepth d ty.base v) depth h.1))

deep_pointer : (d : ℕ) (b : Base) (v : Value) → 0 < d → IsOfDepth d b v → IsPointer v
deep_pointer zero b v less h = absurd (omega arith)
deep_pointer (suc d) b v less h = h

suits_pointer : (t : Option Ty) (v : Value) → if_typed is_pointer t ≡ true → Suits v t → IsInRange v × IsPointer v
suits_pointer None v e h = absurd h
suits_pointer (Some ty) v e h = (h.0, deep_pointer ty.depth ty.base v (grind (arith, nat_tests)) h.1)

pub points_is_pointer : (s t : Option Ty) → both_typed points_to s t ≡ true → if_typed is_pointer s ≡ true
points_is_pointer None t e = absurd cc
points_is_pointer (Some s) None e = absurd cc
points_is_pointer (Some s) (Some t) e =
    let depth = eqb-true s.depth (t.depth + 1) (and_parts (eqb s.depth (t.depth + 1)) _ e).0 in
    grind (arith, nat_tests)

pub zero_found : (depth : ℕ) (b : Base) → IsInRange (zero_at depth b) × (block_of (zero_at depth b) ≡ 0)
zero_found zero base.Int = (record { sfits = omega arith }, refl)
zero_found zero base.Bool = (tt, refl)
zero_found zero base.Char = (refl, refl)
zero_found (suc depth) b = ((omega arith, record { sfits = omega arith }), refl)

pub literal_block : (value : Lit) → block_of (literal_value value) ≡ 0
literal_block (literal.Int n) = refl
literal_block (literal.Bool b) = refl
literal_block (literal.Char c) = refl

-- ---- what variables hold

-- a variable holds a value of its type
pub record Held (vars : List VarInfo) (locations : Locals) (x : ℕ) : Type 0 where
  pub value : Value
  pub is : locations.vars x ≡ Some value
  pub suits : Suits value (variable_type vars x)

int_held : (locations : Locals) (x : ℕ) (v : Value) → locations.vars x ≡ Some v → IsInRange v × IsOfBase base.Int v → HoldsInt locations x
int_held locations x (Int n) e h = record { number = n; is = e; fits = h.0 }
int_held locations x (Boolean b) e h = absurd h.1
int_held locations x (Char c) e h = absurd h.1
int_held locations x (Ptr block offset) e h = absurd h.1

bool_held : (locations : Locals) (x : ℕ) (v : Value) → locations.vars x ≡ Some v → IsInRange v × IsOfBase base.Bool v → HoldsBool locations x
bool_held locations x (Int n) e h = absurd h.1
bool_held locations x (Boolean b) e h = record { truth = b; is = e }
bool_held locations x (Char c) e h = absurd h.1
bool_held locations x (Ptr block offset) e h = absurd h.1

char_held : (locations : Locals) (x : ℕ) (v : Value) → locations.vars x ≡ Some v → IsInRange v × IsOfBase base.Char v → HoldsChar locations x
char_held locations x (Int n) e h = absurd h.1
char_held locations x (Boolean b) e h = absurd h.1
char_held locations x (Char c) e h = record { number = c; is = e; scalar = h.0 }
char_held locations x (Ptr block offset) e h = absurd h.1

pointer_held : (locations : Locals) (x : ℕ) (v : Value) → locations.vars x ≡ Some v → IsInRange v × IsPointer v → HoldsPointer locations x
pointer_held locations x (Int n) e h = absurd h.1
pointer_held locations x (Boolean b) e h = absurd h.1
pointer_held locations x (Char c) e h = absurd h.1
pointer_held locations x (Ptr block offset) e h = record { block = block; offset = offset; is = e; small = h.0.0; fits = h.0.1 }

kind_held : (b : Base) (locations : Locals) (x : ℕ) (v : Value) → locations.vars x ≡ Some v → IsInRange v × IsOfBase b v → HoldsKind locations b x
kind_held base.Int locations x v e h = int_held locations x v e h
kind_held base.Bool locations x v e h = bool_held locations x v e h
kind_held base.Char locations x v e h = char_held locations x v e h

same_own : (b : Base) → same_base b b ≡ true
same_own base.Int = refl
same_own base.Bool = refl
same_own base.Char = refl

module _ (vars : List VarInfo) (locations : Locals) where
  pub plain : (b : Base) (x : ℕ) → if_typed (is_plain b) (variable_type vars x) ≡ true → Held vars locations x → HoldsKind locations b x
  plain b x e h = kind_held b locations x h.value h.is (suits_plain b (variable_type vars x) h.value e h.suits)

  pub pointer : (x : ℕ) → if_typed is_pointer (variable_type vars x) ≡ true → Held vars locations x → HoldsPointer locations x
  pointer x e h = pointer_held locations x h.value h.is (suits_pointer (variable_type vars x) h.value e h.suits)

  pub value : (x : ℕ) → Held vars locations x → HoldsValue locations (slot.Variable x)
  value x h = record { value = h.value; is = h.is }

  pub values : (args : List ℕ) → ((x : ℕ) → In x args → Held vars locations x) → AllByRecursion (λ a. HoldsValue locations (slot.Variable a)) args
  values [] h = tt
  values (x ∷ args) h = (value x (h x (inl refl)), values args (λ y i. h y (inr i)))

  -- what a `print` is given
  shown : (x : ℕ) (t : Option Ty) (rest : List (Option Ty)) → variable_type vars x ≡ t → print_fault (t ∷ rest) ≡ None → Held vars locations x → HoldsKind locations (kind_of t) x × (print_fault rest ≡ None)
  shown x None rest e fault h = absurd cc
  shown x (Some ty) rest e fault h = by_test (is_pointer ty) refl
    where
      by_test : (b : Bool) → is_pointer ty ≡ b → HoldsKind locations ty.base x × (print_fault rest ≡ None)
      by_test true p = absurd (clash (ap (λ b. cond b (Some PrintsPointer) (print_fault rest)) (sym p) ∙ fault))
        where
          clash : Some PrintsPointer ≡ None → ⊥
          clash c = cc
      by_test false p =
          let flat : eqb ty.depth 0 ≡ true = grind (arith, nat_tests) in
          let test : is_plain ty.base ty ≡ true = ap (λ b. b && same_base ty.base ty.base) flat ∙ same_own ty.base in
          (kind_held ty.base locations x h.value h.is (suits_plain ty.base (Some ty) h.value test (subst (Suits h.value) e h.suits)), ap (λ b. cond b (Some PrintsPointer) (print_fault rest)) (sym p) ∙ fault)

  pub prints : (args : List ℕ) → print_fault (map (variable_type vars) args) ≡ None → ((x : ℕ) → In x args → Held vars locations x) → AllByRecursion (λ a. HoldsKind locations a.kind a.variable) (map (printed_as vars) args)
  prints [] e h = tt
  prints (x ∷ args) e h =
      let first = shown x (variable_type vars x) (map (variable_type vars) args) refl e (h x (inl refl)) in
      (first.0, prints args first.1 (λ y i. h y (inr i)))
