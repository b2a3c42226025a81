-- What an item gives its destination is of the destination's type.
use Rattle.std.proofs.Common.{◌≡◌, ℕ, ◌<◌, true, false, List, [], ◌∷◌, length, map, Option, Some, None, pos, refl, sym, ap, subst, inl, arith}
use Rattle.std.specs.Prelude.{slice_index, is_some, unwrap_or}
use Rattle.std.specs.List.{Contains}
use Rattle.bril_tree.specs.declared.numbered.Instr.{Instr}
use Rattle.bril_tree.specs.declared.numbered.Instr.TheVariants.{Label, Const, Act}
use Rattle.bril_tree.specs.declared.numbered_function.Func.{Func}
use Rattle.bril_tree.specs.declared.operation.Op.{Op}
use Rattle.bril_tree.specs.declared.operation.Op.TheVariants as op
use Rattle.bril_tree.specs.declared.program.Prog.{Prog}
use Rattle.bril_tree.specs.declared.types.Base.TheVariants as base
use Rattle.bril_tree.specs.declared.types.Ty.{Ty}
use Rattle.bril_tree.specs.declared.value.Lit.{Lit}
use Rattle.bril_tree.specs.declared.value.Lit.TheVariants as literal
use Rattle.bril_tree.specs.declared.value.Value.{Value}
use Rattle.bril_tree.specs.declared.value.Value.TheVariants.{Int, Bool as Boolean, Char}
use Rattle.bril_tree.specs.Assigned.{assigns_of}
use Rattle.bril_tree.specs.Edge.{item_branches, onward}
use Rattle.bril_tree.specs.FunctionForm.{listed}
use Rattle.bril_tree.specs.Operand.{Location, Variable, Shadow, dest_of, reads_of}
use Rattle.bril_tree.specs.Outcome.{Yields, outcome_of, action_outcome, argument, shadow_given}
use Rattle.bril_tree.specs.Shape.{is_shaped, is_action_shaped}
use Rattle.bril_tree.specs.Sites.{Keeps, item_change}
use Rattle.bril_tree.specs.State.{Locals, Values, read}
use Rattle.bril_tree.specs.Typing.{variable_type, argument_type, is_dest_typed, is_literal_typed, type_fault}
use Rattle.bril_tree.specs.Value.{IsInRange, literal_value}
use Rattle.bril_tree.specs.Membership.{In}
use Rattle.bril_tree.proofs.Members.{contains_in, in_map}
use Rattle.bril_tree.specs.Literals.{IsLiteralInRange}
use Rattle.bril_tree.proofs.Elements.{in_index}
use Rattle.bril_tree.proofs.Outcomes as outcomes
use Rattle.type_soundness.proofs.Frames.{Holds}
use Rattle.type_soundness.proofs.Outcomes.{computed_typed, uses_first}
use Rattle.type_soundness.proofs.Locals.{IsTypedAct, act-typed, both-parts, counted}
use Rattle.type_soundness.proofs.Typed.{Cell, HasType, HasType-both, HasType-plain}

-- ---- items from which control goes on, and which assign their destination

pub record GoesOn (item : Instr) : Type 0 where
  pub branch : (code : List Instr) (point : ℕ) → In (onward point) (item_branches code point item)
  pub keeps : item_change (Some item) false ≡ Keeps
  pub assigns : assigns_of item ≡ map Variable (listed (dest_of item))

-- an item that gives a value
pub giver-goes_on : (item : Instr) (locations : Locals) (v : Value) → outcome_of item locations ≡ Yields v → GoesOn item
giver-goes_on item locations v e =
    let on = outcomes.giver-goes_on item locations v e in
    record { branch = λ code point. subst (In (onward point)) (sym (on.branches code point)) (inl refl); keeps = on.keeps false; assigns = on.assigns }

-- ---- what is read

some : (m n : ℕ) → m ≡ n → 0 < n → 0 < m
some m n e less = omega arith

read-is : (values : Values) (x : ℕ) (v : Value) → values x ≡ Some v → read values x ≡ v
read-is values x v e = ap (λ (o : Option Value). unwrap_or o (Int (pos 0))) e

module _ (p : Prog) (heap : List Cell) (f : Func) (locations : Locals) where
  -- each location that an item reads holds a value of its type
  abbrev pub HoldsReads : Instr → Type 0
  HoldsReads item = (location : Location) → Contains (reads_of item) location → Holds heap f locations location

  pub read-typed : (x : ℕ) → Holds heap f locations (Variable x) → HasType heap (variable_type f.vars x) (read locations.vars x)
  read-typed x h = subst (λ v. HasType heap (variable_type f.vars x) v) (sym (read-is locations.vars x h.value h.is)) h.typed

  shadow-typed : (x : ℕ) → Holds heap f locations (Shadow x) → HasType heap (variable_type f.vars x) (read locations.shadows x)
  shadow-typed x h = subst (λ v. HasType heap (variable_type f.vars x) v) (sym (read-is locations.shadows x h.value h.is)) h.typed

  -- an argument of an operation that reads its arguments
  pub argument-typed : (item : Instr) (args : List ℕ) (k : ℕ) → reads_of item ≡ map Variable args → HoldsReads item → k < length args → HasType heap (argument_type f.vars args k) (argument locations args k)
  argument-typed item args k e h less =
      let x = slice_index args k in
      read-typed x (h (Variable x) (subst (λ list. Contains list (Variable x)) (sym e) (contains_in (Variable x) (map Variable args) (in_map Variable x args (in_index args k less)))))

  -- the first argument, where an operation's outcome depends on its type
  first-typed : (o : Op) (dest : Option ℕ) (ty : Option Ty) (args funcs labels : List ℕ) → is_action_shaped (is_some f.ret) o (is_some dest) (length args) (length funcs) (length labels) ≡ true
      → HoldsReads (Act dest ty o args funcs labels) → uses_first o ≡ true → HasType heap (argument_type f.vars args 0) (argument locations args 0)
  first-typed op.Id dest ty args funcs labels shaped h u = argument-typed (Act dest ty op.Id args funcs labels) args 0 refl h (some (length args) 1 (counted p f op.Id dest args funcs labels shaped) (omega arith))
  first-typed op.PtrAdd dest ty args funcs labels shaped h u = argument-typed (Act dest ty op.PtrAdd args funcs labels) args 0 refl h (some (length args) 2 (counted p f op.PtrAdd dest args funcs labels shaped) (omega arith))
  first-typed op.CharToInt dest ty args funcs labels shaped h u = argument-typed (Act dest ty op.CharToInt args funcs labels) args 0 refl h (some (length args) 1 (counted p f op.CharToInt dest args funcs labels shaped) (omega arith))
  first-typed _ dest ty args funcs labels shaped h u = absurd (cc)

  -- ---- what is given

  shadow_given-typed : (dest : Option ℕ) (ty : Option Ty) (args funcs labels : List ℕ) (v : Value) (x : ℕ) → HoldsReads (Act dest ty op.Get args funcs labels) → shadow_given locations dest ≡ Yields v → dest ≡ Some x → HasType heap (variable_type f.vars x) v
  shadow_given-typed None ty args funcs labels v x h e d = absurd (cc)
  shadow_given-typed (Some y) ty args funcs labels v x h e d =
      let same : read locations.shadows y ≡ v = cc in
      let here : y ≡ x = cc in
      subst (λ z. HasType heap (variable_type f.vars z) v) here (subst (λ w. HasType heap (variable_type f.vars y) w) same (shadow-typed y (h (Shadow y) (contains_in (Shadow y) (Shadow y ∷ []) (inl refl)))))

  -- a value of an item's type is one of the destination's
  pub dest-typed : (dest : Option ℕ) (ty : Option Ty) (v : Value) (x : ℕ) → is_dest_typed p f dest ty ≡ true → HasType heap ty v → dest ≡ Some x → HasType heap (variable_type f.vars x) v
  dest-typed None ty v x t h d = absurd (cc)
  dest-typed (Some y) ty v x t h d =
      let same : y ≡ x = cc in
      subst (λ z. HasType heap (variable_type f.vars z) v) same (HasType-both heap ty (variable_type f.vars y) v t h)

  act-given : (o : Op) (dest : Option ℕ) (ty : Option Ty) (args funcs labels : List ℕ) (v : Value) (x : ℕ) → is_action_shaped (is_some f.ret) o (is_some dest) (length args) (length funcs) (length labels) ≡ true
      → IsTypedAct p f o dest ty args funcs → HoldsReads (Act dest ty o args funcs labels) → action_outcome o dest ty args locations ≡ Yields v → dest ≡ Some x → HasType heap (variable_type f.vars x) v
  act-given op.Get dest ty args funcs labels v x shaped t h e d = shadow_given-typed dest ty args funcs labels v x h e d
  act-given o dest ty args funcs labels v x shaped t h e d =
      dest-typed dest ty v x t.dest_typed (computed_typed heap p f o ty args funcs (argument locations args 0) (argument locations args 1) v t.operands_typed (first-typed o dest ty args funcs labels shaped h) e) d

  literal-typed : (value : Lit) (ty : Ty) → is_literal_typed value ty ≡ true → IsInRange (literal_value value) → HasType heap (Some ty) (literal_value value)
  literal-typed (literal.Int n) ty e r = HasType-plain heap base.Int (Some ty) (Int n) e r tt
  literal-typed (literal.Bool b) ty e r = HasType-plain heap base.Bool (Some ty) (Boolean b) e r tt
  literal-typed (literal.Char c) ty e r = HasType-plain heap base.Char (Some ty) (Char c) e r tt

  -- what an item gives is of its destination's type
  pub given-typed : (item : Instr) (v : Value) (x : ℕ) → is_shaped (is_some f.ret) item ≡ true → type_fault p f item ≡ None → IsLiteralInRange item → HoldsReads item → outcome_of item locations ≡ Yields v → dest_of item ≡ Some x
      → HasType heap (variable_type f.vars x) v
  given-typed (Label l) v x shaped t r h e d = absurd (cc)
  given-typed (Const dest ty value) v x shaped t r h e d =
      let both = both-parts (is_dest_typed p f (Some dest) (Some ty)) (is_literal_typed value ty) t in
      let same : literal_value value ≡ v = cc in
      subst (λ w. HasType heap (variable_type f.vars x) w) same (dest-typed (Some dest) (Some ty) (literal_value value) x both.0 (literal-typed value ty both.1 r) d)
  given-typed (Act dest ty o args funcs labels) v x shaped t r h e d =
      act-given o dest ty args funcs labels v x shaped (act-typed p f o dest ty args funcs labels shaped t) h e d
