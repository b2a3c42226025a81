-- Each location that an item of an accepted function reads has a type.
use Rattle.std.proofs.Common.{◌≡◌, ℕ, zero, suc, ◌<◌, Bool, true, false, ◌&&◌, List, [], ◌∷◌, length, map, Option, Some, None, refl, sym, ap, subst, inl, inr, arith, cond}
use Rattle.std.specs.Prelude.{slice_index, is_some}
use Rattle.std.specs.List.{Contains}
use Rattle.std.proofs.lemmas.Bool.{and_parts, not-true}
use Rattle.bril_tree.specs.declared.numbered.Instr.{Instr}
use Rattle.bril_tree.specs.declared.numbered.Instr.TheVariants.{Label, Const, Act}
use Rattle.bril_tree.specs.declared.numbered.VarInfo.{VarInfo}
use Rattle.bril_tree.specs.declared.numbered_function.Func.{Func}
use Rattle.bril_tree.specs.declared.operation.Op.{Op}
use Rattle.bril_tree.specs.declared.operation.Op.TheVariants as op
use Rattle.bril_tree.specs.declared.program.Prog.{Prog}
use Rattle.bril_tree.specs.declared.types.Base.{Base}
use Rattle.bril_tree.specs.declared.types.Base.TheVariants as base
use Rattle.bril_tree.specs.declared.types.Ty.{Ty}
use Rattle.bril_tree.specs.Operand.{Location, Variable, Shadow, reads_of, locations_read, ReadsArguments, reading_of, shadow_of}
use Rattle.bril_tree.specs.Shape.{shape_of, fits_shape, is_action_shaped, is_shaped}
use Rattle.bril_tree.specs.Typing.{is_action_typed, is_dest_typed, argument_type, variable_type, if_typed, is_pointer, points_to, unary, binary, both_typed, same_type, are_typed, print_fault, action_type_fault, type_fault, wrong_unless, is_set_typed, is_return_typed, PrintsPointer}
use Rattle.bril_tree.specs.Membership.{In}
use Rattle.bril_tree.proofs.Members.{in_contains, in_map_source, contains_one}
use Rattle.bril_tree.specs.Locals.{location_type}
use Rattle.bril_tree.proofs.Shapes.{shape-parts, no_dest}
use Rattle.bril_tree.proofs.Typings.{typed-unless}

-- ---- that there is a type

abbrev pub IsThere : Option Ty → Type 0
IsThere t = (ty : Ty) × (t ≡ Some ty)

pub if_typed-there : (is : Ty → Bool) (t : Option Ty) → if_typed is t ≡ true → IsThere t
if_typed-there is None e = absurd (cc)
if_typed-there is (Some ty) e = (ty, refl)

pub both_typed-left : (go : Ty → Ty → Bool) (s t : Option Ty) → both_typed go s t ≡ true → IsThere s
both_typed-left go None t e = absurd (cc)
both_typed-left go (Some s) t e = (s, refl)

pub both_typed-right : (go : Ty → Ty → Bool) (s t : Option Ty) → both_typed go s t ≡ true → IsThere t
both_typed-right go None t e = absurd (cc)
both_typed-right go (Some s) None e = absurd (cc)
both_typed-right go (Some s) (Some t) e = (t, refl)

set-there : (s t : Option Ty) → is_set_typed s t ≡ true → IsThere t
set-there s None e = absurd (cc)
set-there s (Some t) e = (t, refl)

-- ---- the parts of a type fault

-- the destination and the operands are of the types of their row
pub record IsTypedAct (p : Prog) (f : Func) (o : Op) (dest : Option ℕ) (ty : Option Ty) (args funcs : List ℕ) : Type 0 where
  pub dest_typed : is_dest_typed p f dest ty ≡ true
  pub operands_typed : is_action_typed p f o ty args funcs ≡ true

pub both-parts : (a b : Bool) → wrong_unless (a && b) ≡ None → (a ≡ true) × (b ≡ true)
both-parts a b e = and_parts a b (typed-unless (a && b) e)

module _ (p : Prog) (f : Func) where
  act-by : (o : Op) (dest : Option ℕ) (ty : Option Ty) (args funcs : List ℕ) → wrong_unless (is_dest_typed p f dest ty && is_action_typed p f o ty args funcs) ≡ None → IsTypedAct p f o dest ty args funcs
  act-by o dest ty args funcs e = let both = both-parts _ _ e in record { dest_typed = both.0; operands_typed = both.1 }

  pub act-typed : (o : Op) (dest : Option ℕ) (ty : Option Ty) (args funcs labels : List ℕ) → is_action_shaped (is_some f.ret) o (is_some dest) (length args) (length funcs) (length labels) ≡ true
      → action_type_fault p f o dest ty args funcs ≡ None → IsTypedAct p f o dest ty args funcs
  act-typed op.Print dest ty args funcs labels shaped e =
      let none = no_dest dest (not-true _ (and_parts _ _ (and_parts _ _ shaped).0).0) in
      record { dest_typed = ap (λ d. is_dest_typed p f d ty) none; operands_typed = refl }
  act-typed o dest ty args funcs labels shaped e = act-by o dest ty args funcs e

-- ---- the arguments

-- each argument has a type
abbrev pub AllThere : List VarInfo → List ℕ → Type 0
AllThere vars args = (k : ℕ) → k < length args → IsThere (argument_type vars args k)

none-there : (vars : List VarInfo) (args : List ℕ) → length args ≡ 0 → AllThere vars args
none-there vars args e k less = absurd (omega arith)

one-there : (vars : List VarInfo) (args : List ℕ) → length args ≡ 1 → IsThere (argument_type vars args 0) → AllThere vars args
one-there vars args e first zero less = first
one-there vars args e first (suc k) less = absurd (omega arith)

two-there : (vars : List VarInfo) (args : List ℕ) → length args ≡ 2 → IsThere (argument_type vars args 0) → IsThere (argument_type vars args 1) → AllThere vars args
two-there vars args e first second zero less = first
two-there vars args e first second (suc zero) less = second
two-there vars args e first second (suc (suc k)) less = absurd (omega arith)

-- what a `print` is given has types
record PrintsThere (t : Option Ty) (ts : List (Option Ty)) : Type 0 where
  pub first : IsThere t
  pub others : print_fault ts ≡ None

print-test : (pointer : Bool) (t : Ty) (ts : List (Option Ty)) → cond pointer (Some PrintsPointer) (print_fault ts) ≡ None → PrintsThere (Some t) ts
print-test true t ts e = absurd (cc)
print-test false t ts e = record { first = (t, refl); others = e }

print-parts : (t : Option Ty) (ts : List (Option Ty)) → print_fault (t ∷ ts) ≡ None → PrintsThere t ts
print-parts None ts e = absurd (cc)
print-parts (Some t) ts e = print-test (is_pointer t) t ts e

printed-there : (vars : List VarInfo) (args : List ℕ) → print_fault (map (variable_type vars) args) ≡ None → AllThere vars args
printed-there vars [] e k less = absurd (omega arith)
printed-there vars (x ∷ args) e zero less = (print-parts (variable_type vars x) (map (variable_type vars) args) e).first
printed-there vars (x ∷ args) e (suc k) less = printed-there vars args (print-parts (variable_type vars x) (map (variable_type vars) args) e).others k (omega arith)

-- what is called is given types
called-there : (vars : List VarInfo) (args : List ℕ) (ts : List (Option Ty)) → are_typed (map (variable_type vars) args) ts ≡ true → AllThere vars args
called-there vars [] ts e k less = absurd (omega arith)
called-there vars (x ∷ args) [] e k less = absurd (cc)
called-there vars (x ∷ args) (t ∷ ts) e zero less = both_typed-left same_type (variable_type vars x) t (and_parts _ _ e).0
called-there vars (x ∷ args) (t ∷ ts) e (suc k) less = called-there vars args ts (and_parts _ _ e).1 k (omega arith)

binary-there : (a to : Base) (vars : List VarInfo) (args : List ℕ) (ty : Option Ty) → length args ≡ 2 → binary a to vars args ty ≡ true → AllThere vars args
binary-there a to vars args ty n e =
    let operands = and_parts _ _ (and_parts _ _ e).0 in
    two-there vars args n (if_typed-there _ _ operands.0) (if_typed-there _ _ operands.1)

unary-there : (a to : Base) (vars : List VarInfo) (args : List ℕ) (ty : Option Ty) → length args ≡ 1 → unary a to vars args ty ≡ true → AllThere vars args
unary-there a to vars args ty n e = one-there vars args n (if_typed-there _ _ (and_parts _ _ e).0)

-- a `ret` is given what its function returns
returned-there : (ret : Option Ty) (vars : List VarInfo) (args : List ℕ) → length args ≡ cond (is_some ret) 1 0 → is_return_typed ret vars args ≡ true → AllThere vars args
returned-there None vars args n e = none-there vars args n
returned-there (Some t) vars args n e = one-there vars args n (if_typed-there (same_type t) _ e)

-- the operation reads its arguments
abbrev pub IsArgumentsRead : Op → Type 0
IsArgumentsRead o = reading_of o ≡ ReadsArguments

module _ (p : Prog) (f : Func) where
  -- how many arguments an operation has
  pub counted : (o : Op) (dest : Option ℕ) (args funcs labels : List ℕ) → fits_shape (shape_of (is_some f.ret) o) (is_some dest) (length args) (length funcs) (length labels) ≡ true → length args ≡ (shape_of (is_some f.ret) o).args
  counted o dest args funcs labels e = (shape-parts (shape_of (is_some f.ret) o) (is_some dest) (length args) (length funcs) (length labels) e).args_are

  arguments-there : (o : Op) (dest : Option ℕ) (ty : Option Ty) (args funcs labels : List ℕ) → is_action_shaped (is_some f.ret) o (is_some dest) (length args) (length funcs) (length labels) ≡ true
      → action_type_fault p f o dest ty args funcs ≡ None → is_action_typed p f o ty args funcs ≡ true → IsArgumentsRead o → AllThere f.vars args
  arguments-there op.Print dest ty args funcs labels shaped e t r = printed-there f.vars args e
  arguments-there op.Call dest ty args funcs labels shaped e t r = called-there f.vars args _ (and_parts _ _ t).0
  arguments-there op.Get dest ty args funcs labels shaped e t r = absurd (cc)
  arguments-there op.Set dest ty args funcs labels shaped e t r = absurd (cc)
  arguments-there op.Add dest ty args funcs labels shaped e t r = binary-there base.Int base.Int f.vars args ty (counted op.Add dest args funcs labels shaped) t
  arguments-there op.Sub dest ty args funcs labels shaped e t r = binary-there base.Int base.Int f.vars args ty (counted op.Sub dest args funcs labels shaped) t
  arguments-there op.Mul dest ty args funcs labels shaped e t r = binary-there base.Int base.Int f.vars args ty (counted op.Mul dest args funcs labels shaped) t
  arguments-there op.Div dest ty args funcs labels shaped e t r = binary-there base.Int base.Int f.vars args ty (counted op.Div dest args funcs labels shaped) t
  arguments-there op.Eq dest ty args funcs labels shaped e t r = binary-there base.Int base.Bool f.vars args ty (counted op.Eq dest args funcs labels shaped) t
  arguments-there op.Lt dest ty args funcs labels shaped e t r = binary-there base.Int base.Bool f.vars args ty (counted op.Lt dest args funcs labels shaped) t
  arguments-there op.Gt dest ty args funcs labels shaped e t r = binary-there base.Int base.Bool f.vars args ty (counted op.Gt dest args funcs labels shaped) t
  arguments-there op.Le dest ty args funcs labels shaped e t r = binary-there base.Int base.Bool f.vars args ty (counted op.Le dest args funcs labels shaped) t
  arguments-there op.Ge dest ty args funcs labels shaped e t r = binary-there base.Int base.Bool f.vars args ty (counted op.Ge dest args funcs labels shaped) t
  arguments-there op.Ceq dest ty args funcs labels shaped e t r = binary-there base.Char base.Bool f.vars args ty (counted op.Ceq dest args funcs labels shaped) t
  arguments-there op.Clt dest ty args funcs labels shaped e t r = binary-there base.Char base.Bool f.vars args ty (counted op.Clt dest args funcs labels shaped) t
  arguments-there op.Cgt dest ty args funcs labels shaped e t r = binary-there base.Char base.Bool f.vars args ty (counted op.Cgt dest args funcs labels shaped) t
  arguments-there op.Cle dest ty args funcs labels shaped e t r = binary-there base.Char base.Bool f.vars args ty (counted op.Cle dest args funcs labels shaped) t
  arguments-there op.Cge dest ty args funcs labels shaped e t r = binary-there base.Char base.Bool f.vars args ty (counted op.Cge dest args funcs labels shaped) t
  arguments-there op.And dest ty args funcs labels shaped e t r = binary-there base.Bool base.Bool f.vars args ty (counted op.And dest args funcs labels shaped) t
  arguments-there op.Or dest ty args funcs labels shaped e t r = binary-there base.Bool base.Bool f.vars args ty (counted op.Or dest args funcs labels shaped) t
  arguments-there op.Not dest ty args funcs labels shaped e t r = unary-there base.Bool base.Bool f.vars args ty (counted op.Not dest args funcs labels shaped) t
  arguments-there op.CharToInt dest ty args funcs labels shaped e t r = unary-there base.Char base.Int f.vars args ty (counted op.CharToInt dest args funcs labels shaped) t
  arguments-there op.IntToChar dest ty args funcs labels shaped e t r = unary-there base.Int base.Char f.vars args ty (counted op.IntToChar dest args funcs labels shaped) t
  arguments-there op.Id dest ty args funcs labels shaped e t r = one-there f.vars args (counted op.Id dest args funcs labels shaped) (both_typed-left same_type _ ty t)
  arguments-there op.Br dest ty args funcs labels shaped e t r = one-there f.vars args (counted op.Br dest args funcs labels shaped) (if_typed-there _ _ t)
  arguments-there op.Guard dest ty args funcs labels shaped e t r = one-there f.vars args (counted op.Guard dest args funcs labels shaped) (if_typed-there _ _ t)
  arguments-there op.Free dest ty args funcs labels shaped e t r = one-there f.vars args (counted op.Free dest args funcs labels shaped) (if_typed-there _ _ t)
  arguments-there op.Ret dest ty args funcs labels shaped e t r = returned-there f.ret f.vars args (counted op.Ret dest args funcs labels shaped) t
  arguments-there op.Alloc dest ty args funcs labels shaped e t r = one-there f.vars args (counted op.Alloc dest args funcs labels shaped) (if_typed-there _ _ (and_parts _ _ t).0)
  arguments-there op.Load dest ty args funcs labels shaped e t r = one-there f.vars args (counted op.Load dest args funcs labels shaped) (both_typed-left points_to _ ty t)
  arguments-there op.Store dest ty args funcs labels shaped e t r = two-there f.vars args (counted op.Store dest args funcs labels shaped) (both_typed-left points_to _ _ t) (both_typed-right points_to _ _ t)
  arguments-there op.PtrAdd dest ty args funcs labels shaped e t r =
      let operands = and_parts _ _ (and_parts _ _ t).0 in
      two-there f.vars args (counted op.PtrAdd dest args funcs labels shaped) (if_typed-there _ _ operands.0) (if_typed-there _ _ operands.1)
  arguments-there o dest ty args funcs labels shaped e t r = none-there f.vars args (counted o dest args funcs labels shaped)

  -- ---- the locations that are read

  argument-location : (vars : List VarInfo) (args : List ℕ) → AllThere vars args → (x : ℕ) → In x args → IsThere (variable_type vars x)
  argument-location vars [] all x h = absurd h
  argument-location vars (y ∷ args) all x (inl e) = subst (λ z. IsThere (variable_type vars z)) (sym e) (all 0 (omega arith))
  argument-location vars (y ∷ args) all x (inr h) = argument-location vars args (λ k less. all (suc k) (omega arith)) x h

  by-arguments : (args : List ℕ) (location : Location) → AllThere f.vars args → Contains (map Variable args) location → IsThere (location_type f location)
  by-arguments args location all c =
      let source = in_map_source Variable location args (in_contains location (map Variable args) c) in
      subst (λ l. IsThere (location_type f l)) (sym source.2) (argument-location f.vars args all source.0 source.1)

  shadow-there : (dest : Option ℕ) (ty : Option Ty) (location : Location) → is_dest_typed p f dest ty ≡ true → Contains (shadow_of dest) location → IsThere (location_type f location)
  shadow-there None ty location e c = absurd (in_contains location [] c)
  shadow-there (Some x) ty location e c = subst (λ l. IsThere (location_type f l)) (sym (contains_one location (Shadow x) c)) (both_typed-right same_type ty (variable_type f.vars x) e)

  act-reads : (o : Op) (dest : Option ℕ) (ty : Option Ty) (args funcs labels : List ℕ) → is_action_shaped (is_some f.ret) o (is_some dest) (length args) (length funcs) (length labels) ≡ true
      → action_type_fault p f o dest ty args funcs ≡ None → IsTypedAct p f o dest ty args funcs → (location : Location) → Contains (locations_read (reading_of o) dest args) location → IsThere (location_type f location)
  act-reads op.Get dest ty args funcs labels shaped e t location c = shadow-there dest ty location t.dest_typed c
  act-reads op.Set dest ty args funcs labels shaped e t location c =
      subst (λ l. IsThere (location_type f l)) (sym (contains_one location (Variable (slice_index args 1)) c)) (set-there _ _ t.operands_typed)
  act-reads o dest ty args funcs labels shaped e t location c = by-arguments args location (arguments-there o dest ty args funcs labels shaped e t.operands_typed refl) c

  -- each location that an item reads has a type
  pub reads-there : (item : Instr) (location : Location) → is_shaped (is_some f.ret) item ≡ true → type_fault p f item ≡ None → Contains (reads_of item) location → IsThere (location_type f location)
  reads-there (Label l) location shaped e c = absurd (in_contains location [] c)
  reads-there (Const dest ty value) location shaped e c = absurd (in_contains location [] c)
  reads-there (Act dest ty o args funcs labels) location shaped e c =
      act-reads o dest ty args funcs labels shaped e (act-typed p f o dest ty args funcs labels shaped e) location c
