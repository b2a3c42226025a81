-- A renamed item fits where its variables have the types of those that they stand for, and a variable has the type with which
-- all its destinations assign it.
use Rattle.std.proofs.Common.{◌≡◌, ℕ, suc, ◌≤◌, true, List, [], ◌∷◌, length, map, Option, Some, None, refl, sym, ap, ◌∙◌, inl, inr, ⊎_elim}
use Rattle.std.specs.Prelude.{slice_get, is_some, ◌==◌, ◌&&◌}
use Rattle.bril_tree.specs.declared.numbered.Instr.{Instr}
use Rattle.bril_tree.specs.declared.numbered.Instr.TheVariants.{Const, Act}
use Rattle.bril_tree.specs.declared.numbered.VarInfo.{VarInfo}
use Rattle.bril_tree.specs.declared.numbered_function.Func.{Func}
use Rattle.bril_tree.specs.declared.operation.Op.{Op}
use Rattle.bril_tree.specs.declared.program.Prog.{Prog}
use Rattle.bril_tree.specs.declared.types.Ty.{Ty}
use Rattle.bril_tree.specs.declared.value.Lit.{Lit}
use Rattle.bril_tree.specs.Operand.{dest_of}
use Rattle.bril_tree.specs.Run.{types_of}
use Rattle.bril_tree.specs.Shape.{is_shaped, is_action_shaped}
use Rattle.bril_tree.specs.Typing.{variable_type, type_fault, action_type_fault, is_dest_typed, is_literal_typed, both_typed, same_type, return_type, is_call_shaped, action_call_fits, wrong_unless}
use Rattle.bril_tree.specs.Membership.{In}
use Rattle.bril_tree.proofs.Typings.{type_of, type-assigned, type-assigned_own, first_type-is, variable-has}
use Rattle.pass_edit_laws.specs.acceptance.Stays.{FitsByItself}
use Rattle.pass_edit_laws.proofs.lemmas.acceptance.Typed.{act-typed}
use Rattle.pass_edit_laws.proofs.lemmas.acceptance.Fitting.{fits-same}

-- the two items do the same, and what they name has the same types
pub record SameTyped (F G : Func) (o u : Op) (d e : Option ℕ) (s t : Option Ty) (args result_args fns gns ls ms : List ℕ) : Type 0 where
  pub operation : o ≡ u
  pub ty : s ≡ t
  pub dest : is_some d ≡ is_some e
  pub funcs : fns ≡ gns
  pub labels : length ls ≡ length ms
  pub args_typed : map (variable_type F.vars) args ≡ map (variable_type G.vars) result_args
  pub dest_typed : (x y : ℕ) → d ≡ Some x → e ≡ Some y → variable_type F.vars x ≡ variable_type G.vars y

map-long : {X Y Z : Type 0} (f : X → Z) (g : Y → Z) (xs : List X) (ys : List Y) → map f xs ≡ map g ys → length xs ≡ length ys
map-long f g [] [] e = refl
map-long f g [] (y ∷ ys) e = absurd cc
map-long f g (x ∷ xs) [] e = absurd cc
map-long f g (x ∷ xs) (y ∷ ys) e = let t : map f xs ≡ map g ys = cc in ap suc (map-long f g xs ys t)

module _ (P Q : Prog) (F G : Func) (callees : (g : ℕ) → types_of (slice_get P.funcs g) ≡ types_of (slice_get Q.funcs g)) (results : (g : ℕ) → return_type (slice_get P.funcs g) ≡ return_type (slice_get Q.funcs g)) (ret_same : F.ret ≡ G.ret) where
  dest-same : (d e : Option ℕ) (ty : Option Ty) → is_some d ≡ is_some e → ((x y : ℕ) → d ≡ Some x → e ≡ Some y → variable_type F.vars x ≡ variable_type G.vars y) → is_dest_typed P F d ty ≡ is_dest_typed Q G e ty
  dest-same None None ty s h = refl
  dest-same None (Some y) ty s h = absurd cc
  dest-same (Some x) None ty s h = absurd cc
  dest-same (Some x) (Some y) ty s h = ap (λ u. both_typed same_type ty u) (h x y refl refl)

  -- an action
  pub act-fits : (o u : Op) (d e : Option ℕ) (s t : Option Ty) (args result_args fns gns ls ms : List ℕ) → SameTyped F G o u d e s t args result_args fns gns ls ms → is_shaped (is_some F.ret) (Act d s o args fns ls) ≡ true → is_call_shaped P F (Act d s o args fns ls) ≡ true → type_fault P F (Act d s o args fns ls) ≡ None
      → FitsByItself Q G (Act e t u result_args gns ms)
  act-fits o u d e s t args result_args fns gns ls ms h shaped calls typed = record {
    shaped = ap (λ z. is_action_shaped (is_some z) u (is_some e) (length result_args) (length gns) (length ms)) (sym ret_same) ∙ sym shape ∙ shaped;
    calls = sym call ∙ calls;
    typed = sym typing ∙ typed;
  }
    where
      n : length args ≡ length result_args
      n = map-long (variable_type F.vars) (variable_type G.vars) args result_args h.args_typed

      shape : is_action_shaped (is_some F.ret) o (is_some d) (length args) (length fns) (length ls) ≡ is_action_shaped (is_some F.ret) u (is_some e) (length result_args) (length gns) (length ms)
      shape = ap (λ z. is_action_shaped (is_some F.ret) z (is_some d) (length args) (length fns) (length ls)) h.operation ∙ ap (λ z. is_action_shaped (is_some F.ret) u z (length args) (length fns) (length ls)) h.dest
          ∙ ap (λ z. is_action_shaped (is_some F.ret) u (is_some e) z (length fns) (length ls)) n ∙ ap (λ z. is_action_shaped (is_some F.ret) u (is_some e) (length result_args) (length z) (length ls)) h.funcs
          ∙ ap (λ z. is_action_shaped (is_some F.ret) u (is_some e) (length result_args) (length gns) z) h.labels

      call : action_call_fits P F o d args fns ≡ action_call_fits Q G u e result_args gns
      call = ap (λ z. action_call_fits P F z d args fns) h.operation ∙ ap (λ z. action_call_fits P F u d args z) h.funcs ∙ fits-same P Q F G callees results u d e args result_args gns h.dest n

      typing : action_type_fault P F o d s args fns ≡ action_type_fault Q G u e t result_args gns
      typing = act-typed P Q F G callees results ret_same (is_some F.ret) o d e s args result_args fns (length ls) shaped h.args_typed refl (dest-same d e s h.dest h.dest_typed)
          ∙ ap (λ z. action_type_fault Q G z e s result_args fns) h.operation ∙ ap (λ z. action_type_fault Q G u e z result_args fns) h.ty ∙ ap (λ z. action_type_fault Q G u e t result_args z) h.funcs

  -- a constant
  pub const-fits : (x y : ℕ) (ty : Ty) (v : Lit) → variable_type F.vars x ≡ variable_type G.vars y → type_fault P F (Const x ty v) ≡ None → FitsByItself Q G (Const y ty v)
  const-fits x y ty v e typed = record { shaped = refl; calls = refl; typed = ap (λ u. wrong_unless (u && is_literal_typed v ty)) (ap (λ u. both_typed same_type (Some ty) u) (sym e)) ∙ typed }

-- a variable that is no argument has the type with which all its destinations assign it
pub type-of_variable : (G : Func) (y : ℕ) (t : Ty) → G.args ≤ y → (v : VarInfo) → slice_get G.vars y ≡ Some v → ((b : Instr) → In b G.code → dest_of b ≡ Some y → type_of b ≡ Some t) → (b : Instr) → In b G.code → dest_of b ≡ Some y → variable_type G.vars y ≡ Some t
type-of_variable G y t past v at all b among d =
    variable-has G.vars y v at ∙ G.formed.types y v past at
    ∙ first_type-is y t G.code (λ item i. ⊎_elim (λ k. inr (k.1 ∙ all item i k.0)) (λ k. inl k) (type-assigned y item)) b among (type-assigned_own y b d ∙ all b among d)
