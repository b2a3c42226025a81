-- The frame of a call, from the values of its arguments.
use Rattle.std.proofs.Common.{◌≡◌, ℕ, zero, suc, ◌+◌, ◌<◌, ◌≤◌, List, [], ◌∷◌, length, map, Option, Some, refl, sym, ap, subst, ◌∙◌, inl, inr, arith}
use Rattle.std.specs.Prelude.{slice_get, take}
use Rattle.std.specs.List.{AllZip, range_with_len}
use Rattle.bril_tree.specs.declared.limits.Limits.{Limits}
use Rattle.bril_tree.specs.declared.numbered.VarInfo.{VarInfo}
use Rattle.bril_tree.specs.declared.numbered_function.Func.{Func}
use Rattle.bril_tree.specs.declared.program.Prog.{Prog}
use Rattle.bril_tree.specs.declared.types.Ty.{Ty}
use Rattle.bril_tree.specs.declared.value.Value.{Value}
use Rattle.bril_tree.specs.Operand.{Location, Variable}
use Rattle.bril_tree.specs.Run.{types_of}
use Rattle.bril_tree.specs.State.{no_values}
use Rattle.bril_tree.specs.Step.{arguments_from, new_frame}
use Rattle.bril_tree.specs.Typing.{variable_type}
use Rattle.bril_tree.specs.Membership.{In}
use Rattle.bril_tree.proofs.Members.{in_map_source}
use Rattle.bril_tree.proofs.HeldValues.{arguments-at}
use Rattle.type_soundness.proofs.Typed.{Cell, HasType}
use Rattle.type_soundness.proofs.Frames.{Holds, Sits}

-- the values have the types
abbrev pub HaveTypes : List Cell → List Value → List (Option Ty) → Type 0
HaveTypes heap vs ts = AllZip (λ v t. HasType heap t v) vs ts

-- ---- their types

types-count : (heap : List Cell) (n : ℕ) (vars : List VarInfo) (vs : List Value) → n ≤ length vars → HaveTypes heap vs (map (λ v. v.ty) (take n vars)) → length vs ≡ n
types-count heap zero vars [] less h = refl
types-count heap zero vars (v ∷ vs) less h = absurd h
types-count heap (suc n) [] vs less h = absurd (omega arith)
types-count heap (suc n) (w ∷ vars) [] less h = absurd h
types-count heap (suc n) (w ∷ vars) (v ∷ vs) less h = ap suc (types-count heap n vars vs (omega arith) h.1)

-- the value of an argument
record HasArgument (heap : List Cell) (vars : List VarInfo) (vs : List Value) (x : ℕ) : Type 0 where
  value : Value
  is : slice_get vs x ≡ Some value
  typed : HasType heap (variable_type vars x) value

argument_at : (heap : List Cell) (n : ℕ) (vars : List VarInfo) (vs : List Value) (x : ℕ) → HaveTypes heap vs (map (λ v. v.ty) (take n vars)) → x < length vs → HasArgument heap vars vs x
argument_at heap n vars [] x h less = absurd (omega arith)
argument_at heap zero vars (v ∷ vs) x h less = absurd h
argument_at heap (suc n) [] (v ∷ vs) x h less = absurd h
argument_at heap (suc n) (w ∷ vars) (v ∷ vs) zero h less = record { value = v; is = refl; typed = h.0 }
argument_at heap (suc n) (w ∷ vars) (v ∷ vs) (suc x) h less =
    let a = argument_at heap n vars vs x h.1 (omega arith) in
    record { value = a.value; is = a.is; typed = a.typed }

in_range : (from n x : ℕ) → In x (range_with_len from n) → x < from + n
in_range from zero x h = absurd h
in_range from (suc n) x (inl e) = omega arith
in_range from (suc n) x (inr h) = let less = in_range (from + 1) n x h in omega arith

module _ (p : Prog) (limits : Limits) (heap : List Cell) where
  argument-held : (f : Func) (vs : List Value) (location : Location) → HaveTypes heap vs (types_of (Some f)) → In location (map Variable (range_with_len 0 f.args))
      → Holds heap f (record { vars = arguments_from 0 vs no_values; shadows = no_values }) location
  argument-held f vs location h i =
      let source = in_map_source Variable location (range_with_len 0 f.args) i in
      let count = types-count heap f.args f.vars vs f.formed.few_args h in
      let inside : source.0 < length vs = (let less = in_range 0 f.args source.0 source.1 in omega arith) in
      let a = argument_at heap f.args f.vars vs source.0 h inside in
      let held : Holds heap f (record { vars = arguments_from 0 vs no_values; shadows = no_values }) (Variable source.0) = record {
        value = a.value;
        is = ap (arguments_from 0 vs no_values) (omega arith) ∙ arguments-at 0 source.0 vs no_values inside ∙ a.is;
        typed = a.typed;
      } in
      subst (λ l. Holds heap f (record { vars = arguments_from 0 vs no_values; shadows = no_values }) l) (sym source.2) held

  -- a new frame has its arguments
  pub new-sits : (g : ℕ) (f : Func) (vs : List Value) → slice_get p.funcs g ≡ Some f → HaveTypes heap vs (types_of (Some f)) → Sits p heap f (new_frame g vs)
  new-sits g f vs there h = record { there = there; walk = []; is = tt; ends = refl; locations = λ location i. argument-held f vs location h i; saves = tt }
