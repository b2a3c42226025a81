-- From functions to the program.
use Rattle.std.proofs.Common.{◌≡◌, ℕ, zero, suc, ◌<◌, true, false, List, length, map, get_or, take, Option, Some, None, All, refl, sym, ap, ◌∙◌, subst, inl, inr, arith}
use Rattle.std.specs.Prelude.{◌⊎◌, slice_get, is_some}
use Rattle.std.specs.Option.{IsSomeAnd}
use Rattle.std.proofs.Math.ListN.{get_or-map}
use Rattle.std.proofs.lemmas.List.{length-map}
use Rattle.std.proofs.lemmas.List.Elements.{All-take, All-map}
use Rattle.std.proofs.lemmas.Option.{slice_get-get_or, slice_get_within}
use Rattle.bril_tree.specs.Accepted.{IsAcceptedFunction, IsMainPlain, IsPlainType}
use Rattle.bril_tree.specs.Shape.{is_shaped, shape_fault_of}
use Rattle.bril_tree.specs.Typing.{return_type}
use Rattle.bril_tree.specs.declared.numbered.VarInfo.{VarInfo}
use Rattle.bril_tree.specs.declared.numbered_function.Func.{Func}
use Rattle.bril_tree.specs.declared.program.Prog.{Prog}
use Rattle.bril_tree.specs.declared.types.Ty.{Ty}
use Rattle.bril_tree.proofs.First.{none_failing}
use Rattle.bril_checker.proofs.Positions.{holds_before, item_at}
use Rattle.bril_checker.proofs.Stages.{accepted_passes}
use Rattle.bril_checker.specs.Faults.{AreShaped, AreTyped, FirstFaultWithin, HasFaultWithin, TakesMemory}
use Rattle.bril_checker.specs.declared.fault.CheckFault.{CheckFault}
use Rattle.bril_checker.specs.declared.fault.CheckFault.TheVariants.{Memory}

-- a function whose items have shapes has no fault of shape
pub no_shape_fault : (p : Prog) (f : Func) → AreShaped p f → shape_fault_of (is_some f.ret) f.code ≡ None
no_shape_fault p f shaped =
    sym (none_failing (is_shaped (is_some f.ret)) f.code (length f.code) (omega arith)
    (All-take (λ item. is_shaped (is_some f.ret) item ≡ true) (length f.code) f.code (λ k d h. (shaped k d h).0)))

module _ (p : Prog) where
  -- a fault of the first function that isn't accepted is the program's
  pub fault_here : IsMainPlain p → (fs : List Func) → fs ≡ p.funcs → (number : ℕ) (f : Func) → number < length fs → f ≡ get_or fs number f → All (IsAcceptedFunction p) (take number p.funcs) →
      (why : CheckFault) → (why ≡ Memory) ⊎ HasFaultWithin p number f why → (why ≡ Memory) ⊎ FirstFaultWithin p why
  fault_here main fs same number f inside here before why (inl e) = inl e
  fault_here main fs same number f inside here before why (inr has) =
      inr (record { main = main; number = number; function = f; here = item_at (IsAcceptedFunction p) p.funcs fs same number f inside here; before = before; has = has })

  -- memory was taken, where this function's items are right by themselves and the functions before it are accepted
  pub takes_memory : IsMainPlain p → (fs : List Func) → fs ≡ p.funcs → (number : ℕ) (f : Func) → number < length fs → f ≡ get_or fs number f → All (IsAcceptedFunction p) (take number p.funcs) →
      AreTyped p f → TakesMemory p
  takes_memory main fs same number f inside here before typed =
      record { main = main; items = first number before (item_at (IsAcceptedFunction p) p.funcs fs same number f inside here) }
    where
      first : (number : ℕ) → All (IsAcceptedFunction p) (take number p.funcs) → slice_get p.funcs number ≡ Some f → IsSomeAnd (slice_get p.funcs 0) (AreTyped p)
      first zero before here = rw here typed
      first (suc n) before here =
          let many = slice_get_within p.funcs (suc n) f here in
          let start = slice_get-get_or p.funcs 0 f (omega arith) in
          rw start (accepted_passes p (get_or p.funcs 0 f) (holds_before (IsAcceptedFunction p) p.funcs (suc n) 0 (get_or p.funcs 0 f) before (omega arith) start)).0.0.0

-- ---- `main`

abbrev pub ArePlain : List VarInfo → Type 0
ArePlain vars = All (λ v. IsPlainType v.ty) vars

plain_types : (vars : List VarInfo) → ArePlain vars → All IsPlainType (map (λ v. v.ty) vars)
plain_types vars plain = All-map IsPlainType (λ v. v.ty) vars plain

types_plain : (vars : List VarInfo) → All IsPlainType (map (λ v. v.ty) vars) → ArePlain vars
types_plain vars plain k d h =
    let many : length (map (λ (v : VarInfo). v.ty) vars) ≡ length vars = simp length-map in
    subst IsPlainType (get_or-map (λ (v : VarInfo). v.ty) vars k d) (plain k d.ty (omega arith))

-- a variable that isn't plain
pub not_plain : (vars : List VarInfo) (i : ℕ) (v : VarInfo) → i < length vars → v ≡ get_or vars i v → ¬ IsPlainType v.ty → ¬ ArePlain vars
not_plain vars i v inside here lacks plain = lacks (subst (λ w. IsPlainType w.ty) (sym here) (plain i v inside))

none_there : (o : Option Ty) → is_some o ≡ false → o ≡ None
none_there None h = refl
none_there (Some ty) h = cc

module _ (p : Prog) (main : Func) (is : slice_get p.funcs p.main ≡ Some main) where
  pub main_plain : is_some main.ret ≡ false → ArePlain (take main.args main.vars) → IsMainPlain p
  main_plain nothing plain = record {
    returns_nothing = ap return_type is ∙ none_there main.ret nothing;
    takes_plain = rw is (plain_types (take main.args main.vars) plain);
  }

  pub plain_main : IsMainPlain p → (main.ret ≡ None) × ArePlain (take main.args main.vars)
  plain_main plain = (sym (ap return_type is) ∙ plain.returns_nothing, types_plain (take main.args main.vars) (rw is at plain.takes_plain))
