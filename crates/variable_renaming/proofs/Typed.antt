-- Equal types of variables.
use Rattle.std.proofs.Common.{◌≡◌, ℕ, ◌<◌, true, false, eqb, List, length, get_or, Option, Some, None, refl, sym, ap, ◌∙◌}
use Rattle.std.proofs.lemmas.Bool.{eq-eqb, and_from}
use Rattle.std.proofs.lemmas.Option.{slice_get-get_or}
use Rattle.bril_tree.specs.declared.numbered.VarInfo.{VarInfo}
use Rattle.bril_tree.specs.declared.types.Base.{Base}
use Rattle.bril_tree.specs.declared.types.Base.TheVariants as base
use Rattle.bril_tree.specs.declared.types.Ty.{Ty}
use Rattle.bril_tree.specs.Typing.{same_base, same_result, variable_type}
use Rattle.bril_tree.proofs.Typings.{same_type-is, variable-has}

same-base : (b : Base) → same_base b b ≡ true
same-base base.Int = refl
same-base base.Bool = refl
same-base base.Char = refl

result-is : (s t : Option Ty) → same_result s t ≡ true → s ≡ t
result-is None None e = refl
result-is None (Some t) e = absurd cc
result-is (Some s) None e = absurd cc
result-is (Some s) (Some t) e = ap Some (same_type-is s t e)

result-own : (s : Option Ty) → same_result s s ≡ true
result-own None = refl
result-own (Some s) = and_from (eqb s.depth s.depth) (same_base s.base s.base) (eq-eqb s.depth s.depth refl) (same-base s.base)

module _ (vars : List VarInfo) (x y : ℕ) (v w : VarInfo) (low : x < length vars) (high : y < length vars) (at : v ≡ get_or vars x v) (there : w ≡ get_or vars y w) where
  type-x : variable_type vars x ≡ v.ty
  type-x = variable-has vars x v (slice_get-get_or vars x v low ∙ ap Some (sym at))

  type-y : variable_type vars y ≡ w.ty
  type-y = variable-has vars y w (slice_get-get_or vars y w high ∙ ap Some (sym there))

  pub types-same : same_result v.ty w.ty ≡ true → variable_type vars x ≡ variable_type vars y
  types-same e = type-x ∙ result-is v.ty w.ty e ∙ sym type-y

  pub types-other : same_result v.ty w.ty ≡ false → variable_type vars x ≡ variable_type vars y → ⊥
  types-other e same = let one : v.ty ≡ w.ty = sym type-x ∙ same ∙ type-y in let f : true ≡ false = sym (result-own v.ty) ∙ ap (same_result v.ty) one ∙ e in cc
