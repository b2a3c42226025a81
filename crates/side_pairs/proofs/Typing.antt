-- Types are equal where the program takes them for one.
use Rattle.std.proofs.Common.{◌≡◌, ◌↔◌, Bool, true, eqb, Option, Some, None, refl, sym, ap, ◌∙◌}
use Rattle.std.specs.Prelude.{IsTrue}
use Rattle.std.proofs.lemmas.Bool.{and_from, eq-eqb}
use Rattle.bril_tree.specs.declared.types.Base.{Base}
use Rattle.bril_tree.specs.declared.types.Base.TheVariants as base
use Rattle.bril_tree.specs.declared.types.Ty.{Ty}
use Rattle.bril_tree.specs.Typing.{same_base, same_result, same_type}
use Rattle.bril_tree.proofs.Typings.{same_type-is}

same-base : (b : Base) → same_base b b ≡ true
same-base base.Int = refl
same-base base.Bool = refl
same-base base.Char = refl

type-own : (s : Ty) → same_type s s ≡ true
type-own s = and_from (eqb s.depth s.depth) (same_base s.base s.base) (eq-eqb s.depth s.depth refl) (same-base s.base)

pub type-tells : (s t : Ty) (b : Bool) → b ≡ same_type s t → IsTrue b ↔ (s ≡ t)
type-tells s t b e = ((λ h. same_type-is s t (sym e ∙ h)), (λ h. e ∙ ap (same_type s) (sym h) ∙ type-own s))

result-is : (s t : Option Ty) → same_result s t ≡ true → s ≡ t
result-is None None e = refl
result-is None (Some t) e = absurd cc
result-is (Some s) None e = absurd cc
result-is (Some s) (Some t) e = ap Some (same_type-is s t e)

result-own : (s : Option Ty) → same_result s s ≡ true
result-own None = refl
result-own (Some s) = type-own s

pub result-tells : (s t : Option Ty) (b : Bool) → b ≡ same_result s t → IsTrue b ↔ (s ≡ t)
result-tells s t b e = ((λ h. result-is s t (sym e ∙ h)), (λ h. e ∙ ap (same_result s) (sym h) ∙ result-own s))
