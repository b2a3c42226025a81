-- Arguments and the types at their places.
use Rattle.std.proofs.Common.{◌≡◌, ◌≢◌, ℕ, suc, Bool, eqb, true, false, ◌&&◌, List, [], ◌∷◌, length, map, Option, refl, ap, sym}
use Rattle.std.proofs.lemmas.Bool.{and_right}
use Rattle.bril_tree.specs.declared.numbered.VarInfo.{VarInfo}
use Rattle.bril_tree.specs.declared.types.Ty.{Ty}
use Rattle.bril_tree.specs.Typing.{are_typed, both_typed, same_type}

module _ (f : ℕ → Option Ty) where
  -- fewer or more arguments than are taken are wrong
  pub other_length : (xs : List ℕ) (ys : List VarInfo) → length xs ≢ length ys → false ≡ are_typed (map f xs) (map (λ v. v.ty) ys)
  other_length [] [] differ = absurd (differ refl)
  other_length [] (y ∷ ys) differ = refl
  other_length (x ∷ xs) [] differ = refl
  other_length (x ∷ xs) (y ∷ ys) differ =
      rw (← other_length xs ys (λ e. differ (ap (λ n. suc n) e))) (sym (and_right (both_typed same_type (f x) y.ty) false refl))

  -- where nothing is taken, some argument is wrong
  pub some_given : (xs : List ℕ) → eqb (length xs) 0 ≡ false → false ≡ are_typed (map f xs) []
  some_given [] given = sym given
  some_given (x ∷ xs) given = refl
