-- What holds of all that is in a list, and of two lists at each place.
use Rattle.std.proofs.Common.{◌≡◌, ℕ, suc, List, [], ◌∷◌, length, get_or, All, Some, refl, arith}
use Rattle.std.specs.Prelude.{slice_get}
use Rattle.std.specs.List.{AllZip}
use Rattle.std.proofs.lemmas.List.Elements.{All-contains, Contains-get_or}
use Rattle.bril_tree.specs.Membership.{In}
use Rattle.bril_tree.proofs.Members.{contains_in, in_contains}

pub all_in : {X : Type 0} (P : X → Type 0) (xs : List X) → All P xs → (x : X) → In x xs → P x
all_in P xs all x i = All-contains P xs x all (contains_in x xs i)

pub in_all : {X : Type 0} (P : X → Type 0) (xs : List X) → ((x : X) → In x xs → P x) → All P xs
in_all P xs h k d low = h (get_or xs k d) (in_contains (get_or xs k d) xs (Contains-get_or xs k d low))

pub zip-by_place : {X Y : Type 0} (R : X → Y → Type 0) (xs : List X) (ys : List Y) → length xs ≡ length ys → ((i : ℕ) (x : X) (y : Y) → slice_get xs i ≡ Some x → slice_get ys i ≡ Some y → R x y) → AllZip R xs ys
zip-by_place R [] [] same h = tt
zip-by_place R [] (y ∷ ys) same h = absurd (omega (arith, same))
zip-by_place R (x ∷ xs) [] same h = absurd (omega (arith, same))
zip-by_place R (x ∷ xs) (y ∷ ys) same h = (h 0 x y refl refl, zip-by_place R xs ys (omega (arith, same)) (λ i. h (suc i)))
