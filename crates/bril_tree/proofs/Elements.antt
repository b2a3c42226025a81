-- What stands at a location of a list is in it.
use Rattle.std.proofs.Common.{◌≡◌, ℕ, zero, suc, ◌<◌, Bool, true, List, [], ◌∷◌, length, All, Some, None, refl, sym, ap, ◌∙◌, subst, inl, inr, arith, ◌≤◌, ◌++◌, ◌⊎◌, ⊎_elim, ◌+◌, take, get_or}
use Rattle.std.specs.Prelude.{slice_get, slice_index}
use Rattle.std.specs.List.{list_all, AllZip}
use Rattle.std.proofs.lemmas.Bool.{and_parts, cases_lt}
use Rattle.std.proofs.lemmas.Option.{get_or_from_slice_get, slice_get_within, same_Some, slice_get-get_or}
use Rattle.std.proofs.lemmas.List.{take_all}
use Rattle.std.proofs.lemmas.List.Elements.{All-more, All-same}
use Rattle.bril_tree.specs.Membership.{In}

pub get_in : {A : Type 0} (xs : List A) (k : ℕ) (x : A) → slice_get xs k ≡ Some x → In x xs
get_in [] k x e = absurd (let f : None ≡ Some x = e in cc)
get_in (y ∷ xs) zero x e = inl (sym (same_Some y x e))
get_in (y ∷ xs) (suc k) x e = inr (get_in xs k x e)

pub in_get : {A : Type 0} (x : A) (xs : List A) → In x xs → (k : ℕ) × (slice_get xs k ≡ Some x)
in_get x [] i = absurd i
in_get x (y ∷ xs) (inl e) = (0, ap Some (sym e))
in_get x (y ∷ xs) (inr i) = let r = in_get x xs i in (suc r.0, r.1)

pub in_index : (xs : List ℕ) (k : ℕ) → k < length xs → In (slice_index xs k) xs
in_index [] k less = absurd (omega arith)
in_index (x ∷ xs) zero less = inl refl
in_index (x ∷ xs) (suc k) less = inr (in_index xs k (omega arith))

-- there is an item at each location
pub get_inside : {A : Type 0} (xs : List A) (k : ℕ) → k < length xs → (x : A) × (slice_get xs k ≡ Some x)
get_inside [] k less = absurd (omega arith)
get_inside (x ∷ xs) zero less = (x, refl)
get_inside (x ∷ xs) (suc k) less = get_inside xs k (omega arith)

-- and none past the last
pub none_past : {A : Type 0} (xs : List A) (k : ℕ) → k < length xs → slice_get xs k ≡ None → ⊥
none_past xs k less e = let x = get_inside xs k less in let f : None ≡ Some x.0 = sym e ∙ x.1 in cc

pub past_end : {A : Type 0} (xs : List A) (k : ℕ) → slice_get xs k ≡ None → length xs ≤ k
past_end xs k e = ⊎_elim (λ less. absurd (none_past xs k less e)) (λ past. past) (cases_lt k (length xs))

-- where one is put behind the last
pub pushed_get : {A : Type 0} (xs : List A) (a : A) (k : ℕ) (b : A) → slice_get (xs ++ a ∷ []) k ≡ Some b → (slice_get xs k ≡ Some b) ⊎ ((k ≡ length xs) × (a ≡ b))
pushed_get [] a zero b e = inr (refl, same_Some a b e)
pushed_get [] a (suc k) b e = absurd (let n : None ≡ Some b = e in cc)
pushed_get (x ∷ xs) a zero b e = inl e
pushed_get (x ∷ xs) a (suc k) b e = ⊎_elim inl (λ h. inr (ap suc h.0, h.1)) (pushed_get xs a k b e)

pub All-at : {A : Type 0} (P : A → Type 0) (xs : List A) (k : ℕ) (x : A) → All P xs → slice_get xs k ≡ Some x → P x
All-at P xs k x h e = subst P (get_or_from_slice_get xs k x x e) (h k x (slice_get_within xs k x e))

pub passes_in : {A : Type 0} (test : A → Bool) (xs : List A) (x : A) → list_all test xs ≡ true → In x xs → test x ≡ true
passes_in test [] x h i = absurd i
passes_in test (y ∷ xs) x h (inl e) = ap test e ∙ (and_parts (test y) (list_all test xs) h).0
passes_in test (y ∷ xs) x h (inr i) = passes_in test xs x (and_parts (test y) (list_all test xs) h).1 i

-- ---- two lists, item by item

pub zip-get : {A B : Type 0} (R : A → B → Type 0) (xs : List A) (ys : List B) (k : ℕ) (x : A) (y : B) → AllZip R xs ys → slice_get xs k ≡ Some x → slice_get ys k ≡ Some y → R x y
zip-get R [] ys k x y z e d = absurd (let n : None ≡ Some x = e in cc)
zip-get R (a ∷ xs) [] k x y z e d = absurd z
zip-get R (a ∷ xs) (b ∷ ys) zero x y z e d = subst (λ u. R u y) (same_Some a x e) (subst (R a) (same_Some b y d) z.0)
zip-get R (a ∷ xs) (b ∷ ys) (suc k) x y z e d = zip-get R xs ys k x y z.1 e d

pub zip-long : {A B : Type 0} (R : A → B → Type 0) (xs : List A) (ys : List B) → AllZip R xs ys → length xs ≡ length ys
zip-long R [] [] h = refl
zip-long R [] (y ∷ ys) h = absurd h
zip-long R (x ∷ xs) [] h = absurd h
zip-long R (x ∷ xs) (y ∷ ys) h = ap suc (zip-long R xs ys h.1)

-- what stands beside an item of the first list, and of the second
pub zip-partner : {A B : Type 0} (R : A → B → Type 0) (xs : List A) (ys : List B) (x : A) → AllZip R xs ys → In x xs → (y : B) × In y ys × R x y
zip-partner R [] ys x z h = absurd h
zip-partner R (w ∷ xs) [] x z h = absurd z
zip-partner R (w ∷ xs) (y ∷ ys) x z (inl e) = (y, inl refl, subst (λ u. R u y) (sym e) z.0)
zip-partner R (w ∷ xs) (y ∷ ys) x z (inr h) = let r = zip-partner R xs ys x z.1 h in (r.0, inr r.1, r.2)

pub zip-find : {A B : Type 0} (R : A → B → Type 0) (xs : List A) (ys : List B) (y : B) → AllZip R xs ys → In y ys → (x : A) × In x xs × R x y
zip-find R xs [] y z h = absurd h
zip-find R [] (w ∷ ys) y z h = absurd z
zip-find R (x ∷ xs) (w ∷ ys) y z (inl e) = (x, inl refl, subst (R x) (sym e) z.0)
zip-find R (x ∷ xs) (w ∷ ys) y z (inr h) = let r = zip-find R xs ys y z.1 h in (r.0, inr r.1, r.2)

-- ---- lists that are walked through

-- what holds of the first holds of one more
pub All-one_more : {A : Type 0} (P : A → Type 0) (xs : List A) (i : ℕ) (x : A) → i < length xs → x ≡ get_or xs i x → All P (take i xs) → P x → All P (take (i + 1) xs)
All-one_more P xs i x h g all p = All-more P xs i x h all (let at : P (get_or xs i x) = rw (← g) p in at)

-- and in the end of all
pub All-whole : {A : Type 0} (P : A → Type 0) (xs : List A) (i : ℕ) → length xs ≤ i → All P (take i xs) → All P xs
All-whole P xs i h all = All-same P xs (take i xs) (sym (take_all i xs h)) all

-- the item at an index of a list that is another's
pub get_at : {A : Type 0} (items code : List A) → items ≡ code → (k : ℕ) (a : A) → k < length items → a ≡ get_or items k a → slice_get code k ≡ Some a
get_at items code same k a within is = subst (λ c. slice_get c k ≡ Some a) same (slice_get-get_or items k a within ∙ ap Some (sym is))
