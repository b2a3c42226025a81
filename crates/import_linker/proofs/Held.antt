-- A table, by its keys and the names that they have.
use Rattle.std.proofs.Common.{◌≡◌, ◌∙◌, refl, sym, ap, Bool, true, false, not, ℕ, List, [], ◌∷◌, ◌++◌, map, ◌||◌, arith, zero, suc, true≢false}
use Rattle.std.specs.Prelude.{if◌then◌else◌, bytes_eq, cond, length, nat_lt, position, Some, None, ◌+◌, option_map, slice_get}
use Rattle.std.specs.List.{list_any, position_or_len}
use Rattle.std.proofs.lemmas.List.{length-map, map_push}
use Rattle.import_linker.specs.Names.{contains}

module _ {K : Type 0} (name_of : K → List ℕ) where
  pub contains_is : (keys : List K) (name : List ℕ) → list_any (λ (k : K). bytes_eq name (name_of k)) keys ≡ contains (map name_of keys) name
  contains_is [] name = refl
  contains_is (k ∷ keys) name = ap (λ b. bytes_eq name (name_of k) || b) (contains_is keys name)

  added_by : (t : Bool) (keys : List K) (k : K)
      → map name_of (if t then keys else keys ++ k ∷ []) ≡ (if t then map name_of keys else map name_of keys ++ name_of k ∷ [])
  added_by true keys k = refl
  added_by false keys k = map_push name_of keys k

  pub adds : (keys after : List K) (k : K) (names : List (List ℕ)) → map name_of keys ≡ names
      → after ≡ (if list_any (λ (x : K). bytes_eq (name_of k) (name_of x)) keys then keys else keys ++ k ∷ [])
      → map name_of after ≡ (if contains names (name_of k) then names else names ++ name_of k ∷ [])
  adds keys after k names view is_after =
      let t : list_any (λ (x : K). bytes_eq (name_of k) (name_of x)) keys ≡ contains names (name_of k) = contains_is keys (name_of k) ∙ ap (λ n. contains n (name_of k)) view in
      ap (map name_of) is_after ∙ added_by _ keys k ∙ (λ i. if t i then view i else view i ++ name_of k ∷ [])

  -- ---- the place of a name

  pub place_is : (keys : List K) (name : List ℕ) → position_or_len (λ (k : K). bytes_eq name (name_of k)) keys ≡ position_or_len (bytes_eq name) (map name_of keys)
  place_is [] name = refl
  place_is (k ∷ keys) name = ap (λ n. cond (not (bytes_eq name (name_of k))) (1 + n) 0) (place_is keys name)

  pub position_is : (keys : List K) (name : List ℕ) → position (λ (k : K). bytes_eq name (name_of k)) keys ≡ position (bytes_eq name) (map name_of keys)
  position_is keys name =
      let len : length keys ≡ length (map name_of keys) = sym (length-map keys name_of) in
      let at = place_is keys name in
      λ i. cond (nat_lt (at i) (len i)) (Some (at i)) None

module _ {X : Type 0} (p : X → Bool) (xs : List X) where
  pub place_some : (n : ℕ) → Some n ≡ position p xs → n ≡ position_or_len p xs
  place_some n e = go (nat_lt (position_or_len p xs) (length xs)) e
    where
      go : (b : Bool) → Some n ≡ cond b (Some (position_or_len p xs)) None → n ≡ position_or_len p xs
      go true h = cc
      go false h = absurd cc

pub place_none : {X : Type 0} (p : X → Bool) (xs : List X) → false ≡ list_any p xs → length xs ≡ position_or_len p xs
place_none p [] none = refl
place_none p (x ∷ xs) none = go (p x) none (λ h. place_none p xs h)
  where
    go : (b : Bool) → false ≡ (b || list_any p xs) → (false ≡ list_any p xs → length xs ≡ position_or_len p xs) → suc (length xs) ≡ cond (not b) (1 + position_or_len p xs) 0
    go true h rest = absurd (true≢false (sym h))
    go false h rest = let r = rest h in omega (arith, r)

pub slice_get-map : {X Y : Type 0} (f : X → Y) (xs : List X) (i : ℕ) → slice_get (map f xs) i ≡ option_map f (slice_get xs i)
slice_get-map f [] i = refl
slice_get-map f (x ∷ xs) zero = refl
slice_get-map f (x ∷ xs) (suc i) = slice_get-map f xs i
