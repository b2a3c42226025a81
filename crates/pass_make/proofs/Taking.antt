-- Names that differ, one after another.
use Rattle.std.proofs.Common.{◌≡◌, ℕ, ◌<◌, ◌+◌, Bool, true, false, List, [], ◌∷◌, ◌++◌, length, get_or, take, Option, Some, None, is_some, map, position, bytes_eq, refl, sym, ap, ◌∙◌, subst, arith}
use Rattle.std.specs.List.{Contains, list_any}
use Rattle.std.proofs.lemmas.List.{length-map, length-take, get_or-map, get_or-take, get_or_default, take_more}
use Rattle.bril_names.specs.Faults.{Differ}
use Rattle.bril_names.specs.Numbering.{Adds, Finds}
use Rattle.bril_names.proofs.Tables.{find_none, find_some, found_there, not_there}

-- the next one isn't among those before it
pub next-new : (names : List (List ℕ)) (k : ℕ) → Differ names → k < length names → ¬ Contains (take k names) (get_or names k [])
next-new names k differ within among =
    let long = length-take k names in
    let low : among.0 < k = omega (arith, among.1, long) in
    differ among.0 k (get_or names k []) low within (sym (get_or-take k names among.0 (get_or names k []) low) ∙ among.2 ∙ same)
  where
    same : get_or names k [] ≡ get_or names k (get_or names k [])
    same = get_or_default names k [] (get_or names k []) within

-- a name that wasn't there was put last
pub added-new : (before : List (List ℕ)) (name : List ℕ) (after : List (List ℕ)) (new : Bool) → Adds before name after new → ¬ Contains before name → after ≡ before ++ name ∷ []
added-new before name after true adds none = adds.0
added-new before name after false adds none = absurd (none adds.1)

-- what a look-up by index tells
found-index : {K : Type 0} (name_of : K → List ℕ) (name : List ℕ) (keys : List K) (o : Option ℕ) → o ≡ position (λ k. bytes_eq name (name_of k)) keys → is_some o ≡ list_any (λ k. bytes_eq name (name_of k)) keys → Finds (map name_of keys) name o
found-index name_of name keys None p f = find_none name_of name keys (sym f)
found-index name_of name keys (Some i) p f = find_some name_of name keys i p

told : (names : List (List ℕ)) (name : List ℕ) (o : Option ℕ) → Finds names name o → (b : Bool) → b ≡ is_some o → (b ≡ true → Contains names name) × (Contains names name → b ≡ true)
told names name o finds true e = ((λ h. found_there names name o finds (sym e)), (λ h. refl))
told names name o finds false e = ((λ h. found_there names name o finds (sym e ∙ h)), (λ h. absurd (not_there names name o finds (sym e) h)))

pub has-tells : {K : Type 0} (name_of : K → List ℕ) (names : List (List ℕ)) (name : List ℕ) (keys : List K) (o : Option ℕ) (b : Bool) → map name_of keys ≡ names → o ≡ position (λ k. bytes_eq name (name_of k)) keys → is_some o ≡ list_any (λ k. bytes_eq name (name_of k)) keys → b ≡ is_some o
    → (b ≡ true → Contains names name) × (Contains names name → b ≡ true)
has-tells name_of names name keys o b view p f e = told names name o (subst (λ ns. Finds ns name o) view (found-index name_of name keys o p f)) b e

-- The next name of things whose names differ is new, and joins those before it.
module _ {A : Type 0} (name : A → List ℕ) (xs : List A) (k : ℕ) (x : A) (there : get_or xs k x ≡ x) (within : k < length xs) (taken : List (List ℕ)) (so_far : taken ≡ take k (map name xs)) where
  name-there : get_or (map name xs) k [] ≡ name x
  name-there = get_or-map name xs k x [] within ∙ ap name there

  low : k < length (map name xs)
  low = subst (λ n. k < n) (sym (length-map xs name)) within

  pub name-new : Differ (map name xs) → ¬ Contains taken (name x)
  name-new differ among = next-new (map name xs) k differ low (subst (λ ns. Contains ns (get_or (map name xs) k [])) so_far (subst (Contains taken) (sym name-there) among))

  pub name-joins : (after : List (List ℕ)) → after ≡ taken ++ name x ∷ [] → after ≡ take (k + 1) (map name xs)
  name-joins after e = e ∙ ap (λ ns. ns ++ name x ∷ []) so_far ∙ ap (λ n. take k (map name xs) ++ n ∷ []) (sym name-there) ∙ sym (take_more (map name xs) k [] low)
