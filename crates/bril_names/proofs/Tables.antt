-- Tables of names: what a look-up and an insertion say.
use Rattle.std.proofs.Common.{◌≡◌, ℕ, ◌<◌, Bool, true, false, not, List, [], ◌∷◌, ◌++◌, length, map, get_or, Option, Some, None, position, is_some, bytes_eq, refl, sym, ap, ◌∙◌, subst, arith}
use Rattle.std.specs.List.{list_any, Contains}
use Rattle.std.proofs.lemmas.Bool.{cond-true, cond-false, true≢false}
use Rattle.std.proofs.lemmas.List.{length-map, map_push, get_or-map, get_or_default}
use Rattle.std.proofs.lemmas.List.Folds.{Any-from_list_any, list_any_at}
use Rattle.std.proofs.lemmas.List.Quantifiers.{position-Some}
use Rattle.std.proofs.lemmas.Slice.Eq.{bytes_eq-Decides}
use Rattle.indexmap.specs.IndexSet.{insert_key}
use Rattle.bril_names.specs.Numbering.{Finds, Adds}

-- ---- names that are there

-- what a look-up says of a name
pub found_there : (names : List (List ℕ)) (name : List ℕ) (o : Option ℕ) → Finds names name o → is_some o ≡ true → Contains names name
found_there names name None finds some = absurd (true≢false (sym some))
found_there names name (Some k) finds some = (k, finds.0, get_or_default names k name [] finds.0 ∙ finds.1)

pub not_there : (names : List (List ℕ)) (name : List ℕ) (o : Option ℕ) → Finds names name o → is_some o ≡ false → ¬ Contains names name
not_there names name None finds none = finds
not_there names name (Some k) finds none = absurd (true≢false none)

-- a name that was added was not there, and one that wasn't is there
pub added_new : (before : List (List ℕ)) (name : List ℕ) (after : List (List ℕ)) (new : Bool) → Adds before name after new → new ≡ true → (after ≡ before ++ name ∷ []) × ¬ Contains before name
added_new before name after true adds is = adds
added_new before name after false adds is = absurd (true≢false (sym is))

pub added_old : (before : List (List ℕ)) (name : List ℕ) (after : List (List ℕ)) (new : Bool) → Adds before name after new → new ≡ false → Contains before name
added_old before name after true adds is = absurd (true≢false is)
added_old before name after false adds is = adds.1

-- ---- the table

module _ {K : Type 0} (name_of : K → List ℕ) where
  -- whether a key has this name
  abbrev has_name : List ℕ → K → Bool
  has_name name k = bytes_eq name (name_of k)

  key_named : (name : List ℕ) (keys : List K) (i : ℕ) (d : K) → i < length keys → has_name name (get_or keys i d) ≡ true → get_or (map name_of keys) i [] ≡ name
  key_named name keys i d within same = get_or-map name_of keys i d [] within ∙ sym ((bytes_eq-Decides name (name_of (get_or keys i d))).0 same)

  pub find_some : (name : List ℕ) (keys : List K) (i : ℕ) → Some i ≡ position (has_name name) keys → Finds (map name_of keys) name (Some i)
  find_some name [] i e = absurd cc
  find_some name (k ∷ keys) i e =
      let at = position-Some (has_name name) (k ∷ keys) i k (sym e) in
      (subst (λ n. i < n) (sym (length-map (k ∷ keys) name_of)) at.0, key_named name (k ∷ keys) i k at.0 at.1)

  is_any : (name : List ℕ) (keys : List K) → Contains (map name_of keys) name → list_any (has_name name) keys ≡ true
  is_any name [] among = absurd (omega (arith, among.1))
  is_any name (k ∷ keys) among =
      let within : among.0 < length (k ∷ keys) = subst (λ n. among.0 < n) (length-map (k ∷ keys) name_of) among.1 in
      let e : name ≡ name_of (get_or (k ∷ keys) among.0 k) = sym among.2 ∙ get_or-map name_of (k ∷ keys) among.0 k name within in
      list_any_at (has_name name) (k ∷ keys) among.0 k within ((bytes_eq-Decides name (name_of (get_or (k ∷ keys) among.0 k))).1 e)

  pub find_none : (name : List ℕ) (keys : List K) → list_any (has_name name) keys ≡ false → Finds (map name_of keys) name None
  find_none name keys none = λ among. true≢false (sym (is_any name keys among) ∙ none)

  among_any : (name : List ℕ) (keys : List K) → list_any (has_name name) keys ≡ true → Contains (map name_of keys) name
  among_any name keys any =
      let at = Any-from_list_any (has_name name) keys any in
      let same : has_name name (get_or keys at.0 at.1) ≡ true = subst (λ k. has_name name k ≡ true) (sym at.3) at.4 in
      let within = subst (λ n. at.0 < n) (sym (length-map keys name_of)) at.2 in
      (at.0, within, get_or_default (map name_of keys) at.0 name [] within ∙ key_named name keys at.0 at.1 at.2 same)

  -- an insertion, by whether the name is there
  pub added : (keys : List K) (k : K) (after : List K) (new : Bool) → new ≡ not (list_any (has_name (name_of k)) keys)
      → after ≡ insert_key (λ x y. bytes_eq (name_of x) (name_of y)) keys k → Adds (map name_of keys) (name_of k) (map name_of after) new
  added keys k after new is_new e = by (list_any (has_name (name_of k)) keys) refl
    where
      by : (b : Bool) → list_any (has_name (name_of k)) keys ≡ b → Adds (map name_of keys) (name_of k) (map name_of after) new
      by true any =
          subst (Adds (map name_of keys) (name_of k) (map name_of after)) (sym (is_new ∙ ap not any))
          (ap (map name_of) (e ∙ cond-true _ keys (keys ++ k ∷ []) any), among_any (name_of k) keys any)
      by false none =
          subst (Adds (map name_of keys) (name_of k) (map name_of after)) (sym (is_new ∙ ap not none))
          (ap (map name_of) (e ∙ cond-false _ keys (keys ++ k ∷ []) none) ∙ map_push name_of keys k, find_none (name_of k) keys none)
