-- The file at a path, after one was added.
use Rattle.std.proofs.Common.{◌≡◌, ◌≢◌, ℕ, zero, suc, ◌+◌, ◌<◌, ◌≤◌, Bool, true, false, cond, not, List, [], ◌∷◌, ◌++◌, length, get_or, set, get_or-set_same, get_or-set_other, length-set, nat_lt, Some, None, refl, ap, sym, ◌∙◌, arith}
use Rattle.std.specs.List.{find, position, position_or_len}
use Rattle.std.specs.Option.{option_map}
use Rattle.std.specs.Str.{bytes_eq}
use Rattle.std.proofs.lemmas.Grind.{common_steps}
use Rattle.std.proofs.lemmas.List.Quantifiers.{position-Some}
use Rattle.std.proofs.lemmas.Slice.Eq.{bytes_eq-Decides}
use Rattle.bril_outside.specs.declared.stored_file.StoredFile.{StoredFile}
use Rattle.bril_outside.specs.Memory.{file_at, ChangesFile}

-- the first place that passes is the one that is found
find-at : {X : Type 0} (p : X → Bool) (xs : List X) (i : ℕ) (d : X) → i < length xs → p (get_or xs i d) ≡ true → ((k : ℕ) → k < i → p (get_or xs k d) ≡ false) → find p xs ≡ Some (get_or xs i d)
find-at p [] i d low hit before = absurd (omega arith)
find-at p (x ∷ xs) zero d low hit before = grind (arith, common_steps)
find-at p (x ∷ xs) (suc i) d low hit before =
    let miss : p x ≡ false = before zero (omega arith) in
    let later : find p xs ≡ Some (get_or xs i d) = find-at p xs i d (omega arith) hit (λ k h. before (suc k) (omega arith)) in
    rw miss later

find-none : {X : Type 0} (p : X → Bool) (xs : List X) → length xs ≤ position_or_len p xs → find p xs ≡ None
find-none p [] h = refl
find-none p (x ∷ xs) h =
    let step : (b : Bool) → p x ≡ b → suc (length xs) ≤ cond (not b) (1 + position_or_len p xs) 0 → cond b (Some x) (find p xs) ≡ None =
    elim [ true ↦ λ e low. absurd (omega arith) | false ↦ λ e low. find-none p xs (omega arith) ] in
    step (p x) refl h

-- an element in place of another, where neither passes
find-set_miss : {X : Type 0} (p : X → Bool) (xs : List X) (i : ℕ) (v d : X) → p (get_or xs i d) ≡ false → p v ≡ false → find p (set xs i v) ≡ find p xs
find-set_miss p [] i v d was now = refl
find-set_miss p (x ∷ xs) zero v d was now = rw (was, now)
find-set_miss p (x ∷ xs) (suc i) v d was now = ap (λ r. cond (p x) (Some x) r) (find-set_miss p xs i v d was now)

-- an element at the end that does not pass
find-push_miss : {X : Type 0} (p : X → Bool) (xs : List X) (v : X) → p v ≡ false → find p (xs ++ v ∷ []) ≡ find p xs
find-push_miss p [] v miss = rw miss
find-push_miss p (x ∷ xs) v miss = ap (λ r. cond (p x) (Some x) r) (find-push_miss p xs v miss)

-- an element at the end that is the first to pass
find-push_hit : {X : Type 0} (p : X → Bool) (xs : List X) (v : X) → find p xs ≡ None → p v ≡ true → find p (xs ++ v ∷ []) ≡ Some v
find-push_hit p [] v none hit = rw hit
find-push_hit p (x ∷ xs) v none hit =
    let step : (b : Bool) → cond b (Some x) (find p xs) ≡ None → cond b (Some x) (find p (xs ++ v ∷ [])) ≡ Some v =
    elim [ true ↦ λ e. cc | false ↦ λ e. find-push_hit p xs v e hit ] in
    step (p x) none

-- the file at a path is the one at the first place that has it
pub file_at-place : (files : List StoredFile) (path : List ℕ) (i : ℕ) (d : StoredFile) → position (λ f. bytes_eq f.path path) files ≡ Some i → file_at files path ≡ Some (get_or files i d).bytes
file_at-place files path i d e =
    let (low, hit, before) = position-Some (λ (f : StoredFile). bytes_eq f.path path) files i d e in
    ap (option_map (λ f. f.bytes)) (find-at (λ (f : StoredFile). bytes_eq f.path path) files i d low hit before)

-- with no such place there is no file
no_place : (a n : ℕ) → cond (nat_lt a n) (Some a) None ≡ None → n ≤ a
no_place a n e = grind (arith, common_steps)

pub file_at-none : (files : List StoredFile) (path : List ℕ) → position (λ f. bytes_eq f.path path) files ≡ None → file_at files path ≡ None
file_at-none files path e =
    let p : StoredFile → Bool = λ f. bytes_eq f.path path in
    ap (option_map (λ f. f.bytes)) (find-none p files (no_place (position_or_len p files) (length files) e))

-- a path that differs is another to the test
other_path : (p q : List ℕ) → q ≢ p → bytes_eq p q ≡ false
other_path p q ne =
    let step : (b : Bool) → bytes_eq p q ≡ b → b ≡ false =
    elim [ true ↦ λ e. absurd (ne (sym ((bytes_eq-Decides p q).0 e))) | false ↦ λ e. refl ] in
    step (bytes_eq p q) refl

-- a file in place of the first that has the path
module _ (files : List StoredFile) (path : List ℕ) (i : ℕ) (d new : StoredFile) (e : position (λ f. bytes_eq f.path path) files ≡ Some i) (same : new.path ≡ (get_or files i d).path) (bytes : List ℕ) (is : new.bytes ≡ bytes) where
  path_is : (get_or files i d).path ≡ path
  path_is = (bytes_eq-Decides (get_or files i d).path path).0 (position-Some (λ (f : StoredFile). bytes_eq f.path path) files i d e).1

  found : find (λ f. bytes_eq f.path path) (set files i new) ≡ Some new
  found =
      let p : StoredFile → Bool = λ f. bytes_eq f.path path in
      let (low, hit, before) = position-Some p files i d e in
      let at_place : get_or (set files i new) i d ≡ new = get_or-set_same files i new d low in
      let within : i < length (set files i new) = rw length-set low in
      let passes : p (get_or (set files i new) i d) ≡ true = rw at_place ((bytes_eq-Decides new.path path).1 (same ∙ path_is)) in
      let earlier : (k : ℕ) → k < i → p (get_or (set files i new) k d) ≡ false =
      λ k h. let ne : k ≢ i = omega arith in rw get_or-set_other (before k h) in
      find-at p (set files i new) i d within passes earlier ∙ ap Some at_place

  pub ChangesFile-set : ChangesFile (file_at files) (file_at (set files i new)) path bytes
  ChangesFile-set = record {
    there = ap (option_map (λ f. f.bytes)) found ∙ ap Some is;
    others = λ q ne. ap (option_map (λ f. f.bytes)) (find-set_miss (λ (f : StoredFile). bytes_eq f.path q) files i new d
        (other_path (get_or files i d).path q (λ eq. ne (eq ∙ path_is)))
        (other_path new.path q (λ eq. ne (eq ∙ (same ∙ path_is)))));
  }

-- a file at the end, where none has the path
pub ChangesFile-push : (files : List StoredFile) (new : StoredFile) (path bytes : List ℕ) → new.path ≡ path → new.bytes ≡ bytes → position (λ f. bytes_eq f.path path) files ≡ None → ChangesFile (file_at files) (file_at (files ++ new ∷ [])) path bytes
ChangesFile-push files new path bytes same is e =
    let p : StoredFile → Bool = λ f. bytes_eq f.path path in
    record {
      there = ap (option_map (λ f. f.bytes)) (find-push_hit p files new (find-none p files (no_place (position_or_len p files) (length files) e)) ((bytes_eq-Decides new.path path).1 same)) ∙ ap Some is;
      others = λ q ne. ap (option_map (λ f. f.bytes)) (find-push_miss (λ (f : StoredFile). bytes_eq f.path q) files new (other_path new.path q (λ eq. ne (eq ∙ same))));
    }
