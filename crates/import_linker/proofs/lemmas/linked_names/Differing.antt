-- No two functions of a linked tree have one name.
use Rattle.std.proofs.Common.{◌≡◌, ◌∙◌, ◌⊎◌, refl, sym, ap, ap₂, subst, Bool, true, false, cond, ◌||◌, ℕ, zero, suc, ◌+◌, ◌<◌, ◌≤◌, ◌^◌, List, [], ◌∷◌, ◌++◌, length, map, take, arith, append-nil, append_assoc, Some, None, inl, inr, ⊎_elim}
use Rattle.std.specs.Prelude.{bytes_eq, slice_get}
use Rattle.std.specs.List.{list_any}
use Rattle.std.proofs.lemmas.Bool.{true≢false, or_cases, or_left, or_right, or_parts}
use Rattle.std.proofs.lemmas.List.{map-append, map_push}
use Rattle.std.proofs.lemmas.List.Folds.{list_any-append}
use Rattle.std.proofs.lemmas.Slice.Eq.{bytes_eq-Decides}
use Rattle.bril_tree.proofs.Members.{in_contains, in_map_source}
use Rattle.bril_tree.specs.Membership.{In}
use Rattle.bril_tree.specs.declared.function_tree.FuncTree.{FuncTree}
use Rattle.import_linker.proofs.Repeating.{repeated_more}
use Rattle.import_linker.specs.Linked.{begins_so, linked_file, linked_from, renamed_function}
use Rattle.import_linker.specs.Names.{contains, function_names, local_names, names_at, names_taken, own_names, paths_of, repeated_after}
use Rattle.import_linker.specs.Order.{most_files}
use Rattle.import_linker.specs.declared.sources.Source.{Source}
use Rattle.bril_tree.specs.declared.import.Import.{Import}
use Rattle.std.specs.Prelude.{flat_map}
use Rattle.import_linker.proofs.lemmas.linked_names.Faultless.{AreSoundFiles, drop_first, few_files, sound_files}
use Rattle.import_linker.proofs.lemmas.linked_names.Spelling.{apart_in, name_in, same_in}
use Rattle.import_linker.specs.linked_names.Laws.{LinkedFunctionsDiffer}

-- ---- membership

-- a name in a list is contained in it
pub in_contained : (x : List ℕ) (xs : List (List ℕ)) → In x xs → contains xs x ≡ true
in_contained x [] i = absurd i
in_contained x (y ∷ ys) (inl e) = or_left (bytes_eq x y) (contains ys x) ((bytes_eq-Decides x y).1 e)
in_contained x (y ∷ ys) (inr i) = or_right (bytes_eq x y) (contains ys x) (in_contained x ys i)

pub contained_in : (x : List ℕ) (xs : List (List ℕ)) → contains xs x ≡ true → In x xs
contained_in x [] e = true≢false (sym e)
contained_in x (y ∷ ys) e = ⊎_elim (λ h. inl ((bytes_eq-Decides x y).0 h)) (λ h. inr (contained_in x ys h)) (or_cases (bytes_eq x y) (contains ys x) e)

contains-append : (xs ys : List (List ℕ)) (x : List ℕ) → contains (xs ++ ys) x ≡ (contains xs x || contains ys x)
contains-append xs ys x = list_any-append (bytes_eq x) xs ys

-- ---- names that repeat none

some_none : {A : Type 0} (x : A) → Some x ≡ None → ⊥
some_none x e = cc

-- a name that stands before it, too, is found
no_repeat : (before names : List (List ℕ)) (place : ℕ) (name : List ℕ) → repeated_after before names ≡ None → slice_get names place ≡ Some name → contains (before ++ take place names) name ≡ true → ⊥
no_repeat before [] place name none here there = some_none name (sym here)
no_repeat before (x ∷ xs) zero name none here there =
    let same : x ≡ name = cc in
    some_none x (subst (λ b. cond b (Some x) (repeated_after (before ++ x ∷ []) xs) ≡ None)
    (ap (contains before) same ∙ ap (λ (l : List (List ℕ)). contains l name) (sym (append-nil before)) ∙ there) none)
no_repeat before (x ∷ xs) (suc place) name none here there = go (contains before x) none (λ h. no_repeat (before ++ x ∷ []) xs place name h here)
  where
    go : (b : Bool) → cond b (Some x) (repeated_after (before ++ x ∷ []) xs) ≡ None
        → (repeated_after (before ++ x ∷ []) xs ≡ None → contains ((before ++ x ∷ []) ++ take place xs) name ≡ true → ⊥) → ⊥
    go true h rest = some_none x h
    go false h rest = rest h (ap (λ (l : List (List ℕ)). contains l name) (append_assoc before (x ∷ []) (take place xs)) ∙ there)

-- fewer before them change nothing
fewer_before : (pre seen ys : List (List ℕ)) → repeated_after (pre ++ seen) ys ≡ None → repeated_after seen ys ≡ None
fewer_before pre seen [] none = refl
fewer_before pre seen (y ∷ ys) none = go (contains seen y) refl (contains (pre ++ seen) y) refl none (λ h. fewer_before pre (seen ++ y ∷ []) ys h)
  where
    go : (a : Bool) → contains seen y ≡ a → (b : Bool) → contains (pre ++ seen) y ≡ b → cond b (Some y) (repeated_after ((pre ++ seen) ++ y ∷ []) ys) ≡ None
        → (repeated_after (pre ++ (seen ++ y ∷ [])) ys ≡ None → repeated_after (seen ++ y ∷ []) ys ≡ None) → cond a (Some y) (repeated_after (seen ++ y ∷ []) ys) ≡ None
    go a is true two h rest = absurd (some_none y h)
    go true is false two h rest = absurd (true≢false (sym (contains-append pre seen y ∙ or_right (contains pre y) (contains seen y) is) ∙ two))
    go false is false two h rest = rest (ap (λ (l : List (List ℕ)). repeated_after l ys) (sym (append_assoc pre seen (y ∷ []))) ∙ h)

-- a file's own names
own_differ : (s : Source) → repeated_after [] (local_names s) ≡ None → repeated_after [] (own_names s) ≡ None
own_differ s none =
    let taken = flat_map (λ (i : Import). names_taken i.names) s.tree.imports in
    fewer_before taken [] (own_names s) (ap (λ (l : List (List ℕ)). repeated_after l (own_names s)) (append-nil taken) ∙ drop_first [] taken (own_names s) none)

-- ---- the names of all functions

module _ (run : ℕ) (paths : List (List ℕ)) where
  abbrev named : List FuncTree → List (List ℕ)
  named fs = map (λ f. f.name) fs

  functions_named : (number : ℕ) (rename : List ℕ → List ℕ) (fs : List FuncTree) → named (map (renamed_function run number rename) fs) ≡ map (name_in run number) (function_names fs)
  functions_named number rename [] = refl
  functions_named number rename (f ∷ fs) = ap (λ (l : List (List ℕ)). name_in run number f.name ∷ l) (functions_named number rename fs)

  -- the names of the functions of files, which are numbered from this number
  abbrev pub names_from : ℕ → List Source → List (List ℕ)
  names_from number [] = []
  names_from number (s ∷ rest) = map (name_in run number) (own_names s) ++ names_from (number + 1) rest

  pub names_are : (number : ℕ) (sources : List Source) → named (linked_from run paths number sources) ≡ names_from number sources
  names_are number [] = refl
  names_are number (s ∷ rest) =
      map-append (λ (f : FuncTree). f.name) (linked_file run paths number s) (linked_from run paths (number + 1) rest)
      ∙ ap₂ (λ (a b : List (List ℕ)). a ++ b) (functions_named number _ s.tree.funcs) (names_are (number + 1) rest)

  -- each of these names is that of a function of an earlier file than that of the number
  abbrev Earlier : List (List ℕ) → ℕ → Type 0
  Earlier before number = (z : List ℕ) → contains before z ≡ true → (m : ℕ) × (m < number) × ((y : List ℕ) × (z ≡ name_in run m y) × (m ≡ 0 → begins_so run y ≡ false))

  earlier_more : (before names : List (List ℕ)) (number : ℕ) → Earlier before number → (number ≡ 0 → (y : List ℕ) → contains names y ≡ true → begins_so run y ≡ false) → Earlier (before ++ map (name_in run number) names) (number + 1)
  earlier_more before names number all fresh z there = ⊎_elim
      (λ h. let old = all z h in (old.0, omega (arith, old.1), old.2))
      (λ h. let source = in_map_source (name_in run number) z names (contained_in z (map (name_in run number) names) h) in
      (number, omega arith, (source.0, source.2, λ e. fresh e source.0 (in_contained source.0 names source.1))))
      (or_cases (contains before z) (contains (map (name_in run number) names) z) (sym (contains-append before (map (name_in run number) names) z) ∙ there))

  -- names of a file repeat none of those of earlier files
  none_map : (number : ℕ) → number < 2 ^ 64 → (before seen names : List (List ℕ)) → Earlier before number → repeated_after seen names ≡ None
      → repeated_after (before ++ map (name_in run number) seen) (map (name_in run number) names) ≡ None
  none_map number small before seen [] all none = refl
  none_map number small before seen (x ∷ names) all none =
      go (contains seen x) refl none (contains (before ++ map (name_in run number) seen) (name_in run number x)) refl (λ h. none_map number small before (seen ++ x ∷ []) names all h)
    where
      go : (a : Bool) → contains seen x ≡ a → cond a (Some x) (repeated_after (seen ++ x ∷ []) names) ≡ None
          → (b : Bool) → contains (before ++ map (name_in run number) seen) (name_in run number x) ≡ b
          → (repeated_after (seen ++ x ∷ []) names ≡ None → repeated_after (before ++ map (name_in run number) (seen ++ x ∷ [])) (map (name_in run number) names) ≡ None)
          → cond b (Some (name_in run number x)) (repeated_after ((before ++ map (name_in run number) seen) ++ name_in run number x ∷ []) (map (name_in run number) names)) ≡ None
      go true is h b two rest = absurd (some_none x h)
      go false is h false two rest =
          ap (λ (l : List (List ℕ)). repeated_after l (map (name_in run number) names))
          (append_assoc before (map (name_in run number) seen) (name_in run number x ∷ []) ∙ ap (λ (l : List (List ℕ)). before ++ l) (sym (map_push (name_in run number) seen x)))
          ∙ rest h
      go false is h true two rest = absurd (⊎_elim
          (λ old. let there = all (name_in run number x) old in apart_in run there.0 number there.2.0 x there.1 small there.2.2 (sym there.2.1))
          (λ new. let source = in_map_source (name_in run number) (name_in run number x) seen (contained_in (name_in run number x) (map (name_in run number) seen) new) in
          true≢false (sym (ap (contains seen) (same_in run number x source.0 source.2) ∙ in_contained source.0 seen source.1) ∙ is))
          (or_cases (contains before (name_in run number x)) (contains (map (name_in run number) seen) (name_in run number x)) (sym (contains-append before (map (name_in run number) seen) (name_in run number x)) ∙ two)))

  all_none : (sources : List Source) (number : ℕ) (rest : List Source) (before : List (List ℕ)) → AreSoundFiles sources rest → number + length rest ≤ most_files → Earlier before number
      → (number ≡ 0 → (y : List ℕ) → contains (names_at rest 0) y ≡ true → begins_so run y ≡ false) → repeated_after before (names_from number rest) ≡ None
  all_none sources number [] before sound few all fresh = refl
  all_none sources number (s ∷ rest) before sound few all fresh =
      let own = own_names s in
      let small : number < 2 ^ 64 = omega arith in
      let here : repeated_after before (map (name_in run number) own) ≡ None =
      ap (λ (l : List (List ℕ)). repeated_after l (map (name_in run number) own)) (sym (append-nil before)) ∙ none_map number small before [] own all (own_differ s sound.0.differ) in
      repeated_more before (map (name_in run number) own) (names_from (number + 1) rest) here
      ∙ all_none sources (number + 1) rest (before ++ map (name_in run number) own) sound.1 (omega arith) (earlier_more before own number all fresh) (λ e. absurd (omega arith))

pub functions_differ : LinkedFunctionsDiffer
functions_differ holds root tree linked place twice =
    let links = linked.links in
    let sources = linked.sources in
    let bound = few_files holds root sources linked.files in
    let few : 0 + length sources ≤ most_files = omega arith in
    let sound = sound_files sources 0 sources links.faultless in
    let nothing : Earlier links.run (paths_of sources) [] 0 = λ z there. absurd (true≢false (sym there)) in
    let none = all_none links.run (paths_of sources) sources 0 sources [] sound few nothing (λ e y there. fresh_name (names_at sources 0) links.run links.fresh.fresh y there) in
    let names : map (λ (f : FuncTree). f.name) tree.funcs ≡ names_from links.run (paths_of sources) 0 sources = ap (map (λ (f : FuncTree). f.name)) links.funcs ∙ names_are links.run (paths_of sources) 0 sources in
    let differ = subst (λ (l : List (List ℕ)). repeated_after [] l ≡ None) (sym names) none in
    no_repeat [] (map (λ (f : FuncTree). f.name) tree.funcs) place twice.name differ twice.here
    (in_contained twice.name (take place (map (λ (f : FuncTree). f.name) tree.funcs)) (in_contains twice.name (take place (map (λ (f : FuncTree). f.name) tree.funcs)) twice.before))
  where
    fresh_name : (names : List (List ℕ)) (run : ℕ) → list_any (begins_so run) names ≡ false → (y : List ℕ) → contains names y ≡ true → begins_so run y ≡ false
    fresh_name [] run none y there = absurd (true≢false (sym there))
    fresh_name (x ∷ xs) run none y there = ⊎_elim
        (λ h. ap (begins_so run) ((bytes_eq-Decides y x).0 h) ∙ (or_parts (begins_so run x) (list_any (begins_so run) xs) none).0)
        (λ h. fresh_name xs run (or_parts (begins_so run x) (list_any (begins_so run) xs) none).1 y h)
        (or_cases (bytes_eq y x) (contains xs y) there)
