-- Files whose names are not at fault.
use Rattle.std.proofs.Common.{◌≡◌, ◌∙◌, refl, sym, ap, subst, Bool, true, false, cond, ℕ, ◌+◌, ◌≤◌, List, [], ◌∷◌, ◌++◌, length, arith, append-nil, append_assoc, Option, Some, None}
use Rattle.std.specs.Prelude.{option_map}
use Rattle.std.specs.Option.{option_or}
use Rattle.bril_outside.specs.Files.{FileMap}
use Rattle.import_linker.specs.Names.{callees, clash, contains, fault_from, fault_of, first_lacking, first_unknown, local_names, name_fault, not_there, paths_of, repeated_after, taken_of}
use Rattle.import_linker.specs.Order.{known_after, most_files}
use Rattle.import_linker.specs.Reading.{AreFiles, AreNext}
use Rattle.import_linker.specs.declared.sources.Source.{Source}

-- ---- no fault

first_none : {A : Type 0} (a b : Option A) → option_or a b ≡ None → a ≡ None
first_none None b e = refl
first_none (Some x) b e = cc

second_none : {A : Type 0} (a b : Option A) → option_or a b ≡ None → b ≡ None
second_none None b e = e
second_none (Some x) b e = cc

pub map_none : {A B : Type 0} (f : A → B) (o : Option A) → option_map f o ≡ None → o ≡ None
map_none f None e = refl
map_none f (Some x) e = cc

-- what holds of the names of the file of a number
pub record IsSoundFile (sources : List Source) (s : Source) : Type 0 where
  pub differ : repeated_after [] (local_names s) ≡ None
  pub taken : first_lacking sources (taken_of (paths_of sources) s) ≡ None
  pub known : first_unknown (local_names s) (callees s.tree.funcs) ≡ None

sound_file : (sources : List Source) (number : ℕ) (s : Source) → fault_of sources number s ≡ None → IsSoundFile sources s
sound_file sources number s e =
    let whole = map_none (λ fault. (s.path, fault)) (name_fault sources number s) e in
    let rest = second_none (option_map clash (repeated_after [] (local_names s))) _ whole in
    record {
      differ = map_none clash (repeated_after [] (local_names s)) (first_none (option_map clash (repeated_after [] (local_names s))) _ whole);
      taken = map_none not_there (first_lacking sources (taken_of (paths_of sources) s)) (first_none (option_map not_there (first_lacking sources (taken_of (paths_of sources) s))) _ rest);
      known = map_none not_there (first_unknown (local_names s) (callees s.tree.funcs)) (second_none (option_map not_there (first_lacking sources (taken_of (paths_of sources) s))) _ rest);
    }

-- what holds of the names of some of the files
abbrev pub AreSoundFiles : List Source → List Source → Type 0
AreSoundFiles sources [] = Unit {0}
AreSoundFiles sources (s ∷ rest) = IsSoundFile sources s × AreSoundFiles sources rest

pub sound_files : (sources : List Source) (number : ℕ) (rest : List Source) → fault_from sources number rest ≡ None → AreSoundFiles sources rest
sound_files sources number [] e = tt
sound_files sources number (s ∷ rest) e = (
  sound_file sources number s (first_none (fault_of sources number s) (fault_from sources (number + 1) rest) e),
  sound_files sources (number + 1) rest (second_none (fault_of sources number s) (fault_from sources (number + 1) rest) e),
)

-- ---- there are few files

module _ (holds : Option FileMap) (root : List ℕ) where
  few_after : (done xs : List Source) → AreNext holds root done xs → length (known_after root done) ≤ most_files → length (known_after root (done ++ xs)) ≤ most_files
  few_after done [] next few = subst (λ (l : List Source). length (known_after root l) ≤ most_files) (sym (append-nil done)) few
  few_after done (x ∷ xs) next few =
      subst (λ (l : List Source). length (known_after root l) ≤ most_files) (append_assoc done (x ∷ []) xs) (few_after (done ++ x ∷ []) xs next.1 next.0.few)

  pub few_files : (sources : List Source) → AreFiles holds root sources → length sources ≤ most_files
  few_files sources files =
      let begin : length (known_after root []) ≤ most_files = omega arith in
      let all = few_after [] sources files.read begin in
      let same = files.all in
      omega arith

-- ---- names that don't repeat

-- the later ones don't repeat the first ones
pub drop_first : (before xs ys : List (List ℕ)) → repeated_after before (xs ++ ys) ≡ None → repeated_after (before ++ xs) ys ≡ None
drop_first before [] ys none = ap (λ (l : List (List ℕ)). repeated_after l ys) (append-nil before) ∙ none
drop_first before (x ∷ xs) ys none = go (contains before x) none (λ h. drop_first (before ++ x ∷ []) xs ys h)
  where
    go : (b : Bool) → cond b (Some x) (repeated_after (before ++ x ∷ []) (xs ++ ys)) ≡ None
        → (repeated_after (before ++ x ∷ []) (xs ++ ys) ≡ None → repeated_after ((before ++ x ∷ []) ++ xs) ys ≡ None) → repeated_after (before ++ x ∷ xs) ys ≡ None
    go true h rest = absurd (some_none h)
      where
        some_none : Some x ≡ None → ⊥
        some_none e = cc
    go false h rest = ap (λ (l : List (List ℕ)). repeated_after l ys) (sym (append_assoc before (x ∷ []) xs)) ∙ rest h
