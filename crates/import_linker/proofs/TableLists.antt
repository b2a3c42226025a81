-- Tables of names, and what they say of functions.
use Rattle.std.proofs.Common.{◌≡◌, ◌∙◌, refl, sym, ap, Bool, true, false, cond, ◌||◌, ℕ, zero, suc, List, [], ◌∷◌, ◌++◌, get_or, Option, Some}
use Rattle.std.specs.Prelude.{bytes_eq, find, if◌then◌else◌, not, option_map}
use Rattle.std.specs.Option.{option_or}
use Rattle.std.proofs.lemmas.Slice.Eq.{bytes_eq-Decides}
use Rattle.bril_tree.specs.declared.import.Taken.{Taken}
use Rattle.import_linker.proofs.RunLengths.{any-push}
use Rattle.import_linker.specs.Names.{Function, NameFault, callees, clash, contains, fault_of, first_lacking, first_unknown, is_there, local_names, names_at, not_there, own_names, paths_of, repeated_after, taken_functions, taken_of}
use Rattle.import_linker.specs.Tables.{AreTables, HaveSame, fault_by, first_absent, first_outside}
use Rattle.import_linker.specs.declared.sources.Source.{Source}

-- ---- membership

pub contains-push : (names : List (List ℕ)) (last name : List ℕ) → contains (names ++ last ∷ []) name ≡ (contains names name || bytes_eq name last)
contains-push names last name = any-push (bytes_eq name) names last

-- a name that is there twice is there once
pub same-push : (table names : List (List ℕ)) (last : List ℕ) → HaveSame table names
    → HaveSame (if contains table last then table else table ++ last ∷ []) (names ++ last ∷ [])
same-push table names last same name = go (contains table last) refl
  where
    any_true : (b : Bool) → (b || true) ≡ true
    any_true true = refl
    any_true false = refl

    any_false : (b : Bool) → (b || false) ≡ b
    any_false true = refl
    any_false false = refl

    old : contains table last ≡ true → (b : Bool) → bytes_eq name last ≡ b → contains table name ≡ (contains names name || b)
    old there true e = ap (contains table) ((bytes_eq-Decides name last).0 e) ∙ there ∙ sym (any_true (contains names name))
    old there false e = same name ∙ sym (any_false (contains names name))

    go : (t : Bool) → contains table last ≡ t → contains (if t then table else table ++ last ∷ []) name ≡ contains (names ++ last ∷ []) name
    go true there = old there (bytes_eq name last) refl ∙ sym (contains-push names last name)
    go false e = contains-push table last name ∙ ap (λ b. b || bytes_eq name last) (same name) ∙ sym (contains-push names last name)

-- ---- lists of tables

pub tables-push : (tables : List (List (List ℕ))) (sources : List Source) (table : List (List ℕ)) (s : Source) → AreTables tables sources → HaveSame table (own_names s)
    → AreTables (tables ++ table ∷ []) (sources ++ s ∷ [])
tables-push [] [] table s all same = (same, tt)
tables-push [] (x ∷ sources) table s all same = absurd all
tables-push (t ∷ tables) [] table s all same = absurd all
tables-push (t ∷ tables) (x ∷ sources) table s all same = (all.0, tables-push tables sources table s all.1 same)

pub there_is : (tables : List (List (List ℕ))) (sources : List Source) → AreTables tables sources → (number : ℕ) (name : List ℕ)
    → contains (get_or tables number []) name ≡ contains (names_at sources number) name
there_is [] [] all number name = refl
there_is [] (s ∷ sources) all number name = absurd all
there_is (t ∷ tables) [] all number name = absurd all
there_is (t ∷ tables) (s ∷ sources) all zero name = all.0 name
there_is (t ∷ tables) (s ∷ sources) all (suc number) name = there_is tables sources all.1 number name

-- a taken function that isn't among the names of the table of its file is absent
pub outside_is : (tables : List (List (List ℕ))) (file : ℕ) (taken : List Taken)
    → first_outside (get_or tables file []) taken ≡ first_absent tables (taken_functions file taken)
outside_is tables file [] = refl
outside_is tables file (t ∷ taken) = go (contains (get_or tables file []) t.name) (outside_is tables file taken)
  where
    go : (b : Bool) → first_outside (get_or tables file []) taken ≡ first_absent tables (taken_functions file taken)
        → option_map (λ (x : Taken). x.name) (cond (not b) (Some t) (find (λ (x : Taken). not (contains (get_or tables file []) x.name)) taken))
        ≡ option_map (λ (f : Function). f.name) (cond (not b) (Some (record { file = file; name = t.name })) (find (λ (f : Function). not (contains (get_or tables f.file []) f.name)) (taken_functions file taken)))
    go true e = e
    go false e = refl

-- a function is absent exactly where it isn't there
pub absent_is : (tables : List (List (List ℕ))) (sources : List Source) → AreTables tables sources → (functions : List Function)
    → first_absent tables functions ≡ first_lacking sources functions
absent_is tables sources all functions =
    let test : (λ (f : Function). not (contains (get_or tables f.file []) f.name)) ≡ (λ (f : Function). not (is_there sources f)) =
    λ i f. not (there_is tables sources all f.file f.name i) in
    ap (λ p. option_map (λ (f : Function). f.name) (find p functions)) test

pub fault_is : (tables : List (List (List ℕ))) (paths : List (List ℕ)) (sources : List Source) (number : ℕ) (s : Source) → AreTables tables sources → paths ≡ paths_of sources
    → fault_by tables paths s ≡ fault_of sources number s
fault_is tables paths sources number s all same =
    ap (λ (first : Option (List ℕ)). option_map (λ (fault : NameFault). (s.path, fault))
    (option_or (option_map clash (repeated_after [] (local_names s))) (option_or (option_map not_there first) (option_map not_there (first_unknown (local_names s) (callees s.tree.funcs))))))
    (absent_is tables sources all (taken_of paths s) ∙ ap (λ (p : List (List ℕ)). first_lacking sources (taken_of p s)) same)
