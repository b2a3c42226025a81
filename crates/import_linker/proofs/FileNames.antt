-- The names of a file, and the first fault of them.
use Rattle.std.proofs.Common.{◌≡◌, ◌∙◌, refl, sym, ap, ap₂, ℕ, ◌+◌, List, [], ◌∷◌, length, map, Option, Some, None}
use Rattle.std.specs.Prelude.{flat_map, option_map}
use Rattle.std.specs.Option.{option_or}
use Rattle.std.proofs.lemmas.List.{length-append, length-map}
use Rattle.bril_tree.specs.declared.import.Import.{Import}
use Rattle.import_linker.specs.Linked.{spelled}
use Rattle.import_linker.specs.Names.{NameFault, callees, clash, first_unknown, functions_of, local_name, local_names, meanings, names_taken, not_there, own_functions, own_names, repeated_after, taken_function, taken_of}
use Rattle.import_linker.specs.Tables.{fault_by, first_absent}
use Rattle.import_linker.specs.Refusing.{IsClash, IsLack, RefusesNames}
use Rattle.import_linker.specs.declared.fault.LinkFault.{LinkFault}
use Rattle.import_linker.specs.declared.fault.LinkFault.TheVariants as fault
use Rattle.import_linker.specs.declared.sources.Source.{Source}

-- ---- as many meanings as names

same_lengths : (paths : List (List ℕ)) (path : List ℕ) (imports : List Import)
    → length (flat_map (functions_of paths path) imports) ≡ length (flat_map (λ (i : Import). names_taken i.names) imports)
same_lengths paths path [] = refl
same_lengths paths path (i ∷ imports) =
    length-append (functions_of paths path i) (flat_map (functions_of paths path) imports)
    ∙ ap₂ (λ (a b : ℕ). a + b) (length-map i.names (taken_function _) ∙ sym (length-map i.names local_name)) (same_lengths paths path imports)
    ∙ sym (length-append (names_taken i.names) (flat_map (λ (j : Import). names_taken j.names) imports))

pub as_many : (run : ℕ) (paths : List (List ℕ)) (number : ℕ) (s : Source) → length (map (spelled run) (meanings paths number s)) ≡ length (local_names s)
as_many run paths number s =
    length-map (meanings paths number s) (spelled run)
    ∙ length-append (taken_of paths s) (own_functions number s.tree.funcs)
    ∙ ap₂ (λ (a b : ℕ). a + b) (same_lengths paths s.path s.tree.imports) (length-map s.tree.funcs _ ∙ sym (length-map s.tree.funcs _))
    ∙ sym (length-append (flat_map (λ (i : Import). names_taken i.names) s.tree.imports) (own_names s))

-- ---- the first fault of a file

module _ (tables : List (List (List ℕ))) (paths : List (List ℕ)) (s : Source) where
  abbrev with_path : Option NameFault → Option (List ℕ × NameFault)
  with_path first = option_map (λ (f : NameFault). (s.path, f)) first

  -- what is sought after names that stand twice, and after taken functions
  abbrev of_taken : Option NameFault
  of_taken = option_map not_there (first_absent tables (taken_of paths s))

  abbrev of_callees : Option NameFault
  of_callees = option_map not_there (first_unknown (local_names s) (callees s.tree.funcs))

  pub clashes : (e : LinkFault) → IsClash e s.path (repeated_after [] (local_names s)) → RefusesNames e (fault_by tables paths s)
  clashes (fault.Read other) h = h
  clashes (fault.Bad other why) h = h
  clashes (fault.NotThere other name) h = absurd h
  clashes (fault.Clash other name) h =
      ap (λ (first : Option (List ℕ)). with_path (option_or (option_map clash first) (option_or of_taken of_callees))) h.1 ∙ ap (λ (p : List ℕ). Some (p, clash name)) (sym h.0)
  clashes fault.TooManyFiles h = h
  clashes fault.TooManyBytes h = h
  clashes fault.Memory h = tt

  module _ (differ : repeated_after [] (local_names s) ≡ None) where
    after_clash : fault_by tables paths s ≡ with_path (option_or of_taken of_callees)
    after_clash = ap (λ (first : Option (List ℕ)). with_path (option_or (option_map clash first) (option_or of_taken of_callees))) differ

    pub lacks_taken : (e : LinkFault) → IsLack e s.path (first_absent tables (taken_of paths s)) → RefusesNames e (fault_by tables paths s)
    lacks_taken (fault.Read other) h = h
    lacks_taken (fault.Bad other why) h = h
    lacks_taken (fault.Clash other name) h = absurd h
    lacks_taken (fault.NotThere other name) h =
        after_clash ∙ ap (λ (first : Option (List ℕ)). with_path (option_or (option_map not_there first) of_callees)) h.1 ∙ ap (λ (p : List ℕ). Some (p, not_there name)) (sym h.0)
    lacks_taken fault.TooManyFiles h = h
    lacks_taken fault.TooManyBytes h = h
    lacks_taken fault.Memory h = tt

    module _ (taken : first_absent tables (taken_of paths s) ≡ None) where
      after_taken : fault_by tables paths s ≡ with_path of_callees
      after_taken = after_clash ∙ ap (λ (first : Option (List ℕ)). with_path (option_or (option_map not_there first) of_callees)) taken

      pub lacks_callee : (e : LinkFault) → IsLack e s.path (first_unknown (local_names s) (callees s.tree.funcs)) → RefusesNames e (fault_by tables paths s)
      lacks_callee (fault.Read other) h = h
      lacks_callee (fault.Bad other why) h = h
      lacks_callee (fault.Clash other name) h = absurd h
      lacks_callee (fault.NotThere other name) h =
          after_taken ∙ ap (λ (first : Option (List ℕ)). with_path (option_map not_there first)) h.1 ∙ ap (λ (p : List ℕ). Some (p, not_there name)) (sym h.0)
      lacks_callee fault.TooManyFiles h = h
      lacks_callee fault.TooManyBytes h = h
      lacks_callee fault.Memory h = tt

      pub is_faultless : first_unknown (local_names s) (callees s.tree.funcs) ≡ None → fault_by tables paths s ≡ None
      is_faultless h = after_taken ∙ ap (λ (first : Option (List ℕ)). with_path (option_map not_there first)) h
