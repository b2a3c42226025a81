-- The files that were read have the paths that are known, in order.
use Rattle.std.proofs.Common.{◌≡◌, ◌∙◌, refl, sym, ap, ap₂, subst, Bool, true, false, cond, ℕ, ◌+◌, ◌<◌, ◌≤◌, List, [], ◌∷◌, ◌++◌, length, take, arith, append_assoc, append-nil, Option, Some}
use Rattle.std.specs.Prelude.{slice_get}
use Rattle.std.proofs.lemmas.List.{length-append, map_push, take-append-le, take_all, take_more}
use Rattle.std.proofs.lemmas.Option.{get_or_from_slice_get}
use Rattle.bril_outside.specs.Files.{FileMap}
use Rattle.import_linker.specs.Names.{paths_of}
use Rattle.import_linker.specs.Order.{added, all_added, is_known, known_after, named_by}
use Rattle.import_linker.specs.Reading.{AreNext}
use Rattle.import_linker.specs.declared.sources.Source.{Source}
use Rattle.import_linker.proofs.Knowing.{known_more}
use Rattle.import_linker.proofs.Turning.{got_inside}

one_extends : (known : List (List ℕ)) (path : List ℕ) → (rest : List (List ℕ)) × (added known path ≡ known ++ rest)
one_extends known path = go (is_known path known)
  where
    go : (b : Bool) → (rest : List (List ℕ)) × (cond b known (known ++ path ∷ []) ≡ known ++ rest)
    go true = ([], sym (append-nil known))
    go false = (path ∷ [], refl)

-- paths that are added come last
extends : (known paths : List (List ℕ)) → (rest : List (List ℕ)) × (all_added known paths ≡ known ++ rest)
extends known [] = ([], sym (append-nil known))
extends known (path ∷ paths) =
    let one = one_extends known path in
    let more = extends (added known path) paths in
    (one.0 ++ more.0, more.1 ∙ ap (λ (l : List (List ℕ)). l ++ more.0) one.1 ∙ append_assoc known one.0 more.0)

module _ (holds : Option FileMap) (root : List ℕ) where
  -- the first paths are those of the files that were read
  abbrev AreFirst : List Source → Type 0
  AreFirst done = take (length done) (known_after root done) ≡ paths_of done

  one_first : (done : List Source) (s : Source) → slice_get (known_after root done) (length done) ≡ Some s.path → AreFirst done → AreFirst (done ++ s ∷ [])
  one_first done s at first =
      let known = known_after root done in
      let n = length done in
      let lt : n < length known = got_inside known n s.path at in
      let more = extends known (named_by s) in
      let long : length (done ++ s ∷ []) ≡ n + 1 = length-append done (s ∷ []) in
      let le : n + 1 ≤ length known = omega arith in
      ap₂ (λ (k : ℕ) (l : List (List ℕ)). take k l) long (known_more root done s ∙ more.1)
      ∙ take-append-le (n + 1) known more.0 le
      ∙ take_more known n s.path lt
      ∙ ap₂ (λ (l : List (List ℕ)) (p : List ℕ). l ++ p ∷ []) first (get_or_from_slice_get known n s.path s.path at)
      ∙ sym (map_push (λ (t : Source). t.path) done s)

  all_first : (done more : List Source) → AreNext holds root done more → AreFirst done → AreFirst (done ++ more)
  all_first done [] all first = subst AreFirst (sym (append-nil done)) first
  all_first done (s ∷ more) all first =
      subst AreFirst (append_assoc done (s ∷ []) more) (all_first (done ++ s ∷ []) more all.1 (one_first done s all.0.named first))

  pub paths_are : (sources : List Source) → AreNext holds root [] sources → length (known_after root sources) ≡ length sources → known_after root sources ≡ paths_of sources
  paths_are sources read all =
      let le : length (known_after root sources) ≤ length sources = omega (arith, all) in
      sym (take_all (length sources) (known_after root sources) le) ∙ all_first [] sources read refl
