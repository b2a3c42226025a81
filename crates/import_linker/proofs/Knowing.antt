-- Paths that are known, and files that are read in order.
use Rattle.std.proofs.Common.{◌≡◌, ◌∙◌, refl, sym, ap, subst, Bool, true, false, cond, ℕ, zero, suc, ◌+◌, ◌<◌, ◌≤◌, List, [], ◌∷◌, ◌++◌, length, map, take, drop, get_or, arith, append_assoc, append-nil, Option}
use Rattle.std.specs.Prelude.{fold, flat_map}
use Rattle.std.proofs.lemmas.List.{length-append, take_more, map_push, map-append, take-append-drop}
use Rattle.std.proofs.lemmas.Grind.{flat_map-append}
use Rattle.bril_outside.specs.Files.{FileMap}
use Rattle.bril_tree.specs.declared.import.Import.{Import}
use Rattle.import_linker.specs.Adding.{AddsTooMany}
use Rattle.import_linker.specs.declared.fault.LinkFault.{LinkFault}
use Rattle.import_linker.specs.declared.fault.LinkFault.TheVariants as fault
use Rattle.import_linker.specs.Order.{added, all_added, is_known, joined, known_after, most_files, named_by, named_in}
use Rattle.import_linker.specs.Reading.{AreNext, IsNext, bytes_of}
use Rattle.import_linker.specs.declared.sources.Source.{Source}

-- ---- adding

added_grows : (known : List (List ℕ)) (path : List ℕ) → length known ≤ length (added known path)
added_grows known path = go (is_known path known)
  where
    go : (b : Bool) → length known ≤ length (cond b known (known ++ path ∷ []))
    go true = omega arith
    go false = simp length-append (omega arith)

pub all_added_grows : (known paths : List (List ℕ)) → length known ≤ length (all_added known paths)
all_added_grows known [] = omega arith
all_added_grows known (path ∷ paths) =
    let here = added_grows known path in
    let rest = all_added_grows (added known path) paths in
    omega (arith, here, rest)

pub all_added-append : (known xs ys : List (List ℕ)) → all_added known (xs ++ ys) ≡ all_added (all_added known xs) ys
all_added-append known [] ys = refl
all_added-append known (x ∷ xs) ys = all_added-append (added known x) xs ys

-- what the first paths pass, all do
pub passes_more : (known xs ys : List (List ℕ)) (most : ℕ) → most < length (all_added known xs) → most < length (all_added known (xs ++ ys))
passes_more known xs ys most long =
    let grows = all_added_grows (all_added known xs) ys in
    rw (all_added-append known xs ys) (omega (arith, grows, long))

-- ---- one more file

pub known_more : (root : List ℕ) (done : List Source) (s : Source) → known_after root (done ++ s ∷ []) ≡ all_added (known_after root done) (named_by s)
known_more root done s =
    ap (all_added (root ∷ [])) (flat_map-append named_by done (s ∷ []) ∙ ap (λ (l : List (List ℕ)). flat_map named_by done ++ l) (append-nil (named_by s)))
    ∙ all_added-append (root ∷ []) (flat_map named_by done) (named_by s)

pub next_more : (holds : Option FileMap) (root : List ℕ) (done more : List Source) (s : Source) → AreNext holds root done more → IsNext holds root (done ++ more) s
    → AreNext holds root done (more ++ s ∷ [])
next_more holds root done [] s all next = (subst (λ (l : List Source). IsNext holds root l s) (append-nil done) next, tt)
next_more holds root done (x ∷ more) s all next =
    (all.0, next_more holds root (done ++ x ∷ []) more s all.1 (subst (λ (l : List Source). IsNext holds root l s) (sym (append_assoc done (x ∷ []) more)) next))

fold_push : (xs : List Source) (start : ℕ) (s : Source) → fold (λ (a : ℕ) (x : Source). a + x.size) start (xs ++ s ∷ []) ≡ fold (λ (a : ℕ) (x : Source). a + x.size) start xs + s.size
fold_push [] start s = refl
fold_push (x ∷ xs) start s = fold_push xs (start + x.size) s

pub bytes_more : (done : List Source) (s : Source) → bytes_of (done ++ s ∷ []) ≡ bytes_of done + s.size
bytes_more done s = fold_push done 0 s

-- ---- one more import

pub named_more : (importer : List ℕ) (imports : List Import) (i : ℕ) (import_ : Import) → i < length imports → import_ ≡ get_or imports i import_
    → named_in importer (take (i + 1) imports) ≡ named_in importer (take i imports) ++ joined importer import_.path ∷ []
named_more importer imports i import_ lt is =
    ap (map (λ (j : Import). joined importer j.path)) (take_more imports i import_ lt ∙ ap (λ (j : Import). take i imports ++ j ∷ []) (sym is))
    ∙ map_push (λ (j : Import). joined importer j.path) (take i imports) import_

pub named_taken : (importer : List ℕ) (imports : List Import) (i : ℕ) → length imports ≤ i → named_in importer (take i imports) ≡ named_in importer imports
named_taken importer imports i le = ap (named_in importer) (taken_all imports i le)
  where
    taken_all : (xs : List Import) (k : ℕ) → length xs ≤ k → take k xs ≡ xs
    taken_all [] zero le = refl
    taken_all [] (suc k) le = refl
    taken_all (x ∷ xs) zero le = absurd (omega arith)
    taken_all (x ∷ xs) (suc k) le = ap (λ (r : List Import). x ∷ r) (taken_all xs k (omega arith))

named_split : (importer : List ℕ) (imports : List Import) (i : ℕ) → named_in importer imports ≡ named_in importer (take i imports) ++ named_in importer (drop i imports)
named_split importer imports i = ap (named_in importer) (sym (take-append-drop i imports)) ∙ map-append (λ (j : Import). joined importer j.path) (take i imports) (drop i imports)

too_many : (e : LinkFault) (known xs rest : List (List ℕ)) → AddsTooMany e known xs → AddsTooMany e known (xs ++ rest)
too_many (fault.Read path) known xs rest h = h
too_many (fault.Bad path why) known xs rest h = h
too_many (fault.NotThere path name) known xs rest h = h
too_many (fault.Clash path name) known xs rest h = h
too_many fault.TooManyFiles known xs rest h = passes_more known xs rest most_files h
too_many fault.TooManyBytes known xs rest h = h
too_many fault.Memory known xs rest h = tt

after_all : (e : LinkFault) (known xs ys : List (List ℕ)) → AddsTooMany e (all_added known xs) ys → AddsTooMany e known (xs ++ ys)
after_all (fault.Read path) known xs ys h = h
after_all (fault.Bad path why) known xs ys h = h
after_all (fault.NotThere path name) known xs ys h = h
after_all (fault.Clash path name) known xs ys h = h
after_all fault.TooManyFiles known xs ys h = rw (all_added-append known xs ys) h
after_all fault.TooManyBytes known xs ys h = h
after_all fault.Memory known xs ys h = tt

-- an import that passes the bound, among all
pub adds_too_many : (e : LinkFault) (known now : List (List ℕ)) (importer path : List ℕ) (imports : List Import) (i : ℕ) (import_ : Import) → i < length imports → import_ ≡ get_or imports i import_
    → now ≡ all_added known (named_in importer (take i imports)) → path ≡ joined importer import_.path → AddsTooMany e now (path ∷ []) → AddsTooMany e known (named_in importer imports)
adds_too_many e known now importer path imports i import_ lt is known_is path_is h =
    let before = named_in importer (take i imports) in
    let here : AddsTooMany e (all_added known before) (joined importer import_.path ∷ []) =
    subst (λ (k : List (List ℕ)). AddsTooMany e k (joined importer import_.path ∷ [])) known_is (subst (λ (p : List ℕ). AddsTooMany e now (p ∷ [])) path_is h) in
    subst (AddsTooMany e known) (sym (named_split importer imports (i + 1)))
    (too_many e known (named_in importer (take (i + 1) imports)) (named_in importer (drop (i + 1) imports))
    (subst (AddsTooMany e known) (sym (named_more importer imports i import_ lt is)) (after_all e known before (joined importer import_.path ∷ []) here)))
