-- Paths of imports that were looked up before.
use Rattle.std.proofs.Common.{◌≡◌, ◌∙◌, refl, sym, ap, ap₂, subst, Bool, true, false, cond, ◌||◌, ℕ, suc, ◌+◌, ◌<◌, List, [], ◌∷◌, ◌++◌, length, map, get_or, arith}
use Rattle.std.specs.Prelude.{bytes_eq, not, if◌then◌else◌}
use Rattle.std.specs.List.{position_or_len}
use Rattle.std.proofs.lemmas.List.{map_push}
use Rattle.std.proofs.lemmas.Slice.Eq.{bytes_eq-Decides}
use Rattle.std.proofs.lemmas.Bool.{or_right}
use Rattle.import_linker.proofs.RunLengths.{any-push}
use Rattle.import_linker.proofs.TableLists.{contains-push}
use Rattle.import_linker.specs.Looked.{AreKnown, AreNumbers}
use Rattle.import_linker.specs.Names.{contains}
use Rattle.import_linker.specs.Order.{added, file_at, is_known, joined}

-- ---- the place of a path that was looked up

one_more : (n : ℕ) → 1 + n ≡ suc n
one_more n = omega arith

module _ (path : List ℕ) where
  -- it is inside
  pub place_inside : (paths : List (List ℕ)) → contains paths path ≡ true → position_or_len (bytes_eq path) paths < length paths
  place_inside [] there = cc
  place_inside (p ∷ paths) there = go (bytes_eq path p) there (λ h. place_inside paths h)
    where
      go : (b : Bool) → (b || contains paths path) ≡ true → (contains paths path ≡ true → position_or_len (bytes_eq path) paths < length paths)
          → cond (not b) (1 + position_or_len (bytes_eq path) paths) 0 < suc (length paths)
      go true h rest = omega arith
      go false h rest = let inner = rest h in omega (arith, inner)

  -- what stands there is that of the path
  pub value_there : (f : List ℕ → ℕ) (paths : List (List ℕ)) → contains paths path ≡ true → get_or (map f paths) (position_or_len (bytes_eq path) paths) 0 ≡ f path
  value_there f [] there = cc
  value_there f (p ∷ paths) there = go (bytes_eq path p) refl there (λ h. value_there f paths h)
    where
      go : (b : Bool) → bytes_eq path p ≡ b → (b || contains paths path) ≡ true → (contains paths path ≡ true → get_or (map f paths) (position_or_len (bytes_eq path) paths) 0 ≡ f path)
          → get_or (f p ∷ map f paths) (cond (not b) (1 + position_or_len (bytes_eq path) paths) 0) 0 ≡ f path
      go true is h rest = ap f (sym ((bytes_eq-Decides path p).0 is))
      go false is h rest = ap (λ n. get_or (f p ∷ map f paths) n 0) (one_more (position_or_len (bytes_eq path) paths)) ∙ rest h

-- ---- one path more

-- the file that it names has a number
pub numbers_more : (known : List (List ℕ)) (importer : List ℕ) (paths : List (List ℕ)) (numbers : List ℕ) (path : List ℕ) (number : ℕ) → AreNumbers known importer paths numbers
    → number ≡ file_at known (joined importer path) → AreNumbers known importer (paths ++ path ∷ []) (numbers ++ number ∷ [])
numbers_more known importer paths numbers path number are is =
    ap₂ (λ (l : List ℕ) (n : ℕ). l ++ n ∷ []) are is ∙ sym (map_push (λ p. file_at known (joined importer p)) paths path)

module _ (known : List (List ℕ)) (path : List ℕ) where
  -- what is known stays so
  stays_known : (other : List ℕ) → is_known other known ≡ true → is_known other (added known path) ≡ true
  stays_known other is = go (is_known path known)
    where
      go : (b : Bool) → is_known other (if b then known else known ++ path ∷ []) ≡ true
      go true = is
      go false = any-push (bytes_eq other) known path ∙ ap (λ b. b || bytes_eq other path) is

  -- and so is what was added
  itself_known : is_known path (added known path) ≡ true
  itself_known = go (is_known path known) refl
    where
      go : (b : Bool) → is_known path known ≡ b → is_known path (if b then known else known ++ path ∷ []) ≡ true
      go true is = is
      go false is = any-push (bytes_eq path) known path ∙ ap (λ b. is_known path known || b) ((bytes_eq-Decides path path).1 refl) ∙ or_right (is_known path known) true refl

  -- what is known isn't added
  pub known_added : is_known path known ≡ true → known ≡ added known path
  known_added is = sym (ap (λ b. if b then known else known ++ path ∷ []) is)

-- it is known
pub known_more : (known : List (List ℕ)) (importer : List ℕ) (paths : List (List ℕ)) (path : List ℕ) → AreKnown known importer paths → AreKnown (added known (joined importer path)) importer (paths ++ path ∷ [])
known_more known importer paths path all other there = go (bytes_eq other path) refl
  where
    or_false : (b : Bool) → (b || false) ≡ b
    or_false true = refl
    or_false false = refl

    go : (b : Bool) → bytes_eq other path ≡ b → is_known (joined importer other) (added known (joined importer path)) ≡ true
    go true is = subst (λ (p : List ℕ). is_known (joined importer p) (added known (joined importer path)) ≡ true) (sym ((bytes_eq-Decides other path).0 is)) (itself_known known (joined importer path))
    go false is = stays_known known (joined importer path) (joined importer other)
        (all other (sym (or_false (contains paths other)) ∙ ap (λ b. contains paths other || b) (sym is) ∙ sym (contains-push paths path other) ∙ there))
