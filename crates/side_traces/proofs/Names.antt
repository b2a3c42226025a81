-- The names of the labels of side exits, and the exits by them.
use Rattle.std.proofs.Common.{◌≡◌, ℕ, zero, suc, ◌+◌, ◌<◌, ◌^◌, true, List, [], ◌∷◌, ◌++◌, length, Some, None, refl, sym, ap, subst, ◌∙◌, arith}
use Rattle.std.specs.Prelude.{codes, slice_get}
use Rattle.std.specs.Fmt.{decimal}
use Rattle.std.proofs.lemmas.Option.{same_Some}
use Rattle.bril_tree.specs.Identifier.{is_identifier}
use Rattle.bril_tree.proofs.Identifiers.{decimal_continues, longer_identifier}
use Rattle.pass_edit_laws.specs.labels.Fresh.{IsFresh}
use Rattle.pass_edit_laws.proofs.lemmas.labels.Fresh.{fresh-one}
use Rattle.side_laws.specs.Paired.{Pair}
use Rattle.side_laws.specs.Sided.{AreExits, SideExit}
use Rattle.side_traces.specs.Names.{AreExitNames, exits_with, side_name}

-- they are identifiers
pub side-identifier : (n : ℕ) → n < 2 ^ 64 → is_identifier (side_name n) ≡ true
side-identifier n small = longer_identifier (codes "side") (decimal n) refl (decimal_continues n small)

module _ (taken : List (List ℕ)) where
  -- one name more
  pub names-push : (J : ℕ) (names : List (List ℕ)) (name : List ℕ) → AreExitNames taken J names → IsFresh taken (side_name (J + length names)) name → AreExitNames taken J (names ++ name ∷ [])
  names-push J [] name are fresh = let e : J + 0 ≡ J = omega arith in (subst (λ n. IsFresh taken (side_name n) name) e fresh, tt)
  names-push J (x ∷ names) name are fresh =
      let e : J + suc (length names) ≡ suc J + length names = omega arith in
      (are.0, names-push (suc J) names name are.1 (subst (λ n. IsFresh taken (side_name n) name) e fresh))

  pub names-more : (names more : List (List ℕ)) (name base : List ℕ) (place : ℕ) → length names ≡ place → base ≡ side_name (place + 1) → IsFresh taken base name → more ≡ names ++ name ∷ [] → AreExitNames taken 1 names → AreExitNames taken 1 more
  names-more names more name base place long is fresh pushed are =
      let number : place + 1 ≡ 1 + length names = omega (arith, long) in
      subst (AreExitNames taken 1) (sym pushed) (names-push 1 names name are (subst (λ b. IsFresh taken b name) (is ∙ ap side_name number) fresh))

  -- pairs with names are side exits
  pub exits-named : (J : ℕ) (pairs : List Pair) (names : List (List ℕ)) → length names ≡ length pairs → AreExitNames taken J names → AreExits taken J pairs (exits_with pairs names)
  exits-named J [] names long are = refl
  exits-named J (p ∷ pairs) [] long are = absurd (omega (arith, long))
  exits-named J (p ∷ pairs) (n ∷ names) long are = (refl, are.0, exits-named (suc J) pairs names (omega (arith, long)) are.1)

  -- pairs have one list of side exits
  pub exits-one : (J : ℕ) (pairs : List Pair) (xs ys : List SideExit) → AreExits taken J pairs xs → AreExits taken J pairs ys → xs ≡ ys
  exits-one J [] xs ys a b = a ∙ sym b
  exits-one J (p ∷ pairs) [] ys a b = absurd a
  exits-one J (p ∷ pairs) (x ∷ xs) [] a b = absurd b
  exits-one J (p ∷ pairs) (x ∷ xs) (y ∷ ys) a b =
      let pair : x.pair ≡ y.pair = a.0 ∙ sym b.0 in
      let name : x.name ≡ y.name = fresh-one taken (side_name J) x.name y.name a.1 b.1 in
      let rest = exits-one (suc J) pairs xs ys a.2 b.2 in
      λ i. record { pair = pair i; name = name i } ∷ rest i

-- There are as many as there are pairs,
pub exits-long : (pairs : List Pair) (names : List (List ℕ)) → length names ≡ length pairs → length (exits_with pairs names) ≡ length pairs
exits-long [] names long = refl
exits-long (p ∷ pairs) [] long = absurd (omega (arith, long))
exits-long (p ∷ pairs) (n ∷ names) long = ap suc (exits-long pairs names (omega (arith, long)))

-- so at the place of each stand a pair and a name,
pub place-there : (pairs : List Pair) (names : List (List ℕ)) (exits : List SideExit) (place : ℕ) → length names ≡ length pairs → exits_with pairs names ≡ exits → place < length exits → (place < length pairs) × (place < length names)
place-there pairs names exits place same is less =
    let long = exits-long pairs names same in
    let all = ap (λ (l : List SideExit). length l) is in
    (omega (arith, long, all, less), omega (arith, long, all, less, same))

-- which are its own.
pub exits-at : (pairs : List Pair) (names : List (List ℕ)) (k : ℕ) (p : Pair) (name : List ℕ) → slice_get pairs k ≡ Some p → slice_get names k ≡ Some name → slice_get (exits_with pairs names) k ≡ Some (record { pair = p; name = name })
exits-at [] names k p name at is = absurd (let h : None ≡ Some p = at in cc)
exits-at (q ∷ pairs) [] k p name at is = absurd (let h : None ≡ Some name = is in cc)
exits-at (q ∷ pairs) (n ∷ names) zero p name at is = let a = same_Some q p at in let b = same_Some n name is in λ i. Some (record { pair = a i; name = b i })
exits-at (q ∷ pairs) (n ∷ names) (suc k) p name at is = exits-at pairs names k p name at is
