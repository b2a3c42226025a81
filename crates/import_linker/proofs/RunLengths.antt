-- Runs of `_` with which a name begins.
use Rattle.std.proofs.Common.{◌≡◌, ◌∙◌, refl, sym, ap, Bool, true, false, ℕ, zero, suc, ◌+◌, ◌<◌, List, [], ◌∷◌, ◌++◌, ◌||◌, length, drop, get_or, arith, Option, Some, None, nat_eq, eqb-true}
use Rattle.std.specs.Prelude.{option_map, ◌==◌, if◌then◌else◌, ◌&&◌}
use Rattle.std.specs.Char.{is_ascii_digit}
use Rattle.std.specs.Option.{option_map_or}
use Rattle.std.specs.List.{list_any}
use Rattle.std.proofs.lemmas.Bool.{true≢false, or_right}
use Rattle.std.proofs.lemmas.Bool.Decides.{Decides-eqb}
use Rattle.std.proofs.lemmas.List.Folds.{list_any-append}
use Rattle.std.proofs.lemmas.List.{drop_more}
use Rattle.import_linker.specs.Linked.{begins_so}
use Rattle.import_linker.specs.Runs.{run_of}

-- the run of the whole, where the first so many bytes are `_`
abbrev pub run_after : ℕ → List ℕ → Option ℕ
run_after i name = option_map (λ n. i + n) (run_of (drop i name))

module _ (name : List ℕ) (i : ℕ) (lt : i < length name) where
  here : run_after i name ≡ option_map (λ n. i + n) (run_of (get_or name i 0 ∷ drop (i + 1) name))
  here = ap (λ (l : List ℕ). option_map (λ n. i + n) (run_of l)) (drop_more name i 0 lt)

  pub run_more : (get_or name i 0 == 95) ≡ true → run_after i name ≡ run_after (i + 1) name
  run_more mark = here ∙ ap (λ b. option_map (λ n. i + n) (if b then option_map suc (run_of (drop (i + 1) name)) else if is_ascii_digit (get_or name i 0) then Some 0 else None)) mark
      ∙ go (run_of (drop (i + 1) name))
    where
      go : (o : Option ℕ) → option_map (λ n. i + n) (option_map suc o) ≡ option_map (λ n. (i + 1) + n) o
      go None = refl
      go (Some n) = let e : i + suc n ≡ (i + 1) + n = omega arith in ap Some e

  pub run_ends : (get_or name i 0 == 95) ≡ false → run_after i name ≡ (if is_ascii_digit (get_or name i 0) then Some i else None)
  run_ends mark = here ∙ ap (λ b. option_map (λ n. i + n) (if b then option_map suc (run_of (drop (i + 1) name)) else if is_ascii_digit (get_or name i 0) then Some 0 else None)) mark
      ∙ go (is_ascii_digit (get_or name i 0))
    where
      go : (b : Bool) → option_map (λ n. i + n) (if b then Some 0 else None) ≡ (if b then Some i else None)
      go true = let e : i + 0 ≡ i = omega arith in ap Some e
      go false = refl

pub not_equal : (a b : ℕ) → ¬ (a ≡ b) → nat_eq a b ≡ false
not_equal a b ne = go (nat_eq a b) refl
  where
    go : (t : Bool) → nat_eq a b ≡ t → nat_eq a b ≡ false
    go true e = absurd (ne (eqb-true a b e))
    go false e = e

same_suc : (n m : ℕ) → nat_eq n m ≡ nat_eq (suc n) (suc m)
same_suc n m = go (nat_eq n m) refl
  where
    go : (t : Bool) → nat_eq n m ≡ t → nat_eq n m ≡ nat_eq (suc n) (suc m)
    go true e = e ∙ sym ((Decides-eqb (suc n) (suc m)).1 (ap suc (eqb-true n m e)))
    go false e = e ∙ sym (not_equal (suc n) (suc m) (λ q. true≢false (sym ((Decides-eqb n m).1 (omega arith)) ∙ e)))

-- the name begins with so many `_` and a digit exactly where this is its run
pub begins_run : (name : List ℕ) (n : ℕ) → begins_so n name ≡ option_map_or (nat_eq n) (run_of name) false
begins_run [] n = refl
begins_run (byte ∷ bytes) zero = go (byte == 95) refl
  where
    none_zero : (o : Option ℕ) → false ≡ option_map_or (nat_eq 0) (option_map suc o) false
    none_zero None = refl
    none_zero (Some n) = sym (not_equal 0 (suc n) (λ e. omega arith))

    digit : (d : Bool) → d ≡ option_map_or (nat_eq 0) (if d then Some 0 else None) false
    digit true = refl
    digit false = refl

    go : (u : Bool) → (byte == 95) ≡ u → is_ascii_digit byte ≡ option_map_or (nat_eq 0) (if u then option_map suc (run_of bytes) else if is_ascii_digit byte then Some 0 else None) false
    go true e = ap is_ascii_digit (eqb-true byte 95 e) ∙ none_zero (run_of bytes)
    go false e = digit (is_ascii_digit byte)
begins_run (byte ∷ bytes) (suc n) = go (byte == 95) (is_ascii_digit byte) (run_of bytes) (begins_run bytes n)
  where
    go : (u d : Bool) (o : Option ℕ) → begins_so n bytes ≡ option_map_or (nat_eq n) o false
        → (u && begins_so n bytes) ≡ option_map_or (nat_eq (suc n)) (if u then option_map suc o else if d then Some 0 else None) false
    go true d None e = e
    go true d (Some m) e = e ∙ same_suc n m
    go false true o e = sym (not_equal (suc n) 0 (λ q. omega arith))
    go false false o e = refl

-- ---- one item more

or_false : (b : Bool) → (b || false) ≡ b
or_false true = refl
or_false false = refl

pub any-push : {X : Type 0} (p : X → Bool) (xs : List X) (x : X) → list_any p (xs ++ x ∷ []) ≡ (list_any p xs || p x)
any-push p xs x = list_any-append p xs (x ∷ []) ∙ ap (λ b. list_any p xs || b) (or_false (p x))

-- ---- the runs that names have

pub begins_none : (name : List ℕ) (n : ℕ) → None ≡ run_of name → begins_so n name ≡ false
begins_none name n e = begins_run name n ∙ ap (λ (o : Option ℕ). option_map_or (nat_eq n) o false) (sym e)

pub begins_some : (name : List ℕ) (n run : ℕ) → Some run ≡ run_of name → begins_so n name ≡ nat_eq n run
begins_some name n run e = begins_run name n ∙ ap (λ (o : Option ℕ). option_map_or (nat_eq n) o false) (sym e)

-- a name without a run adds none
pub none_added : (runs name : List ℕ) (n : ℕ) → None ≡ run_of name → list_any (nat_eq n) runs ≡ (list_any (nat_eq n) runs || begins_so n name)
none_added runs name n e = sym (ap (λ b. list_any (nat_eq n) runs || b) (begins_none name n e) ∙ or_false (list_any (nat_eq n) runs))

-- a name with a run adds it
pub run_added : (runs after name : List ℕ) (n run : ℕ) → Some run ≡ run_of name → after ≡ (if list_any (nat_eq run) runs then runs else runs ++ run ∷ [])
    → list_any (nat_eq n) after ≡ (list_any (nat_eq n) runs || begins_so n name)
run_added runs after name n run e is =
    ap (list_any (nat_eq n)) is ∙ go (list_any (nat_eq run) runs) refl ∙ ap (λ b. list_any (nat_eq n) runs || b) (sym (begins_some name n run e))
  where
    there : list_any (nat_eq run) runs ≡ true → (b : Bool) → nat_eq n run ≡ b → list_any (nat_eq n) runs ≡ (list_any (nat_eq n) runs || b)
    there has true same = ap (λ m. list_any (nat_eq m) runs) (eqb-true n run same) ∙ has ∙ sym (or_right (list_any (nat_eq n) runs) true refl)
    there has false same = sym (or_false (list_any (nat_eq n) runs))

    go : (t : Bool) → list_any (nat_eq run) runs ≡ t → list_any (nat_eq n) (if t then runs else runs ++ run ∷ []) ≡ (list_any (nat_eq n) runs || nat_eq n run)
    go true has = there has (nat_eq n run) refl
    go false has = any-push (nat_eq n) runs run
