-- Names that are added one after another.
use Rattle.std.proofs.Common.{subst, zero, suc, ◌+◌, ◌<◌, ◌≤◌, length, map, take, drop, get_or, arith, ◌≡◌, ◌∙◌, refl, sym, ap, Bool, true, false, cond, ℕ, List, [], ◌∷◌, ◌++◌, append_assoc, append-nil, Some, None}
use Rattle.std.specs.Prelude.{flat_map}
use Rattle.std.proofs.lemmas.List.{take_more, map_push, map-append, take-append-drop}
use Rattle.std.proofs.lemmas.Grind.{flat_map-append}
use Rattle.import_linker.specs.declared.fault.LinkFault.{LinkFault}
use Rattle.import_linker.specs.declared.fault.LinkFault.TheVariants as fault
use Rattle.import_linker.specs.Names.{contains, repeated_after}
use Rattle.import_linker.specs.Refusing.{IsClash}

-- why names were not added after others
abbrev pub Clashes : LinkFault → List ℕ → List (List ℕ) → List (List ℕ) → Type 0
Clashes e path before names = IsClash e path (repeated_after before names)

-- where none of the first names repeats one, the rest decides
pub repeated_more : (before xs ys : List (List ℕ)) → repeated_after before xs ≡ None → repeated_after before (xs ++ ys) ≡ repeated_after (before ++ xs) ys
repeated_more before [] ys none = ap (λ (l : List (List ℕ)). repeated_after l ys) (sym (append-nil before))
repeated_more before (x ∷ xs) ys none = go (contains before x) none (λ h. repeated_more (before ++ x ∷ []) xs ys h)
  where
    go : (b : Bool) → cond b (Some x) (repeated_after (before ++ x ∷ []) xs) ≡ None
        → (repeated_after (before ++ x ∷ []) xs ≡ None → repeated_after (before ++ x ∷ []) (xs ++ ys) ≡ repeated_after ((before ++ x ∷ []) ++ xs) ys)
        → cond b (Some x) (repeated_after (before ++ x ∷ []) (xs ++ ys)) ≡ repeated_after (before ++ x ∷ xs) ys
    go true h rest = cc
    go false h rest = rest h ∙ ap (λ (l : List (List ℕ)). repeated_after l ys) (append_assoc before (x ∷ []) xs)

-- the first that repeats one stays the first
pub repeated_stays : (before xs ys : List (List ℕ)) (name : List ℕ) → repeated_after before xs ≡ Some name → repeated_after before (xs ++ ys) ≡ Some name
repeated_stays before [] ys name some = cc
repeated_stays before (x ∷ xs) ys name some = go (contains before x) some (λ h. repeated_stays (before ++ x ∷ []) xs ys name h)
  where
    go : (b : Bool) → cond b (Some x) (repeated_after (before ++ x ∷ []) xs) ≡ Some name
        → (repeated_after (before ++ x ∷ []) xs ≡ Some name → repeated_after (before ++ x ∷ []) (xs ++ ys) ≡ Some name)
        → cond b (Some x) (repeated_after (before ++ x ∷ []) (xs ++ ys)) ≡ Some name
    go true h rest = h
    go false h rest = rest h

-- a refusal after names that were added, seen from before them
pub refuses_after : (e : LinkFault) (path : List ℕ) (before xs ys zs : List (List ℕ)) → repeated_after before xs ≡ None → Clashes e path (before ++ xs) ys
    → Clashes e path before (xs ++ (ys ++ zs))
refuses_after (fault.Clash other name) path before xs ys zs none h =
    (h.0, repeated_more before xs (ys ++ zs) none ∙ repeated_stays (before ++ xs) ys zs name h.1)
refuses_after fault.Memory path before xs ys zs none h = tt
refuses_after (fault.Read other) path before xs ys zs none h = h
refuses_after (fault.Bad other why) path before xs ys zs none h = h
refuses_after (fault.NotThere other name) path before xs ys zs none h = h
refuses_after fault.TooManyFiles path before xs ys zs none h = h
refuses_after fault.TooManyBytes path before xs ys zs none h = h

-- ---- one step of a loop that adds names

pub step_names : (before X names new ys : List (List ℕ)) → names ≡ before ++ X → new ≡ names ++ ys → new ≡ before ++ (X ++ ys)
step_names before X names new ys is e = e ∙ ap (λ (l : List (List ℕ)). l ++ ys) is ∙ append_assoc before X ys

pub step_none : (before X names ys : List (List ℕ)) → names ≡ before ++ X → repeated_after before X ≡ None → repeated_after names ys ≡ None → repeated_after before (X ++ ys) ≡ None
step_none before X names ys is none here = repeated_more before X ys none ∙ ap (λ (l : List (List ℕ)). repeated_after l ys) (sym is) ∙ here

pub step_err : (e : LinkFault) (path : List ℕ) (before X names ys rest whole : List (List ℕ)) → names ≡ before ++ X → repeated_after before X ≡ None → Clashes e path names ys
    → whole ≡ X ++ (ys ++ rest) → Clashes e path before whole
step_err e path before X names ys rest whole is none h all =
    subst (Clashes e path before) (sym all) (refuses_after e path before X ys rest none (subst (λ (l : List (List ℕ)). Clashes e path l ys) is h))

module _ {Y Z : Type 0} where
  pub map_more : (f : Y → Z) (xs : List Y) (i : ℕ) (x : Y) → i < length xs → x ≡ get_or xs i x → map f (take (i + 1) xs) ≡ map f (take i xs) ++ f x ∷ []
  map_more f xs i x lt is = ap (map f) (take_more xs i x lt ∙ ap (λ (y : Y). take i xs ++ y ∷ []) (sym is)) ∙ map_push f (take i xs) x

module _ {Y : Type 0} where
  pub map_split : (f : Y → List ℕ) (xs : List Y) (i : ℕ) (x : Y) → i < length xs → x ≡ get_or xs i x → map f xs ≡ map f (take i xs) ++ (f x ∷ [] ++ map f (drop (i + 1) xs))
  map_split f xs i x lt is =
      ap (map f) (sym (take-append-drop (i + 1) xs)) ∙ map-append f (take (i + 1) xs) (drop (i + 1) xs)
      ∙ ap (λ (l : List (List ℕ)). l ++ map f (drop (i + 1) xs)) (map_more f xs i x lt is) ∙ append_assoc (map f (take i xs)) (f x ∷ []) (map f (drop (i + 1) xs))

  pub taken_all : (xs : List Y) (i : ℕ) → length xs ≤ i → take i xs ≡ xs
  taken_all [] zero le = refl
  taken_all [] (suc i) le = refl
  taken_all (x ∷ xs) zero le = absurd (omega arith)
  taken_all (x ∷ xs) (suc i) le = ap (λ (r : List Y). x ∷ r) (taken_all xs i (omega arith))

module _ {Y Z : Type 0} where
  pub flat_more : (g : Y → List Z) (xs : List Y) (i : ℕ) (x : Y) → i < length xs → x ≡ get_or xs i x → flat_map g (take (i + 1) xs) ≡ flat_map g (take i xs) ++ g x
  flat_more g xs i x lt is =
      ap (flat_map g) (take_more xs i x lt ∙ ap (λ (y : Y). take i xs ++ y ∷ []) (sym is)) ∙ flat_map-append g (take i xs) (x ∷ []) ∙ ap (λ (l : List Z). flat_map g (take i xs) ++ l) (append-nil (g x))

  pub flat_split : (g : Y → List Z) (xs : List Y) (i : ℕ) (x : Y) → i < length xs → x ≡ get_or xs i x → flat_map g xs ≡ flat_map g (take i xs) ++ (g x ++ flat_map g (drop (i + 1) xs))
  flat_split g xs i x lt is =
      ap (flat_map g) (sym (take-append-drop (i + 1) xs)) ∙ flat_map-append g (take (i + 1) xs) (drop (i + 1) xs)
      ∙ ap (λ (l : List Z). l ++ flat_map g (drop (i + 1) xs)) (flat_more g xs i x lt is) ∙ append_assoc (flat_map g (take i xs)) (g x) (flat_map g (drop (i + 1) xs))
