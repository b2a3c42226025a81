-- The folder of a path, part by part.
use Rattle.std.proofs.Common.{◌≡◌, ◌∙◌, refl, sym, ap, Bool, true, false, ◌||◌, ℕ, suc, ◌+◌, ◌<◌, List, [], ◌∷◌, ◌++◌, length, take, drop, arith, append_assoc, append-nil, eqb-true}
use Rattle.std.specs.Prelude.{◌==◌, not, cond}
use Rattle.std.specs.List.{list_any, position_or_len, before_first, after_first}
use Rattle.import_linker.specs.Order.{folder_of, is_slash}

abbrev place : List ℕ → ℕ
place list = position_or_len (λ b. b == 47) list

one : (n : ℕ) → 1 + n ≡ suc n
one n = omega arith

one_more : (n : ℕ) → n + 1 ≡ suc n
one_more n = omega arith

-- the place of the first `/`, and whether there is one
pub some_slash : (list : List ℕ) → place list < length list → list_any is_slash list ≡ true
some_slash [] inside = absurd (omega arith)
some_slash (byte ∷ bytes) inside = go (byte == 47) refl (λ h. some_slash bytes h) inside
  where
    go : (b : Bool) → (byte == 47) ≡ b → (place bytes < length bytes → list_any is_slash bytes ≡ true) → cond (not b) (1 + place bytes) 0 < suc (length bytes)
        → (b || list_any is_slash bytes) ≡ true
    go true is rest h = refl
    go false is rest h = rest (omega arith)

pub no_slash : (list : List ℕ) → place list ≡ length list → (list_any is_slash list ≡ false) × (folder_of list ≡ [])
no_slash [] outside = (refl, refl)
no_slash (byte ∷ bytes) outside = go (byte == 47) refl (λ h. no_slash bytes h) outside
  where
    go : (b : Bool) → (byte == 47) ≡ b → (place bytes ≡ length bytes → (list_any is_slash bytes ≡ false) × (folder_of bytes ≡ []))
        → cond (not b) (1 + place bytes) 0 ≡ suc (length bytes)
        → ((b || list_any is_slash bytes) ≡ false) × (cond (b || list_any is_slash bytes) (byte ∷ folder_of bytes) [] ≡ [])
    go true is rest h = absurd (omega arith)
    go false is rest h = let none = rest (omega arith) in (none.0, rw none.0 refl)

pub folder_more : (list : List ℕ) → place list < length list
    → folder_of list ≡ before_first (λ b. b == 47) list ++ 47 ∷ folder_of (after_first (λ b. b == 47) list)
folder_more [] inside = absurd (omega arith)
folder_more (byte ∷ bytes) inside = go (byte == 47) refl (λ h. folder_more bytes h) inside
  where
    go : (b : Bool) → (byte == 47) ≡ b
        → (place bytes < length bytes → folder_of bytes ≡ before_first (λ x. x == 47) bytes ++ 47 ∷ folder_of (after_first (λ x. x == 47) bytes))
        → cond (not b) (1 + place bytes) 0 < suc (length bytes)
        → cond (b || list_any is_slash bytes) (byte ∷ folder_of bytes) []
        ≡ take (cond (not b) (1 + place bytes) 0) (byte ∷ bytes) ++ 47 ∷ folder_of (drop (cond (not b) (1 + place bytes) 0 + 1) (byte ∷ bytes))
    go true is rest h = let same : byte ≡ 47 = eqb-true byte 47 is in ap (λ (x : ℕ). x ∷ folder_of bytes) same
    go false is rest h =
        let inner : place bytes < length bytes = omega arith in
        rw (some_slash bytes inner, one (place bytes), one_more (suc (place bytes)))
        (ap (λ (l : List ℕ). byte ∷ l) (rest inner ∙ rw one_more refl))

-- one part of a path is done
pub part_done : (done list first rest all : List ℕ) → place list < length list → first ≡ before_first (λ b. b == 47) list → rest ≡ after_first (λ b. b == 47) list
    → done ++ folder_of list ≡ all → ((done ++ first) ++ 47 ∷ []) ++ folder_of rest ≡ all
part_done done list first rest all inside is_first is_rest e =
    append_assoc (done ++ first) (47 ∷ []) (folder_of rest) ∙ append_assoc done first (47 ∷ folder_of rest)
    ∙ ap (λ (l : List ℕ). done ++ l) (rw (is_first, is_rest) (sym (folder_more list inside))) ∙ e

pub parts_done : (done list all : List ℕ) → place list ≡ length list → done ++ folder_of list ≡ all → done ≡ all
parts_done done list all outside e = sym (append-nil done) ∙ ap (λ (l : List ℕ). done ++ l) (sym (no_slash list outside).1) ∙ e
