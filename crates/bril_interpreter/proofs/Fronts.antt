-- Lists whose first entries are set, one after the other.
use Rattle.std.proofs.Common.{◌≡◌, ◌<◌, ◌-◌, ◌+◌, ◌++◌, [], ◌∷◌, ℕ, zero, suc, List, Option, None, drop, length, replicate, set, get_or, refl, sym, ap, ◌∙◌, arith, append_assoc}
use Rattle.std.proofs.lemmas.List.{drop_more, set-append_right}
use Rattle.bril_tree.specs.declared.value.Value.{Value}

-- empty entries
abbrev pub empty : ℕ → List (Option Value)
empty n = replicate n None

pub empty-behind : (k n : ℕ) → drop k (empty n) ≡ empty (n - k)
empty-behind zero n = ap empty (let same : n ≡ n - 0 = omega arith in same)
empty-behind (suc k) zero = ap empty (let same : 0 ≡ 0 - suc k = omega arith in same)
empty-behind (suc k) (suc n) = empty-behind k n ∙ ap empty (let same : n - k ≡ suc n - suc k = omega arith in same)

pub empty-more : (n : ℕ) → empty n ++ None ∷ [] ≡ empty (n + 1)
empty-more zero = refl
empty-more (suc n) =
    let next : suc (n + 1) ≡ suc n + 1 = omega arith in
    ap (λ (entries : List (Option Value)). None ∷ entries) (empty-more n) ∙ ap empty next

-- the entry behind the first ones gets a value
pub next_put : {A : Type 0} (front entries : List A) (k : ℕ) (y : A) → length front ≡ k → k < length entries → set (front ++ drop k entries) k y ≡ (front ++ y ∷ []) ++ drop (k + 1) entries
next_put front entries k y e h =
    let first : k - k ≡ 0 = omega arith in
    set-append_right front (drop k entries) k k y e (omega arith)
    ∙ ap (λ zs. front ++ set zs (k - k) y) (drop_more entries k y h)
    ∙ ap (λ j. front ++ set (get_or entries k y ∷ drop (k + 1) entries) j y) first
    ∙ sym (append_assoc front (y ∷ []) (drop (k + 1) entries))
