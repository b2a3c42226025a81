-- The saves of a frame, of which so many lists at the front are the saves, the newest last.
use Rattle.std.proofs.Common.{◌≡◌, ℕ, zero, suc, ◌-◌, ◌<◌, ◌≤◌, List, [], ◌∷◌, ◌++◌, length, reverse, take, set, get_or, refl, sym, ap, ◌∙◌, arith}
use Rattle.std.proofs.lemmas.List.{reverse-append}
use Rattle.bril_interpreter.specs.Frames.{LocalsView, without_newest}

-- the saves, the newest first
abbrev pub newest_first : ℕ → List LocalsView → List LocalsView
newest_first depth lists = reverse (take depth lists)

-- a list behind them doesn't matter
pub set_behind : (lists : List LocalsView) (depth : ℕ) (x : LocalsView) → take depth (set lists depth x) ≡ take depth lists
set_behind [] depth x = refl
set_behind (y ∷ lists) zero x = refl
set_behind (y ∷ lists) (suc depth) x = ap (λ (rest : List LocalsView). y ∷ rest) (set_behind lists depth x)

-- one more
pub newest_more : (lists : List LocalsView) (depth : ℕ) (x : LocalsView) → depth < length lists → newest_first (suc depth) (set lists depth x) ≡ x ∷ newest_first depth lists
newest_more [] depth x h = absurd (omega arith)
newest_more (y ∷ lists) zero x h = refl
newest_more (y ∷ lists) (suc depth) x h =
    reverse-append (y ∷ []) (take (suc depth) (set lists depth x))
    ∙ ap (λ (front : List LocalsView). front ++ y ∷ []) (newest_more lists depth x (omega arith))
    ∙ ap (λ (front : List LocalsView). x ∷ front) (sym (reverse-append (y ∷ []) (take depth lists)))

-- the newest is the last of them
pub newest_is : (lists : List LocalsView) (depth : ℕ) (d : LocalsView) → depth < length lists → newest_first (suc depth) lists ≡ get_or lists depth d ∷ newest_first depth lists
newest_is [] depth d h = absurd (omega arith)
newest_is (y ∷ lists) zero d h = refl
newest_is (y ∷ lists) (suc depth) d h =
    reverse-append (y ∷ []) (take (suc depth) lists)
    ∙ ap (λ (front : List LocalsView). front ++ y ∷ []) (newest_is lists depth d (omega arith))
    ∙ ap (λ (front : List LocalsView). get_or lists depth d ∷ front) (sym (reverse-append (y ∷ []) (take depth lists)))

-- one less
pub newest_dropped : (lists : List LocalsView) (depth : ℕ) → 0 < depth → depth ≤ length lists → newest_first (depth - 1) lists ≡ without_newest (newest_first depth lists)
newest_dropped lists zero h within = absurd (omega arith)
newest_dropped lists (suc depth) h within =
    let one : suc depth - 1 ≡ depth = omega arith in
    ap (λ (n : ℕ). newest_first n lists) one ∙ ap without_newest (sym (newest_is lists depth (record { vars = []; shadows = [] }) within))
