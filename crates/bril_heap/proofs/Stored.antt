-- Cells as they are kept, and what they hold.
use Rattle.std.proofs.Common.{◌≡◌, ℕ, zero, suc, ◌<◌, Bool, true, false, if◌then◌else◌, List, [], ◌∷◌, length, set, replicate, get_or, Option, Some, None, refl, sym, ◌∙◌, ap, subst, arith}
use Rattle.std.specs.List.{AllZip}
use Rattle.bril_tree.specs.declared.value.Value.{Value}
use Rattle.bril_tree.specs.declared.value.Value.TheVariants as value
use Rattle.bril_heap.specs.declared.stored_cell.Kind.{Kind}
use Rattle.bril_heap.specs.declared.stored_cell.Kind.TheVariants as kind
use Rattle.bril_heap.specs.Heap.{entries_of}
use Rattle.bril_heap.specs.Stored.{IsFit, cell_held, cells_held}

-- there are as many cells as kinds, and as many as words
pub length-held : (kinds : List Kind) (words : List ℕ) → AllZip IsFit kinds words → (length (cells_held kinds words) ≡ length kinds) × (length words ≡ length kinds)
length-held [] [] fit = (refl, refl)
length-held [] (w ∷ words) fit = absurd fit
length-held (k ∷ kinds) [] fit = absurd fit
length-held (k ∷ kinds) (w ∷ words) fit =
    let rest = length-held kinds words fit.1 in
    (ap suc rest.0, ap suc rest.1)

pub inside-held : (kinds : List Kind) (words : List ℕ) (n : ℕ) → AllZip IsFit kinds words → n < length (cells_held kinds words) → (n < length kinds) × (n < length words)
inside-held kinds words n fit inside =
    let long = length-held kinds words fit in
    (omega (arith, long.0), omega (arith, long.0, long.1))

-- what a cell holds
entry-held : (kinds : List Kind) (words : List ℕ) (n : ℕ) (k : Kind) (w : ℕ) → AllZip IsFit kinds words → n < length kinds → entries_of (cells_held kinds words) n ≡ cell_held (get_or kinds n k) (get_or words n w)
entry-held [] words n k w fit inside = absurd (omega arith)
entry-held (x ∷ kinds) [] n k w fit inside = absurd fit
entry-held (x ∷ kinds) (y ∷ words) zero k w fit inside = refl
entry-held (x ∷ kinds) (y ∷ words) (suc n) k w fit inside = entry-held kinds words n k w fit.1 (omega arith)

-- what a cell of a kind holds, whose word doesn't matter, and what it holds with its word
pub kind-held : (kinds : List Kind) (words : List ℕ) (n : ℕ) (k kind : Kind) (entry : Option Value) → AllZip IsFit kinds words → n < length (cells_held kinds words) → k ≡ get_or kinds n k → k ≡ kind → ((w : ℕ) → cell_held kind w ≡ entry) → entry ≡ entries_of (cells_held kinds words) n
kind-held kinds words n k kind entry fit inside read is same =
    let holds = entry-held kinds words n k 0 fit (inside-held kinds words n fit inside).0 in
    sym (holds ∙ ap (λ (x : Kind). cell_held x (get_or words n 0)) (sym read ∙ is) ∙ same (get_or words n 0))

pub word-held : (kinds : List Kind) (words : List ℕ) (n : ℕ) (k kind : Kind) (w : ℕ) → AllZip IsFit kinds words → n < length (cells_held kinds words) → k ≡ get_or kinds n k → k ≡ kind → w ≡ get_or words n w → cell_held kind w ≡ entries_of (cells_held kinds words) n
word-held kinds words n k kind w fit inside read is word =
    let holds = entry-held kinds words n k w fit (inside-held kinds words n fit inside).0 in
    sym (holds ∙ ap (λ (x : Kind). cell_held x (get_or words n w)) (sym read ∙ is) ∙ ap (cell_held kind) (sym word))

-- the word of a cell fits its kind
fit-held : (kinds : List Kind) (words : List ℕ) (n : ℕ) (k : Kind) (w : ℕ) → AllZip IsFit kinds words → n < length kinds → IsFit (get_or kinds n k) (get_or words n w)
fit-held [] words n k w fit inside = absurd (omega arith)
fit-held (x ∷ kinds) [] n k w fit inside = absurd fit
fit-held (x ∷ kinds) (y ∷ words) zero k w fit inside = fit.0
fit-held (x ∷ kinds) (y ∷ words) (suc n) k w fit inside = fit-held kinds words n k w fit.1 (omega arith)

pub fit-read : (kinds : List Kind) (words : List ℕ) (n : ℕ) (k kind : Kind) (w : ℕ) → AllZip IsFit kinds words → n < length (cells_held kinds words) → k ≡ get_or kinds n k → k ≡ kind → w ≡ get_or words n w → IsFit kind w
fit-read kinds words n k kind w fit inside read is word =
    let fits = fit-held kinds words n k w fit (inside-held kinds words n fit inside).0 in
    subst (λ (x : Kind). IsFit x w) (sym read ∙ is) (subst (λ (y : ℕ). IsFit (get_or kinds n k) y) (sym word) fits)

-- a cell that gets a kind and a word
pub held-set : (kinds : List Kind) (words : List ℕ) (n : ℕ) (k : Kind) (w : ℕ) → cells_held (set kinds n k) (set words n w) ≡ set (cells_held kinds words) n (cell_held k w)
held-set [] words n k w = refl
held-set (x ∷ kinds) [] zero k w = refl
held-set (x ∷ kinds) [] (suc n) k w = refl
held-set (x ∷ kinds) (y ∷ words) zero k w = refl
held-set (x ∷ kinds) (y ∷ words) (suc n) k w = ap (λ (rest : List (Option Value)). cell_held x y ∷ rest) (held-set kinds words n k w)

pub fit-set : (kinds : List Kind) (words : List ℕ) (n : ℕ) (k : Kind) (w : ℕ) → AllZip IsFit kinds words → IsFit k w → AllZip IsFit (set kinds n k) (set words n w)
fit-set [] [] n k w fit fits = fit
fit-set [] (y ∷ words) n k w fit fits = absurd fit
fit-set (x ∷ kinds) [] n k w fit fits = absurd fit
fit-set (x ∷ kinds) (y ∷ words) zero k w fit fits = (fits, fit.1)
fit-set (x ∷ kinds) (y ∷ words) (suc n) k w fit fits = (fit.0, fit-set kinds words n k w fit.1 fits)

-- a cell that gets a bool, whose word stays
abbrev pub kind_of : Bool → Kind
kind_of truth = if truth then kind.True else kind.False

truth-held : (truth : Bool) (w : ℕ) → cell_held (kind_of truth) w ≡ Some (value.Bool truth)
truth-held true w = refl
truth-held false w = refl

truth-fits : (truth : Bool) (w : ℕ) → IsFit (kind_of truth) w
truth-fits true w = tt
truth-fits false w = tt

pub truth-set : (kinds : List Kind) (words : List ℕ) (n : ℕ) (truth : Bool) → cells_held (set kinds n (kind_of truth)) words ≡ set (cells_held kinds words) n (Some (value.Bool truth))
truth-set [] words n truth = refl
truth-set (x ∷ kinds) [] zero truth = refl
truth-set (x ∷ kinds) [] (suc n) truth = refl
truth-set (x ∷ kinds) (y ∷ words) zero truth = ap (λ (first : Option Value). first ∷ cells_held kinds words) (truth-held truth y)
truth-set (x ∷ kinds) (y ∷ words) (suc n) truth = ap (λ (rest : List (Option Value)). cell_held x y ∷ rest) (truth-set kinds words n truth)

pub truth-set_fits : (kinds : List Kind) (words : List ℕ) (n : ℕ) (truth : Bool) → AllZip IsFit kinds words → AllZip IsFit (set kinds n (kind_of truth)) words
truth-set_fits [] words n truth fit = fit
truth-set_fits (x ∷ kinds) [] n truth fit = absurd fit
truth-set_fits (x ∷ kinds) (y ∷ words) zero truth fit = (truth-fits truth y, fit.1)
truth-set_fits (x ∷ kinds) (y ∷ words) (suc n) truth fit = (fit.0, truth-set_fits kinds words n truth fit.1)

-- cells that hold nothing
pub held-empty : (n : ℕ) → cells_held (replicate n kind.Never) (replicate n 0) ≡ replicate n None
held-empty zero = refl
held-empty (suc n) = ap (λ (rest : List (Option Value)). None ∷ rest) (held-empty n)

pub fit-empty : (n : ℕ) → AllZip IsFit (replicate n kind.Never) (replicate n 0)
fit-empty zero = tt
fit-empty (suc n) = (tt, fit-empty n)
