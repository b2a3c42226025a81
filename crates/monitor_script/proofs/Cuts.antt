-- The bytes at which a source is cut.
use Rattle.std.proofs.Common.{◌≡◌, ◌≢◌, ℕ, Bool, true, false, nat_eq, List, [], ◌∷◌, ◌++◌, length, refl, sym, ap, subst, ◌∙◌}
use Rattle.std.specs.Prelude.{◌==◌}
use Rattle.std.specs.Cmp.Lexicographic.{pointwise}
use Rattle.std.proofs.lemmas.Bool.Decides.{Decides-eqb}
use Rattle.std.proofs.lemmas.List.Elements.{All-head, All-tail}
use Rattle.std.proofs.lemmas.Slice.Eq.{slice_eq-Decides}
use Rattle.monitor_script.specs.Form.{Lacks}

-- what stands before the first such byte, and behind it, is determined
pub cut_once : (b : ℕ) (x y r s : List ℕ) → Lacks b x → Lacks b y → x ++ b ∷ r ≡ y ++ b ∷ s → (x ≡ y) × (r ≡ s)
cut_once b [] [] r s lx ly e = (refl, cc)
cut_once b [] (y ∷ ys) r s lx ly e = absurd (All-head (λ c. c ≢ b) y ys ly (let h : b ∷ r ≡ y ∷ (ys ++ b ∷ s) = e in cc))
cut_once b (x ∷ xs) [] r s lx ly e = absurd (All-head (λ c. c ≢ b) x xs lx (let h : x ∷ (xs ++ b ∷ r) ≡ b ∷ s = e in cc))
cut_once b (x ∷ xs) (y ∷ ys) r s lx ly e =
    let h : x ∷ (xs ++ b ∷ r) ≡ y ∷ (ys ++ b ∷ s) = e in
    let first : x ≡ y = cc in
    let rest : xs ++ b ∷ r ≡ ys ++ b ∷ s = cc in
    let q = cut_once b xs ys r s (All-tail (λ c. c ≢ b) x xs lx) (All-tail (λ c. c ≢ b) y ys ly) rest in
    let t : xs ≡ ys = q.0 in
    (cc, q.1)

pub lacks_at : (b : ℕ) (xs next after : List ℕ) → Lacks b xs → xs ≡ next ++ b ∷ after → ⊥
lacks_at b xs next after l e = by next (subst (Lacks b) e l)
  where
    by : (next : List ℕ) → Lacks b (next ++ b ∷ after) → ⊥
    by [] l = All-head (λ c. c ≢ b) b after l refl
    by (x ∷ next) l = by next (All-tail (λ c. c ≢ b) x (next ++ b ∷ after) l)

-- what a test of slices says
pub equal : (xs ys zs : List ℕ) (r : Bool) → r ≡ pointwise nat_eq xs ys → r ≡ true → ys ≡ zs → xs ≡ zs
equal xs ys zs r e t same = (slice_eq-Decides Decides-eqb xs ys (pointwise nat_eq xs ys) refl).0 (sym e ∙ t) ∙ same

pub equal_not : (xs ys zs : List ℕ) (r : Bool) → r ≡ pointwise nat_eq xs ys → r ≡ false → ys ≡ zs → xs ≡ zs → ⊥
equal_not xs ys zs r e t same d =
    let equal : pointwise nat_eq xs ys ≡ true = (slice_eq-Decides Decides-eqb xs ys (pointwise nat_eq xs ys) refl).1 (d ∙ sym same) in
    let k : true ≡ false = sym (e ∙ equal) ∙ t in cc

-- a list of which the test for being empty fails
pub nonempty : (xs : List ℕ) (b : Bool) → b ≡ (length xs == 0) → b ≡ false → xs ≡ [] → ⊥
nonempty xs b is off e = let k : true ≡ false = ap (λ (z : List ℕ). length z == 0) (sym e) ∙ sym is ∙ off in cc
