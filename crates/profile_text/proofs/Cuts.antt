-- Lines, and the bytes at which they are cut.
use Rattle.std.proofs.Common.{◌≡◌, ◌≢◌, ℕ, suc, ◌≤◌, Bool, true, false, nat_eq, List, [], ◌∷◌, ◌++◌, length, refl, sym, ap, subst, ◌∙◌, arith, append_assoc}
use Rattle.std.specs.Prelude.{◌==◌}
use Rattle.std.specs.List.{All}
use Rattle.std.proofs.lemmas.List.Elements.{All-nil, All-cons, All-head, All-tail}
use Rattle.std.specs.Cmp.Lexicographic.{pointwise}
use Rattle.std.proofs.lemmas.Bool.Decides.{Decides-eqb}
use Rattle.std.proofs.lemmas.Slice.Eq.{slice_eq-Decides}
use Rattle.profile_text.specs.Form.{Lacks, text_of}

-- how a list that isn't empty begins, and goes on
pub heads : {X : Type 0} (a b : X) (xs ys : List X) → a ∷ xs ≡ b ∷ ys → a ≡ b
heads a b xs ys e = cc

pub tails : {X : Type 0} (a b : X) (xs ys : List X) → a ∷ xs ≡ b ∷ ys → xs ≡ ys
tails a b xs ys e = cc

-- what stands before the first such byte, and behind it, is determined
pub cut_once : (b : ℕ) (x y r s : List ℕ) → Lacks b x → Lacks b y → x ++ b ∷ r ≡ y ++ b ∷ s → (x ≡ y) × (r ≡ s)
cut_once b [] [] r s lx ly e = (refl, cc)
cut_once b [] (y ∷ ys) r s lx ly e = absurd (All-head (λ c. c ≢ b) y ys ly (let h : b ∷ r ≡ y ∷ (ys ++ b ∷ s) = e in cc))
cut_once b (x ∷ xs) [] r s lx ly e = absurd (All-head (λ c. c ≢ b) x xs lx (let h : x ∷ (xs ++ b ∷ r) ≡ b ∷ s = e in cc))
cut_once b (x ∷ xs) (y ∷ ys) r s lx ly e =
    let h : x ∷ (xs ++ b ∷ r) ≡ y ∷ (ys ++ b ∷ s) = e in
    let first : x ≡ y = cc in
    let rest : xs ++ b ∷ r ≡ ys ++ b ∷ s = cc in
    let q = cut_once b xs ys r s (All-tail (λ c. c ≢ b) x xs lx) (All-tail (λ c. c ≢ b) y ys ly) rest in
    let t : xs ≡ ys = q.0 in
    (cc, q.1)

-- a line, its LF, and what follows
pub line_front : (x : List ℕ) (xs : List (List ℕ)) (r : List ℕ) → text_of (x ∷ xs) ++ r ≡ x ++ 10 ∷ (text_of xs ++ r)
line_front x xs r = append_assoc (x ++ 10 ∷ []) (text_of xs) r ∙ append_assoc x (10 ∷ []) (text_of xs ++ r)

-- What the shorter of two lists of lines lacks of the longer stands behind it.
pub record Longer (xs ys : List (List ℕ)) (r s : List ℕ) : Type 0 where
  pub more : List (List ℕ)
  pub is : ys ≡ xs ++ more
  pub rest : r ≡ text_of more ++ s

pub lines_longer : (xs ys : List (List ℕ)) (r s : List ℕ) → All (Lacks 10) xs → All (Lacks 10) ys → length xs ≤ length ys → text_of xs ++ r ≡ text_of ys ++ s → Longer xs ys r s
lines_longer [] ys r s lx ly less e = record { more = ys; is = refl; rest = e }
lines_longer (x ∷ xs) [] r s lx ly less e = absurd (let h : suc (length xs) ≤ 0 = less in omega arith)
lines_longer (x ∷ xs) (y ∷ ys) r s lx ly less e =
    let h : x ++ 10 ∷ (text_of xs ++ r) ≡ y ++ 10 ∷ (text_of ys ++ s) = sym (line_front x xs r) ∙ e ∙ line_front y ys s in
    let q = cut_once 10 x y (text_of xs ++ r) (text_of ys ++ s) (All-head (Lacks 10) x xs lx) (All-head (Lacks 10) y ys ly) h in
    let less' : length xs ≤ length ys = (let k : suc (length xs) ≤ suc (length ys) = less in omega arith) in
    let l = lines_longer xs ys r s (All-tail (Lacks 10) x xs lx) (All-tail (Lacks 10) y ys ly) less' q.1 in
    record { more = l.more; is = ap (λ z. z ∷ ys) (sym q.0) ∙ ap (λ z. x ∷ z) l.is; rest = l.rest }

-- all of a list, so all of its front
pub all_front : {X : Type 0} (P : X → Type 0) (xs ys : List X) → All P (xs ++ ys) → All P xs
all_front P [] ys all = All-nil P
all_front P (x ∷ xs) ys all = All-cons P x xs (All-head P x (xs ++ ys) all) (all_front P xs ys (All-tail P x (xs ++ ys) all))

pub lacks_at : (b : ℕ) (xs next after : List ℕ) → Lacks b xs → xs ≡ next ++ b ∷ after → ⊥
lacks_at b xs next after l e = by next (subst (Lacks b) e l)
  where
    by : (next : List ℕ) → Lacks b (next ++ b ∷ after) → ⊥
    by [] l = All-head (λ c. c ≢ b) b after l refl
    by (x ∷ next) l = by next (All-tail (λ c. c ≢ b) x (next ++ b ∷ after) l)

-- what one test of slices says
pub equal_not : (xs ys zs : List ℕ) (r : Bool) → r ≡ pointwise nat_eq xs ys → r ≡ false → ys ≡ zs → xs ≡ zs → ⊥
equal_not xs ys zs r e t same d =
    let equal : pointwise nat_eq xs ys ≡ true = (slice_eq-Decides Decides-eqb xs ys (pointwise nat_eq xs ys) refl).1 (d ∙ sym same) in
    let k : true ≡ false = sym (e ∙ equal) ∙ t in cc

-- a list of which the test for being empty fails
pub nonempty : (xs : List ℕ) (b : Bool) → b ≡ (length xs == 0) → b ≡ false → xs ≡ [] → ⊥
nonempty xs b is off e = let k : true ≡ false = ap (λ (z : List ℕ). length z == 0) (sym e) ∙ sym is ∙ off in cc
