-- Spans, as they grow.
use Rattle.std.proofs.Common.{◌≡◌, ◌⊎◌, inl, inr, ⊎_elim, ℕ, ◌+◌, ◌<◌, ◌≤◌, List, [], ◌∷◌, ◌++◌, length, get_or, take, Option, Some, None, refl, sym, ap, ◌∙◌, subst, arith}
use Rattle.std.specs.Prelude.{slice_get}
use Rattle.std.specs.List.{Contains}
use Rattle.std.proofs.Math.Seq.{take-length}
use Rattle.std.proofs.lemmas.List.{take_more}
use Rattle.std.proofs.lemmas.Option.{same_Some}
use Rattle.bril_tree.specs.Membership.{In}
use Rattle.bril_tree.proofs.Members.{contains_in, in_append_cases, in_contains}
use Rattle.shadow_place.specs.declared.spans.Span.{Span}
use Rattle.shadow_place.specs.Spans.{HaveSites, IsCovered, IsInside, IsSiteAt, Widens}

pub widen_none : (P : ℕ → ℕ → Type 0) (spans : List Span) → ((n p : ℕ) → P n p → ⊥) → Widens P spans spans
widen_none P spans none = record { long = refl; kept = λ n p h. h; all = λ n p h. absurd (none n p h) }

pub widen_for : (P Q : ℕ → ℕ → Type 0) (old new : List Span) → ((n p : ℕ) → Q n p → P n p) → Widens P old new → Widens Q old new
widen_for P Q old new back w = record { long = w.long; kept = w.kept; all = λ n p h. w.all n p (back n p h) }

pub widen_then : (P Q R : ℕ → ℕ → Type 0) (old middle new : List Span) → ((n p : ℕ) → R n p → P n p ⊎ Q n p) → Widens P old middle → Widens Q middle new → Widens R old new
widen_then P Q R old middle new split a b = record {
  long = b.long ∙ a.long;
  kept = λ n p h. b.kept n p (a.kept n p h);
  all = λ n p h. ⊎_elim (λ x. b.kept n p (a.all n p x)) (λ y. b.all n p y) (split n p h);
}

-- ---- a span

pub widen_span : (k : ℕ) (span : Span) (old middle new : List Span) → Widens (λ n p. (n ≡ k) × (p ≡ span.first)) old middle → Widens (λ n p. (n ≡ k) × (p ≡ span.last)) middle new → Widens (λ n p. (n ≡ k) × IsInside span p) old new
widen_span k span old middle new a b = record { long = b.long ∙ a.long; kept = λ n p h. b.kept n p (a.kept n p h); all = all }
  where
    all : (n p : ℕ) → (n ≡ k) × IsInside span p → IsCovered new n p
    all n p (e, h) s at =
        let low = b.kept n span.first (a.all n span.first (e, refl)) s at in
        let high = b.all n span.last (e, refl) s at in
        let x = h.0 in let y = h.1 in let u = low.0 in let v = high.1 in
        (omega arith, omega arith)

-- ---- several numbers

-- one more
pub widen_more : (Q : ℕ → Type 0) (numbers : List ℕ) (i number : ℕ) (old middle new : List Span) → i < length numbers → number ≡ get_or numbers i number → Widens (λ n p. Contains (take i numbers) n × Q p) old middle → Widens (λ n p. (n ≡ number) × Q p) middle new →
    Widens (λ n p. Contains (take (i + 1) numbers) n × Q p) old new
widen_more Q numbers i number old middle new less here a b =
    widen_then (λ n p. Contains (take i numbers) n × Q p) (λ n p. (n ≡ number) × Q p) (λ n p. Contains (take (i + 1) numbers) n × Q p) old middle new split a b
  where
    front : take (i + 1) numbers ≡ take i numbers ++ number ∷ []
    front = take_more numbers i number less ∙ ap (λ p. take i numbers ++ p ∷ []) (sym here)

    split : (n p : ℕ) → Contains (take (i + 1) numbers) n × Q p → (Contains (take i numbers) n × Q p) ⊎ ((n ≡ number) × Q p)
    split n p h = by (in_append_cases n (take i numbers) (number ∷ []) (subst (In n) front (in_contains n (take (i + 1) numbers) h.0)))
      where
        by : In n (take i numbers) ⊎ In n (number ∷ []) → (Contains (take i numbers) n × Q p) ⊎ ((n ≡ number) × Q p)
        by (inl m) = inl (contains_in n (take i numbers) m, h.1)
        by (inr (inl e)) = inr (e, h.1)
        by (inr (inr m)) = absurd m

-- of a list
pub widen_list : {A : Type 0} (R : A → ℕ → ℕ → Type 0) (xs : List A) (i : ℕ) (x : A) (old middle new : List Span) → i < length xs → x ≡ get_or xs i x → Widens (λ n p. (y : A) × Contains (take i xs) y × R y n p) old middle → Widens (R x) middle new →
    Widens (λ n p. (y : A) × Contains (take (i + 1) xs) y × R y n p) old new
widen_list {A = A} R xs i x old middle new less here a b =
    widen_then (λ n p. (y : A) × Contains (take i xs) y × R y n p) (R x) (λ n p. (y : A) × Contains (take (i + 1) xs) y × R y n p) old middle new split a b
  where
    front : take (i + 1) xs ≡ take i xs ++ x ∷ []
    front = take_more xs i x less ∙ ap (λ p. take i xs ++ p ∷ []) (sym here)

    split : (n p : ℕ) → (y : A) × Contains (take (i + 1) xs) y × R y n p → ((y : A) × Contains (take i xs) y × R y n p) ⊎ R x n p
    split n p h = by (in_append_cases h.0 (take i xs) (x ∷ []) (subst (In h.0) front (in_contains h.0 (take (i + 1) xs) h.1)))
      where
        by : In h.0 (take i xs) ⊎ In h.0 (x ∷ []) → ((y : A) × Contains (take i xs) y × R y n p) ⊎ R x n p
        by (inl m) = inl (h.0, contains_in h.0 (take i xs) m, h.2)
        by (inr (inl e)) = inr (subst (λ y. R y n p) e h.2)
        by (inr (inr m)) = absurd m

pub taken : {A : Type 0} (xs : List A) (i : ℕ) → length xs ≤ i → i ≤ length xs → take i xs ≡ xs
taken xs i a b = let e : i ≡ length xs = omega arith in ap (λ n. take n xs) e ∙ take-length xs

-- below an end, one more
pub widen_next : (R : ℕ → ℕ → ℕ → Type 0) (i : ℕ) (old middle new : List Span) → Widens (λ n p. (k : ℕ) × (k < i) × R k n p) old middle → Widens (R i) middle new → Widens (λ n p. (k : ℕ) × (k < i + 1) × R k n p) old new
widen_next R i old middle new a b = widen_then (λ n p. (k : ℕ) × (k < i) × R k n p) (R i) (λ n p. (k : ℕ) × (k < i + 1) × R k n p) old middle new split a b
  where
    newest : (k : ℕ) → k < i + 1 → (k ≡ i) ⊎ (k < i)
    newest k less = grind arith

    split : (n p : ℕ) → (k : ℕ) × (k < i + 1) × R k n p → ((k : ℕ) × (k < i) × R k n p) ⊎ R i n p
    split n p (k, less, r) = ⊎_elim (λ e. inr (subst (λ m. R m n p) e r)) (λ before. inl (k, before, r)) (newest k less)

-- ---- sites

pub site_there : (sites : List (Option (List ℕ))) (at : ℕ) (opened : List ℕ) (old new : List Span) → Some (Some opened) ≡ slice_get sites at → Widens (λ n p. Contains opened n × (p ≡ at)) old new → Widens (IsSiteAt sites at) old new
site_there sites at here old new e w = widen_for (λ n p. Contains here n × (p ≡ at)) (IsSiteAt sites at) old new back w
  where
    back : (n p : ℕ) → IsSiteAt sites at n p → Contains here n × (p ≡ at)
    back n p h = (subst (λ l. Contains l n) (one h.1.0 (same_Some (Some h.1.0) (Some here) (sym h.1.1 ∙ sym e))) h.1.2, h.0)
      where
        one : (l : List ℕ) → Some l ≡ Some here → l ≡ here
        one l e = same_Some l here e

pub site_none : (sites : List (Option (List ℕ))) (at : ℕ) (spans : List Span) → Some None ≡ slice_get sites at → Widens (IsSiteAt sites at) spans spans
site_none sites at spans e = widen_none (IsSiteAt sites at) spans (λ n p h. clash (same_Some (Some h.1.0) None (sym h.1.1 ∙ sym e)))
  where
    clash : {l : List ℕ} → Some l ≡ None → ⊥
    clash h = cc

pub sites_more : (sites : List (Option (List ℕ))) (i : ℕ) (old new : List Span) → HaveSites sites i old → Widens (IsSiteAt sites i) old new → HaveSites sites (i + 1) new
sites_more sites i old new have w at site point less is = ⊎_elim (λ e. w.all site point (subst (λ k. IsSiteAt sites k site point) e is)) (λ before. w.kept site point (have at site point before is)) (newest at less)
  where
    newest : (k : ℕ) → k < i + 1 → (k ≡ i) ⊎ (k < i)
    newest k less = grind arith
