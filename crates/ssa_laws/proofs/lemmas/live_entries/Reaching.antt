-- Where paths over finitely many steps lead can be decided.
use Rattle.std.proofs.Common.{◌≡◌, ◌⊎◌, ℕ, List, [], ◌∷◌, refl, sym, ap, subst, inl, inr, ⊎_elim}
use Rattle.std.proofs.lemmas.Bool.{cases_eq}
use Rattle.bril_tree.specs.Membership.{In}
use Rattle.bril_tree.proofs.Deciding.{Decided}

pub record Step : Type 0 where
  pub from : ℕ
  pub to : ℕ

-- a path from a point to another
pub data Path (steps : List Step) (from : ℕ) : ℕ → Type 0 where
  Start : (to : ℕ) → to ≡ from → Path steps from to
  Onward : (mid to : ℕ) → Path steps from mid → In (record { from = mid; to = to }) steps → Path steps from to

pub join : (steps : List Step) (a b c : ℕ) → Path steps a b → Path steps b c → Path steps a c
join steps a b c p (Start _ e) = subst (Path steps a) (sym e) p
join steps a b c p (Onward mid _ q i) = Onward mid c (join steps a b mid p q) i

more : (step : Step) (steps : List Step) (a b : ℕ) → Path steps a b → Path (step ∷ steps) a b
more step steps a b (Start _ e) = Start b e
more step steps a b (Onward mid _ p i) = Onward mid b (more step steps a mid p) (inr i)

-- a path over one step more goes without it, or comes to it and goes on from it
split : (step : Step) (steps : List Step) (a b : ℕ) → Path (step ∷ steps) a b → Path steps a b ⊎ (Path steps a step.from × Path steps step.to b)
split step steps a b (Start _ e) = inl (Start b e)
split step steps a b (Onward mid _ p (inl same)) = ⊎_elim
    (λ q. inr (subst (Path steps a) (ap (λ (s : Step). s.from) same) q, Start b (ap (λ (s : Step). s.to) same)))
    (λ q. inr (q.0, Start b (ap (λ (s : Step). s.to) same)))
    (split step steps a mid p)
split step steps a b (Onward mid _ p (inr i)) = ⊎_elim
    (λ q. inl (Onward mid b q i))
    (λ q. inr (q.0, Onward mid b q.1 i))
    (split step steps a mid p)

none-ahead : (a b : ℕ) → Path [] a b → b ≡ a
none-ahead a b (Start _ e) = e
none-ahead a b (Onward mid _ p i) = absurd i

pub decide-path : (steps : List Step) (a b : ℕ) → Decided (Path steps a b)
decide-path [] a b = ⊎_elim (λ e. inl (Start b e)) (λ n. inr (λ p. n (none-ahead a b p))) (cases_eq b a)
decide-path (step ∷ steps) a b = ⊎_elim
    (λ p. inl (more step steps a b p))
    (λ n. by n (decide-path steps a step.from) (decide-path steps step.to b))
    (decide-path steps a b)
  where
    over : Path steps a step.from → Path steps step.to b → Path (step ∷ steps) a b
    over p q = join (step ∷ steps) a step.to b (Onward step.from step.to (more step steps a step.from p) (inl refl)) (more step steps step.to b q)

    by : (Path steps a b → ⊥) → Decided (Path steps a step.from) → Decided (Path steps step.to b) → Decided (Path (step ∷ steps) a b)
    by n (inl p) (inl q) = inl (over p q)
    by n (inr m) d = inr (λ r. ⊎_elim n (λ q. m q.0) (split step steps a b r))
    by n (inl p) (inr m) = inr (λ r. ⊎_elim n (λ q. m q.1) (split step steps a b r))
