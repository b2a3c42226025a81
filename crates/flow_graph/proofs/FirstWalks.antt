-- First walks: each point that walks lead to has one.
use Rattle.std.proofs.Common.{◌≡◌, ℕ, zero, suc, ◌<◌, List, [], ◌∷◌, length, map, refl, sym, ap, ◌∙◌, subst, inl, inr, arith}
use Rattle.std.specs.Prelude.{◌⊎◌}
use Rattle.std.specs.List.{flat_map}
use Rattle.std.proofs.lemmas.Bool.{cases_eq, cases_order}
use Rattle.bril_tree.specs.declared.numbered.Instr.{Instr}
use Rattle.bril_tree.specs.Edge.{Branch, branches_at}
use Rattle.bril_tree.specs.Walk.{IsWalk, IsReached, IsFirstWalk, end_of, Earlier}
use Rattle.flow_graph.specs.Laws.{ReachedHaveFirstWalk, FirstWalksAreOne}
use Rattle.bril_tree.specs.Membership.{In}
use Rattle.bril_tree.proofs.Members.{in_contains, contains_in, in_map, in_map_source, in_flat_map, in_flat_map_source}
use Rattle.flow_graph.proofs.Order.{NotAfter, not_after_trans, not_after_both, shorter_earlier, ordered}

-- ---- all walks of a length

abbrev longer : List Instr → List Branch → List (List Branch)
longer code walk = map (λ e. e ∷ walk) (branches_at code (end_of walk))

abbrev walks_of : List Instr → ℕ → List (List Branch)
walks_of code zero = [] ∷ []
walks_of code (suc n) = flat_map (longer code) (walks_of code n)

all_walks : (code : List Instr) (w : List Branch) → IsWalk code w → In w (walks_of code (length w))
all_walks code [] h = inl refl
all_walks code (e ∷ w) h =
    in_flat_map (longer code) w (e ∷ w) (walks_of code (length w)) (all_walks code w h.1)
    (in_map (λ e. e ∷ w) e (branches_at code (end_of w)) (in_contains e (branches_at code (end_of w)) h.0))

are_walks : (code : List Instr) (n : ℕ) (w : List Branch) → In w (walks_of code n) → IsWalk code w × (length w ≡ n)
are_walks code zero w (inl e) = (subst (λ v. IsWalk code v) (sym e) tt, ap length e)
are_walks code zero w (inr h) = absurd h
are_walks code (suc n) w h =
    let s = in_flat_map_source (longer code) w (walks_of code n) h in
    let m = in_map_source (λ e. e ∷ s.0) w (branches_at code (end_of s.0)) s.2 in
    let shorter = are_walks code n s.0 s.1 in
    let is : IsWalk code (m.0 ∷ s.0) = (contains_in m.0 (branches_at code (end_of s.0)) m.1, shorter.0) in
    (subst (λ v. IsWalk code v) (sym m.2) is, ap length m.2 ∙ ap suc shorter.1)

-- ---- the first of a list of walks that lead to a point

abbrev NoneLeads : ℕ → List (List Branch) → Type 0
NoneLeads p ws = (u : List Branch) → In u ws → end_of u ≡ p → ⊥

record FirstOf (p : ℕ) (ws : List (List Branch)) : Type 0 where
  walk : List Branch
  among : In walk ws
  ends : end_of walk ≡ p
  first : (u : List Branch) → In u ws → end_of u ≡ p → NotAfter walk u

abbrev SameLength : List Instr → ℕ → List (List Branch) → Type 0
SameLength code n ws = (w : List Branch) → In w ws → IsWalk code w × (length w ≡ n)

-- a walk more that leads elsewhere
none_more : (p : ℕ) (x : List Branch) (xs : List (List Branch)) → (end_of x ≡ p → ⊥) → NoneLeads p xs → (u : List Branch) → In u (x ∷ xs) → end_of u ≡ p → ⊥
none_more p x xs differs h u (inl e) ends = differs (sym (ap end_of e) ∙ ends)
none_more p x xs differs h u (inr i) ends = h u i ends

first_elsewhere : (p : ℕ) (x : List Branch) (xs : List (List Branch)) → (end_of x ≡ p → ⊥) → (f : FirstOf p xs) → (u : List Branch) → In u (x ∷ xs) → end_of u ≡ p → NotAfter f.walk u
first_elsewhere p x xs differs f u (inl e) ends = absurd (differs (sym (ap end_of e) ∙ ends))
first_elsewhere p x xs differs f u (inr i) ends = f.first u i ends

-- a walk more that leads there, and isn't after the first
first_new : (p : ℕ) (x : List Branch) (xs : List (List Branch)) → ((u : List Branch) → In u xs → end_of u ≡ p → NotAfter x u) → (u : List Branch) → In u (x ∷ xs) → end_of u ≡ p → NotAfter x u
first_new p x xs h u (inl e) ends = inl (sym e)
first_new p x xs h u (inr i) ends = h u i ends

-- a walk more that isn't before the first
first_old : (p : ℕ) (x : List Branch) (xs : List (List Branch)) (f : FirstOf p xs) → NotAfter f.walk x → (u : List Branch) → In u (x ∷ xs) → end_of u ≡ p → NotAfter f.walk u
first_old p x xs f h u (inl e) ends = subst (λ v. NotAfter f.walk v) (sym e) h
first_old p x xs f h u (inr i) ends = f.first u i ends

pick : (p : ℕ) (x : List Branch) (xs : List (List Branch)) (f : FirstOf p xs) → end_of x ≡ p → (x ≡ f.walk) ⊎ (Earlier x f.walk ⊎ Earlier f.walk x) → FirstOf p (x ∷ xs)
pick p x xs f ends (inl e) = record { walk = f.walk; among = inr f.among; ends = f.ends; first = first_old p x xs f (inl (sym e)) }
pick p x xs f ends (inr (inl h)) = record {
  walk = x;
  among = inl refl;
  ends = ends;
  first = first_new p x xs (λ u i t. not_after_trans x f.walk u (inr h) (f.first u i t));
}
pick p x xs f ends (inr (inr h)) = record { walk = f.walk; among = inr f.among; ends = f.ends; first = first_old p x xs f (inr h) }

extend : (code : List Instr) (n p : ℕ) (x : List Branch) (xs : List (List Branch)) → SameLength code n (x ∷ xs) → (end_of x ≡ p) ⊎ (end_of x ≡ p → ⊥) → NoneLeads p xs ⊎ FirstOf p xs → NoneLeads p (x ∷ xs) ⊎ FirstOf p (x ∷ xs)
extend code n p x xs s (inl ends) (inl none) = inr record {
  walk = x;
  among = inl refl;
  ends = ends;
  first = first_new p x xs (λ u i t. absurd (none u i t));
}
extend code n p x xs s (inl ends) (inr f) =
    let a = s x (inl refl) in
    let b = s f.walk (inr f.among) in
    inr (pick p x xs f ends (ordered code x f.walk a.0 b.0 (a.1 ∙ sym b.1)))
extend code n p x xs s (inr differs) (inl none) = inl (none_more p x xs differs none)
extend code n p x xs s (inr differs) (inr f) = inr record { walk = f.walk; among = inr f.among; ends = f.ends; first = first_elsewhere p x xs differs f }

first_of : (code : List Instr) (n p : ℕ) (ws : List (List Branch)) → SameLength code n ws → NoneLeads p ws ⊎ FirstOf p ws
first_of code n p [] s = inl (λ u i t. i)
first_of code n p (x ∷ xs) s =
    extend code n p x xs s (cases_eq (end_of x) p) (first_of code n p xs (λ w i. s w (inr i)))

-- ---- the first walk of any length

abbrev NoShorter : List Instr → ℕ → ℕ → Type 0
NoShorter code p n = (u : List Branch) → IsWalk code u → end_of u ≡ p → length u < n → ⊥

abbrev Found : List Instr → ℕ → Type 0
Found code p = (walk : List Branch) × IsFirstWalk code p walk

by_length : (code : List Instr) (p n : ℕ) → NoShorter code p n → (f : FirstOf p (walks_of code n)) → (u : List Branch) → IsWalk code u → end_of u ≡ p → (length u ≡ n) ⊎ ((length u < n) ⊎ (n < length u)) → NotAfter f.walk u
by_length code p n none f u is ends (inl l) = f.first u (subst (λ m. In u (walks_of code m)) l (all_walks code u is)) ends
by_length code p n none f u is ends (inr (inl l)) = absurd (none u is ends l)
by_length code p n none f u is ends (inr (inr l)) =
    let same = (are_walks code n f.walk f.among).1 in
    inr (shorter_earlier f.walk u (omega arith))

no_shorter_more : (code : List Instr) (p n : ℕ) → NoShorter code p n → NoneLeads p (walks_of code n) → (u : List Branch) → IsWalk code u → end_of u ≡ p → length u < suc n → (length u ≡ n) ⊎ ((length u < n) ⊎ (n < length u)) → ⊥
no_shorter_more code p n none here u is ends l (inl e) = here u (subst (λ m. In u (walks_of code m)) e (all_walks code u is)) ends
no_shorter_more code p n none here u is ends l (inr (inl h)) = none u is ends h
no_shorter_more code p n none here u is ends l (inr (inr h)) = omega arith

at_length : (code : List Instr) (p n : ℕ) → NoShorter code p n → NoneLeads p (walks_of code n) ⊎ FirstOf p (walks_of code n) → NoShorter code p (suc n) ⊎ Found code p
at_length code p n none (inl here) = inl (λ u is ends l. no_shorter_more code p n none here u is ends l (cases_order (length u) n))
at_length code p n none (inr f) = inr (
  f.walk,
  record {
    is = (are_walks code n f.walk f.among).0;
    ends = f.ends;
    first = λ u is ends. by_length code p n none f u is ends (cases_order (length u) n);
  },
)

more : (code : List Instr) (p n : ℕ) → NoShorter code p n ⊎ Found code p → NoShorter code p (suc n) ⊎ Found code p
more code p n (inl none) = at_length code p n none (first_of code n p (walks_of code n) (are_walks code n))
more code p n (inr f) = inr f

up_to : (code : List Instr) (p n : ℕ) → NoShorter code p n ⊎ Found code p
up_to code p zero = inl (λ u is ends l. omega arith)
up_to code p (suc n) = more code p n (up_to code p n)

found : (code : List Instr) (p : ℕ) (r : IsReached code p) → NoShorter code p (suc (length r.walk)) ⊎ Found code p → Found code p
found code p r (inl none) = absurd (none r.walk r.is r.ends (omega arith))
found code p r (inr f) = f

pub reached_have_first : ReachedHaveFirstWalk
reached_have_first code p r = found code p r (up_to code p (suc (length r.walk)))

pub first_walks_are_one : FirstWalksAreOne
first_walks_are_one code p v w a b = not_after_both v w (a.first w b.is b.ends) (b.first v a.is a.ends)
