-- The clashes that a search finds.
use Rattle.std.proofs.Common.{◌≡◌, ℕ, suc, ◌+◌, ◌<◌, ◌≤◌, Bool, true, false, List, [], ◌∷◌, ◌++◌, length, get_or, take, sym, subst, ◌∙◌, inl, inr, ⊎_elim, arith}
use Rattle.std.specs.List.{Contains}
use Rattle.std.proofs.lemmas.Bool.{cases_eq, cases_lt}
use Rattle.std.proofs.lemmas.List.Elements.{Contains-push, Contains-push_cases, Contains-append_left}
use Rattle.bril_tree.specs.declared.numbered.Instr.{Instr}
use Rattle.bril_tree.specs.Live.{IsLive}
use Rattle.bril_tree.specs.Operand.{Variable}
use Rattle.graph_search.specs.Marks.{is_marked}
use Rattle.variable_renaming.proofs.Editing.{outside}
use Rattle.variable_renaming.specs.Clashes.{Clashes}
use Rattle.coalesce.specs.Classes.{AddsClashes, AreClashes, HasBoth, IsClash, clash}
use Rattle.coalesce.specs.declared.clashes.Clash.{Clash}
use Rattle.coalesce.proofs.Looking.{take-next}

-- ---- more clashes

module _ (code : List Instr) (related : List Bool) (x : ℕ) where
  pub adds-none : (old : List Clash) (IsPoint : ℕ → Type 0) → ((item y : ℕ) → IsPoint (suc item) → is_marked related y ≡ true → Clashes code item y x → ⊥) → AddsClashes code related x IsPoint old old
  adds-none old IsPoint none = record { kept = λ c i. i; only = λ c i. inl i; all = λ item y p m c. absurd (none item y p m c) }

  -- a clash, both ways round
  pub adds-two : (old more new : List Clash) (point item dest : ℕ) → suc item ≡ point → ((i : ℕ) → suc i ≡ point → Clashes code i dest x) → ((i y : ℕ) → suc i ≡ point → Clashes code i y x → y ≡ dest)
      → more ≡ old ++ clash item x dest ∷ [] → new ≡ more ++ clash item dest x ∷ [] → AddsClashes code related x (λ p. p ≡ point) old new
  adds-two old more new point item dest e some alone first second = record {
    kept = λ c i. earlier c (subst (λ l. Contains l c) (sym first) (Contains-append_left old (clash item x dest ∷ []) c i));
    only = λ c i. ⊎_elim (λ h. ⊎_elim inl (λ s. inr (subst (IsClash code) s (inr (some item e)))) (Contains-push_cases old (clash item x dest) c (subst (λ l. Contains l c) first h))) (λ s. inr (subst (IsClash code) s (inl (some item e)))) (Contains-push_cases more (clash item dest x) c (subst (λ l. Contains l c) second i));
    all = λ i y p m c.
        let same : y ≡ dest = alone i y p c in
        let place : i ≡ item = omega (arith, p, e) in
        subst (λ z. HasBoth new i z x) (sym same) (subst (λ n. HasBoth new n dest x) (sym place) (here, earlier (clash item x dest) (subst (λ l. Contains l (clash item x dest)) (sym first) (Contains-push old (clash item x dest)))));
  }
    where
      earlier : (c : Clash) → Contains more c → Contains new c
      earlier c i = subst (λ l. Contains l c) (sym second) (Contains-append_left more (clash item dest x ∷ []) c i)

      here : Contains new (clash item dest x)
      here = subst (λ l. Contains l (clash item dest x)) (sym second) (Contains-push more (clash item dest x))

  -- the clashes at more points
  pub adds-more : (first middle last : List Clash) (points : List ℕ) (n : ℕ) → n < length points → AddsClashes code related x (Contains (take n points)) first middle → AddsClashes code related x (λ p. p ≡ get_or points n 0) middle last → AddsClashes code related x (Contains (take (n + 1) points)) first last
  adds-more first middle last points n low a b = record {
    kept = λ c i. b.kept c (a.kept c i);
    only = λ c i. ⊎_elim (λ h. a.only c h) inr (b.only c i);
    all = λ item y p m c. ⊎_elim (λ e. b.all item y e m c) (λ d. let h = a.all item y (take-next points n 0 (suc item) low p d) m c in (b.kept _ h.0, b.kept _ h.1)) (cases_eq (suc item) (get_or points n 0));
  }

  pub adds-all : (first last : List Clash) (P R : ℕ → Type 0) → ((p : ℕ) → R p → P p) → AddsClashes code related x P first last → AddsClashes code related x R first last
  adds-all first last P R more a = record { kept = a.kept; only = a.only; all = λ item y p m c. a.all item y (more (suc item) p) m c }

-- the clashes of variables below a number
pub record AreClashesBelow (code : List Instr) (related : List Bool) (x : ℕ) (list : List Clash) : Type 0 where
  pub all : (item y z : ℕ) → z < x → is_marked related z ≡ true → is_marked related y ≡ true → Clashes code item y z → HasBoth list item y z
  pub only : (c : Clash) → Contains list c → IsClash code c

module _ (code : List Instr) (related : List Bool) where
  pub none-below : (list : List Clash) → list ≡ [] → AreClashesBelow code related 0 list
  none-below list e = record { all = λ item y z low m k c. absurd (omega arith); only = λ c i. absurd (nothing c (subst (λ l. Contains l c) e i)) }
    where
      nothing : (c : Clash) → Contains [] c → ⊥
      nothing c i = let l = i.1 in omega arith

  pub more-below : (x : ℕ) (list more : List Clash) → AreClashesBelow code related x list → AddsClashes code related x (λ p. (is_marked related x ≡ true) × IsLive code (Variable x) p) list more → AreClashesBelow code related (x + 1) more
  more-below x list more a b = record {
    all = λ item y z low m k c. ⊎_elim (λ e. subst (HasBoth more item y) (sym e) (b.all item y (subst (λ n. is_marked related n ≡ true) e m, subst (λ n. IsLive code (Variable n) (suc item)) e c.live) k (subst (Clashes code item y) e c)))
        (λ d. let h = a.all item y z (below z low d) m k c in (b.kept _ h.0, b.kept _ h.1)) (cases_eq z x);
    only = λ c i. ⊎_elim (λ h. a.only c h) (λ h. h) (b.only c i);
  }
    where
      below : (z : ℕ) → z < x + 1 → (z ≡ x → ⊥) → z < x
      below z low d = ⊎_elim (λ l. l) (λ high. absurd (d (omega arith))) (cases_lt z x)

  pub all-clashes : (x : ℕ) (list : List Clash) → length related ≤ x → AreClashesBelow code related x list → AreClashes code related list
  all-clashes x list long a = record {
    all = λ item y z m k c. a.all item y z (⊎_elim (λ l. l) (λ high. absurd (let f : true ≡ false = sym k ∙ outside related z false (omega arith) in cc)) (cases_lt z x)) k m c;
    only = a.only;
  }
