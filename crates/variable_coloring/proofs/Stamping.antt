-- The stamps of the classes that a variable meets.
use Rattle.std.proofs.Common.{◌≡◌, ◌⊎◌, ℕ, suc, ◌+◌, ◌<◌, ◌≤◌, Bool, List, [], ◌∷◌, ◌++◌, length, get_or, set, take, sym, ap, subst, ◌∙◌, inl, inr, ⊎_elim, arith}
use Rattle.std.specs.Prelude.{slice_index}
use Rattle.std.specs.List.{Contains}
use Rattle.std.proofs.lemmas.Bool.{cases_eq, cases_lt}
use Rattle.std.proofs.lemmas.List.{get_or-set_same, get_or-set_other, length-set, set_past, take_all}
use Rattle.std.proofs.lemmas.List.Elements.{Contains-append_left, Contains-push, Contains-push_cases}
use Rattle.std.proofs.Math.Seq.{take-suc}
use Rattle.bril_tree.specs.declared.numbered_function.Func.{Func}
use Rattle.variable_renaming.specs.Classes.{class_of}
use Rattle.variable_coloring.specs.Growing.{AreMet, AreStampsOf, StampsClasses}

module _ (x : ℕ) (class met old : List ℕ) where
  -- none is stamped yet
  pub stamps-none : StampsClasses x class (take 0 met) old old
  stamps-none = record { long = (let h : length old ≡ length old = omega arith in h); all = λ y c low. absurd (let l = c.1 in omega (arith, l)); only = λ k. inl (let h : slice_index old k ≡ slice_index old k = omega arith in h) }

  -- and one more
  pub stamps-more : (new : List ℕ) (n : ℕ) → n < length met → StampsClasses x class (take n met) old new → StampsClasses x class (take (n + 1) met) old (set new (class_of class (get_or met n 0)) (suc x))
  stamps-more new n low s = record { long = length-set new head (suc x) ∙ s.long; all = all; only = only }
    where
      y : ℕ
      y = get_or met n 0

      head : ℕ
      head = class_of class y

      grown : take (n + 1) met ≡ take n met ++ y ∷ []
      grown = ap (λ m. take m met) (let h : n + 1 ≡ suc n = omega arith in h) ∙ take-suc met n 0 low

      one-of : (z : ℕ) → Contains (take (n + 1) met) z → Contains (take n met) z ⊎ (y ≡ z)
      one-of z c = Contains-push_cases (take n met) y z (subst (λ l. Contains l z) grown c)

      kept : (z : ℕ) → Contains (take n met) z → Contains (take (n + 1) met) z
      kept z c = subst (λ l. Contains l z) (sym grown) (Contains-append_left (take n met) (y ∷ []) z c)

      last : Contains (take (n + 1) met) y
      last = subst (λ l. Contains l y) (sym grown) (Contains-push (take n met) y)

      all : (z : ℕ) → Contains (take (n + 1) met) z → class_of class z < length old → slice_index (set new head (suc x)) (class_of class z) ≡ suc x
      all z c inside = ⊎_elim here there (cases_eq (class_of class z) head)
        where
          here : class_of class z ≡ head → slice_index (set new head (suc x)) (class_of class z) ≡ suc x
          here e = ap (slice_index (set new head (suc x))) e ∙ get_or-set_same new head (suc x) 0 (let l = s.long in omega (arith, l, e, inside))

          there : (class_of class z ≡ head → ⊥) → slice_index (set new head (suc x)) (class_of class z) ≡ suc x
          there d = get_or-set_other new head (class_of class z) (suc x) 0 d ∙ ⊎_elim (λ h. s.all z h inside) (λ e. absurd (d (sym (ap (class_of class) e)))) (one-of z c)

      only : (k : ℕ) → (slice_index (set new head (suc x)) k ≡ slice_index old k) ⊎ ((slice_index (set new head (suc x)) k ≡ suc x) × ((z : ℕ) × Contains (take (n + 1) met) z × (class_of class z ≡ k)))
      only k = ⊎_elim here there (cases_eq k head)
        where
          before : slice_index (set new head (suc x)) k ≡ slice_index new k → (slice_index (set new head (suc x)) k ≡ slice_index old k) ⊎ ((slice_index (set new head (suc x)) k ≡ suc x) × ((z : ℕ) × Contains (take (n + 1) met) z × (class_of class z ≡ k)))
          before e = ⊎_elim (λ h. inl (e ∙ h)) (λ h. inr (e ∙ h.0, (h.1.0, kept h.1.0 h.1.1, h.1.2))) (s.only k)

          there : (k ≡ head → ⊥) → (slice_index (set new head (suc x)) k ≡ slice_index old k) ⊎ ((slice_index (set new head (suc x)) k ≡ suc x) × ((z : ℕ) × Contains (take (n + 1) met) z × (class_of class z ≡ k)))
          there d = before (get_or-set_other new head k (suc x) 0 d)

          here : k ≡ head → (slice_index (set new head (suc x)) k ≡ slice_index old k) ⊎ ((slice_index (set new head (suc x)) k ≡ suc x) × ((z : ℕ) × Contains (take (n + 1) met) z × (class_of class z ≡ k)))
          here e = ⊎_elim
              (λ inside. inr (ap (slice_index (set new head (suc x))) e ∙ get_or-set_same new head (suc x) 0 inside, (y, last, sym e)))
              (λ past. before (ap (λ l. slice_index l k) (set_past new head (suc x) past))) (cases_lt head (length new))

  pub stamps-all : (new : List ℕ) (n : ℕ) → length met ≤ n → StampsClasses x class (take n met) old new → StampsClasses x class met old new
  stamps-all new n over s = subst (λ l. StampsClasses x class l old new) (take_all n met over) s

-- the classes that meet x are stamped, and no others
pub stamped-classes : (F : Func) (x turn : ℕ) (placed : List Bool) (class met old new : List ℕ) → ((y : ℕ) → y < length F.vars → class_of class y < length F.vars) → length old ≡ length F.vars → ((k : ℕ) → slice_index old k ≤ turn) → AreMet F x placed met → StampsClasses turn class met old new → AreStampsOf F x turn placed class new
stamped-classes F x turn placed class met old new inside long most are s = record {
  long = s.long ∙ long;
  most = λ k. ⊎_elim (λ e. (let m = most k in omega (arith, m, e))) (λ h. (let e = h.0 in omega (arith, e))) (s.only k);
  only = λ k e. ⊎_elim (λ h. absurd (let m = most k in omega (arith, m, e, h))) (λ h. record { y = h.1.0; meeting = are.only h.1.0 h.1.1; of = h.1.2 }) (s.only k);
  all = λ y there m. s.all y (are.all y there m) (let i = inside y m.below in omega (arith, i, long));
}
