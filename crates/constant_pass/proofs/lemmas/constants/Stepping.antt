-- One entry rises, and one point is reached.
use Rattle.std.proofs.Common.{◌≡◌, ℕ, zero, suc, ◌+◌, ◌<◌, ◌≤◌, Bool, true, false, List, [], ◌∷◌, ◌++◌, length, get_or, set, refl, sym, ap, subst, ◌∙◌, inl, inr, ⊎_elim, arith}
use Rattle.std.proofs.lemmas.Bool.{cases_eq, cases_lt}
use Rattle.std.proofs.lemmas.List.{get_or-set_same, get_or-set_other, length-set, length-append}
use Rattle.bril_tree.specs.Membership.{In}
use Rattle.bril_tree.proofs.Members.{in_append_left, in_append_right}
use Rattle.constant_pass.specs.declared.constants.known.Known.{Known}
use Rattle.constant_pass.specs.declared.constants.known.Known.TheVariants.{Nothing, One, Many}
use Rattle.constant_pass.specs.constants.Known.{IsBelow}
use Rattle.graph_search.specs.Marks.{is_marked}
use Rattle.constant_pass.specs.constants.Work.{Raises, Reaches, height, heights, unmarked, unreached}

-- ---- heights

heights-set : (xs : List Known) (k : ℕ) (y : Known) → k < length xs → heights (set xs k y) + height (get_or xs k Nothing) ≡ heights xs + height y
heights-set [] k y low = absurd (omega arith)
heights-set (x ∷ xs) zero y low = omega arith
heights-set (x ∷ xs) (suc k) y low = let h = heights-set xs k y (omega arith) in omega arith

height-falls : (k l : Known) → IsBelow k l → height l ≤ height k
height-falls Nothing Nothing h = omega arith
height-falls Nothing (One v) h = omega arith
height-falls Nothing Many h = omega arith
height-falls (One v) Nothing h = absurd h
height-falls (One v) (One w) h = omega arith
height-falls (One v) Many h = omega arith
height-falls Many Nothing h = absurd h
height-falls Many (One w) h = absurd h
height-falls Many Many h = omega arith

-- ---- an entry

pub raised-up : (number : ℕ) (to was now : Known) (known : List Known) (risen : List ℕ) → number < length known → was ≡ get_or known number Nothing → IsBelow was now → IsBelow to now → ((bound : Known) → IsBelow was bound → IsBelow to bound → IsBelow now bound) → (height now ≡ height was → ⊥)
    → Raises number to known (set known number now) risen (risen ++ number ∷ [])
raised-up number to was now known risen low is grows above least other =
    let here : get_or (set known number now) number Nothing ≡ now = get_or-set_same known number now Nothing low in
    record {
      others = λ k n. get_or-set_other known number k now Nothing n;
      above = subst (IsBelow to) (sym here) above;
      grows = subst (λ a. IsBelow a (get_or (set known number now) number Nothing)) is (subst (IsBelow was) (sym here) grows);
      least = λ bound a b. subst (λ z. IsBelow z bound) (sym here) (least bound (subst (λ z. IsBelow z bound) (sym is) a) b);
      queued = inr (in_append_right number risen (number ∷ []) (inl refl));
      older = λ k i. in_append_left k risen (number ∷ []) i;
      less = (let h = heights-set known number now low in let f = height-falls was now grows in let n = falls (height now) (height was) f other in let e = ap height is in let l = length-append risen (number ∷ []) in omega arith);
    }
  where
    falls : (a b : ℕ) → a ≤ b → (a ≡ b → ⊥) → a < b
    falls a b l n = ⊎_elim (λ h. h) (λ h. absurd (n (omega arith))) (cases_lt a b)

-- ---- a point

unreached-set : (marks : List Bool) (k : ℕ) → k < length marks → get_or marks k false ≡ false → unreached (set marks k true) + 1 ≡ unreached marks
unreached-set [] k low e = absurd (omega arith)
unreached-set (m ∷ marks) zero low e = let h = ap unmarked e in omega arith
unreached-set (m ∷ marks) (suc k) low e = let h = unreached-set marks k (omega arith) e in omega arith

only_one : (p q : ℕ) → In p (q ∷ []) → p ≡ q
only_one p q (inl e) = e
only_one p q (inr i) = absurd i

pub went-on : (to : ℕ) (marks : List Bool) (points : List ℕ) → to < length marks → get_or marks to false ≡ false → Reaches (to ∷ []) marks (set marks to true) points (points ++ to ∷ [])
went-on to marks points low e =
    let here : get_or (set marks to true) to false ≡ true = get_or-set_same marks to true false low in
    record {
      long = length-set marks to true;
      grows = λ p h. ⊎_elim (λ s. ap (λ q. get_or (set marks to true) q false) s ∙ here) (λ d. get_or-set_other marks to p true false d ∙ h) (cases_eq p to);
      there = λ p i. ap (λ q. get_or (set marks to true) q false) (only_one p to i) ∙ here;
      only = λ p h. ⊎_elim (λ s. inr (inl s, in_append_right p points (to ∷ []) (inl s))) (λ d. inl (sym (get_or-set_other marks to p true false d) ∙ h)) (cases_eq p to);
      older = λ p i. in_append_left p points (to ∷ []) i;
      less = (let h = unreached-set marks to low e in let l = length-append points (to ∷ []) in omega arith);
    }

-- two points, one after the other
pub went-both : (first second : ℕ) (marks more most : List Bool) (points longer longest : List ℕ) → Reaches (first ∷ []) marks more points longer → Reaches (second ∷ []) more most longer longest → Reaches (first ∷ second ∷ []) marks most points longest
went-both first second marks more most points longer longest g h = record {
  long = h.long ∙ g.long;
  grows = λ p e. h.grows p (g.grows p e);
  there = λ p i. there p i;
  only = λ p e. ⊎_elim (λ m. ⊎_elim inl (λ k. inr (inl (only_one p first k.0), h.older p k.1)) (g.only p m)) (λ k. inr (inr k.0, k.1)) (h.only p e);
  older = λ p i. h.older p (g.older p i);
  less = (let a = g.less in let b = h.less in omega arith);
}
  where
    there : (p : ℕ) → In p (first ∷ second ∷ []) → is_marked most p ≡ true
    there p (inl e) = h.grows p (g.there p (inl e))
    there p (inr i) = h.there p i
