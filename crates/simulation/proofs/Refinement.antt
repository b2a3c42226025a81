-- Refinement composes.
use Rattle.std.proofs.Common.{◌≡◌, ℕ, ◌*◌, ◌≤◌, refl, sym, ap, subst, arith, mul-le-mul_right}
use Rattle.simulation.specs.System.{System, after, IsPrefix, IsSystem, Agree}
use Rattle.simulation.specs.Refinement.{Follows}
use Rattle.simulation.proofs.Prefix.{IsPrefix-equal, IsPrefix-refl, IsPrefix-trans}
use Rattle.simulation.proofs.After.{Agree-final, Agree-final_back, Agree-trans, after-final_le, after-grows_le}

-- each system follows itself
pub Follows-refl : {E S : Type 0} (P : System E S) (s : S) → Follows P P 1 s s
Follows-refl P s = record {
  ends = λ n f. (ap (λ m. P.ending (after P.step m s)) (once n), ap (λ m. P.printed (after P.step m s)) (once n));
  ends_only = λ m f. (m, (refl, refl));
  prints = λ n. IsPrefix-equal (P.printed (after P.step n s)) (P.printed (after P.step (1 * n) s)) (ap (λ m. P.printed (after P.step m s)) (once n));
  prints_only = λ m. (m, IsPrefix-refl (P.printed (after P.step m s)));
}
  where
    once : (n : ℕ) → n ≡ 1 * n
    once n = omega arith

-- the factors of two refinements multiply
pub Follows-trans : {E S T U : Type 0} (P : System E S) (Q : System E T) (O : System E U) (k j : ℕ) (s : S) (t : T) (u : U) → Follows P Q k s t → Follows Q O j t u → Follows P O (k * j) s u
Follows-trans P Q O k j s t u f g = record {
  ends = λ n final.
      let a = f.ends n final in
      let b = g.ends (k * n) (Agree-final P Q (after P.step n s) (after Q.step (k * n) t) a final) in
      subst (λ m. Agree P O (after P.step n s) (after O.step m u)) (both n)
      (Agree-trans P Q O (after P.step n s) (after Q.step (k * n) t) (after O.step (j * (k * n)) u) a b);
  ends_only = λ m final.
      let b = g.ends_only m final in
      let a = f.ends_only b.0 (Agree-final_back Q O (after Q.step b.0 t) (after O.step m u) b.1 final) in
      (a.0, Agree-trans P Q O (after P.step a.0 s) (after Q.step b.0 t) (after O.step m u) a.1 b.1);
  prints = λ n.
      subst (λ m. IsPrefix (P.printed (after P.step n s)) (O.printed (after O.step m u))) (both n)
      (IsPrefix-trans (P.printed (after P.step n s)) (Q.printed (after Q.step (k * n) t)) (O.printed (after O.step (j * (k * n)) u)) (f.prints n) (g.prints (k * n)));
  prints_only = λ m.
      let b = g.prints_only m in
      let a = f.prints_only b.0 in
      (a.0, IsPrefix-trans (O.printed (after O.step m u)) (Q.printed (after Q.step b.0 t)) (P.printed (after P.step a.0 s)) b.1 a.1);
}
  where
    both : (n : ℕ) → j * (k * n) ≡ k * j * n
    both n = omega arith

-- a larger factor serves too
pub Follows-weaker : {E S T : Type 0} (P : System E S) (Q : System E T) → IsSystem Q → (k j : ℕ) (s : S) (t : T) → k ≤ j → Follows P Q k s t → Follows P Q j s t
Follows-weaker P Q sound k j s t h f = record {
  ends = λ n final.
      let a = f.ends n final in
      let over = Agree-final P Q (after P.step n s) (after Q.step (k * n) t) a final in
      subst (λ x. Agree P Q (after P.step n s) x) (sym (after-final_le Q sound (k * n) (j * n) t (more n) over)) a;
  ends_only = f.ends_only;
  prints = λ n.
      IsPrefix-trans (P.printed (after P.step n s)) (Q.printed (after Q.step (k * n) t)) (Q.printed (after Q.step (j * n) t)) (f.prints n)
      (after-grows_le Q sound (k * n) (j * n) t (more n));
  prints_only = f.prints_only;
}
  where
    more : (n : ℕ) → k * n ≤ j * n
    more n = mul-le-mul_right n h
