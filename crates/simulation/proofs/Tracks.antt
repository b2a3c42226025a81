-- In a star simulation, and so in a plus one, there is a state of Q beside each state of P.
use Rattle.std.proofs.Common.{◌≡◌, ℕ, zero, suc, ◌+◌, ◌-◌, ◌*◌, ◌≤◌, ◌<◌, None, sym, ◌∙◌, subst, inr, ⊎_elim, arith, le_refl, le_trans}
use Rattle.std.proofs.lemmas.Bool.{cases_lt}
use Rattle.simulation.specs.System.{System, after, IsFinal, IsPrefix, IsSystem, Agree}
use Rattle.simulation.specs.Refinement.{Follows}
use Rattle.simulation.specs.Simulation.{Plus, Star, Tracks}
use Rattle.simulation.proofs.After.{after-suc, after-sub, after-add, after-final_le, after-grows_le, final_or_running}
use Rattle.simulation.proofs.Simulation.{Follows-from_star}

-- a sequence that never falls by one step never falls
pub rising_from_steps : (f : ℕ → ℕ) → ((n : ℕ) → f n ≤ f (suc n)) → (n m : ℕ) → n ≤ m → f n ≤ f m
rising_from_steps f up n m h = let e : n + (m - n) ≡ m = omega arith in subst (λ i. f n ≤ f i) e (by_gap (m - n))
  where
    by_gap : (d : ℕ) → f n ≤ f (n + d)
    by_gap zero = let e : n ≡ n + zero = omega arith in subst (λ i. f n ≤ f i) e (le_refl (f n))
    by_gap (suc d) = let e : suc (n + d) ≡ n + suc d = omega arith in subst (λ i. f n ≤ f i) e (le_trans (by_gap d) (up (n + d)))

-- Q's state beside the n-th state of P
record Beside {E S T : Type 0} (P : System E S) (Q : System E T) (c : ℕ) (R : S → T → Type 0) (s : S) (t : T) (n : ℕ) : Type 0 where
  count : ℕ
  bounded : count ≤ c * (n + 1)
  related : R (after P.step n s) (after Q.step count t)

-- and the one beside the next, which is no earlier
record Next {E S T : Type 0} (P : System E S) (Q : System E T) (c : ℕ) (R : S → T → Type 0) (s : S) (t : T) (n m : ℕ) : Type 0 where
  beside : Beside P Q c R s t (suc n)
  rises : m ≤ beside.count

module _ {E S T : Type 0} (P : System E S) (Q : System E T) (R : S → T → Type 0) (soundP : IsSystem P) (c : ℕ) (distance : S → ℕ) (star : Star P Q c distance R) (s : S) (t : T) (lead : ℕ) (early : lead ≤ c) (start : R s (after Q.step lead t)) where
  next : (n : ℕ) (b : Beside P Q c R s t n) → Next P Q c R s t n b.count
  next n b = ⊎_elim resting moving (final_or_running (P.ending (after P.step n s)))
    where
      resting : IsFinal (P.ending (after P.step n s)) → Next P Q c R s t n b.count
      resting f = record {
        beside = record {
          count = b.count;
          bounded = let h = b.bounded in omega arith;
          related = subst (λ x. R x (after Q.step b.count t)) (sym (after-suc P.step n s ∙ soundP.rests (after P.step n s) f)) b.related;
        };
        rises = le_refl b.count;
      }

      alone : R (P.step (after P.step n s)) (after Q.step b.count t) → Next P Q c R s t n b.count
      alone r = record {
        beside = record { count = b.count; bounded = (let h = b.bounded in omega arith); related = subst (λ x. R x (after Q.step b.count t)) (sym (after-suc P.step n s)) r };
        rises = le_refl b.count;
      }

      together : (m : ℕ) → suc m ≤ c → R (P.step (after P.step n s)) (after Q.step (suc m) (after Q.step b.count t)) → Next P Q c R s t n b.count
      together m within r = record {
        beside = record {
          count = b.count + suc m;
          bounded = (let h = b.bounded in omega arith);
          related =
              subst (λ x. R x (after Q.step (b.count + suc m) t)) (sym (after-suc P.step n s))
              (subst (λ y. R (P.step (after P.step n s)) y) (sym (after-add Q.step b.count (suc m) t)) r);
        };
        rises = omega arith;
      }

      moving : P.ending (after P.step n s) ≡ None → Next P Q c R s t n b.count
      moving runs = ⊎_elim (λ a. alone a.1) (λ m. together m.0 m.1 m.2) (star.moves (after P.step n s) (after Q.step b.count t) b.related runs)

  besides : (n : ℕ) → Beside P Q c R s t n
  besides zero = record { count = lead; bounded = omega arith; related = start }
  besides (suc n) = (next n (besides n)).beside

  count_rises : (n : ℕ) → (besides n).count ≤ (besides (suc n)).count
  unfolding besides
  count_rises n = (next n (besides n)).rises

  ends_back : IsSystem Q → (m : ℕ) → IsFinal (Q.ending (after Q.step m t)) → (n : ℕ) × Agree P Q (after P.step n s) (after Q.step m t)
  ends_back soundQ m f = ⊎_elim in_lead past_lead (cases_lt m lead)
    where
      follows : Follows P Q c s (after Q.step lead t)
      follows = Follows-from_star P Q R soundP soundQ c distance star s (after Q.step lead t) start

      in_lead : m < lead → (n : ℕ) × Agree P Q (after P.step n s) (after Q.step m t)
      in_lead h =
          let e = after-final_le Q soundQ m lead t (omega arith) f in
          (0, subst (λ y. Agree P Q s y) e (star.agrees s (after Q.step lead t) start))

      past_lead : lead ≤ m → (n : ℕ) × Agree P Q (after P.step n s) (after Q.step m t)
      past_lead h =
          let e = after-sub Q.step lead m t h in
          let a = follows.ends_only (m - lead) (subst (λ y. IsFinal (Q.ending y)) e f) in
          (a.0, subst (λ y. Agree P Q (after P.step a.0 s) y) (sym e) a.1)

  prints_back : IsSystem Q → (m : ℕ) → (n : ℕ) × IsPrefix (Q.printed (after Q.step m t)) (P.printed (after P.step n s))
  prints_back soundQ m = ⊎_elim in_lead past_lead (cases_lt m lead)
    where
      follows : Follows P Q c s (after Q.step lead t)
      follows = Follows-from_star P Q R soundP soundQ c distance star s (after Q.step lead t) start

      in_lead : m < lead → (n : ℕ) × IsPrefix (Q.printed (after Q.step m t)) (P.printed (after P.step n s))
      in_lead h =
          (0, subst (λ l. IsPrefix (Q.printed (after Q.step m t)) l) (sym (star.agrees s (after Q.step lead t) start).1) (after-grows_le Q soundQ m lead t (omega arith)))

      past_lead : lead ≤ m → (n : ℕ) × IsPrefix (Q.printed (after Q.step m t)) (P.printed (after P.step n s))
      past_lead h =
          let a = follows.prints_only (m - lead) in
          (a.0, subst (λ y. IsPrefix (Q.printed y) (P.printed (after P.step a.0 s))) (sym (after-sub Q.step lead m t h)) a.1)

-- Q keeps track of P, from any state that comes to a related one within one step's bound
pub Tracks-from_star : {E S T : Type 0} (P : System E S) (Q : System E T) (R : S → T → Type 0) → IsSystem P → IsSystem Q → (c : ℕ) (distance : S → ℕ) → Star P Q c distance R → (s : S) (t : T) (lead : ℕ) → lead ≤ c → R s (after Q.step lead t) → Tracks P Q c R s t
Tracks-from_star P Q R soundP soundQ c distance star s t lead early start = record {
  count = λ n. (besides P Q R soundP c distance star s t lead early start n).count;
  bounded = λ n. (besides P Q R soundP c distance star s t lead early start n).bounded;
  rising = rising_from_steps (λ n. (besides P Q R soundP c distance star s t lead early start n).count) (count_rises P Q R soundP c distance star s t lead early start);
  related = λ n. (besides P Q R soundP c distance star s t lead early start n).related;
  agrees = λ n. star.agrees (after P.step n s) (after Q.step (besides P Q R soundP c distance star s t lead early start n).count t) (besides P Q R soundP c distance star s t lead early start n).related;
  ends_only = ends_back P Q R soundP c distance star s t lead early start soundQ;
  prints_only = prints_back P Q R soundP c distance star s t lead early start soundQ;
}

-- a plus simulation is a star one in which P makes no step alone
Star-from_plus : {E S T : Type 0} (P : System E S) (Q : System E T) (R : S → T → Type 0) (c : ℕ) → Plus P Q c R → Star P Q c (λ s. 0) R
Star-from_plus P Q R c plus = record { agrees = plus.agrees; moves = λ s t r runs. inr (plus.moves s t r runs) }

pub Tracks-from_plus : {E S T : Type 0} (P : System E S) (Q : System E T) (R : S → T → Type 0) → IsSystem P → IsSystem Q → (c : ℕ) → Plus P Q c R → (s : S) (t : T) (lead : ℕ) → lead ≤ c → R s (after Q.step lead t) → Tracks P Q c R s t
Tracks-from_plus P Q R soundP soundQ c plus s t lead early start = Tracks-from_star P Q R soundP soundQ c (λ s. 0) (Star-from_plus P Q R c plus) s t lead early start
