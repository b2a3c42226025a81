-- A simulation refines: the steps of both systems are cut into chunks, between which the states are related.
use Rattle.std.proofs.Common.{◌≡◌, ℕ, zero, suc, ◌+◌, ◌-◌, ◌*◌, ◌≤◌, ◌<◌, None, refl, sym, ap, ◌∙◌, subst, ⊎_elim, arith, zero-le, mul-le-mul_left}
use Rattle.std.proofs.lemmas.Bool.{cases_lt}
use Rattle.simulation.specs.System.{System, after, IsFinal, IsPrefix, IsSystem, Agree}
use Rattle.simulation.specs.Refinement.{Follows}
use Rattle.simulation.specs.Simulation.{Chunk, Simulation, Plus, Star}
use Rattle.simulation.proofs.Prefix.{IsPrefix-equal, IsPrefix-trans}
use Rattle.simulation.proofs.After.{after-add, Agree-final, final_or_running, running-not_final, after-final_le, running-earlier, after-grows_le}

-- the last related states that P meets within n steps: it does not end or print anything between them and its n-th state
record Last {E S T : Type 0} (P : System E S) (Q : System E T) (k : ℕ) (R : S → T → Type 0) (s : S) (t : T) (n : ℕ) : Type 0 where
  first : ℕ
  second : ℕ
  before : first ≤ n
  within : second ≤ k * first
  related : R (after P.step first s) (after Q.step second t)
  ended : IsFinal (P.ending (after P.step n s)) → IsFinal (P.ending (after P.step first s))
  shown : IsPrefix (P.printed (after P.step n s)) (P.printed (after P.step first s))

-- related states where Q has made m steps or more
record Beyond {E S T : Type 0} (P : System E S) (Q : System E T) (R : S → T → Type 0) (s : S) (t : T) (m : ℕ) : Type 0 where
  first : ℕ
  second : ℕ
  after_m : m ≤ second
  related : R (after P.step first s) (after Q.step second t)

module _ {E S T : Type 0} (P : System E S) (Q : System E T) (R : S → T → Type 0) (soundP : IsSystem P) (soundQ : IsSystem Q) (k : ℕ) (sim : Simulation P Q k R) where
  -- a chunk from the states that P and Q reach after a and b steps
  later : (s : S) (t : T) (a b : ℕ) (chunk : Chunk P Q k R (after P.step a s) (after Q.step b t)) → R (after P.step (a + suc chunk.early) s) (after Q.step (b + suc chunk.moves) t)
  later s t a b chunk =
      subst (λ x. R x (after Q.step (b + suc chunk.moves) t)) (sym (after-add P.step a (suc chunk.early) s))
      (subst (λ y. R (after P.step (suc chunk.early) (after P.step a s)) y) (sym (after-add Q.step b (suc chunk.moves) t)) chunk.again)

  -- P stops within a chunk
  in_chunk : (s : S) (t : T) (n a b : ℕ) → a ≤ n → b ≤ k * a → R (after P.step a s) (after Q.step b t) → (chunk : Chunk P Q k R (after P.step a s) (after Q.step b t)) → n < a + suc chunk.early → Last P Q k R s t n
  in_chunk s t n a b h w r chunk short = record {
    first = a;
    second = b;
    before = h;
    within = w;
    related = r;
    ended = λ f. absurd (running-not_final (P.ending (after P.step n s)) runs f);
    shown = subst (λ l. IsPrefix (P.printed (after P.step n s)) l) (ap P.printed whole ∙ chunk.quiet) (after-grows_le P soundP n (a + chunk.early) s le);
  }
    where
      le : n ≤ a + chunk.early
      le = omega arith

      whole : after P.step (a + chunk.early) s ≡ after P.step chunk.early (after P.step a s)
      whole = after-add P.step a chunk.early s

      runs : P.ending (after P.step n s) ≡ None
      runs = running-earlier P soundP n (a + chunk.early) s le (ap P.ending whole ∙ chunk.running)

  -- P has ended
  at_end : (s : S) (t : T) (n a b : ℕ) → a ≤ n → b ≤ k * a → R (after P.step a s) (after Q.step b t) → IsFinal (P.ending (after P.step a s)) → Last P Q k R s t n
  at_end s t n a b h w r f = record {
    first = a;
    second = b;
    before = h;
    within = w;
    related = r;
    ended = λ g. f;
    shown = IsPrefix-equal (P.printed (after P.step n s)) (P.printed (after P.step a s)) (ap P.printed (after-final_le P soundP a n s h f));
  }

  -- what holds from all related states nearer to n holds before a chunk
  by_chunk : (s : S) (t : T) (n a b : ℕ) → a ≤ n → b ≤ k * a → R (after P.step a s) (after Q.step b t) → Chunk P Q k R (after P.step a s) (after Q.step b t) → ((a' b' : ℕ) → a < a' → a' ≤ n → b' ≤ k * a' → R (after P.step a' s) (after Q.step b' t) → Last P Q k R s t n) → Last P Q k R s t n
  by_chunk s t n a b h w r chunk nearer =
      ⊎_elim (λ short. in_chunk s t n a b h w r chunk short) (λ long. nearer (a + suc chunk.early) (b + suc chunk.moves) (omega arith) long more (later s t a b chunk))
      (cases_lt n (a + suc chunk.early))
    where
      more : b + suc chunk.moves ≤ k * (a + suc chunk.early)
      more = let i = chunk.within in omega arith

  last_from : (fuel : ℕ) (s : S) (t : T) (n a b : ℕ) → n - a < fuel → a ≤ n → b ≤ k * a → R (after P.step a s) (after Q.step b t) → Last P Q k R s t n
  last_from zero s t n a b enough h w r = absurd (omega arith)
  last_from (suc fuel) s t n a b enough h w r =
      ⊎_elim (λ f. at_end s t n a b h w r f)
      (λ runs.
      by_chunk s t n a b h w r (sim.chunk (after P.step a s) (after Q.step b t) r runs)
      (λ a' b' further h' w' r'. last_from fuel s t n a' b' (omega arith) h' w' r'))
      (final_or_running (P.ending (after P.step a s)))

  last : (s : S) (t : T) (n : ℕ) → R s t → Last P Q k R s t n
  last s t n r = last_from (suc n) s t n zero zero (omega arith) zero-le zero-le r

  ends_forward : (s : S) (t : T) (n : ℕ) → R s t → IsFinal (P.ending (after P.step n s)) → Agree P Q (after P.step n s) (after Q.step (k * n) t)
  ends_forward s t n r f =
      subst (λ x. Agree P Q x (after Q.step (k * n) t)) (sym (after-final_le P soundP l.first n s l.before over))
      (subst (λ y. Agree P Q (after P.step l.first s) y) (sym (after-final_le Q soundQ l.second (k * n) t le there)) agree)
    where
      l : Last P Q k R s t n
      l = last s t n r

      agree : Agree P Q (after P.step l.first s) (after Q.step l.second t)
      agree = sim.agrees (after P.step l.first s) (after Q.step l.second t) l.related

      over : IsFinal (P.ending (after P.step l.first s))
      over = l.ended f

      there : IsFinal (Q.ending (after Q.step l.second t))
      there = Agree-final P Q (after P.step l.first s) (after Q.step l.second t) agree over

      le : l.second ≤ k * n
      le = let m : k * l.first ≤ k * n = mul-le-mul_left k l.before in let w = l.within in omega arith

  prints_forward : (s : S) (t : T) (n : ℕ) → R s t → IsPrefix (P.printed (after P.step n s)) (Q.printed (after Q.step (k * n) t))
  prints_forward s t n r =
      IsPrefix-trans (P.printed (after P.step n s)) (P.printed (after P.step l.first s)) (Q.printed (after Q.step (k * n) t)) l.shown
      (subst (λ x. IsPrefix x (Q.printed (after Q.step (k * n) t))) (sym agree.1) (after-grows_le Q soundQ l.second (k * n) t le))
    where
      l : Last P Q k R s t n
      l = last s t n r

      agree : Agree P Q (after P.step l.first s) (after Q.step l.second t)
      agree = sim.agrees (after P.step l.first s) (after Q.step l.second t) l.related

      le : l.second ≤ k * n
      le = let m : k * l.first ≤ k * n = mul-le-mul_left k l.before in let w = l.within in omega arith

  -- related states go on, or Q rests in them
  one_beyond : (s : S) (t : T) (m : ℕ) → Beyond P Q R s t m → Beyond P Q R s t (suc m)
  one_beyond s t m b = ⊎_elim resting moving (final_or_running (P.ending (after P.step b.first s)))
    where
      agree : Agree P Q (after P.step b.first s) (after Q.step b.second t)
      agree = sim.agrees (after P.step b.first s) (after Q.step b.second t) b.related

      resting : IsFinal (P.ending (after P.step b.first s)) → Beyond P Q R s t (suc m)
      resting f = record {
        first = b.first;
        second = suc b.second;
        after_m = let h = b.after_m in omega arith;
        related =
            subst (λ y. R (after P.step b.first s) y)
            (sym (after-final_le Q soundQ b.second (suc b.second) t (omega arith) (Agree-final P Q (after P.step b.first s) (after Q.step b.second t) agree f))) b.related;
      }

      moving : P.ending (after P.step b.first s) ≡ None → Beyond P Q R s t (suc m)
      moving runs =
          let chunk = sim.chunk (after P.step b.first s) (after Q.step b.second t) b.related runs in
          let h = b.after_m in
          record { first = b.first + suc chunk.early; second = b.second + suc chunk.moves; after_m = omega arith; related = later s t b.first b.second chunk }

  beyond : (s : S) (t : T) (m : ℕ) → R s t → Beyond P Q R s t m
  beyond s t zero r = record { first = zero; second = zero; after_m = zero-le; related = r }
  beyond s t (suc m) r = one_beyond s t m (beyond s t m r)

  ends_back : (s : S) (t : T) (m : ℕ) → R s t → IsFinal (Q.ending (after Q.step m t)) → (n : ℕ) × Agree P Q (after P.step n s) (after Q.step m t)
  ends_back s t m r f =
      let b = beyond s t m r in
      (b.first, subst (λ y. Agree P Q (after P.step b.first s) y) (after-final_le Q soundQ m b.second t b.after_m f) (sim.agrees (after P.step b.first s) (after Q.step b.second t) b.related))

  prints_back : (s : S) (t : T) (m : ℕ) → R s t → (n : ℕ) × IsPrefix (Q.printed (after Q.step m t)) (P.printed (after P.step n s))
  prints_back s t m r =
      let b = beyond s t m r in
      let agree = sim.agrees (after P.step b.first s) (after Q.step b.second t) b.related in
      (b.first, subst (λ x. IsPrefix (Q.printed (after Q.step m t)) x) (sym agree.1) (after-grows_le Q soundQ m b.second t b.after_m))

-- a simulation refines, from related states on
pub Follows-from_simulation : {E S T : Type 0} (P : System E S) (Q : System E T) (R : S → T → Type 0) → IsSystem P → IsSystem Q → (k : ℕ) → Simulation P Q k R → (s : S) (t : T) → R s t → Follows P Q k s t
Follows-from_simulation P Q R soundP soundQ k sim s t r = record {
  ends = λ n f. ends_forward P Q R soundP soundQ k sim s t n r f;
  ends_only = λ m f. ends_back P Q R soundP soundQ k sim s t m r f;
  prints = λ n. prints_forward P Q R soundP soundQ k sim s t n r;
  prints_only = λ m. prints_back P Q R soundP soundQ k sim s t m r;
}

-- steps in lock step are chunks of one step of P
pub Simulation-from_plus : {E S T : Type 0} (P : System E S) (Q : System E T) (R : S → T → Type 0) (c : ℕ) → Plus P Q c R → Simulation P Q c R
Simulation-from_plus P Q R c lock = record {
  agrees = lock.agrees;
  chunk = λ s t r runs.
      let m = lock.moves s t r runs in
      record { early = 0; moves = m.0; within = let h = m.1 in omega arith; quiet = refl; running = runs; again = m.2 };
}

pub Follows-from_plus : {E S T : Type 0} (P : System E S) (Q : System E T) (R : S → T → Type 0) → IsSystem P → IsSystem Q → (c : ℕ) → Plus P Q c R → (s : S) (t : T) → R s t → Follows P Q c s t
Follows-from_plus P Q R soundP soundQ c lock = Follows-from_simulation P Q R soundP soundQ c (Simulation-from_plus P Q R c lock)

module _ {E S T : Type 0} (P : System E S) (Q : System E T) (R : S → T → Type 0) (c : ℕ) (distance : S → ℕ) (drift : Star P Q c distance R) where
  goes_on : (s : S) (t : T) → R s t → R (P.step s) t → P.ending s ≡ None → P.ending (P.step s) ≡ None
  goes_on s t r r' runs = (drift.agrees (P.step s) t r').0 ∙ sym (drift.agrees s t r).0 ∙ runs

  -- one more step of P alone in front
  longer : (s : S) (t : T) → R s t → R (P.step s) t → Chunk P Q c R (P.step s) t → Chunk P Q c R s t
  longer s t r r' chunk = record {
    early = suc chunk.early;
    moves = chunk.moves;
    within = let h = chunk.within in omega arith;
    quiet = chunk.quiet ∙ (drift.agrees (P.step s) t r').1 ∙ sym (drift.agrees s t r).1;
    running = chunk.running;
    again = chunk.again;
  }

  -- the steps that P makes alone and the next one of both are a chunk
  star_chunk : (fuel : ℕ) (s : S) (t : T) → distance s < fuel → R s t → P.ending s ≡ None → Chunk P Q c R s t
  star_chunk zero s t enough r runs = absurd (omega arith)
  star_chunk (suc fuel) s t enough r runs =
      ⊎_elim (λ alone. longer s t r alone.1 (star_chunk fuel (P.step s) t (let h = alone.0 in omega arith) alone.1 (goes_on s t r alone.1 runs)))
      (λ both. record { early = 0; moves = both.0; within = let h = both.1 in omega arith; quiet = refl; running = runs; again = both.2 })
      (drift.moves s t r runs)

-- the steps that P makes alone end, since the distance falls
pub Simulation-from_star : {E S T : Type 0} (P : System E S) (Q : System E T) (R : S → T → Type 0) (c : ℕ) (distance : S → ℕ) → Star P Q c distance R → Simulation P Q c R
Simulation-from_star P Q R c distance drift = record {
  agrees = drift.agrees;
  chunk = λ s t r runs. star_chunk P Q R c distance drift (suc (distance s)) s t (omega arith) r runs;
}

pub Follows-from_star : {E S T : Type 0} (P : System E S) (Q : System E T) (R : S → T → Type 0) → IsSystem P → IsSystem Q → (c : ℕ) (distance : S → ℕ) → Star P Q c distance R → (s : S) (t : T) → R s t → Follows P Q c s t
Follows-from_star P Q R soundP soundQ c distance drift = Follows-from_simulation P Q R soundP soundQ c (Simulation-from_star P Q R c distance drift)
