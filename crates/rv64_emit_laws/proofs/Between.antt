-- Steps of the machine that come to no item's first word but at their end.
use Rattle.std.proofs.Common.{◌≡◌, ℕ, ◌+◌, ◌-◌, ◌<◌, ◌≤◌, ◌⊎◌, inl, inr, ap, ◌∙◌, sym, subst, arith}
use Rattle.simulation.specs.System.{after}
use Rattle.simulation.proofs.After.{after-add, after-sub}
use Rattle.bril_tree.specs.declared.limits.End.{End}
use Rattle.rv64_emit_laws.proofs.lemmas.layout.Joining.{below_or}
use Rattle.rv64_words_laws.specs.stretches.Core.{Core, machine}
use Rattle.rv64_words_laws.specs.stretches.Runs.{Ends, Inside, Leaves, Runs}
use Rattle.rv64_words.specs.Machine.{machine_step}
use Rattle.rv64_words.specs.State.{State, finished}
use Rattle.rv64_emit_laws.proofs.Entries.{IsBetween, IsInner, inner_between}
use Rattle.rv64_emit_laws.proofs.Setting.{Setting, sizes}

module _ (S : Setting) where
  abbrev goes : ℕ → State → State
  goes n t = after (machine_step S.image (sizes S)) n t

  -- from word k with core c, n steps lead to word j with core e, and no item begins in between
  pub record Comes (k : ℕ) (c : Core) (n j : ℕ) (e : Core) : Type 0 where
    pub done : ℕ → ℕ
    pub steps : (d : ℕ) → goes n (machine k c d) ≡ machine j e (done d)
    pub between : (d i : ℕ) → 1 ≤ i → i < n → IsBetween S (goes i (machine k c d))

  -- they lead to an end, and no item begins in between
  pub record Stops (k : ℕ) (c : Core) (n : ℕ) (how : End) (e : Core) : Type 0 where
    pub at : ℕ
    pub done : ℕ → ℕ
    pub steps : (d : ℕ) → goes n (machine k c d) ≡ finished how (machine at e (done d))
    pub between : (d i : ℕ) → 1 ≤ i → i < n → IsBetween S (goes i (machine k c d))

  -- no item begins at the words after k and before the bound, nor at those from k on
  abbrev pub AreInner : ℕ → ℕ → Type 0
  AreInner k bound = (w : ℕ) → k < w → w < bound → IsInner S w

  abbrev pub AreAllInner : ℕ → ℕ → Type 0
  AreAllInner k bound = (w : ℕ) → k ≤ w → w < bound → IsInner S w

  inside_between : (k : ℕ) (c : Core) (n bound : ℕ) → Inside S.image (sizes S) k c n bound → AreInner k bound → (d i : ℕ) → 1 ≤ i → i < n → IsBetween S (goes i (machine k c d))
  inside_between k c n bound inside inner d i some lt =
      let s = inside d i lt in
      let from = s.from in
      inner_between S s.word (goes i (machine k c d)) s.at (inner s.word (omega arith) s.before)

  all_between : (k : ℕ) (c : Core) (n bound : ℕ) → Inside S.image (sizes S) k c n bound → AreAllInner k bound → (d i : ℕ) → i < n → IsBetween S (goes i (machine k c d))
  all_between k c n bound inside inner d i lt =
      let s = inside d i lt in
      let from = s.from in
      inner_between S s.word (goes i (machine k c d)) s.at (inner s.word (omega arith) s.before)

  -- ---- one stretch

  pub comes_by : {k : ℕ} {c : Core} {n j : ℕ} {e : Core} → Runs S.image (sizes S) k c n j e → AreInner k j → Comes k c n j e
  comes_by {k} {c} {n} {j} r inner = record { done = r.done; steps = r.steps; between = inside_between k c n j r.inside inner }

  pub comes_away : {k : ℕ} {c : Core} {n bound j : ℕ} {e : Core} → Leaves S.image (sizes S) k c n bound j e → AreInner k bound → Comes k c n j e
  comes_away {k} {c} {n} {bound} r inner = record { done = r.done; steps = r.steps; between = inside_between k c n bound r.inside inner }

  pub stops_by : {k : ℕ} {c : Core} {n bound : ℕ} {how : End} {e : Core} → Ends S.image (sizes S) k c n bound how e → AreInner k bound → Stops k c n how e
  stops_by {k} {c} {n} {bound} r inner = record { at = r.at; done = r.done; steps = r.steps; between = inside_between k c n bound r.inside inner }

  -- ---- a stretch that leads away, and one from there

  between_on : {k : ℕ} {c : Core} {n j : ℕ} {e : Core} → Comes k c n j e → (m : ℕ) → ((d i : ℕ) → i < m → IsBetween S (goes i (machine j e d))) → (d i : ℕ) → 1 ≤ i → i < n + m → IsBetween S (goes i (machine k c d))
  between_on {k} {c} {n} {j} {e} a m b d i some lt = by (below_or i n)
    where
      by : (i < n) ⊎ (n ≤ i) → IsBetween S (goes i (machine k c d))
      by (inl low) = a.between d i some low
      by (inr up) =
          subst (IsBetween S) (sym (after-sub (machine_step S.image (sizes S)) n i (machine k c d) up ∙ ap (after (machine_step S.image (sizes S)) (i - n)) (a.steps d)))
          (b (a.done d) (i - n) (omega arith))

  steps_on : {k : ℕ} {c : Core} {n j : ℕ} {e : Core} {t : State} → (a : Comes k c n j e) (m d : ℕ) → goes m (machine j e (a.done d)) ≡ t → goes (n + m) (machine k c d) ≡ t
  steps_on {k} {c} {n} a m d is = after-add (machine_step S.image (sizes S)) n m (machine k c d) ∙ (ap (after (machine_step S.image (sizes S)) m) (a.steps d) ∙ is)

  pub comes_on : {k : ℕ} {c : Core} {n j : ℕ} {e : Core} {m i : ℕ} {f : Core} → Comes k c n j e → Runs S.image (sizes S) j e m i f → AreAllInner j i → Comes k c (n + m) i f
  comes_on {j = j} {e = e} {m = m} {i = i} a b inner = record { done = λ d. b.done (a.done d); steps = λ d. steps_on a m d (b.steps (a.done d)); between = between_on a m (all_between j e m i b.inside inner) }

  pub stops_on : {k : ℕ} {c : Core} {n j : ℕ} {e : Core} {m bound : ℕ} {how : End} {f : Core} → Comes k c n j e → Ends S.image (sizes S) j e m bound how f → AreAllInner j bound → Stops k c (n + m) how f
  stops_on {j = j} {e = e} {m = m} {bound = bound} a b inner = record { at = b.at; done = λ d. b.done (a.done d); steps = λ d. steps_on a m d (b.steps (a.done d)); between = between_on a m (all_between j e m bound b.inside inner) }

  -- ---- as many steps as another number says

  pub comes_in : {k : ℕ} {c : Core} {n j : ℕ} {e : Core} → (m i : ℕ) → n ≡ m → j ≡ i → Comes k c n j e → Comes k c m i e
  comes_in {k} {c} {n} {j} {e} m i steps same r = subst (λ x. Comes k c x i e) steps (subst (λ x. Comes k c n x e) same r)

  pub stops_in : {k : ℕ} {c : Core} {n : ℕ} {how : End} {e : Core} → (m : ℕ) → n ≡ m → Stops k c n how e → Stops k c m how e
  stops_in {k} {c} {n} {how} {e} m same r = subst (λ x. Stops k c x how e) same r
