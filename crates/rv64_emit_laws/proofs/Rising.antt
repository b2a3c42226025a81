-- Between two items with words the machine executes words.
use Rattle.std.proofs.Common.{◌≡◌, ℕ, zero, suc, ◌+◌, ◌-◌, ◌*◌, ◌<◌, ◌≤◌, ◌⊎◌, inl, inr, List, ◌∷◌, length, Some, None, sym, ap, ◌∙◌, subst, arith}
use Rattle.std.specs.Prelude.{slice_get}
use Rattle.simulation.proofs.After.{running-earlier, running-not_final}
use Rattle.simulation.proofs.Tracks.{rising_from_steps}
use Rattle.bril_tree.specs.declared.limits.End.{End}
use Rattle.bril_tree.specs.Run.{first_state, program}
use Rattle.bril_tree.specs.State as bril
use Rattle.bril_tree.proofs.Grows.{program_is_system}
use Rattle.rv64_emit_laws.proofs.lemmas.layout.Joining.{below_or}
use Rattle.rv64_words.specs.State.{State}
use Rattle.slot_code.specs.declared.item.SlotItem.{SlotItem}
use Rattle.slot_code.specs.declared.slots.SlotFunction.{SlotFunction}
use Rattle.slot_code.specs.Meaning.{slot_items_of}
use Rattle.rv64_emit_laws.proofs.Arriving.{distance, left_in}
use Rattle.rv64_emit_laws.proofs.Entries.{HasWords, one_entry}
use Rattle.rv64_emit_laws.proofs.Relation.{Related, run, over}
use Rattle.rv64_emit_laws.proofs.Setting.{Setting, entry_of}
use Rattle.rv64_image_laws.specs.Stands.{StandsAt}
use Rattle.rv64_emit_laws.proofs.Counting.{Alone, Rests, Together, Way, count, machine_after, program_after, related_at, way}

module _ (S : Setting) where
  rises : (n : ℕ) → count S n ≤ count S (suc n)
  rises n = by (way S n)
    where
      by : Way S n (count S n) (count S (suc n)) → count S n ≤ count S (suc n)
      by (Rests final same) = omega arith
      by (Alone nearer same) = omega arith
      by (Together i cheap same none full) = omega arith

  pub count_rises : (n m : ℕ) → n ≤ m → count S n ≤ count S m
  count_rises = rising_from_steps (count S) rises

  -- what runs ran before
  pub runs_before : (n m : ℕ) → n ≤ m → (program_after S m).ended ≡ None → (program_after S n).ended ≡ None
  runs_before n m le running = running-earlier (program S.p S.limits) (program_is_system S.p S.limits) n m (first_state S.p S.limits S.args) le running

  -- while the machine executes nothing, the newest frame comes nearer to the end of its function
  falls : (n d : ℕ) → (program_after S (n + d)).ended ≡ None → count S (n + d) ≤ count S n → distance S (program_after S (n + d)) + d ≤ distance S (program_after S n)
  falls n zero running same = let e : n + zero ≡ n = omega arith in subst (λ k. distance S (program_after S k) + zero ≤ distance S (program_after S n)) (sym e) (omega arith)
  falls n (suc d) running same = subst (λ k. distance S (program_after S k) + suc d ≤ distance S (program_after S n)) next (by (falls n d before) (way S (n + d)))
    where
      next : suc (n + d) ≡ n + suc d
      next = omega arith

      before : (program_after S (n + d)).ended ≡ None
      before = runs_before (n + d) (n + suc d) (omega arith) running

      low : count S n ≤ count S (n + d)
      low = count_rises n (n + d) (omega arith)

      high : count S (suc (n + d)) ≤ count S n
      high = subst (λ k. count S k ≤ count S n) (sym next) same

      by : (count S (n + d) ≤ count S n → distance S (program_after S (n + d)) + d ≤ distance S (program_after S n)) → Way S (n + d) (count S (n + d)) (count S (suc (n + d))) → distance S (program_after S (suc (n + d))) + suc d ≤ distance S (program_after S n)
      by more (Rests final is) = absurd (running-not_final (program_after S (n + d)).ended before final)
      by more (Alone nearer is) = let so_far = more (let h = high in omega arith) in omega arith
      by more (Together i cheap is none full) = let l = low in let h = high in absurd (omega arith)

  -- ---- the newest frame's item

  same_frame : (f g : bril.Frame) (fs gs : List bril.Frame) → f ∷ fs ≡ g ∷ gs → f ≡ g
  same_frame f g fs gs e = cc

  -- where the machine is while the program is at an item
  pub at_entry : (s : bril.State) (t : State) (f i : ℕ) → Related S s t → StandsAt s f i → (t.stopped ≡ None) × (t.pc ≡ 4 * entry_of S f i)
  at_entry s t f i (over r) stands = absurd (never r.how (sym r.ended ∙ stands.running))
    where
      never : (how : End) → Some how ≡ None → ⊥
      never how e = cc
  at_entry s t f i (run r) stands =
      let same : r.frame ≡ stands.frame = same_frame r.frame stands.frame r.older stands.older (sym r.frames ∙ stands.frames) in
      let function : r.frame.function ≡ f = ap (λ x. x.function) same ∙ stands.in_function in
      let point : r.frame.point ≡ i = ap (λ x. x.point) same ∙ stands.at_item in
      (ap (λ x. x.stopped) r.state, ap (λ x. x.pc) r.state ∙ (ap (λ k. 4 * entry_of S k r.frame.point) function ∙ ap (λ k. 4 * entry_of S f k) point))

  pub printed_alike : (s : bril.State) (t : State) → Related S s t → s.printed ≡ t.printed
  printed_alike s t (run r) = r.printed ∙ sym (ap (λ x. x.printed) r.state)
  printed_alike s t (over r) = r.printed

  distance_at : (s : bril.State) (f i : ℕ) → StandsAt s f i → distance S s ≡ length (slot_items_of (slice_get S.slots.funcs f)) - i
  distance_at s f i stands =
      ap (left_in S) stands.frames
      ∙ (ap (λ k. length (slot_items_of (slice_get S.slots.funcs k)) - stands.frame.point) stands.in_function
      ∙ ap (λ k. length (slot_items_of (slice_get S.slots.funcs f)) - k) stands.at_item)

  -- an item with words, at which the program is
  pub record IsOn (n f i : ℕ) : Type 0 where
    pub stands : StandsAt (program_after S n) f i
    pub function : SlotFunction
    pub item : SlotItem
    pub has : HasWords S f i function item

  -- of two such items the later one is met after more words
  pub later : (n m f i g j : ℕ) → n < m → IsOn n f i → IsOn m g j → count S n < count S m
  later n m f i g j less a b = by (below_or (count S n) (count S m))
    where
      stays : count S m ≤ count S n → ⊥
      stays most =
          let least = count_rises n m (omega arith) in
          let same : count S n ≡ count S m = omega arith in
          let here = at_entry (program_after S n) (machine_after S (count S n)) f i (related_at S n) a.stands in
          let there = at_entry (program_after S m) (machine_after S (count S m)) g j (related_at S m) b.stands in
          let one : 4 * entry_of S f i ≡ 4 * entry_of S g j = sym here.1 ∙ (ap (λ k. (machine_after S k).pc) same ∙ there.1) in
          let items = one_entry S f i g j a.function b.function a.item b.item a.has b.has (omega arith) in
          let gap : n + (m - n) ≡ m = omega arith in
          let falls_to = falls n (m - n) (subst (λ k. (program_after S k).ended ≡ None) (sym gap) b.stands.running) (subst (λ k. count S k ≤ count S n) (sym gap) most) in
          let fell : distance S (program_after S m) + (m - n) ≤ distance S (program_after S n) = subst (λ k. distance S (program_after S k) + (m - n) ≤ distance S (program_after S n)) gap falls_to in
          let first = distance_at (program_after S n) f i a.stands in
          let second = distance_at (program_after S m) g j b.stands in
          let moved : length (slot_items_of (slice_get S.slots.funcs g)) - j ≡ length (slot_items_of (slice_get S.slots.funcs f)) - i =
          ap (λ k. length (slot_items_of (slice_get S.slots.funcs k)) - j) (sym items.0) ∙ ap (λ k. length (slot_items_of (slice_get S.slots.funcs f)) - k) (sym items.1) in
          absurd (omega arith)

      by : (count S n < count S m) ⊎ (count S m ≤ count S n) → count S n < count S m
      by (inl less) = less
      by (inr most) = absurd (stays most)
