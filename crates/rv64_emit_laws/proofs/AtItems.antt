-- The machine is at the first word of an item only where the program is at that item.
use Rattle.std.proofs.Common.{◌≡◌, ℕ, zero, suc, ◌+◌, ◌-◌, ◌*◌, ◌<◌, ◌≤◌, ◌⊎◌, inl, inr, ⊎_elim, Option, Some, None, refl, sym, ap, ◌∙◌, arith}
use Rattle.std.specs.Prelude.{slice_get}
use Rattle.simulation.specs.System.{after}
use Rattle.simulation.proofs.After.{after-add, running-earlier, running-not_final}
use Rattle.bril_tree.specs.declared.limits.End.{End}
use Rattle.rv64_image_laws.specs.Implements.{image_system}
use Rattle.rv64_image_laws.proofs.Systems.{image_is_system}
use Rattle.rv64_emit_laws.specs.layout.Items.{item_size}
use Rattle.rv64_emit_laws.proofs.lemmas.layout.Joining.{below_or}
use Rattle.rv64_words.specs.Machine.{machine_step}
use Rattle.rv64_words.specs.State.{Finished, start}
use Rattle.slot_code.specs.declared.item.SlotItem.{SlotItem}
use Rattle.slot_code.specs.declared.slots.SlotFunction.{SlotFunction}
use Rattle.rv64_emit_laws.proofs.Arriving.{distance}
use Rattle.rv64_emit_laws.proofs.Entries.{HasWords, head_inner, inner_between, leaving_inner, one_entry}
use Rattle.rv64_emit_laws.proofs.Relation.{Related, RunsAlike, run, over}
use Rattle.rv64_emit_laws.proofs.Setting.{Setting, entry_of, sizes}
use Rattle.rv64_emit_laws.proofs.Starting.{start_between, start_steps}
use Rattle.rv64_emit_laws.proofs.Stretches.{none_or_some}
use Rattle.rv64_image_laws.specs.Stands.{StandsAt}
use Rattle.rv64_emit_laws.proofs.Counting.{Alone, Rests, Together, Way, count, first_count, machine_after, program_after, related_at, way}

module _ (S : Setting) (m f point : ℕ) (g : SlotFunction) (item : SlotItem) (has : HasWords S f point g item) (running : (machine_after S m).stopped ≡ None) (at : (machine_after S m).pc ≡ 4 * entry_of S f point) where
  -- the program is at that item when the machine has executed m words
  pub record Found : Type 0 where
    pub steps : ℕ
    pub there : count S steps ≡ m
    pub stands : StandsAt (program_after S steps) f point

  -- the machine didn't stop before
  no_end : (k : ℕ) (how : End) → k ≤ m → (machine_after S k).stopped ≡ Some (Finished how) → ⊥
  no_end k how le e = clash (sym e ∙ running-earlier (image_system S.image S.limits) (image_is_system S.image S.limits) k m (start S.args) le running)
    where
      clash : Some (Finished how) ≡ None → ⊥
      clash e = cc

  -- From the n-th state of the program on.
  abbrev From : ℕ → Type 0
  From n = count S n ≤ m → Found

  -- the newest frame's item has no words
  abbrev IsEmptyHere : (n : ℕ) → RunsAlike S (program_after S n) (machine_after S (count S n)) → Type 0
  IsEmptyHere n r = (own : SlotItem) × (slice_get r.holds.function.code r.frame.point ≡ Some own) × (item_size (S.homes r.frame.function) r.holds.function r.frame.point own ≡ 0)

  -- the machine is there: the newest frame's item is that one, or one without words before it
  here_found : (n : ℕ) → count S n ≡ m → (r : RunsAlike S (program_after S n) (machine_after S (count S n))) → (IsEmptyHere n r → Found) → Found
  here_found n there r again = by (slice_get r.holds.function.code r.frame.point) refl
    where
      same : entry_of S r.frame.function r.frame.point ≡ entry_of S f point
      same = let pc = ap (λ t. t.pc) r.state in let here = ap (λ x. (machine_after S x).pc) there ∙ at in omega arith

      by : (o : Option SlotItem) → slice_get r.holds.function.code r.frame.point ≡ o → Found
      by None e = absurd (leaving_inner S r.frame.function r.holds.function r.holds.there r.frame.point (entry_of S r.frame.function r.frame.point) e (omega arith) (omega arith) f point g item has same)
      by (Some own) e = ⊎_elim
          (λ (none : item_size (S.homes r.frame.function) r.holds.function r.frame.point own ≡ 0). again (own, e, none))
          (λ (some : 1 ≤ item_size (S.homes r.frame.function) r.holds.function r.frame.point own). (
          let one = one_entry S r.frame.function r.frame.point f point r.holds.function g own item (record { there = r.holds.there; here = e; some = some }) has same in
          record {
            steps = n;
            there = there;
            stands = record { frame = r.frame; older = r.older; frames = r.frames; running = r.running; in_function = one.0; at_item = one.1 };
          }))
          (none_or_some (item_size (S.homes r.frame.function) r.holds.function r.frame.point own))

  -- one step of the program; then the newest frame is nearer to its end, or the machine nearer to that item
  one_more : (fuel far : ℕ) → ((n : ℕ) → m - count S n < fuel → From n) → ((n : ℕ) → m - count S n < suc fuel → distance S (program_after S n) < far → From n) →
      (n : ℕ) → m - count S n < suc fuel → distance S (program_after S n) < suc far → From n
  one_more fuel far next again n near low le = by_relation (related_at S n)
    where
      alone : distance S (program_after S (suc n)) < distance S (program_after S n) → count S (suc n) ≡ count S n → Found
      alone nearer same = again (suc n) (omega arith) (omega arith) (omega arith)

      between : (i : ℕ) → count S n < m → m < count S n + suc i → ((j : ℕ) → 1 ≤ j → j ≤ i → (after (machine_step S.image (sizes S)) j (machine_after S (count S n))).pc ≡ 4 * entry_of S f point → ⊥) → ⊥
      between i less long none = none (m - count S n) (omega arith) (omega arith) (ap (λ t. t.pc) there ∙ at)
        where
          there : after (machine_step S.image (sizes S)) (m - count S n) (machine_after S (count S n)) ≡ machine_after S m
          there = let sum : count S n + (m - count S n) ≡ m = omega arith in sym (after-add (machine_step S.image (sizes S)) (count S n) (m - count S n) (start S.args)) ∙ ap (machine_after S) sum

      on : count S n < m → (program_after S n).ended ≡ None → Way S n (count S n) (count S (suc n)) → Found
      on less runs (Rests final same) = absurd (running-not_final (program_after S n).ended runs final)
      on less runs (Alone nearer same) = alone nearer same
      on less runs (Together i cheap same none full) = by (below_or m (count S (suc n)))
        where
          by : (m < count S (suc n)) ⊎ (count S (suc n) ≤ m) → Found
          by (inl long) = absurd (between i less (omega arith) (λ j some most there. none j some most f point g item has there))
          by (inr short) = next (suc n) (omega arith) short

      here : (r : RunsAlike S (program_after S n) (machine_after S (count S n))) → IsEmptyHere n r → Way S n (count S n) (count S (suc n)) → Found
      here r empty (Rests final same) = absurd (running-not_final (program_after S n).ended r.running final)
      here r empty (Alone nearer same) = alone nearer same
      here r empty (Together i cheap same none full) =
          let some = full r.frame r.older r.holds.function empty.0 r.frames r.holds.there empty.1 in
          let zero_words = empty.2 in
          absurd (omega arith)

      by_relation : Related S (program_after S n) (machine_after S (count S n)) → Found
      by_relation (over r) = absurd (no_end (count S n) r.how le r.stopped)
      by_relation (run r) = by_place (below_or (count S n) m)
        where
          by_place : (count S n < m) ⊎ (m ≤ count S n) → Found
          by_place (inl less) = on less r.running (way S n)
          by_place (inr past) = here_found n (omega arith) r (λ empty. here r empty (way S n))

  near_from : (fuel : ℕ) → ((n : ℕ) → m - count S n < fuel → From n) → (far n : ℕ) → m - count S n < suc fuel → distance S (program_after S n) < far → From n
  near_from fuel next zero n near low = absurd (omega arith)
  near_from fuel next (suc far) n near low = one_more fuel far next (near_from fuel next far) n near low

  found_from : (fuel n : ℕ) → m - count S n < fuel → From n
  found_from zero n near = absurd (omega arith)
  found_from (suc fuel) n near = near_from fuel (found_from fuel) (suc (distance S (program_after S n))) n near (omega arith)

  pub found : Found
  found = by (below_or m (start_steps S))
    where
      early : (i : ℕ) → i ≡ m → m < start_steps S → Found
      early zero e low = absurd (inner_between S 0 (start S.args) refl (head_inner S 0 (omega arith)) f point g item has (ap (λ x. (machine_after S x).pc) e ∙ at))
      early (suc i) e low = absurd (start_between S m (omega arith) low f point g item has at)

      by : (m < start_steps S) ⊎ (start_steps S ≤ m) → Found
      by (inl low) = early m refl low
      by (inr le) = let first = first_count S in found_from (suc (m - count S 0)) 0 (omega arith) (omega arith)
