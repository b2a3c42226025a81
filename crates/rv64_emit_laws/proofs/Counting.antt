-- How many words the machine has executed at each step of the program, and what lies between two steps.
use Rattle.std.proofs.Common.{◌≡◌, ℕ, zero, suc, ◌+◌, ◌<◌, ◌≤◌, ◌⊎◌, inl, inr, ⊎_elim, List, ◌∷◌, Option, Some, None, refl, sym, ap, ◌∙◌, subst}
use Rattle.std.specs.Prelude.{slice_get}
use Rattle.simulation.specs.System.{after, IsFinal}
use Rattle.simulation.proofs.After.{after-add, after-suc, final_or_running}
use Rattle.bril_tree.specs.declared.limits.End.{End}
use Rattle.bril_tree.specs.Run.{first_state, state_after}
use Rattle.bril_tree.specs.State as bril
use Rattle.bril_tree.specs.Step.{step}
use Rattle.bril_tree.proofs.Grows.{program_is_system}
use Rattle.rv64_emit_laws.specs.layout.Items.{item_size}
use Rattle.rv64_words.specs.Machine.{machine_step}
use Rattle.rv64_words.specs.State.{State, start}
use Rattle.slot_code.specs.declared.item.SlotItem.{SlotItem}
use Rattle.slot_code.specs.declared.slots.SlotFunction.{SlotFunction}
use Rattle.rv64_emit_laws.proofs.Arriving.{NoneBetween, distance}
use Rattle.rv64_emit_laws.proofs.Items.{empty_alone, related_moves}
use Rattle.rv64_emit_laws.proofs.Relation.{Related, RunsAlike, run, over}
use Rattle.rv64_emit_laws.proofs.Setting.{Setting, sizes}
use Rattle.rv64_emit_laws.proofs.Starting.{start_related, start_steps}
use Rattle.rv64_emit_laws.proofs.Stretches.{none_or_some}

module _ (S : Setting) where
  abbrev pub program_after : ℕ → bril.State
  program_after n = state_after S.p S.limits S.args n

  abbrev pub machine_after : ℕ → State
  machine_after m = after (machine_step S.image (sizes S)) m (start S.args)

  -- ---- one step

  -- the newest frame isn't at an item without words
  abbrev pub IsFull : bril.State → Type 0
  IsFull s = (f : bril.Frame) (older : List bril.Frame) (g : SlotFunction) (item : SlotItem) → s.frames ≡ f ∷ older → slice_get S.slots.funcs f.function ≡ Some g → slice_get g.code f.point ≡ Some item → 1 ≤ item_size (S.homes f.function) g f.point item

  -- the machine's state beside the n-th one of the program
  pub record Beside (n : ℕ) : Type 0 where
    pub count : ℕ
    pub related : Related S (program_after n) (machine_after count)

  -- From k words at the n-th state of the program to j words at the next one: the program has ended; or it moves alone, and comes
  -- nearer to the end of its function; or the two move, the machine past no item's first word.
  pub data Way (n k j : ℕ) : Type 0 where
    Rests : IsFinal (program_after n).ended → j ≡ k → Way n k j
    Alone : distance S (program_after (suc n)) < distance S (program_after n) → j ≡ k → Way n k j
    Together : (i : ℕ) → suc i ≤ S.cost → j ≡ k + suc i → NoneBetween S i (machine_after k) → IsFull (program_after n) → Way n k j

  pub record Next (n k : ℕ) : Type 0 where
    pub beside : Beside (suc n)
    pub way : Way n k beside.count

  next_state : (n : ℕ) → program_after (suc n) ≡ step S.p S.limits (program_after n)
  next_state n = after-suc (step S.p S.limits) n (first_state S.p S.limits S.args)

  pub next : (n : ℕ) (b : Beside n) → Next n b.count
  next n b = by_end (final_or_running (program_after n).ended)
    where
      rests : IsFinal (program_after n).ended → Next n b.count
      rests final = record {
        beside = record {
          count = b.count;
          related = subst (λ x. Related S x (machine_after b.count)) (sym (next_state n ∙ (program_is_system S.p S.limits).rests (program_after n) final)) b.related;
        };
        way = Rests final refl;
      }

      alone : (distance S (step S.p S.limits (program_after n)) < distance S (program_after n)) × Related S (step S.p S.limits (program_after n)) (machine_after b.count) → Next n b.count
      alone moved = record {
        beside = record { count = b.count; related = subst (λ x. Related S x (machine_after b.count)) (sym (next_state n)) moved.1 };
        way = Alone (let less = moved.0 in subst (λ x. distance S x < distance S (program_after n)) (sym (next_state n)) less) refl;
      }

      together : (i : ℕ) → suc i ≤ S.cost → Related S (step S.p S.limits (program_after n)) (after (machine_step S.image (sizes S)) (suc i) (machine_after b.count)) → NoneBetween S i (machine_after b.count) → IsFull (program_after n) → Next n b.count
      together i cheap related none full = record {
        beside = record {
          count = b.count + suc i;
          related =
              subst (λ x. Related S x (machine_after (b.count + suc i))) (sym (next_state n))
              (subst (Related S (step S.p S.limits (program_after n))) (sym (after-add (machine_step S.image (sizes S)) b.count (suc i) (start S.args))) related);
        };
        way = Together i cheap refl none full;
      }

      moves : IsFull (program_after n) → (program_after n).ended ≡ None → Next n b.count
      moves full running = ⊎_elim (λ moved. alone moved) (λ moved. together moved.0 moved.1 moved.2 moved.3 full) (related_moves S (program_after n) (machine_after b.count) b.related running)

      same_frame : (f g : bril.Frame) (fs gs : List bril.Frame) → f ∷ fs ≡ g ∷ gs → f ≡ g
      same_frame f g fs gs e = cc

      by_item : (r : RunsAlike S (program_after n) (machine_after b.count)) (o : Option SlotItem) → slice_get r.holds.function.code r.frame.point ≡ o → Next n b.count
      by_item r o e = by o e
        where
          same_some : {X : Type 0} {o : Option X} {x y : X} → o ≡ Some x → o ≡ Some y → x ≡ y
          same_some a b = cc

          others : ((item : SlotItem) → slice_get r.holds.function.code r.frame.point ≡ Some item → 1 ≤ item_size (S.homes r.frame.function) r.holds.function r.frame.point item) → IsFull (program_after n)
          others some f older g item frames there here =
              let same : r.frame ≡ f = same_frame r.frame f r.older older (sym r.frames ∙ frames) in
              let its : slice_get S.slots.funcs r.frame.function ≡ Some g = subst (λ x. slice_get S.slots.funcs x.function ≡ Some g) (sym same) there in
              let own : r.holds.function ≡ g = same_some r.holds.there its in
              subst (λ x. 1 ≤ item_size (S.homes x.function) g x.point item) same
              (subst (λ h. 1 ≤ item_size (S.homes r.frame.function) h r.frame.point item) own (some item (ap (λ x. slice_get x.code r.frame.point) own ∙ (ap (λ x. slice_get g.code x.point) same ∙ here))))

          by : (o : Option SlotItem) → slice_get r.holds.function.code r.frame.point ≡ o → Next n b.count
          by None e = moves (others (λ item is. absurd (let clash : None ≡ Some item = sym e ∙ is in cc))) r.running
          by (Some item) e = ⊎_elim
              (λ (none : item_size (S.homes r.frame.function) r.holds.function r.frame.point item ≡ 0). alone (empty_alone S (program_after n) (machine_after b.count) r item e none))
              (λ (some : 1 ≤ item_size (S.homes r.frame.function) r.holds.function r.frame.point item).
              moves (others (λ own is. subst (λ x. 1 ≤ item_size (S.homes r.frame.function) r.holds.function r.frame.point x) (same_some e is) some)) r.running)
              (none_or_some (item_size (S.homes r.frame.function) r.holds.function r.frame.point item))

      by_relation : Related S (program_after n) (machine_after b.count) → (program_after n).ended ≡ None → Next n b.count
      by_relation (run r) running = by_item r (slice_get r.holds.function.code r.frame.point) refl
      by_relation (over r) running = absurd (never r.how (sym r.ended ∙ running))
        where
          never : (how : End) → Some how ≡ None → ⊥
          never how e = cc

      by_end : IsFinal (program_after n).ended ⊎ ((program_after n).ended ≡ None) → Next n b.count
      by_end (inl final) = rests final
      by_end (inr running) = by_relation b.related running

  -- ---- all steps

  besides : (n : ℕ) → Beside n
  besides zero = record { count = start_steps S; related = start_related S }
  besides (suc n) = (next n (besides n)).beside

  -- how many words the machine has executed when the program has made n steps
  pub count : ℕ → ℕ
  count n = (besides n).count

  pub first_count : count 0 ≡ start_steps S
  unfolding count besides
  first_count = refl

  pub related_at : (n : ℕ) → Related S (program_after n) (machine_after (count n))
  unfolding count
  related_at n = (besides n).related

  pub way : (n : ℕ) → Way n (count n) (count (suc n))
  unfolding count besides
  way n = (next n (besides n)).way
