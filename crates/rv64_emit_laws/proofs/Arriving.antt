-- From a step of the program and a stretch of the machine's words to related states again.
use Rattle.std.proofs.Common.{◌≡◌, ℕ, suc, ◌+◌, ◌-◌, ◌<◌, ◌≤◌, ◌⊎◌, inl, inr, refl, sym, ap, ◌∙◌, subst, arith, List, [], ◌∷◌, length, Option, Some, None, Bool, true, false, cond}
use Rattle.std.specs.Prelude.{slice_get}
use Rattle.std.proofs.lemmas.Option.{slice_get_within}
use Rattle.simulation.specs.System.{after}
use Rattle.simulation.proofs.After.{after-suc}
use Rattle.bril_tree.specs.declared.home.Home.{Home}
use Rattle.bril_tree.specs.declared.limits.End.{End}
use Rattle.bril_tree.specs.declared.limits.End.TheVariants.{Faulted}
use Rattle.bril_tree.specs.declared.limits.Fault.{Fault}
use Rattle.bril_tree.specs.declared.value.Value.{Value}
use Rattle.bril_tree.specs.Run.{first_state}
use Rattle.bril_tree.specs.State as bril
use Rattle.bril_tree.specs.Step.{step, at_point, advanced, faulted, with_locations}
use Rattle.rv64_emit_laws.specs.layout.Items.{item_size, mark_size, mark_words, nop_word}
use Rattle.rv64_words_laws.specs.stretches.Core.{Core, Keeps, KeepsBut, machine}
use Rattle.rv64_words_laws.specs.stretches.Runs.{HasAt, Runs, Leaves, Ends}
use Rattle.rv64_words_laws.proofs.lemmas.stretches.Going.{Going, begin, plain}
use Rattle.rv64_words_laws.specs.sequences.Moves.{Filled, result_register, result_size, result_words}
use Rattle.rv64_words_laws.proofs.lemmas.sequences.Homes.{filled_after, result_goes}
use Rattle.rv64_words_laws.proofs.lemmas.sequences.Sizes.{result_most}
use Rattle.rv64_words.specs.Machine.{machine_step}
use Rattle.rv64_words.specs.State.{State, finished}
use Rattle.slot_code.specs.declared.item.Slot.{Slot}
use Rattle.slot_code.specs.declared.item.SlotItem.{SlotItem}
use Rattle.slot_code.specs.Laws.{IsSlotOf}
use Rattle.slot_code.specs.Meaning.{slot_items_of, slot_running_step, slot_frames_step, slot_point_step, fills, with_slot}
use Rattle.slot_code.proofs.Steps.{steps_are}
use Rattle.rv64_emit_laws.proofs.Acting.{Fills, Leads}
use Rattle.rv64_emit_laws.proofs.Between.{AreInner, Comes, Stops, comes_away, comes_by, comes_in, stops_by}
use Rattle.rv64_emit_laws.proofs.Entries.{IsBetween, item_inner}
use Rattle.rv64_emit_laws.proofs.Holding.{filled_holds, home_inside, home_usable, keeps_homes, moved_holds, stack_few}
use Rattle.rv64_emit_laws.proofs.Relation.{HasWord, FramesHold, MemoryHolds, GuardsHold, RunsAlike, EndedAlike, Related, run, over}
use Rattle.rv64_emit_laws.proofs.Setting.{Setting, entry_of, next_entry, sizes}
use Rattle.rv64_emit_laws.proofs.Standing.{standing}
use Rattle.rv64_emit_laws.proofs.Stretches.{at_place, ends_in, in_steps, landed, with_end}

module _ (S : Setting) where
  -- how many items follow the newest frame's point
  abbrev pub left_in : List bril.Frame → ℕ
  left_in [] = 0
  left_in (f ∷ older) = length (slot_items_of (slice_get S.slots.funcs f.function)) - f.point

  abbrev pub distance : bril.State → ℕ
  distance s = left_in s.frames

  -- the machine comes to no item in its next m steps
  abbrev pub NoneBetween : ℕ → State → Type 0
  NoneBetween m t = (i : ℕ) → 1 ≤ i → i ≤ m → IsBetween S (after (machine_step S.image (sizes S)) i t)

  -- The program's step leads to related states: the machine makes some steps too, at most those of the cost, and comes to no item
  -- before the last one; or it makes none, and then the newest frame comes nearer to its end.
  abbrev pub MovesAlone : bril.State → State → Type 0
  MovesAlone s t = (distance (step S.p S.limits s) < distance s) × Related S (step S.p S.limits s) t

  abbrev pub Moves : bril.State → State → Type 0
  Moves s t =
      MovesAlone s t
      ⊎ ((m : ℕ) × (suc m ≤ S.cost) × Related S (step S.p S.limits s) (after (machine_step S.image (sizes S)) (suc m) t) × NoneBetween m t)

  pub memory_by : (blocks : List bril.Block) (c e : Core) → e.table ≡ c.table → e.cells ≡ c.cells → e.blocks ≡ c.blocks → e.next_free ≡ c.next_free → MemoryHolds (sizes S) blocks c.table c.cells c.blocks c.next_free → MemoryHolds (sizes S) blocks e.table e.cells e.blocks e.next_free
  memory_by blocks c e table cells count next_free h =
      subst (λ x. MemoryHolds (sizes S) blocks x e.cells e.blocks e.next_free) (sym table)
      (subst (λ x. MemoryHolds (sizes S) blocks c.table x e.blocks e.next_free) (sym cells)
      (subst (λ x. MemoryHolds (sizes S) blocks c.table c.cells x e.next_free) (sym count)
      (subst (λ x. MemoryHolds (sizes S) blocks c.table c.cells c.blocks x) (sym next_free) h)))

  pub memory_kept : (blocks : List bril.Block) (c e : Core) → Keeps c e → MemoryHolds (sizes S) blocks c.table c.cells c.blocks c.next_free → MemoryHolds (sizes S) blocks e.table e.cells e.blocks e.next_free
  memory_kept blocks c e k h = memory_by blocks c e k.table k.cells k.blocks k.next_free h

  module _ (s : bril.State) (t : State) (r : RunsAlike S s t) where
    abbrev pub here : ℕ
    here = entry_of S r.frame.function r.frame.point

    -- where a slot of the newest frame is
    abbrev pub home_here : Slot → Home
    home_here slot = (S.homes r.frame.function).home slot

    -- the program's step, by the item over slots
    pub step_at : (o : Option SlotItem) → slice_get r.holds.function.code r.frame.point ≡ o → step S.p S.limits s ≡ slot_point_step S.p S.slots S.limits o r.frame r.older s
    step_at o e =
        sym (steps_are S.p S.slots S.accepted S.lowered S.limits s)
        ∙ ap (λ x. slot_running_step S.p S.slots S.limits x s) r.running
        ∙ ap (λ x. slot_frames_step S.p S.slots S.limits x s) r.frames
        ∙ ap (λ x. slot_point_step S.p S.slots S.limits x r.frame r.older s) (ap (λ x. slice_get (slot_items_of x) r.frame.point) r.holds.there ∙ e)

    none_between : (n : ℕ) → NoneBetween n (machine here r.core r.done) → NoneBetween n t
    none_between n h = subst (NoneBetween n) (sym r.state) h

    -- behind the first word of the newest frame's item no other begins before the next one
    pub inner_here : AreInner S here (entry_of S r.frame.function (suc r.frame.point))
    inner_here w low high = item_inner S r.frame.function r.holds.function r.holds.there r.frame.point w low high

    pub onto_next : {n : ℕ} {e : Core} → Runs S.image (sizes S) here r.core n (entry_of S r.frame.function (suc r.frame.point)) e → Comes S here r.core n (entry_of S r.frame.function (suc r.frame.point)) e
    onto_next runs = comes_by S runs inner_here

    pub away : {n bound j : ℕ} {e : Core} → bound ≤ entry_of S r.frame.function (suc r.frame.point) → Leaves S.image (sizes S) here r.core n bound j e → Comes S here r.core n j e
    away within runs = comes_away S runs (λ w low high. inner_here w low (omega arith))

    -- the program made a step and runs on, and the machine came to the words of its newest frame's item
    pub arrive : (u : bril.State) (f : bril.Frame) (older : List bril.Frame) (e : Core) (n : ℕ) → step S.p S.limits s ≡ u → u.frames ≡ f ∷ older → u.ended ≡ None → u.printed ≡ e.printed →
        FramesHold S (length u.blocks) f older e → MemoryHolds (sizes S) u.blocks e.table e.cells e.blocks e.next_free → GuardsHold S.image.guards u.failures e.arrivals →
        Comes S here r.core (suc n) (entry_of S f.function f.point) e → suc n ≤ S.cost → Moves s t
    arrive u f older e n stepped frames running printed holds memory guards runs cheap =
        let at = entry_of S f.function f.point in
        let next : RunsAlike S u (machine at e (runs.done r.done)) = record {
          steps = suc r.steps;
          is = sym stepped ∙ ap (step S.p S.limits) r.is ∙ sym (after-suc (step S.p S.limits) r.steps (first_state S.p S.limits S.args));
          frame = f;
          older = older;
          frames = frames;
          running = running;
          core = e;
          done = runs.done r.done;
          state = refl;
          holds = holds;
          memory = memory;
          guards = guards;
          printed = printed;
        } in
        let steps : after (machine_step S.image (sizes S)) (suc n) t ≡ machine at e (runs.done r.done) = ap (after (machine_step S.image (sizes S)) (suc n)) r.state ∙ runs.steps r.done in
        inr (n, cheap, subst (λ x. Related S x (after (machine_step S.image (sizes S)) (suc n) t)) (sym stepped) (subst (Related S u) (sym steps) (run next)), none_between n (λ i some le. runs.between r.done i some (omega arith)))

    -- the program made a step and ended, and so did the machine
    pub arrive_ended : (u : bril.State) (how : End) (e : Core) (n : ℕ) → step S.p S.limits s ≡ u → u.ended ≡ Some how → u.printed ≡ e.printed → GuardsHold S.image.guards u.failures e.arrivals →
        Stops S here r.core (suc n) how e → suc n ≤ S.cost → Moves s t
    arrive_ended u how e n stepped ended printed guards ends cheap =
        let stop = finished how (machine ends.at e (ends.done r.done)) in
        let last : EndedAlike S u stop = record { how = how; ended = ended; stopped = refl; guards = guards; printed = printed } in
        let steps : after (machine_step S.image (sizes S)) (suc n) t ≡ stop = ap (after (machine_step S.image (sizes S)) (suc n)) r.state ∙ ends.steps r.done in
        inr (n, cheap, subst (λ x. Related S x (after (machine_step S.image (sizes S)) (suc n) t)) (sym stepped) (subst (Related S u) (sym steps) (over last)), none_between n (λ i some le. ends.between r.done i some (omega arith)))

    -- ---- items for which nothing is to be done

    -- The newest frame's item leads to its next point, and changes nothing that the machine has.
    pub record Idles : Type 0 where
      pub after : bril.State
      pub newest : bril.Frame
      pub stepped : step S.p S.limits s ≡ after
      pub frames : after.frames ≡ newest ∷ r.older
      pub function : newest.function ≡ r.frame.function
      pub point : newest.point ≡ suc r.frame.point
      pub running : after.ended ≡ None
      pub printed : after.printed ≡ r.core.printed
      pub holds : FramesHold S (length after.blocks) newest r.older r.core
      pub memory : MemoryHolds (sizes S) after.blocks r.core.table r.core.cells r.core.blocks r.core.next_free
      pub guards : GuardsHold S.image.guards after.failures r.core.arrivals

    -- where the next item begins is where the newest frame is then
    idle_entry : (d : Idles) → entry_of S r.frame.function (suc r.frame.point) ≡ entry_of S d.newest.function d.newest.point
    idle_entry d = sym (ap (λ k. entry_of S k d.newest.point) d.function ∙ ap (entry_of S r.frame.function) d.point)

    -- an item without words: the program moves alone
    pub idle_alone : Idles → (item : SlotItem) → slice_get r.holds.function.code r.frame.point ≡ Some item → item_size (S.homes r.frame.function) r.holds.function r.frame.point item ≡ 0 → MovesAlone s t
    idle_alone d item at none = (nearer, subst (λ x. Related S x t) (sym d.stepped) (run next))
      where
        same_entry : here ≡ entry_of S d.newest.function d.newest.point
        same_entry =
            let there = next_entry S r.frame.function r.holds.function r.frame.point item r.holds.there at in
            let stays : here ≡ entry_of S r.frame.function (suc r.frame.point) = omega arith in
            stays ∙ idle_entry d

        less : (a b n k : ℕ) → k < n → a ≡ n - suc k → b ≡ n - k → a < b
        less a b n k lt e d = omega arith

        left : distance (step S.p S.limits s) ≡ length (slot_items_of (slice_get S.slots.funcs r.frame.function)) - suc r.frame.point
        left =
            ap distance d.stepped
            ∙ (ap left_in d.frames
            ∙ (ap (λ k. length (slot_items_of (slice_get S.slots.funcs k)) - d.newest.point) d.function
            ∙ ap (λ k. length (slot_items_of (slice_get S.slots.funcs r.frame.function)) - k) d.point))

        nearer : distance (step S.p S.limits s) < distance s
        nearer =
            let long : length (slot_items_of (slice_get S.slots.funcs r.frame.function)) ≡ length r.holds.function.code = ap (λ o. length (slot_items_of o)) r.holds.there in
            let lt = slice_get_within r.holds.function.code r.frame.point item at in
            less _ _ (length (slot_items_of (slice_get S.slots.funcs r.frame.function))) r.frame.point (omega arith) left (ap left_in r.frames)

        next : RunsAlike S d.after t
        next = record {
          steps = suc r.steps;
          is = sym d.stepped ∙ (ap (step S.p S.limits) r.is ∙ sym (after-suc (step S.p S.limits) r.steps (first_state S.p S.limits S.args)));
          frame = d.newest;
          older = r.older;
          frames = d.frames;
          running = d.running;
          core = r.core;
          done = r.done;
          state = r.state ∙ ap (λ k. machine k r.core r.done) same_entry;
          holds = d.holds;
          memory = d.memory;
          guards = d.guards;
          printed = d.printed;
        }

    -- one whose words are those that mark it
    pub idle_moves : Idles → (item : SlotItem) → slice_get r.holds.function.code r.frame.point ≡ Some item → HasAt S.image here (mark_words (S.homes r.frame.function)) →
        item_size (S.homes r.frame.function) r.holds.function r.frame.point item ≡ mark_size (S.homes r.frame.function) → 1 ≤ S.cost → Moves s t
    idle_moves d item at has size cheap = by (S.homes r.frame.function).marked refl has
      where
        by : (marked : Bool) → (S.homes r.frame.function).marked ≡ marked → HasAt S.image here (cond marked (nop_word ∷ []) []) → Moves s t
        by false m words = inl (idle_alone d item at (size ∙ ap (λ b. cond b 1 0) m))
        by true m words =
            let there = next_entry S r.frame.function r.holds.function r.frame.point item r.holds.there at in
            let one : mark_size (S.homes r.frame.function) ≡ 1 = ap (λ b. cond b 1 0) m in
            let behind : here + 1 ≡ entry_of S r.frame.function (suc r.frame.point) = omega arith in
            let g = plain S.image (sizes S) tt (begin S.image (sizes S) here r.core (nop_word ∷ []) words) in
            arrive d.after d.newest r.older r.core 0 d.stepped d.frames d.running d.printed d.holds d.memory d.guards
            (comes_in S 1 (entry_of S d.newest.function d.newest.point) refl (idle_entry d) (onto_next (landed 1 (entry_of S r.frame.function (suc r.frame.point)) refl behind g))) (omega arith)

    pub guards_by : (e : Core) → e.arrivals ≡ r.core.arrivals → GuardsHold S.image.guards s.failures e.arrivals
    guards_by e same k guard there = ap (λ m. m guard.word) same ∙ r.guards k guard there

    pub guards_kept : (e : Core) → Keeps r.core e → GuardsHold S.image.guards s.failures e.arrivals
    guards_kept e keeps = guards_by e keeps.arrivals

    -- the run ended with a fault, and so did the machine
    pub faults_moves : {bound : ℕ} → (kind : Fault) (e : Core) (n : ℕ) → step S.p S.limits s ≡ faulted kind s → Keeps r.core e → Ends S.image (sizes S) here r.core n bound (Faulted kind) e → bound ≤ entry_of S r.frame.function (suc r.frame.point) → 1 ≤ n → n ≤ S.cost → Moves s t
    faults_moves kind e n stepped keeps ends within some cheap =
        let count : n ≡ suc (n - 1) = omega arith in
        arrive_ended (faulted kind s) (Faulted kind) e (n - 1) stepped refl (r.printed ∙ sym keeps.printed) (guards_kept e keeps)
        (stops_by S (ends_in (suc (n - 1)) count ends) (λ w low high. inner_here w low (omega arith))) (omega arith)

    -- The newest frame's item gave a slot a value, whose word is at its home now.
    pub filled_moves : (dest : Slot) (v : Value) (w : ℕ) (e : Core) (n : ℕ) → IsSlotOf r.holds.function dest → Fills S r.frame dest → HasWord (length s.blocks) v w → Filled r.holds.base (home_here dest) w r.core e →
        step S.p S.limits s ≡ fills S.p S.slots S.limits dest v r.frame r.older s → Runs S.image (sizes S) here r.core n (entry_of S r.frame.function (suc r.frame.point)) e → 1 ≤ n → n ≤ S.cost → Moves s t
    filled_moves dest v w e n in_dest fl word filled stepped runs some cheap =
        let f : bril.Frame = advanced (with_locations (with_slot dest v r.frame.locations) r.frame) in
        let rest = filled.rest in
        let count : n ≡ suc (n - 1) = omega arith in
        arrive (fills S.p S.slots S.limits dest v r.frame r.older s) f r.older e (n - 1) stepped refl r.running (r.printed ∙ sym rest.printed)
        (filled_holds S (length s.blocks) r.frame r.older r.core r.holds (standing S s t r) dest fl v w e in_dest word filled)
        (memory_by s.blocks r.core e rest.table rest.cells rest.blocks rest.next_free r.memory) (guards_by e rest.arrivals)
        (onto_next (in_steps (suc (n - 1)) count runs)) (omega arith)

    -- The newest frame's item gave a slot a value, which is where the words of an operation leave their result.
    pub results_moves : (any : Bool) (dest : Slot) (v : Value) (e : Core) (n j : ℕ) → IsSlotOf r.holds.function dest → Fills S r.frame dest → HasWord (length s.blocks) v (e.registers (result_register any (home_here dest))) →
        KeepsBut (result_register any (home_here dest)) r.core e → step S.p S.limits s ≡ fills S.p S.slots S.limits dest v r.frame r.older s →
        Going S.image (sizes S) here r.core n j e (result_words any (home_here dest)) → j + result_size any (home_here dest) ≡ entry_of S r.frame.function (suc r.frame.point) → 1 ≤ n → n + 3 ≤ S.cost → Moves s t
    results_moves any dest v e n j in_dest fl word keeps stepped g there some cheap =
        let h = r.holds in
        let home = home_here dest in
        let usable = home_usable S (length s.blocks) r.frame r.older r.core h dest in_dest in
        let inside = home_inside S (length s.blocks) r.frame r.older r.core h dest in_dest in
        let w = e.registers (result_register any home) in
        let q = result_goes S.image (sizes S) h.base any home (stack_few S) (keeps.frame_register ∙ h.at) usable inside (with_end (result_words any home) g) in
        let most = result_most any home in
        filled_moves dest v w q.0 (n + result_size any home) in_dest fl word (filled_after h.base any home r.core e q.0 w keeps refl usable q.1) stepped
        (at_place (entry_of S r.frame.function (suc r.frame.point)) there q.2.runs) (omega arith) (omega arith)

    -- the newest frame goes to another point
    pub goes_moves : (u : bril.State) (point : ℕ) → Leads S r.frame point → (e : Core) (n : ℕ) → step S.p S.limits s ≡ u → u.frames ≡ at_point point r.frame ∷ r.older → u.ended ≡ None → u.blocks ≡ s.blocks → u.failures ≡ s.failures →
        u.printed ≡ s.printed → Comes S here r.core (suc n) (entry_of S r.frame.function point) e → suc n ≤ S.cost → Keeps r.core e → Moves s t
    goes_moves u point l e n stepped frames running blocks failures printed runs cheap keeps =
        arrive u (at_point point r.frame) r.older e n stepped frames running (printed ∙ (r.printed ∙ sym keeps.printed))
        (subst (λ bs. FramesHold S (length bs) (at_point point r.frame) r.older e) (sym blocks) (moved_holds S (length s.blocks) r.frame r.older r.core r.holds (standing S s t r) point l e (keeps_homes r.core e keeps)))
        (subst (λ bs. MemoryHolds (sizes S) bs e.table e.cells e.blocks e.next_free) (sym blocks) (memory_kept s.blocks r.core e keeps r.memory))
        (λ k guard there. guards_kept e keeps k guard there ∙ sym (ap (λ m. m guard.func guard.item) failures)) runs cheap
