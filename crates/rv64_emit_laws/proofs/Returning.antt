-- The items that leave a frame: a return, and the end of a function.
use Rattle.std.proofs.Common.{◌≡◌, ◌≢◌, ℕ, suc, ◌+◌, ◌*◌, ◌^◌, ◌<◌, ◌≤◌, Bool, IsTrue, true, false, cond, refl, sym, ap, ◌∙◌, subst, arith, List, [], ◌∷◌, ◌++◌, length, Option, None, Some, pos, inl, inr, true≢false, map}
use Rattle.std.specs.Prelude.{slice_get}
use Rattle.std.specs.List.{Contains}
use Rattle.bril_tree.specs.declared.limits.End.{End}
use Rattle.bril_tree.specs.declared.limits.End.TheVariants.{Ended, Faulted}
use Rattle.bril_tree.specs.declared.limits.Fault.TheVariants as fault
use Rattle.bril_tree.specs.declared.numbered.Instr.{Instr}
use Rattle.bril_tree.specs.declared.numbered.Instr.TheVariants.{Label, Const, Act}
use Rattle.bril_tree.specs.declared.operation.Op.TheVariants as op
use Rattle.bril_tree.specs.declared.value.Value.{Value}
use Rattle.bril_tree.specs.Assigned.{assigns_at}
use Rattle.bril_tree.specs.Edge.{branches_at, onward as edge_onward}
use Rattle.bril_tree.specs.FunctionForm.{listed}
use Rattle.bril_tree.specs.Live.{IsLive}
use Rattle.bril_tree.specs.Locals.{location_value}
use Rattle.bril_tree.specs.Membership.{In}
use Rattle.bril_tree.specs.Memory.{is_live_any}
use Rattle.bril_tree.specs.Operand.{Location}
use Rattle.bril_tree.specs.Operand as location
use Rattle.bril_tree.specs.Run.{state_after}
use Rattle.bril_tree.specs.Sites.{Keeps as Stays, item_change, sites_changed, sites_of}
use Rattle.bril_tree.specs.State as bril
use Rattle.bril_tree.specs.Step.{advanced, code_of, ends, faulted, gives, step, with_locations}
use Rattle.bril_tree.specs.Walk.{end_of}
use Rattle.bril_tree.proofs.Elements.{All-at}
use Rattle.placement_laws.specs.Holding.{HomesHold, IsSteady, SavesHold}
use Rattle.placement_laws.specs.Homes.{slot_of}
use Rattle.placement_laws.proofs.Calling.{KeptHold, call_goes_on, call_returns}
use Rattle.placement_laws.proofs.Homes.{location_back}
use Rattle.rv64_emit_laws.specs.layout.Image.{end_start}
use Rattle.rv64_emit_laws.specs.layout.Homes.{FunctionHomes, call_moves, outlives, slot_word}
use Rattle.rv64_emit_laws.specs.layout.Items.{after_call, before_call, call_result_size, call_result_words, keep_way_size, leave_size, leave_words, return_word, room_words}
use Rattle.rv64_emit_laws.specs.layout.Passing.{pass_words}
use Rattle.rv64_emit_laws.proofs.lemmas.layout.Bounding.{call_moves_back_most, frame_by_most, keep_way_most}
use Rattle.rv64_emit_laws.proofs.lemmas.layout.Lengths.{frame_by_length, pass_length, save_length}
use Rattle.rv64_words_laws.specs.stretches.Core.{Core, Keeps}
use Rattle.rv64_words_laws.specs.stretches.Runs.{Ends, HasAt, Leaves, Runs, effect}
use Rattle.rv64_words_laws.proofs.lemmas.stretches.Going.{Going, HasAt-rest, begin, jump_back, plain}
use Rattle.rv64_words_laws.specs.sequences.Moves.{Filled, IsHomeInside, Move, Restored, fetch_words, fill_size, fill_words, home_word, restore_size, restore_words, save_words}
use Rattle.rv64_words_laws.specs.sequences.Sequences.{bytes_down, bytes_up, fault_words, frame_by_size, frame_by_words, jump_offset}
use Rattle.rv64_words_laws.proofs.lemmas.sequences.Ends.{finishes}
use Rattle.rv64_words_laws.proofs.lemmas.sequences.Frames.{frame_down, other_frame}
use Rattle.rv64_words_laws.proofs.lemmas.sequences.Homes.{fill_goes}
use Rattle.rv64_words_laws.proofs.lemmas.sequences.Moves.{AfterOne}
use Rattle.rv64_words_laws.proofs.lemmas.sequences.Sizes.{fetch_most, fill_most}
use Rattle.rv64_words_laws.proofs.lemmas.values.Kept.{keeps_itself}
use Rattle.rv64_words.specs.declared.word.Word.TheVariants.{Jal}
use Rattle.rv64_words.specs.Environment as rv64
use Rattle.rv64_words.specs.Mnemonics.{addi}
use Rattle.rv64_words.specs.Region.{stack_base}
use Rattle.rv64_words.specs.State.{State}
use Rattle.slot_code.specs.declared.item.Slot.TheVariants.{Variable}
use Rattle.slot_code.specs.declared.item.SlotItem.TheVariants.{Call, Return}
use Rattle.slot_code.specs.Flow.{slot_location}
use Rattle.slot_code.specs.Laws.{IsSlotOf, slots_used}
use Rattle.slot_code.specs.Meaning.{read_returned, slot_awaited, slot_item_at, slot_items_of, slot_returns, with_slot}
use Rattle.slot_code.proofs.Uses.{items_use_slots}
use Rattle.type_soundness.specs.WellTyped.{OlderAreWellTyped, calls_function}
use Rattle.type_soundness.proofs.Soundness.{runs_are_well_typed}
use Rattle.rv64_emit_laws.specs.Homes.{home_at, saved_at}
use Rattle.rv64_emit_laws.proofs.Acting.{assigned_in, assigns_it, goes}
use Rattle.rv64_emit_laws.proofs.Between.{AreAllInner, AreInner, Comes, Stops, comes_away, comes_in, comes_on, stops_in, stops_on}
use Rattle.rv64_emit_laws.proofs.Entries.{head_inner, item_inner, leaving_inner}
use Rattle.rv64_emit_laws.proofs.Arriving.{Moves, arrive, arrive_ended, guards_by, guards_kept, here, inner_here, memory_by, memory_kept, step_at}
use Rattle.rv64_emit_laws.proofs.Blocks.{live_alike}
use Rattle.rv64_emit_laws.proofs.Frames.{filled_here, filled_other, live_in, older_kept, one_or_not, slot_fits, slots_fit, value_of}
use Rattle.rv64_emit_laws.proofs.Holding.{frame_reaches, keeps_homes, stack_few}
use Rattle.rv64_emit_laws.proofs.Homes.{framed_in, homes_in, origin, serving, usable_in}
use Rattle.rv64_emit_laws.proofs.Keeping.{call_chooses, call_passes, home_loaded, loads_own, other_variable, stack_kept, tenth_kept, way_in_frame}
use Rattle.rv64_emit_laws.proofs.Operands.{brings, read_is, reads}
use Rattle.rv64_emit_laws.proofs.Passing.{rest_on}
use Rattle.rv64_emit_laws.proofs.Ready.{ReturnFinds, gives_back}
use Rattle.rv64_emit_laws.proofs.Relation.{FramesHold, HasWord, OlderHold, RunsAlike, Waits, own_word, shadow_word, way_of}
use Rattle.rv64_emit_laws.proofs.Setting.{Setting, entry_of, its_words, next_entry, sizes, start_of}
use Rattle.rv64_emit_laws.proofs.Sources.{source_at}
use Rattle.rv64_emit_laws.proofs.Standing.{Stands, assigns_here, assigns_there, goes_there, stands}
use Rattle.rv64_emit_laws.proofs.Stretches.{landed, with_end}
use Rattle.rv64_emit_laws.proofs.Ways.{take_goes, taken_way, way_stays}

ten_not_six : ◌≢◌ {A = ℕ} 10 6
ten_not_six = λ e. absurd (omega arith)

-- ---- where a frame that waits goes on

module _ (S : Setting) (made above base back depth : ℕ) (f : bril.Frame) (stack : ℕ → ℕ) (w : Waits S made above base back depth f stack) where
  abbrev pub way_back : ℕ
  way_back = return_word (S.homes f.function) w.function f.point (entry_of S f.function f.point) w.dest above w.args

  -- what its call kept of registers
  abbrev pub kept_by : List Move
  kept_by = call_moves (S.homes f.function) w.function f.point w.dest

  -- the words after the jump of its call
  resumes_has : HasAt S.image way_back (after_call (S.homes f.function) w.function f.point w.dest)
  resumes_has =
      let k = entry_of S f.function f.point in
      let g = w.function in
      let homes = S.homes f.function in
      let last = after_call homes g f.point w.dest in
      let jump = Jal 1 (jump_offset (k + before_call homes g f.point w.dest above w.args) (start_of S above)) in
      let saves = save_words kept_by in
      let passes = pass_words homes g above w.args in
      let ups = frame_by_words (bytes_up g.words) in
      let all = its_words S f.function g f.point (Call w.dest above w.args) w.there w.here in
      let one = HasAt-rest S.image k room_words (saves ++ (passes ++ (ups ++ jump ∷ last))) all in
      let two = HasAt-rest S.image (k + length room_words) saves (passes ++ (ups ++ jump ∷ last)) one in
      let three = HasAt-rest S.image (k + length room_words + length saves) passes (ups ++ jump ∷ last) two in
      let four = HasAt-rest S.image (k + length room_words + length saves + length passes) ups (jump ∷ last) three in
      let saved = save_length kept_by in
      let passed = pass_length homes g above w.args in
      let upped = frame_by_length (bytes_up g.words) in
      let at : k + length room_words + length saves + length passes + length ups + 1 ≡ way_back = omega arith in
      subst (λ i. HasAt S.image i last) at four.1

  resumes_next : way_back + frame_by_size (bytes_down w.function.words) + restore_size kept_by + call_result_size (S.homes f.function) w.dest ≡ entry_of S f.function (suc f.point)
  resumes_next = let there = next_entry S f.function w.function f.point (Call w.dest above w.args) w.there w.here in omega arith

  -- no item begins from there on before the next one
  resumes_inner : AreAllInner S way_back (entry_of S f.function (suc f.point))
  resumes_inner k low high = item_inner S f.function w.function w.there f.point k (omega arith) high

  resumes_small : way_back < 2 ^ 20
  resumes_small = let next = resumes_next in let few = S.laid.few_entries f.function (suc f.point) in omega arith

  -- its destination is a slot of its function
  resumes_dest : (x : ℕ) → w.dest ≡ Some x → IsSlotOf w.function (Variable x)
  resumes_dest x e =
      let source = source_at S.p S.slots S.lowered f.function w.function w.there in
      let used = items_use_slots S.p f.function source.function w.function S.accepted source.there source.is f.point (Call w.dest above w.args) w.here in
      All-at (IsSlotOf w.function) (slots_used (Call w.dest above w.args)) 0 (Variable x) used (ap (λ d. slice_get (slots_used (Call d above w.args)) 0) e)

  -- what the call assigns
  assigned_by : (x : Location) → Contains (assigns_at (slice_get (code_of S.p f.function) f.point)) x → In x (map location.Variable (listed w.dest))
  assigned_by x c = assigned_in S f w.function w.there (Call w.dest above w.args) w.here x c

none_in : (dest : Option ℕ) → dest ≡ None → (x : Location) → In x (map location.Variable (listed dest)) → ⊥
none_in None d x i = i
none_in (Some y) d x i = absurd cc

one_in : (dest : Option ℕ) (y : ℕ) → dest ≡ Some y → (x : Location) → In x (map location.Variable (listed dest)) → x ≡ location.Variable y
one_in dest y d x i = by (subst (λ o. In x (map location.Variable (listed o))) d i)
  where
    by : In x (location.Variable y ∷ []) → x ≡ location.Variable y
    by (inl same) = same
    by (inr none) = absurd none

-- a call opens no speculation, and closes none
calls_stay : (g : ℕ) (o : Option Instr) → IsTrue (calls_function g o) → item_change o false ≡ Stays
calls_stay g None e = absurd (true≢false (sym e))
calls_stay g (Some (Label l)) e = absurd (true≢false (sym e))
calls_stay g (Some (Const dest ty value)) e = absurd (true≢false (sym e))
calls_stay g (Some (Act dest ty op.Call args funcs labels)) e = refl
calls_stay g (Some (Act dest ty _ args funcs labels)) e = absurd (true≢false (sym e))

module _ (S : Setting) (s : bril.State) (t : State) (r : RunsAlike S s t) (dear : 128 ≤ S.cost) where
  -- the core when a frame was left
  abbrev left_core : Core → Core
  left_core e = effect (addi 8 8 (pos 1)) (taken_way (S.homes r.frame.function).leaf e r.holds.base)

  -- how many words leave it
  abbrev leaving_size : ℕ
  leaving_size = leave_size (S.homes r.frame.function)

  leaving_few : leaving_size ≤ 3
  leaving_few = let few = keep_way_most (S.homes r.frame.function) in omega arith

  -- a stretch kept the way back
  kept_back : (e : Core) → Keeps r.core e → way_of (S.homes r.frame.function).leaf e r.holds.base ≡ way_of (S.homes r.frame.function).leaf r.core r.holds.base
  kept_back e keeps = way_stays (S.homes r.frame.function).leaf r.core e r.holds.base keeps.link_register (ap (λ m. m r.holds.base) keeps.stack)

  leaving : {n j : ℕ} {e : Core} → (way : ℕ) → Keeps r.core e → way_of (S.homes r.frame.function).leaf e r.holds.base ≡ 4 * way → way < 2 ^ 20 → Going S.image (sizes S) (here S s t r) r.core n j e (leave_words (S.homes r.frame.function)) →
      Leaves S.image (sizes S) (here S s t r) r.core (n + keep_way_size (S.homes r.frame.function) + 1 + 1) (j + keep_way_size (S.homes r.frame.function) + 1 + 1) way (left_core e)
  leaving {e = e} way keeps way_is small g =
      let h = r.holds in
      let source = source_at S.p S.slots S.lowered r.frame.function h.function h.there in
      let fit = slots_fit source.function h.function source.is in
      let reach = frame_reaches S (length s.blocks) r.frame r.older r.core h e 0 keeps.frame_register (omega arith) in
      let in_0 : h.base + 0 < S.image.stack = reach.inside in
      let in_base : h.base < S.image.stack = omega arith in
      jump_back S.image (sizes S) way small way_is (plain S.image (sizes S) tt (take_goes S.image (sizes S) (stack_few S) (S.homes r.frame.function) h.base reach.base in_base g))

  -- the run of the program ends, and so does the machine's
  ended_moves : {n j : ℕ} {e : Core} → (b : Bool) → is_live_any s.blocks ≡ b → step S.p S.limits s ≡ ends S.p S.limits b s → Going S.image (sizes S) (here S s t r) r.core n j e (leave_words (S.homes r.frame.function)) → AreInner S (here S s t r) (j + leaving_size) → Keeps r.core e →
      way_of (S.homes r.frame.function).leaf e r.holds.base ≡ 4 * end_start S.homes S.slots → n + 6 ≤ S.cost → Moves S s t
  ended_moves {n} {j} {e} b live stepped g inner keeps way cheap = by_live b live stepped
    where
      small : end_start S.homes S.slots < 2 ^ 20
      small = let few = S.laid.few_starts 0 in omega arith

      null : e.registers 0 ≡ 0
      null = keeps.zero_register ∙ r.holds.zero_is

      same_live : rv64.is_live_any e.table e.blocks ≡ is_live_any s.blocks
      same_live = let m = memory_kept S s.blocks r.core e keeps r.memory in live_alike (sizes S) s.blocks e.table e.cells e.blocks e.next_free m

      none : 0 < 2 ^ 64
      none = omega arith

      -- how many steps it takes but one
      steps : ℕ
      steps = n + keep_way_size (S.homes r.frame.function) + 4

      steps_few : suc steps ≤ S.cost
      steps_few = let few = leaving_few in omega arith

      count : n + keep_way_size (S.homes r.frame.function) + 1 + 1 + (0 + 1 + 1 + 1) ≡ suc steps
      count = omega arith

      on : Going S.image (sizes S) (end_start S.homes S.slots) (left_core e) 0 (end_start S.homes S.slots) (left_core e) (fault_words 0)
      on = begin S.image (sizes S) (end_start S.homes S.slots) (left_core e) (fault_words 0) S.laid.ends

      stops : {how : End} {f : Core} → Ends S.image (sizes S) (end_start S.homes S.slots) (left_core e) (0 + 1 + 1 + 1) (end_start S.homes S.slots + 1 + 1 + 1) how f → Stops S (here S s t r) r.core (suc steps) how f
      stops last = stops_in S (suc steps) count (stops_on S (comes_away S (leaving (end_start S.homes S.slots) keeps way small g) (λ w low high. inner w low (omega arith))) last (λ w low high. head_inner S w (omega arith)))

      by_live : (b : Bool) → is_live_any s.blocks ≡ b → step S.p S.limits s ≡ ends S.p S.limits b s → Moves S s t
      by_live true live stepped =
          let how = ap (λ x. Some (cond x (Faulted fault.Leak) Ended)) (same_live ∙ live) in
          arrive_ended S s t r (faulted fault.Leak s) (Faulted fault.Leak) _ steps stepped refl (r.printed ∙ sym keeps.printed) (guards_kept S s t r e keeps)
          (stops (finishes S.image (sizes S) {e = left_core e} {ws = []} 0 (Faulted fault.Leak) none null how on)) steps_few
      by_live false live stepped =
          let how = ap (λ x. Some (cond x (Faulted fault.Leak) Ended)) (same_live ∙ live) in
          arrive_ended S s t r (ends S.p S.limits false s) Ended _ steps stepped refl (r.printed ∙ sym keeps.printed) (guards_kept S s t r e keeps)
          (stops (finishes S.image (sizes S) {e = left_core e} {ws = []} 0 Ended none null how on)) steps_few

  -- ---- the caller

  module _ (caller : bril.Frame) (older : List bril.Frame) (some : r.older ≡ caller ∷ older) (w : Waits S (length s.blocks) r.frame.function r.holds.base (way_of (S.homes r.frame.function).leaf r.core r.holds.base) (length older) caller r.core.stack) where
    -- it is well typed, and stands at a call
    below_typed : (g : ℕ) × OlderAreWellTyped S.p g (caller ∷ older)
    below_typed =
        let all = runs_are_well_typed S.p S.limits S.args S.accepted S.literals S.fit r.steps in
        let frames : (state_after S.p S.limits S.args r.steps).frames ≡ r.frame ∷ (caller ∷ older) = ap (λ x. x.frames) (sym r.is) ∙ (r.frames ∙ ap (λ fs. r.frame ∷ fs) some) in
        (all.0.function, subst (OlderAreWellTyped S.p all.0.function) (same_tail all.0 r.frame all.1 (caller ∷ older) (sym all.2 ∙ frames)) all.4)
      where
        same_tail : (f g : bril.Frame) (fs gs : List bril.Frame) → f ∷ fs ≡ g ∷ gs → fs ≡ gs
        same_tail f g fs gs e = cc

    stood : Stands S caller w.function
    stood = stands S caller w.function w.there below_typed.1.0

    on : Contains (branches_at (code_of S.p caller.function) (end_of stood.walk)) (edge_onward caller.point)
    on = goes_there S caller w.function stood (edge_onward caller.point) (goes S caller w.function w.there (Call w.dest r.frame.function w.args) w.here (edge_onward caller.point) (inl refl))

    -- no site is open after the call
    closed : length (sites_of (code_of S.p caller.function) (edge_onward caller.point ∷ stood.walk)) ≤ 0
    closed =
        let stays = calls_stay below_typed.0 (slice_get (code_of S.p caller.function) caller.point) below_typed.1.1 in
        let same : length (sites_of (code_of S.p caller.function) (edge_onward caller.point ∷ stood.walk)) ≡ length (sites_of (code_of S.p caller.function) stood.walk) =
        ap (λ c. length (sites_changed c caller.point (sites_of (code_of S.p caller.function) stood.walk))) stays in
        let deep = stood.deep in
        let none : length caller.saves ≡ 0 = ap length w.alone in
        omega arith

    -- what the call kept
    kept_hold : KeptHold (code_of S.p caller.function) stood.func.args stood.sound (home_at (S.homes caller.function)) (saved_at (S.homes caller.function)) stood.serves.saved stood.serves.placed (HasWord (length s.blocks)) stood.walk (edge_onward caller.point) stood.is on refl closed
        (λ x. Contains (assigns_at (slice_get (code_of S.p caller.function) (end_of stood.walk))) x) caller.locations (own_word w.function w.below r.core.stack)
    kept_hold = record { at_kept = λ x v live not_own held. w.kept x v live (λ c. not_own (assigns_there S caller w.function stood x c)) held }

    -- comes back to its homes
    reloaded : (l e : Core) → l.stack ≡ r.core.stack → Restored w.below (kept_by S (length s.blocks) r.frame.function r.holds.base (way_of (S.homes r.frame.function).leaf r.core r.holds.base) (length older) caller r.core.stack w) l e → (x : Location) → IsLive (code_of S.p caller.function) x (suc caller.point) →
        (In x (map location.Variable (listed w.dest)) → ⊥) → home_word e w.below (home_at (S.homes caller.function) x) ≡ own_word w.function w.below r.core.stack x
    reloaded l e stack restored x live other =
        let homes = S.homes caller.function in
        let in_x = live_in S caller w.function w.there x (suc caller.point) live in
        let told = ((serving S caller.function w.function w.there).live (suc caller.point) x).1 live in
        home_loaded S caller.function w.function w.there (suc caller.point) (outlives homes caller.point w.dest) (call_passes homes caller.point w.dest) w.below l e restored (slot_of x) in_x
        (λ register. call_chooses homes caller.point w.dest (slot_of x) told (other_variable w.dest x other) register)
        ∙ ap (λ m. m (w.below + slot_word w.function (slot_of x))) stack

    -- the caller is the newest frame, and goes on with these locations
    caller_holds : OlderHold S (length s.blocks) caller.function w.below (r.core.stack w.below) older r.core.stack → (locations : bril.Locals) (last : Core) → last.registers 2 ≡ stack_base + 8 * w.below → last.registers 0 ≡ 0 → last.registers 8 + suc (length older) ≡ S.limits.frames →
        ((k : ℕ) → k < w.below + 2 → last.stack k ≡ r.core.stack k) →
        HomesHold (code_of S.p caller.function) (home_at (S.homes caller.function)) (saved_at (S.homes caller.function)) (HasWord (length s.blocks)) (suc caller.point) locations (home_word last w.below) →
        FramesHold S (length s.blocks) (advanced (with_locations locations caller)) older last
    caller_holds older_hold locations last two null left low homes = record {
      function = w.function;
      there = w.there;
      base = w.below;
      at = two;
      zero_is = null;
      left = left;
      deep = w.deep;
      holds = record {
        homes_hold = homes;
        saves_hold = subst (λ xs. SavesHold (code_of S.p caller.function) (home_at (S.homes caller.function)) (saved_at (S.homes caller.function)) (HasWord (length s.blocks)) (suc caller.point) xs (shadow_word w.function w.below last.stack)) (sym w.alone) tt;
        steady = subst (λ xs. IsSteady (code_of S.p caller.function) (home_at (S.homes caller.function)) (saved_at (S.homes caller.function)) (HasWord (length s.blocks)) (suc caller.point) locations xs) (sym w.alone) tt;
      };
      older_hold = older_kept S (length s.blocks) caller.function w.below (r.core.stack w.below) (way_of (S.homes caller.function).leaf last w.below) older r.core.stack last.stack
          (sym (way_in_frame S caller.function w.function w.there caller.point w.dest r.frame.function w.args w.here last w.below) ∙ low w.below (omega arith)) (λ k lt. low k (omega arith)) older_hold;
    }

    -- the value that it takes is in the home of its destination
    taken_homes : (x : ℕ) → w.dest ≡ Some x → (v : Value) (word : ℕ) (l e last : Core) → HasWord (length s.blocks) v word → l.stack ≡ r.core.stack →
        Restored w.below (kept_by S (length s.blocks) r.frame.function r.holds.base (way_of (S.homes r.frame.function).leaf r.core r.holds.base) (length older) caller r.core.stack w) l e → Filled w.below ((S.homes caller.function).home (Variable x)) word e last →
        HomesHold (code_of S.p caller.function) (home_at (S.homes caller.function)) (saved_at (S.homes caller.function)) (HasWord (length s.blocks)) (suc caller.point) (with_slot (Variable x) v caller.locations) (home_word last w.below)
    taken_homes x d v word l e last has stack restored filled =
        call_returns (code_of S.p caller.function) stood.func.args stood.sound (home_at (S.homes caller.function)) (saved_at (S.homes caller.function)) stood.serves.saved stood.serves.placed (HasWord (length s.blocks)) stood.walk (edge_onward caller.point) stood.is on refl closed one_or_not
        (location.Variable x) v caller.locations (with_slot (Variable x) v caller.locations) (own_word w.function w.below r.core.stack) (home_word e w.below) (home_word last w.below)
        own only (filled_here (Variable x) v caller.locations) same (λ y live ne. reloaded l e stack restored y live (λ i. ne (one_in w.dest x d y i))) (subst (HasWord (length s.blocks) v) (sym filled.got) has)
        (λ y live apart. filled.others (home_at (S.homes caller.function) y) (usable_in S caller.function w.function w.there (slot_of y) (live_in S caller w.function w.there y (suc caller.point) live)) apart) kept_hold
      where
        own : Contains (assigns_at (slice_get (code_of S.p caller.function) (end_of stood.walk))) (location.Variable x)
        own =
            let here : In (location.Variable x) (map location.Variable (listed w.dest)) = subst (λ o. In (location.Variable x) (map location.Variable (listed o))) (sym d) (inl refl) in
            assigns_there S caller w.function stood (location.Variable x) (assigns_it S caller w.function w.there (Call w.dest r.frame.function w.args) w.here (location.Variable x) here)

        only : (y : Location) → Contains (assigns_at (slice_get (code_of S.p caller.function) (end_of stood.walk))) y → y ≡ location.Variable x
        only y c = one_in w.dest x d y (assigned_by S (length s.blocks) r.frame.function r.holds.base (way_of (S.homes r.frame.function).leaf r.core r.holds.base) (length older) caller r.core.stack w y (assigns_here S caller w.function stood y c))

        same : (y : Location) → y ≢ location.Variable x → location_value (with_slot (Variable x) v caller.locations) y ≡ location_value caller.locations y
        same y ne =
            let apart : slot_of y ≢ Variable x = (λ is. ne (sym (location_back y) ∙ ap slot_location is)) in
            sym (value_of (with_slot (Variable x) v caller.locations) y) ∙ (filled_other (Variable x) (slot_of y) v caller.locations apart ∙ value_of caller.locations y)

    -- or it takes none
    untaken_homes : w.dest ≡ None → (l e : Core) → l.stack ≡ r.core.stack → Restored w.below (kept_by S (length s.blocks) r.frame.function r.holds.base (way_of (S.homes r.frame.function).leaf r.core r.holds.base) (length older) caller r.core.stack w) l e →
        HomesHold (code_of S.p caller.function) (home_at (S.homes caller.function)) (saved_at (S.homes caller.function)) (HasWord (length s.blocks)) (suc caller.point) caller.locations (home_word e w.below)
    untaken_homes d l e stack restored =
        call_goes_on (code_of S.p caller.function) stood.func.args stood.sound (home_at (S.homes caller.function)) (saved_at (S.homes caller.function)) stood.serves.saved stood.serves.placed (HasWord (length s.blocks)) stood.walk (edge_onward caller.point) stood.is on refl closed
        caller.locations (own_word w.function w.below r.core.stack) (home_word e w.below) none (λ x live. reloaded l e stack restored x live (λ i. none_in w.dest d x i)) kept_hold
      where
        none : (x : Location) → Contains (assigns_at (slice_get (code_of S.p caller.function) (end_of stood.walk))) x → ⊥
        none x c = none_in w.dest d x (assigned_by S (length s.blocks) r.frame.function r.holds.base (way_of (S.homes r.frame.function).leaf r.core r.holds.base) (length older) caller r.core.stack w x (assigns_here S caller w.function stood x c))

  -- the caller goes on, with the value in register 10 where it is taken
  resumed_moves : {n j : ℕ} {e : Core} → (v : Value) (caller : bril.Frame) (older : List bril.Frame) → r.older ≡ caller ∷ older → (w : Waits S (length s.blocks) r.frame.function r.holds.base (way_of (S.homes r.frame.function).leaf r.core r.holds.base) (length older) caller r.core.stack) →
      OlderHold S (length s.blocks) caller.function w.below (r.core.stack w.below) older r.core.stack → step S.p S.limits s ≡ gives S.p S.limits w.dest v caller older s → Going S.image (sizes S) (here S s t r) r.core n j e (leave_words (S.homes r.frame.function)) → AreInner S (here S s t r) (j + leaving_size) → Keeps r.core e →
      (gives_back S.p r.frame.function ≡ true → HasWord (length s.blocks) v (e.registers 10)) → n + 33 ≤ S.cost → Moves S s t
  resumed_moves {n} {j} {e} v caller older some w older_hold stepped g inner keeps word cheap = by_dest w.dest refl
    where
      homes : FunctionHomes
      homes = S.homes caller.function

      moves : List Move
      moves = kept_by S (length s.blocks) r.frame.function r.holds.base (way_of (S.homes r.frame.function).leaf r.core r.holds.base) (length older) caller r.core.stack w

      back : ℕ
      back = way_back S (length s.blocks) r.frame.function r.holds.base (way_of (S.homes r.frame.function).leaf r.core r.holds.base) (length older) caller r.core.stack w

      -- how many steps lead to the caller's next word, and how many words there are to its own frame
      left : ℕ
      left = n + keep_way_size (S.homes r.frame.function) + 1 + 1

      down : ℕ
      down = frame_by_size (bytes_down w.function.words)

      runs : Leaves S.image (sizes S) (here S s t r) r.core left (j + keep_way_size (S.homes r.frame.function) + 1 + 1) back (left_core e)
      runs = leaving back keeps (kept_back e keeps ∙ w.way) (resumes_small S (length s.blocks) r.frame.function r.holds.base (way_of (S.homes r.frame.function).leaf r.core r.holds.base) (length older) caller r.core.stack w) g

      left_is : (left_core e).registers 8 + suc (length older) ≡ S.limits.frames
      left_is =
          let few : S.limits.frames ≤ 65536 = S.limits.few_frames in
          let left : r.core.registers 8 + suc (length r.older) ≡ S.limits.frames = r.holds.left in
          let eight : e.registers 8 ≡ r.core.registers 8 = keeps.frames_left in
          let longer : length r.older ≡ suc (length older) = ap length some in
          omega arith

      -- the caller's frame is in the stack, and has a word
      room : w.below + w.function.words ≤ S.image.stack
      room =
          let source = source_at S.p S.slots S.lowered r.frame.function r.holds.function r.holds.there in
          let fit = slots_fit source.function r.holds.function source.is in
          let reach = frame_reaches S (length s.blocks) r.frame r.older r.core r.holds r.core 0 refl (omega arith) in
          let in_0 : r.holds.base + 0 < S.image.stack = reach.inside in
          let ends = w.ends in
          omega arith

      some_words : 1 ≤ w.function.words
      some_words = let source = origin S caller.function w.function w.there in let fit = slots_fit source.function w.function source.is in omega arith

      -- the machine comes to the caller's next item
      comes_back : {m : ℕ} {last : Core} → (i : ℕ) → left + m ≡ i → Runs S.image (sizes S) back (left_core e) m (entry_of S caller.function (suc caller.point)) last →
          Comes S (here S s t r) r.core i (entry_of S caller.function (suc caller.point)) last
      comes_back i count on =
          comes_in S i (entry_of S caller.function (suc caller.point)) count refl
          (comes_on S (comes_away S runs (λ w low high. inner w low (omega arith))) on (resumes_inner S (length s.blocks) r.frame.function r.holds.base (way_of (S.homes r.frame.function).leaf r.core r.holds.base) (length older) caller r.core.stack w))

      -- its frame is the newest one
      back_core : Core
      back_core = other_frame S.image (sizes S) (left_core e) (bytes_down w.function.words) (stack_base + 8 * w.below)

      on_back : Going S.image (sizes S) back (left_core e) (0 + down) (back + down) back_core (restore_words moves ++ call_result_words homes w.dest)
      on_back =
          let few = stack_few S in
          let ends : w.below + w.function.words ≡ r.holds.base = w.ends in
          let two : (left_core e).registers 2 ≡ stack_base + 8 * (w.below + w.function.words) = keeps.frame_register ∙ (r.holds.at ∙ ap (λ x. stack_base + 8 * x) (sym ends)) in
          let within = room in
          frame_down S.image (sizes S) w.below w.function.words two some_words (omega arith)
          (begin S.image (sizes S) back (left_core e) (after_call homes w.function caller.point w.dest) (resumes_has S (length s.blocks) r.frame.function r.holds.base (way_of (S.homes r.frame.function).leaf r.core r.holds.base) (length older) caller r.core.stack w))

      -- registers are brought back
      reloads : AfterOne S.image (sizes S) (stack_few S) w.below (Restored w.below moves back_core) back (left_core e) (0 + down) (back + down) (restore_size moves) (call_result_words homes w.dest)
      reloads =
          loads_own S caller.function w.function w.there (suc caller.point) (outlives homes caller.point w.dest) (call_passes homes caller.point w.dest) w.below room back_core (call_result_words homes w.dest)
          (refl {a = stack_base + 8 * w.below}) on_back

      size_most : restore_size moves ≤ 23
      size_most =
          let source = origin S caller.function w.function w.there in
          call_moves_back_most homes source.function w.function source.is (homes_in S caller.function w.function w.there) caller.point w.dest

      down_most : down ≤ 3
      down_most = frame_by_most (bytes_down w.function.words)

      next_is : back + down + restore_size moves + call_result_size homes w.dest ≡ entry_of S caller.function (suc caller.point)
      next_is = resumes_next S (length s.blocks) r.frame.function r.holds.base (way_of (S.homes r.frame.function).leaf r.core r.holds.base) (length older) caller r.core.stack w

      reloaded_stack : (k : ℕ) → reloads.core.stack k ≡ r.core.stack k
      reloaded_stack k =
          stack_kept S caller.function w.function w.there (suc caller.point) (outlives homes caller.point w.dest) (call_passes homes caller.point w.dest) w.below back_core reloads.core reloads.is k
          ∙ ap (λ m. m k) keeps.stack

      by_dest : (dest : Option ℕ) → w.dest ≡ dest → Moves S s t
      by_dest None d =
          let rest = reloads.is.rest in
          let last = reloads.core in
          let most = size_most in
          let down_few = down_most in
          let leave_few = leaving_few in
          let next = next_is in
          let none : call_result_size homes w.dest ≡ 0 = ap (call_result_size homes) d in
          let steps = n + keep_way_size (S.homes r.frame.function) + 1 + down + restore_size moves in
          let count : left + (0 + down + restore_size moves) ≡ suc steps = omega arith in
          let at : back + down + restore_size moves ≡ entry_of S caller.function (suc caller.point) = omega arith in
          arrive S s t r (gives S.p S.limits None v caller older s) (advanced (with_locations caller.locations caller)) older last steps (stepped ∙ ap (λ o. gives S.p S.limits o v caller older s) d) refl r.running
          (r.printed ∙ (sym keeps.printed ∙ sym rest.printed))
          (caller_holds caller older some w older_hold caller.locations last rest.frame_register (rest.zero_register ∙ (keeps.zero_register ∙ r.holds.zero_is)) (ap (λ y. y + suc (length older)) rest.frames_left ∙ left_is)
          (λ k lt. reloaded_stack k) (untaken_homes caller older some w d back_core last keeps.stack reloads.is))
          (memory_by S s.blocks r.core last (rest.table ∙ keeps.table) (rest.cells ∙ keeps.cells) (rest.blocks ∙ keeps.blocks) (rest.next_free ∙ keeps.next_free) r.memory) (guards_by S s t r last (rest.arrivals ∙ keeps.arrivals))
          (comes_back (suc steps) count (landed (0 + down + restore_size moves) (entry_of S caller.function (suc caller.point)) refl at reloads.going)) (omega arith)
      by_dest (Some x) d =
          let home = homes.home (Variable x) in
          let source = origin S caller.function w.function w.there in
          let in_x = resumes_dest S (length s.blocks) r.frame.function r.holds.base (way_of (S.homes r.frame.function).leaf r.core r.holds.base) (length older) caller r.core.stack w x d in
          let fits = slot_fits source.function w.function source.is (Variable x) in_x in
          let within = room in
          let inside : IsHomeInside (sizes S) w.below home = (λ o is. let own = framed_in S caller.function w.function w.there (Variable x) o in_x is in omega arith) in
          let filling = subst (λ o. Going S.image (sizes S) back (left_core e) (0 + down + restore_size moves) (back + down + restore_size moves) reloads.core (call_result_words homes o)) d reloads.going in
          let filled = fill_goes S.image (sizes S) w.below 10 home (stack_few S) reloads.is.rest.frame_register ten_not_six (usable_in S caller.function w.function w.there (Variable x) in_x) inside (with_end (fill_words 10 home) filling) in
          let last = filled.0 in
          let rest = rest_on back_core reloads.core last reloads.is.rest filled.1.rest in
          let ten : reloads.core.registers 10 ≡ e.registers 10 =
          tenth_kept S caller.function w.function w.there (suc caller.point) (outlives homes caller.point w.dest) (call_passes homes caller.point w.dest) w.below back_core reloads.core reloads.is in
          let has = subst (HasWord (length s.blocks) v) (sym ten) (word (w.takes x d)) in
          let low : (k : ℕ) → k < w.below + 2 → last.stack k ≡ r.core.stack k =
          λ k lt. filled.1.stack k (λ o is same. (let own = framed_in S caller.function w.function w.there (Variable x) o in_x is in absurd (omega arith))) ∙ reloaded_stack k in
          let most = size_most in
          let down_few = down_most in
          let leave_few = leaving_few in
          let three = fill_most home in
          let next = next_is in
          let result : call_result_size homes w.dest ≡ fill_size home = ap (call_result_size homes) d in
          let steps = n + keep_way_size (S.homes r.frame.function) + 1 + down + restore_size moves + fill_size home in
          let count : left + (0 + down + restore_size moves + fill_size home) ≡ suc steps = omega arith in
          let at : back + down + restore_size moves + fill_size home ≡ entry_of S caller.function (suc caller.point) = omega arith in
          arrive S s t r (gives S.p S.limits (Some x) v caller older s) (advanced (with_locations (with_slot (Variable x) v caller.locations) caller)) older last steps
          (stepped ∙ ap (λ o. gives S.p S.limits o v caller older s) d) refl r.running (r.printed ∙ (sym keeps.printed ∙ sym rest.printed))
          (caller_holds caller older some w older_hold (with_slot (Variable x) v caller.locations) last rest.frame_register (rest.zero_register ∙ (keeps.zero_register ∙ r.holds.zero_is)) (ap (λ y. y + suc (length older)) rest.frames_left ∙ left_is)
          low (taken_homes caller older some w x d v (reloads.core.registers 10) back_core reloads.core last has keeps.stack reloads.is filled.1))
          (memory_by S s.blocks r.core last (rest.table ∙ keeps.table) (rest.cells ∙ keeps.cells) (rest.blocks ∙ keeps.blocks) (rest.next_free ∙ keeps.next_free) r.memory) (guards_by S s t r last (rest.arrivals ∙ keeps.arrivals))
          (comes_back (suc steps) count (landed (0 + down + restore_size moves + fill_size home) (entry_of S caller.function (suc caller.point)) refl at filled.2)) (omega arith)

  -- the newest frame gives a value back, which register 10 has where its function returns one
  returned_moves : {n j : ℕ} {e : Core} → (v : Value) → step S.p S.limits s ≡ slot_returns S.p S.slots S.limits v r.older s → Going S.image (sizes S) (here S s t r) r.core n j e (leave_words (S.homes r.frame.function)) → AreInner S (here S s t r) (j + leaving_size) → Keeps r.core e →
      (gives_back S.p r.frame.function ≡ true → HasWord (length s.blocks) v (e.registers 10)) → n + 33 ≤ S.cost → Moves S s t
  returned_moves {e = e} v stepped g inner keeps word cheap = by_older r.older refl r.holds.older_hold
    where
      by_older : (older : List bril.Frame) → r.older ≡ older → OlderHold S (length s.blocks) r.frame.function r.holds.base (way_of (S.homes r.frame.function).leaf r.core r.holds.base) older r.core.stack → Moves S s t
      by_older [] none hold =
          ended_moves (is_live_any s.blocks) refl (stepped ∙ ap (λ o. slot_returns S.p S.slots S.limits v o s) none) g inner keeps (kept_back e keeps ∙ hold) (omega arith)
      by_older (caller ∷ older) some hold =
          let w = hold.0 in
          let here_is : slot_item_at S.slots caller.function caller.point ≡ Some (Call w.dest r.frame.function w.args) = ap (λ o. slice_get (slot_items_of o) caller.point) w.there ∙ w.here in
          resumed_moves v caller older some w hold.1
          (stepped ∙ (ap (λ o. slot_returns S.p S.slots S.limits v o s) some ∙ ap (λ o. gives S.p S.limits (slot_awaited o) v caller older s) here_is)) g inner keeps word cheap

  pub return_moves : (value : Option ℕ) → slice_get r.holds.function.code r.frame.point ≡ Some (Return value) → ReturnFinds S.p S.slots r.frame value → ((x : ℕ) → value ≡ Some x → IsSlotOf r.holds.function (Variable x)) → Moves S s t
  return_moves None item none used =
      let h = r.holds in
      let k = here S s t r in
      let g0 = begin S.image (sizes S) k r.core (leave_words (S.homes r.frame.function)) (its_words S r.frame.function h.function r.frame.point (Return None) h.there item) in
      let next = next_entry S r.frame.function h.function r.frame.point (Return None) h.there item in
      returned_moves (read_returned r.frame.locations None) (step_at S s t r (Some (Return None)) item) g0 (λ w low high. inner_here S s t r w low (omega arith)) (keeps_itself r.core) (λ e. absurd (clash (sym e ∙ none))) (omega arith)
    where
      clash : true ≡ false → ⊥
      clash e = cc
  return_moves (Some x) item held used =
      let h = r.holds in
      let home = (S.homes r.frame.function).home (Variable x) in
      let live = reads S s t r (Return (Some x)) item (location.Variable x) (inl refl) in
      let g0 = begin S.image (sizes S) (here S s t r) r.core (fetch_words 10 home ++ leave_words (S.homes r.frame.function)) (its_words S r.frame.function h.function r.frame.point (Return (Some x)) h.there item) in
      let found = brings S s t r false 10 (Variable x) held.value refl (record { used = used x refl; live = live; is = held.is }) (keeps_homes r.core r.core (keeps_itself r.core)) g0 in
      let size = fetch_most home in
      let next = next_entry S r.frame.function h.function r.frame.point (Return (Some x)) h.there item in
      let is = step_at S s t r (Some (Return (Some x))) item ∙ ap (λ v. slot_returns S.p S.slots S.limits v r.older s) (read_is r.frame.locations (Variable x) held.value held.is) in
      returned_moves held.value is found.going (λ w low high. inner_here S s t r w low (omega arith)) found.keeps (λ e. found.word) (omega arith)

  pub end_moves : slice_get r.holds.function.code r.frame.point ≡ None → gives_back S.p r.frame.function ≡ false → Moves S s t
  end_moves item none =
      let h = r.holds in
      let k = here S s t r in
      let g0 = begin S.image (sizes S) k r.core (leave_words (S.homes r.frame.function)) (S.laid.leaves r.frame.function h.function r.frame.point h.there item) in
      returned_moves (bril.read bril.no_values 0) (step_at S s t r None item) g0 (λ w low high. leaving_inner S r.frame.function h.function h.there r.frame.point w item (omega arith) (omega arith)) (keeps_itself r.core) (λ e. absurd (clash (sym e ∙ none))) (omega arith)
    where
      clash : true ≡ false → ⊥
      clash e = cc
