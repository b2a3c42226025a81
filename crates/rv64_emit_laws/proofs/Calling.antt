-- The item that calls a function.
use Rattle.std.proofs.Common.{◌≡◌, ◌≢◌, ℕ, suc, ◌+◌, ◌-◌, ◌*◌, ◌%◌, ◌^◌, ◌<◌, ◌≤◌, inl, Bool, true, false, cond, eqb, ltb, not, refl, sym, ap, ◌∙◌, subst, arith, List, ◌∷◌, ◌++◌, le_trans, length, map, mul-le-mul_right, Option, Some, negsuc}
use Rattle.std.specs.Prelude.{slice_get}
use Rattle.std.specs.List.{AllByRecursion, Contains}
use Rattle.std.proofs.lemmas.Bool.Decides.{nat_tests}
use Rattle.bril_tree.specs.declared.limits.End.TheVariants.{Faulted}
use Rattle.bril_tree.specs.declared.limits.Fault.TheVariants as fault
use Rattle.bril_tree.specs.declared.home.Home.TheVariants.{Reg}
use Rattle.bril_tree.specs.declared.value.Value.{Value}
use Rattle.bril_tree.specs.Assigned.{assigns_at}
use Rattle.bril_tree.specs.Edge as edge
use Rattle.bril_tree.specs.FrameWords.{frame_head}
use Rattle.bril_tree.specs.Live.{IsLive, Later}
use Rattle.bril_tree.specs.Locals.{location_value}
use Rattle.bril_tree.specs.Operand.{Location}
use Rattle.bril_tree.specs.State as bril
use Rattle.bril_tree.specs.Step.{code_of, faulted, new_frame, step, with_frames}
use Rattle.placement_laws.specs.Homes.{slot_of}
use Rattle.placement_laws.specs.Needed.{Live}
use Rattle.rv64_emit_laws.specs.layout.Homes.{call_moves as kept_moves, outlives, slot_word}
use Rattle.rv64_emit_laws.specs.layout.Items.{after_call, before_call, call_words, keep_way_size, keep_way_words, return_word}
use Rattle.rv64_emit_laws.specs.layout.Passing.{pass_size, pass_words}
use Rattle.rv64_emit_laws.proofs.lemmas.layout.Bounding.{call_moves_most, frame_by_most, keep_way_most, pass_most}
use Rattle.rv64_words_laws.specs.stretches.Core.{Core, written}
use Rattle.rv64_words.proofs.Assigned.{assigned_other}
use Rattle.rv64_words_laws.proofs.lemmas.stretches.Cores.{apart_from}
use Rattle.rv64_words_laws.proofs.lemmas.stretches.Going.{Going, begin, begin_there, not_taken, plain, taken}
use Rattle.rv64_words_laws.specs.sequences.Moves.{IsUsable, Saved, home_word, save_size, save_words}
use Rattle.rv64_words_laws.specs.sequences.Sequences.{bytes_up, fault_words, frame_by_size, frame_by_words, jump_offset}
use Rattle.rv64_words_laws.proofs.lemmas.sequences.Ends.{called_off, finishes}
use Rattle.rv64_words_laws.proofs.lemmas.sequences.Frames.{frame_up, other_frame, seventh_left}
use Rattle.rv64_words_laws.proofs.lemmas.sequences.Jumps.{call_to}
use Rattle.rv64_words_laws.proofs.lemmas.values.Kept.{keeps_called_off}
use Rattle.rv64_words.specs.declared.word.Word.{Word}
use Rattle.rv64_words.specs.declared.word.Word.TheVariants.{Jal}
use Rattle.rv64_words.specs.Mnemonics.{addi}
use Rattle.rv64_words.specs.Region.{stack_base}
use Rattle.rv64_words.specs.State.{State}
use Rattle.slot_code.specs.declared.item.Slot.{Slot}
use Rattle.slot_code.specs.declared.item.Slot.TheVariants.{Variable}
use Rattle.slot_code.specs.declared.item.SlotItem.TheVariants.{Call}
use Rattle.slot_code.specs.Laws.{IsSlotOf}
use Rattle.rv64_emit_laws.specs.Homes.{home_at}
use Rattle.rv64_emit_laws.proofs.Acting.{assigns_it, each_live, goes}
use Rattle.rv64_emit_laws.proofs.Between.{comes_in, comes_on}
use Rattle.rv64_emit_laws.proofs.Entries.{opening_inner}
use Rattle.rv64_emit_laws.proofs.Arriving.{Moves, arrive, away, faults_moves, guards_by, here, memory_by, step_at}
use Rattle.rv64_emit_laws.proofs.Frames.{deeper, live_fits, live_in, older_kept, slots_fit, variables_fit}
use Rattle.rv64_emit_laws.proofs.Giving.{all_found, given_apart, given_fits, given_word, values_held}
use Rattle.rv64_emit_laws.proofs.Holding.{source, stack_few, stack_room}
use Rattle.rv64_emit_laws.proofs.Homes.{homes_in, origin, serving, usable_in}
use Rattle.rv64_emit_laws.proofs.Keeping.{arguments_home, call_chooses, call_passes, home_stays, home_unwritten, low_kept, other_variable, own_holds, saves_own, way_in_frame}
use Rattle.rv64_emit_laws.proofs.Operands.{reads}
use Rattle.rv64_emit_laws.proofs.Passing.{Passed, passes_go, rest_on}
use Rattle.rv64_emit_laws.proofs.Ready.{CallFinds}
use Rattle.rv64_emit_laws.proofs.Relation.{FramesHold, HasWord, RunsAlike, own_word, way_of}
use Rattle.rv64_emit_laws.proofs.Setting.{Setting, entry_of, its_words, next_entry, sizes, start_of, widest}
use Rattle.rv64_emit_laws.proofs.Stretches.{ends_in, landed, with_end}
use Rattle.rv64_emit_laws.proofs.Ways.{keep_goes, kept_way, kept_way_is}

module _ (S : Setting) (s : bril.State) (t : State) (r : RunsAlike S s t) (dest : Option ℕ) (function : ℕ) (args : List ℕ)
    (item : slice_get r.holds.function.code r.frame.point ≡ Some (Call dest function args)) (dear : 128 + 8 * length args ≤ S.cost) where
  abbrev values : List Value
  values = map (bril.read r.frame.locations.vars) args

  -- no frame may be made
  frameless : not (eqb (r.core.registers 8) (r.core.registers 0)) ≡ false → Moves S s t
  frameless none =
      let h = r.holds in
      let k = here S s t r in
      let homes = S.homes r.frame.function in
      let zero_is : r.core.registers 0 ≡ 0 = h.zero_is in
      let left : r.core.registers 8 + suc (length r.older) ≡ S.limits.frames = h.left in
      let same : r.core.registers 8 ≡ r.core.registers 0 = grind (arith, nat_tests) in
      let full : ltb (suc (length r.older)) S.limits.frames ≡ false = grind (arith, nat_tests) in
      let g0 = begin S.image (sizes S) k r.core (call_words homes h.function r.frame.point k dest function (start_of S function) args) (its_words S r.frame.function h.function r.frame.point (Call dest function args) h.there item) in
      let low : 8 < 2 ^ 64 = omega arith in
      let ends = finishes S.image (sizes S) 8 (Faulted fault.Frames) low zero_is refl (not_taken S.image (sizes S) none g0) in
      let is : step S.p S.limits s ≡ faulted fault.Frames s = step_at S s t r (Some (Call dest function args)) item ∙ ap (λ b. cond b (with_frames (new_frame function values ∷ r.frame ∷ r.older) s) (faulted fault.Frames s)) full in
      let count : 0 + 1 + 1 + 1 + 1 ≡ 4 = refl in
      let next = next_entry S r.frame.function h.function r.frame.point (Call dest function args) h.there item in
      faults_moves S s t r fault.Frames (called_off 8 r.core) 4 is (keeps_called_off r.core 8) (ends_in 4 count ends) (omega arith) (omega arith) (omega arith)

  -- ---- the cores of a call

  -- when one frame less may be made
  abbrev counted_core : Core
  counted_core = written r.core 8 ((r.core.registers 8 + (2 ^ 64 - 1)) % 2 ^ 64)

  -- homes are as before
  counted_homes : (x : Location) → IsSlotOf r.holds.function (slot_of x) → home_word counted_core r.holds.base (home_at (S.homes r.frame.function) x) ≡ home_word r.core r.holds.base (home_at (S.homes r.frame.function) x)
  counted_homes x in_g =
      home_unwritten r.core 8 ((r.core.registers 8 + (2 ^ 64 - 1)) % 2 ^ 64) r.holds.base (home_at (S.homes r.frame.function) x) refl (usable_in S r.frame.function r.holds.function r.holds.there (slot_of x) in_g)

  -- the word to which the called function returns
  abbrev back : ℕ
  back = return_word (S.homes r.frame.function) r.holds.function r.frame.point (here S s t r) dest function args

  -- What a call did: it kept registers in the caller's frame, passed arguments and made the frame, and the called function kept the
  -- way back, unless it is a leaf.
  record Called (last : Core) : Type 0 where
    kept : Core
    passed : Core
    keeps : Saved r.holds.base (kept_moves (S.homes r.frame.function) r.holds.function r.frame.point dest) counted_core kept
    passes : Passed (S.homes r.frame.function) r.holds.function function r.holds.base args kept passed
    registers : (q : ℕ) → IsUsable (Reg q) → last.registers q ≡ passed.registers q
    others : (k : ℕ) → k ≢ r.holds.base + r.holds.function.words → last.stack k ≡ passed.stack k
    way : way_of (S.homes function).leaf last (r.holds.base + r.holds.function.words) ≡ 4 * back
    base : last.registers 2 ≡ stack_base + 8 * (r.holds.base + r.holds.function.words)
    null : last.registers 0 ≡ 0
    left : last.registers 8 + suc (suc (length r.older)) ≡ S.limits.frames

  -- ---- the new frame

  module _ (finds : CallFinds S.p S.slots r.frame dest function args) (used : AllByRecursion (λ a. IsSlotOf r.holds.function (Variable a)) args) (last : Core) (c : Called last) where
    -- the words of older frames are as the call kept them
    under : (k : ℕ) → k < r.holds.base + r.holds.function.words → last.stack k ≡ c.kept.stack k
    under k lt = c.others k (λ x. absurd (omega arith)) ∙ c.passes.below k lt

    -- ---- what the caller needs

    low : (k : ℕ) → k < r.holds.base + 2 → last.stack k ≡ r.core.stack k
    low k lt =
        let h = r.holds in
        let o = source S (length s.blocks) r.frame r.older r.core h in
        let fit = slots_fit o.function h.function o.is in
        under k (omega arith) ∙ low_kept S r.frame.function h.function h.there (suc r.frame.point) (outlives (S.homes r.frame.function) r.frame.point dest) (call_passes (S.homes r.frame.function) r.frame.point dest) h.base counted_core c.kept c.keeps k lt

    kept_word : (x : Location) → IsLive (code_of S.p r.frame.function) x (suc r.frame.point) → (Contains (assigns_at (slice_get (code_of S.p r.frame.function) r.frame.point)) x → ⊥) →
        own_word r.holds.function r.holds.base last.stack x ≡ home_word r.core r.holds.base (home_at (S.homes r.frame.function) x)
    kept_word x live not_own =
        let h = r.holds in
        let homes = S.homes r.frame.function in
        let in_x = live_in S r.frame h.function h.there x (suc r.frame.point) live in
        let fits = live_fits S r.frame h.function h.there x (suc r.frame.point) live in
        let told = ((serving S r.frame.function h.function h.there).live (suc r.frame.point) x).1 live in
        let other = other_variable dest x (λ i. not_own (assigns_it S r.frame h.function h.there (Call dest function args) item x i)) in
        under (h.base + slot_word h.function (slot_of x)) (omega arith)
        ∙ (own_holds S r.frame.function h.function h.there (suc r.frame.point) (outlives homes r.frame.point dest) (call_passes homes r.frame.point dest) h.base counted_core c.kept c.keeps (slot_of x) in_x
        (λ register. call_chooses homes r.frame.point dest (slot_of x) told other register)
        ∙ counted_homes x in_x)

    kept : (x : Location) (v : Value) → IsLive (code_of S.p r.frame.function) x (suc r.frame.point) → (Contains (assigns_at (slice_get (code_of S.p r.frame.function) r.frame.point)) x → ⊥) → location_value r.frame.locations x ≡ Some v →
        HasWord (length s.blocks) v (own_word r.holds.function r.holds.base last.stack x)
    kept x v live not_own held =
        let h = r.holds in
        let next = goes S r.frame h.function h.there (Call dest function args) item (edge.onward r.frame.point) (inl refl) in
        subst (HasWord (length s.blocks) v) (sym (kept_word x live not_own)) (h.holds.homes_hold.at x v (Live (Later r.frame.point (edge.onward r.frame.point) (inl (next, refl)) not_own live)) held)

    -- ---- what the called function needs

    -- the homes of the caller are as they were, when arguments are passed
    kept_home : (slot : Slot) → IsSlotOf r.holds.function slot → home_word c.kept r.holds.base ((S.homes r.frame.function).home slot) ≡ home_word r.core r.holds.base ((S.homes r.frame.function).home slot)
    kept_home slot in_g =
        let homes = S.homes r.frame.function in
        home_stays S r.frame.function r.holds.function r.holds.there (suc r.frame.point) (outlives homes r.frame.point dest) (call_passes homes r.frame.point dest) r.holds.base counted_core c.kept c.keeps slot in_g
        ∙ home_unwritten r.core 8 ((r.core.registers 8 + (2 ^ 64 - 1)) % 2 ^ 64) r.holds.base (homes.home slot) refl (usable_in S r.frame.function r.holds.function r.holds.there slot in_g)

    given : (i : ℕ) (v : Value) → slice_get values i ≡ Some v → IsSlotOf finds.callee (Variable i) → (S.homes function).live 0 (Variable i) ≡ true →
        HasWord (length s.blocks) v (home_word last (r.holds.base + r.holds.function.words) ((S.homes function).home (Variable i)))
    given i v e in_i told =
        let lives = each_live (λ x. IsLive (code_of S.p r.frame.function) x r.frame.point) args (reads S s t r (Call dest function args) item) in
        let p = values_held S s t r args finds.holds used lives i v e in
        subst (HasWord (length s.blocks) v)
        (sym (given_word S s t r function finds.callee finds.there args c.kept c.passed last c.passes c.registers c.others i p.variable p.at in_i told ∙ kept_home (Variable p.variable) p.in_g)) p.word

    new_holds : FramesHold S (length s.blocks) (new_frame function values) (r.frame ∷ r.older) last
    new_holds = record {
      function = finds.callee;
      there = finds.there;
      base = r.holds.base + r.holds.function.words;
      at = c.base;
      zero_is = c.null;
      left = c.left;
      deep = deeper r.holds.base r.holds.function.words (widest S) (length r.older) r.holds.deep (S.laid.frames r.frame.function r.holds.function r.holds.there);
      holds = record {
        homes_hold = arguments_home S (length s.blocks) function finds.callee finds.there values (r.holds.base + r.holds.function.words) last given;
        saves_hold = tt;
        steady = tt;
      };
      older_hold = (
        record {
          function = r.holds.function;
          there = r.holds.there;
          dest = dest;
          args = args;
          here = item;
          takes = finds.takes;
          alone = finds.alone;
          below = r.holds.base;
          ends = refl;
          deep = r.holds.deep;
          way = c.way;
          kept = kept;
        },
        older_kept S (length s.blocks) r.frame.function r.holds.base (way_of (S.homes r.frame.function).leaf r.core r.holds.base) (last.stack r.holds.base) r.older r.core.stack last.stack
            (low r.holds.base (omega arith) ∙ way_in_frame S r.frame.function r.holds.function r.holds.there r.frame.point dest function args item r.core r.holds.base) (λ k lt. low k (omega arith)) r.holds.older_hold,
      );
    }

  -- ---- the words of the call

  -- the core when the frame was made, and when the way back was kept in its first word, unless the called function is a leaf
  abbrev linked_core : Core → ℕ → Core
  linked_core e link = written (other_frame S.image (sizes S) e (bytes_up r.holds.function.words) (stack_base + 8 * (r.holds.base + r.holds.function.words))) 1 link

  abbrev made_core : Core → ℕ → Core
  made_core e link = kept_way (S.homes function).leaf (linked_core e link) (r.holds.base + r.holds.function.words)

  made_register : (e : Core) (link q : ℕ) → IsUsable (Reg q) → (made_core e link).registers q ≡ e.registers q
  made_register e link q usable =
      let by = bytes_up r.holds.function.words in
      let n = stack_base + 8 * (r.holds.base + r.holds.function.words) in
      assigned_other (other_frame S.image (sizes S) e by n).registers 1 link q (apart_from 1 q refl usable)
      ∙ (assigned_other (written e 7 (seventh_left S.image (sizes S) e by)).registers 2 n q (apart_from 2 q refl usable) ∙ assigned_other e.registers 7 (seventh_left S.image (sizes S) e by) q (apart_from 7 q refl usable))

  made_left : (e : Core) (link : ℕ) → e.registers 8 ≡ counted_core.registers 8 → 1 ≤ r.core.registers 8 → (made_core e link).registers 8 + suc (suc (length r.older)) ≡ S.limits.frames
  made_left e link same some =
      let few : S.limits.frames ≤ 65536 = S.limits.few_frames in
      let left : r.core.registers 8 + suc (length r.older) ≡ S.limits.frames = r.holds.left in
      let now : e.registers 8 ≡ (r.core.registers 8 + (2 ^ 64 - 1)) % 2 ^ 64 = same in
      omega arith

  made_step : ltb (suc (length r.older)) S.limits.frames ≡ true → step S.p S.limits s ≡ with_frames (new_frame function values ∷ r.frame ∷ r.older) s
  made_step room =
      step_at S s t r (Some (Call dest function args)) item
      ∙ ap (λ b. cond b (with_frames (new_frame function values ∷ r.frame ∷ r.older) s) (faulted fault.Frames s)) room

  -- how many words the call has from its fifth one to its jump
  abbrev keeping : ℕ
  keeping = save_size (kept_moves (S.homes r.frame.function) r.holds.function r.frame.point dest)

  abbrev passing : ℕ
  passing = pass_size (S.homes r.frame.function) r.holds.function function args

  -- the jump of the call is where its words before it end, and the next word is the way back
  at_jump : here S s t r + 1 + length (fault_words 8) + 1 + keeping + passing + frame_by_size (bytes_up r.holds.function.words) ≡ here S s t r + before_call (S.homes r.frame.function) r.holds.function r.frame.point dest function args
  at_jump = omega arith

  at_back : 4 * (here S s t r + 1 + length (fault_words 8) + 1 + keeping + passing + frame_by_size (bytes_up r.holds.function.words) + 1) ≡ 4 * back
  at_back = omega arith

  -- the words of the call after its arguments
  abbrev last_words : List Word
  last_words =
      frame_by_words (bytes_up r.holds.function.words)
      ++ Jal 1 (jump_offset (here S s t r + before_call (S.homes r.frame.function) r.holds.function r.frame.point dest function args) (start_of S function)) ∷ after_call (S.homes r.frame.function) r.holds.function r.frame.point dest

  -- the arguments were passed: the new frame becomes the frame
  made_moves : (finds : CallFinds S.p S.slots r.frame dest function args) → AllByRecursion (λ a. IsSlotOf r.holds.function (Variable a)) args → (d e : Core) → Saved r.holds.base (kept_moves (S.homes r.frame.function) r.holds.function r.frame.point dest) counted_core d →
      Passed (S.homes r.frame.function) r.holds.function function r.holds.base args d e → 1 ≤ r.core.registers 8 → r.holds.base + r.holds.function.words + finds.callee.words ≤ S.image.stack → 2 ≤ finds.callee.words →
      Going S.image (sizes S) (here S s t r) r.core (0 + 1 + 1 + keeping + passing) (here S s t r + 1 + length (fault_words 8) + 1 + keeping + passing) e last_words → Moves S s t
  made_moves finds used d e saved passed one_left within two_words g =
      let h = r.holds in
      let func = h.function in
      let callee = finds.callee in
      let homes = S.homes r.frame.function in
      let k = here S s t r in
      let n = h.base + func.words in
      let few = stack_few S in
      let left : r.core.registers 8 + suc (length r.older) ≡ S.limits.frames = h.left in
      let room : ltb (suc (length r.older)) S.limits.frames ≡ true = grind (arith, nat_tests) in
      let low_next = S.laid.few_entries r.frame.function (suc r.frame.point) in
      let next = next_entry S r.frame.function func r.frame.point (Call dest function args) h.there item in
      let low_start = S.laid.few_starts function in
      let rest = rest_on counted_core d e saved.rest passed.rest in
      let two_is : e.registers 2 ≡ stack_base + 8 * h.base = rest.frame_register ∙ h.at in
      let g3 = frame_up S.image (sizes S) h.base func.words two_is (omega arith) g in
      let small_jump : k + before_call homes func r.frame.point dest function args < 2 ^ 20 = omega arith in
      let small_start : start_of S function < 2 ^ 20 = omega arith in
      let runs4 = call_to S.image (sizes S) (k + before_call homes func r.frame.point dest function args) (start_of S function) at_jump small_jump small_start g3 in
      let g5 = begin_there S.image (sizes S) (keep_way_words (S.homes function)) runs4 (S.laid.begins function callee finds.there) in
      let g6 = keep_goes S.image (sizes S) few (S.homes function) n (refl {a = stack_base + 8 * n}) (omega arith) (with_end (keep_way_words (S.homes function)) g5) in
      let link = 4 * (k + 1 + length (fault_words 8) + 1 + keeping + passing + frame_by_size (bytes_up func.words) + 1) in
      let last = made_core e link in
      let called : Called last = record {
        kept = d;
        passed = e;
        keeps = saved;
        passes = passed;
        registers = λ q usable. made_register e link q usable;
        others = λ x ne. assigned_other e.stack n (cond (S.homes function).leaf (e.stack n) link) x ne;
        way = kept_way_is (S.homes function).leaf (linked_core e link) n ∙ at_back;
        base = refl {a = stack_base + 8 * n};
        null = rest.zero_register ∙ h.zero_is;
        left = made_left e link rest.frames_left one_left;
      } in
      let caller = origin S r.frame.function func h.there in
      let keep_most = call_moves_most homes caller.function func caller.is (homes_in S r.frame.function func h.there) r.frame.point dest in
      let most = pass_most homes func function 0 args in
      let up_size = frame_by_most (bytes_up func.words) in
      let keep_size = keep_way_size (S.homes function) in
      let keep_few = keep_way_most (S.homes function) in
      let first = S.laid.first function callee finds.there in
      let up = frame_by_size (bytes_up func.words) in
      let count : 0 + 1 + 1 + keeping + passing + up + 1 + (0 + keep_size) ≡ suc (keeping + passing + up + 2 + keep_size) = omega arith in
      let place : start_of S function + keep_size ≡ entry_of S function 0 = omega arith in
      arrive S s t r (with_frames (new_frame function values ∷ r.frame ∷ r.older) s) (new_frame function values) (r.frame ∷ r.older) last (keeping + passing + up + 2 + keep_size) (made_step room) refl r.running
      (r.printed ∙ sym rest.printed) (new_holds finds used last called)
      (memory_by S s.blocks r.core last rest.table rest.cells rest.blocks rest.next_free r.memory) (guards_by S s t r last rest.arrivals)
      (comes_in S (suc (keeping + passing + up + 2 + keep_size)) (entry_of S function 0) count refl
      (comes_on S (away S s t r (omega arith) runs4) (landed (0 + keep_size) (entry_of S function 0) refl place g6) (opening_inner S function callee finds.there))) (omega arith)

  -- a frame is made
  framed : CallFinds S.p S.slots r.frame dest function args → AllByRecursion (λ a. IsSlotOf r.holds.function (Variable a)) args → not (eqb (r.core.registers 8) (r.core.registers 0)) ≡ true → Moves S s t
  framed finds used some =
      let h = r.holds in
      let func = h.function in
      let callee = finds.callee in
      let homes = S.homes r.frame.function in
      let point = r.frame.point in
      let k = here S s t r in
      let zero_is : r.core.registers 0 ≡ 0 = h.zero_is in
      let left : r.core.registers 8 + suc (length r.older) ≡ S.limits.frames = h.left in
      let one_left : 1 ≤ r.core.registers 8 = grind (arith, nat_tests) in
      let target = origin S function callee finds.there in
      let callee_fit = slots_fit target.function callee target.is in
      let callee_variables = variables_fit target.function callee target.is in
      let fits : length args ≤ callee.variables = finds.fits in
      let deep = deeper h.base func.words (widest S) (length r.older) h.deep (S.laid.frames r.frame.function func h.there) in
      let deep_callee = deeper (h.base + func.words) callee.words (widest S) (suc (length r.older)) deep (S.laid.frames function callee finds.there) in
      let enough : suc (suc (length r.older)) ≤ S.limits.frames = omega arith in
      let within : h.base + func.words + callee.words ≤ S.image.stack = le_trans deep_callee (le_trans (mul-le-mul_right (widest S) enough) (stack_room S)) in
      let low_k = S.laid.few_entries r.frame.function point in
      let g0 = begin S.image (sizes S) k r.core (call_words homes func point k dest function (start_of S function) args) (its_words S r.frame.function func point (Call dest function args) h.there item) in
      let small_k : k < 2 ^ 20 = omega arith in
      let few_skipped : length (fault_words 8) < 2 ^ 20 = omega arith in
      let passes = pass_words homes func function args ++ last_words in
      let g1 = taken S.image (sizes S) (fault_words 8) (addi 8 8 (negsuc 0) ∷ (save_words (kept_moves homes func point dest) ++ passes)) small_k few_skipped some g0 in
      let g2 = plain S.image (sizes S) tt g1 in
      let kept = saves_own S r.frame.function func h.there (suc point) (outlives homes point dest) (call_passes homes point dest) h.base (omega arith) counted_core passes h.at g2 in
      let room : h.base + (func.words + (frame_head + length args)) ≤ S.image.stack = omega arith in
      let apart = given_apart S r.frame.function function callee finds.there in
      let usable = given_fits S r.frame.function function callee finds.there in
      let q = passes_go homes func function apart usable h.base S.image (sizes S) (stack_few S) args (all_found S s t r args used) room kept.core last_words (kept.is.rest.frame_register ∙ h.at) kept.going in
      made_moves finds used kept.core q.0 kept.is q.1 one_left within (omega arith) q.2

  pub call_moves : CallFinds S.p S.slots r.frame dest function args → AllByRecursion (λ a. IsSlotOf r.holds.function (Variable a)) args → Moves S s t
  call_moves finds used = by_test (not (eqb (r.core.registers 8) (r.core.registers 0))) refl
    where
      by_test : (b : Bool) → not (eqb (r.core.registers 8) (r.core.registers 0)) ≡ b → Moves S s t
      by_test true e = framed finds used e
      by_test false e = frameless e
