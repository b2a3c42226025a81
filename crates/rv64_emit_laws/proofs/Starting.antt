-- The first words of an image lead to the first item of `main`, which its program starts at.
use Rattle.std.proofs.Common.{◌≡◌, ℕ, zero, suc, ◌+◌, ◌-◌, ◌*◌, ◌^◌, ◌<◌, ◌≤◌, true, cond, refl, sym, ap, ◌∙◌, subst, arith, List, [], ◌∷◌, length, map, length-take, mul-le-mul_right, Option, Some, None}
use Rattle.std.specs.Prelude.{All, slice_get, slice_index, take}
use Rattle.std.specs.List.{AllZip}
use Rattle.std.proofs.lemmas.List.{length-map}
use Rattle.std.proofs.lemmas.List.Elements.{All-head, All-tail}
use Rattle.simulation.specs.System.{after}
use Rattle.bril_tree.specs.declared.types.Base.{Base}
use Rattle.bril_tree.specs.declared.types.Base.TheVariants as base
use Rattle.bril_tree.specs.declared.types.Ty.{Ty}
use Rattle.bril_tree.specs.declared.value.Value.{Value}
use Rattle.bril_tree.specs.declared.value.Value.TheVariants.{Int, Bool as Boolean, Char, Ptr}
use Rattle.bril_tree.specs.Accepted.{IsPlainType}
use Rattle.bril_tree.specs.FrameWords.{frame_head}
use Rattle.bril_tree.specs.Outcome.{block_of}
use Rattle.bril_tree.specs.Run.{Suits, first_state, main_types, types_of}
use Rattle.bril_tree.specs.State as bril
use Rattle.bril_tree.specs.Step.{new_frame}
use Rattle.bril_tree.specs.Value.{IsOfDepth, word_of}
use Rattle.bril_tree.proofs.Elements.{zip-long}
use Rattle.rv64_emit_laws.specs.layout.Homes.{is_loaded, opening_moves}
use Rattle.rv64_emit_laws.specs.layout.Image.{end_start, head_words, main_moves, opening_or_none}
use Rattle.rv64_emit_laws.specs.layout.Items.{keep_way_size, keep_way_words}
use Rattle.rv64_emit_laws.proofs.lemmas.layout.Bounding.{keep_way_most, opening_most}
use Rattle.rv64_words_laws.specs.stretches.Core.{Core, machine, written}
use Rattle.rv64_words_laws.specs.stretches.Runs.{HasAt, Leaves}
use Rattle.rv64_words.proofs.Assigned.{assigned_other}
use Rattle.rv64_words_laws.proofs.lemmas.stretches.Cores.{apart_from, written_twice}
use Rattle.rv64_words.specs.declared.word.Word.TheVariants.{Jal}
use Rattle.slot_code.specs.declared.item.Slot.TheVariants.{Variable}
use Rattle.slot_code.specs.Laws.{IsSlotOf}
use Rattle.bril_tree.specs.declared.home.Home.{Home}
use Rattle.bril_tree.specs.declared.home.Home.TheVariants.{Reg, Frame}
use Rattle.std.proofs.lemmas.Option.{slice_get_within}
use Rattle.rv64_words_laws.proofs.lemmas.stretches.Going.{begin, begin_there, is_core, plain}
use Rattle.rv64_words_laws.specs.sequences.Moves.{IsUsable, Move, Restored, home_word, restore_size}
use Rattle.rv64_words_laws.specs.sequences.Sequences.{fault_words, high_part, jump_offset, low_part}
use Rattle.rv64_words_laws.proofs.lemmas.sequences.Digits.{small_again}
use Rattle.rv64_words_laws.proofs.lemmas.sequences.Jumps.{call_to}
use Rattle.rv64_words.specs.Arithmetic.{extended_32, moved_by}
use Rattle.rv64_words.specs.Machine.{machine_step}
use Rattle.rv64_words.specs.Region.{stack_base}
use Rattle.rv64_words.specs.State.{assigned, start, words_of}
use Rattle.type_soundness.proofs.Soundness.{main-there}
use Rattle.rv64_emit_laws.proofs.Between.{comes_away, comes_in, comes_on}
use Rattle.rv64_emit_laws.proofs.Entries.{IsBetween, head_inner, opening_inner}
use Rattle.rv64_emit_laws.proofs.Frames.{slots_fit, variables_fit}
use Rattle.rv64_emit_laws.proofs.Holding.{stack_few, stack_room}
use Rattle.rv64_emit_laws.proofs.Homes.{framed_in, homes_in, origin, usable_in}
use Rattle.rv64_emit_laws.proofs.Keeping.{arguments_home, home_loaded, loads_own, opening_chooses, opening_passes}
use Rattle.rv64_emit_laws.proofs.Relation.{FramesHold, HasWord, MemoryHolds, Related, run}
use Rattle.rv64_emit_laws.proofs.Setting.{Setting, entry_of, sizes, start_of, widest}
use Rattle.rv64_emit_laws.proofs.Sources.{LoweredAt, lowered_at}
use Rattle.rv64_emit_laws.proofs.Stretches.{landed, with_end}
use Rattle.rv64_emit_laws.proofs.Ways.{keep_goes, kept_way, kept_way_is}

-- ---- the arguments of `main`

plain_block : (depth : ℕ) (b : Base) (v : Value) → depth ≡ 0 → IsOfDepth depth b v → block_of v ≡ 0
plain_block zero b (Int n) e h = refl
plain_block zero c (Boolean b) e h = refl
plain_block zero b (Char c) e h = refl
plain_block zero base.Int (Ptr block offset) e h = absurd h
plain_block zero base.Bool (Ptr block offset) e h = absurd h
plain_block zero base.Char (Ptr block offset) e h = absurd h
plain_block (suc depth) b v e h = absurd (omega arith)

-- a plain value points to no block
plain_argument : (args : List Value) (ts : List (Option Ty)) (x : ℕ) (v : Value) → All IsPlainType ts → AllZip Suits args ts → slice_get args x ≡ Some v → block_of v ≡ 0
plain_argument [] ts x v plain fit e = absurd (let none : None ≡ Some v = e in cc)
plain_argument (u ∷ args) [] x v plain fit e = absurd fit
plain_argument (u ∷ args) (None ∷ ts) x v plain fit e = absurd fit.0
plain_argument (u ∷ args) (Some ty ∷ ts) zero v plain fit e =
    let same : u ≡ v = cc in
    ap block_of (sym same) ∙ plain_block ty.depth ty.base u (All-head IsPlainType (Some ty) ts plain) fit.0.1
plain_argument (u ∷ args) (Some ty ∷ ts) (suc x) v plain fit e = plain_argument args ts x v (All-tail IsPlainType (Some ty) ts plain) fit.1 e

-- an argument is in its word of the first frame
argument_word : (args : List Value) (x : ℕ) (v : Value) → slice_get args x ≡ Some v → words_of (0 ∷ 0 ∷ map word_of args) (frame_head + x) ≡ word_of v
argument_word args x v e = (let two : frame_head + x ≡ suc (suc x) = omega arith in ap (slice_index (0 ∷ 0 ∷ map word_of args)) two) ∙ by_list args x e
  where
    by_list : (args : List Value) (x : ℕ) → slice_get args x ≡ Some v → slice_index (map word_of args) x ≡ word_of v
    by_list [] x e = cc
    by_list (u ∷ args) zero e = let same : u ≡ v = cc in ap word_of same
    by_list (u ∷ args) (suc x) e = by_list args x e

module _ (S : Setting) where
  abbrev first_core : Core
  first_core = record {
    registers = assigned (λ _. 0) 2 stack_base;
    stack = words_of (0 ∷ 0 ∷ map word_of S.args);
    table = λ _. 0;
    cells = λ _. 0;
    blocks = 0;
    next_free = 0;
    printed = [];
    arrivals = λ _. 0;
  }

  main_is : S.slots.main ≡ S.p.main
  main_is = S.lowered.main

  pub main_function : LoweredAt S.slots S.p.main (main-there (slice_get S.p.funcs S.p.main) S.p.formed.main_is).0
  main_function = let main = main-there (slice_get S.p.funcs S.p.main) S.p.formed.main_is in lowered_at S.p S.slots S.lowered S.p.main main.0 main.1

  -- the stack has room for the first frame
  pub main_room : length S.args + frame_head ≤ S.image.stack
  main_room =
      let main = main-there (slice_get S.p.funcs S.p.main) S.p.formed.main_is in
      let g = main_function.function in
      let fit = slots_fit main.0 g main_function.is in
      let variables = variables_fit main.0 g main_function.is in
      let as_many = zip-long Suits S.args (main_types S.p) S.fit in
      let typed : length (main_types S.p) ≡ length (take main.0.args main.0.vars) = ap (λ o. length (types_of o)) main.1 ∙ length-map (take main.0.args main.0.vars) (λ v. v.ty) in
      let all : g.variables ≡ length main.0.vars = main_function.is.variables in
      let wide = S.laid.frames S.p.main g main_function.there in
      let one : 1 * widest S ≤ S.limits.frames * widest S = mul-le-mul_right (widest S) S.limits.some_frames in
      let room = stack_room S in
      omega (arith, length-take main.0.args main.0.vars)

  -- and the whole of it
  main_frame : 0 + main_function.function.words ≤ S.image.stack
  main_frame =
      let wide = S.laid.frames S.p.main main_function.function main_function.there in
      let one : 1 * widest S ≤ S.limits.frames * widest S = mul-le-mul_right (widest S) S.limits.some_frames in
      let room = stack_room S in
      omega arith

  -- `main` takes as many arguments as there are
  few_arguments : length S.args ≤ main_function.function.args
  few_arguments =
      let main = main-there (slice_get S.p.funcs S.p.main) S.p.formed.main_is in
      let as_many = zip-long Suits S.args (main_types S.p) S.fit in
      let typed : length (main_types S.p) ≡ length (take main.0.args main.0.vars) = ap (λ o. length (types_of o)) main.1 ∙ length-map (take main.0.args main.0.vars) (λ v. v.ty) in
      let taken : main_function.function.args ≡ main.0.args = main_function.is.args in
      omega (arith, length-take main.0.args main.0.vars)

  -- what brings the arguments of `main` into registers
  abbrev first_moves : List Move
  first_moves = opening_moves (S.homes S.p.main) main_function.function

  moves_are : main_moves S.homes S.slots ≡ first_moves
  moves_are = ap (λ m. opening_or_none (S.homes m) (slice_get S.slots.funcs m)) main_is ∙ ap (opening_or_none (S.homes S.p.main)) main_function.there

  -- the words that lead to the first item of `main`
  abbrev pub start_steps : ℕ
  start_steps = 3 + restore_size first_moves + keep_way_size (S.homes S.p.main)

  size_most : restore_size first_moves ≤ 23
  size_most =
      let o = origin S S.p.main main_function.function main_function.there in
      opening_most (S.homes S.p.main) o.function main_function.function o.is (homes_in S S.p.main main_function.function main_function.there)

  pub start_cheap : start_steps ≤ S.cost
  start_cheap =
      let e = S.is_cost.is in
      let keep_few = keep_way_most (S.homes S.p.main) in
      let most = size_most in
      omega arith

  -- the machine at the first item of `main`
  record Begun : Type 0 where
    core : Core
    done : ℕ
    steps : after (machine_step S.image (sizes S)) start_steps (start S.args) ≡ machine (entry_of S S.p.main 0) core done
    between : (i : ℕ) → 1 ≤ i → i < start_steps → IsBetween S (after (machine_step S.image (sizes S)) i (start S.args))
    holds : FramesHold S 0 (new_frame S.p.main S.args) [] core
    table : core.table ≡ (λ _. 0)
    cells : core.cells ≡ (λ _. 0)
    blocks : core.blocks ≡ 0
    next_free : core.next_free ≡ 0
    arrivals : core.arrivals ≡ (λ _. 0)
    printed : core.printed ≡ []

  -- what the machine is when register 8 has the number of frames
  abbrev counted_core : Core
  counted_core = written first_core 8 (moved_by (extended_32 (high_part (S.limits.frames - 1) * 4096)) (low_part (S.limits.frames - 1)))

  first_given : (x : ℕ) (v : Value) → slice_get S.args x ≡ Some v → HasWord 0 v (counted_core.stack (0 + (frame_head + x)))
  first_given x v held =
      let place : 0 + (frame_head + x) ≡ frame_head + x = omega arith in
      let none = plain_argument S.args (main_types S.p) x v S.accepted.main.takes_plain S.fit held in
      record { is = ap counted_core.stack place ∙ argument_word S.args x v held; known = omega arith }

  -- when its arguments are in registers, and when `main` was called and kept the way back, unless it is a leaf
  abbrev called_core : Core → Core
  called_core e = written e 1 (4 * (2 + restore_size first_moves + 1))

  abbrev entered_core : Core → Core
  entered_core e = kept_way (S.homes S.p.main).leaf (called_core e) 0

  -- homes are as before the call
  entered_home : (e : Core) (home : Home) → IsUsable home → ((o : ℕ) → home ≡ Frame o → 2 ≤ o) → home_word (entered_core e) 0 home ≡ home_word e 0 home
  entered_home e (Reg r) usable framed = assigned_other e.registers 1 (4 * (2 + restore_size first_moves + 1)) r (apart_from 1 r refl usable)
  entered_home e (Frame o) usable framed =
      let two = framed o refl in
      assigned_other e.stack 0 (cond (S.homes S.p.main).leaf (e.stack 0) (4 * (2 + restore_size first_moves + 1))) (0 + o) (λ same. absurd (omega arith))

  module _ (e : Core) (loads : Restored 0 first_moves counted_core e) where
    -- the arguments are at their homes
    first_arrives : (x : ℕ) (v : Value) → slice_get S.args x ≡ Some v → IsSlotOf main_function.function (Variable x) → (S.homes S.p.main).live 0 (Variable x) ≡ true →
        HasWord 0 v (home_word (entered_core e) 0 ((S.homes S.p.main).home (Variable x)))
    first_arrives x v held in_x told =
        let homes = S.homes S.p.main in
        let main = main_function.function in
        let few = few_arguments in
        let inside : x < length S.args = slice_get_within S.args x v held in
        let loaded = home_loaded S S.p.main main main_function.there 0 (is_loaded homes main) (opening_passes homes main) 0 counted_core e loads (Variable x) in_x
        (λ register. opening_chooses homes main x (omega arith) told register) in
        let entered = entered_home e (homes.home (Variable x)) (usable_in S S.p.main main main_function.there (Variable x) in_x) (λ o is. (let own = framed_in S S.p.main main main_function.there (Variable x) o in_x is in omega arith)) in
        subst (HasWord 0 v) (sym (entered ∙ loaded)) (first_given x v held)

    first_holds : FramesHold S 0 (new_frame S.p.main S.args) [] (entered_core e)
    first_holds = record {
      function = main_function.function;
      there = main_function.there;
      base = 0;
      at = loads.rest.frame_register;
      zero_is = loads.rest.zero_register;
      left = (
          let some = S.limits.some_frames in
          let few = S.limits.few_frames in
          let frames = S.limits.frames - 1 in
          let eight : moved_by (extended_32 (high_part frames * 4096)) (low_part frames) ≡ frames = small_again frames (omega arith) in
          let same = loads.rest.frames_left in
          omega arith);
      deep = omega arith;
      holds = record { homes_hold = arguments_home S 0 S.p.main main_function.function main_function.there S.args 0 (entered_core e) first_arrives; saves_hold = tt; steady = tt };
      older_hold = kept_way_is (S.homes S.p.main).leaf (called_core e) 0 ∙ back_is;
    }
      where
        back_is : 4 * (2 + restore_size first_moves + 1) ≡ 4 * end_start S.homes S.slots
        back_is = let same = ap restore_size moves_are in omega arith

  to_main : {n bound : ℕ} {e : Core} → Leaves S.image (sizes S) 0 first_core n bound (start_of S S.slots.main) e → Leaves S.image (sizes S) 0 first_core n bound (start_of S S.p.main) e
  to_main {n} {bound} {e} r = subst (λ m. Leaves S.image (sizes S) 0 first_core n bound (start_of S m) e) main_is r

  begun : Begun
  begun =
      let homes = S.homes S.p.main in
      let main = main_function.function in
      let size = restore_size first_moves in
      let start = start_of S S.slots.main in
      let g0 = begin S.image (sizes S) 0 first_core (head_words S.limits first_moves start) (subst (λ moves. HasAt S.image 0 (head_words S.limits moves start)) moves_are S.laid.head) in
      let high = extended_32 (high_part (S.limits.frames - 1) * 4096) in
      let g2 = is_core S.image (sizes S) counted_core (written_twice first_core 8 high _) (plain S.image (sizes S) tt (plain S.image (sizes S) tt g0)) in
      let jump = Jal 1 (jump_offset (2 + size) start) in
      let loads = loads_own S S.p.main main main_function.there 0 (is_loaded homes main) (opening_passes homes main) 0 main_frame counted_core (jump ∷ fault_words 0) refl g2 in
      let most = size_most in
      let small : 2 + size < 2 ^ 20 = omega arith in
      let low = S.laid.few_starts S.slots.main in
      let start_small : start < 2 ^ 20 = omega arith in
      let at_jump : 0 + 1 + 1 + size ≡ 2 + size = omega arith in
      let r3 = to_main (call_to S.image (sizes S) (2 + size) start at_jump small start_small loads.going) in
      let g4 = begin_there S.image (sizes S) (keep_way_words homes) r3 (S.laid.begins S.p.main main main_function.there) in
      let room = main_room in
      let in_0 : 0 < S.image.stack = omega arith in
      let g5 = keep_goes S.image (sizes S) (stack_few S) homes 0 loads.is.rest.frame_register in_0 (with_end (keep_way_words homes) g4) in
      let first = S.laid.first S.p.main main main_function.there in
      let keep_size = keep_way_size homes in
      let place : start_of S S.p.main + keep_size ≡ entry_of S S.p.main 0 = omega arith in
      let on = landed (0 + keep_size) (entry_of S S.p.main 0) refl place g5 in
      let count : 0 + 1 + 1 + size + 1 + (0 + keep_size) ≡ start_steps = omega arith in
      let same = ap restore_size moves_are in
      let r = comes_in S start_steps (entry_of S S.p.main 0) count refl (comes_on S (comes_away S r3 (λ w low high. head_inner S w (omega arith))) on (opening_inner S S.p.main main main_function.there)) in
      let rest = loads.is.rest in
      record {
        core = entered_core loads.core;
        done = r.done 0;
        steps = r.steps 0;
        between = r.between 0;
        holds = first_holds loads.core loads.is;
        table = rest.table;
        cells = rest.cells;
        blocks = rest.blocks;
        next_free = rest.next_free;
        arrivals = rest.arrivals;
        printed = rest.printed;
      }

  no_block : (table cells : ℕ → ℕ) → table ≡ (λ _. 0) → cells ≡ (λ _. 0) → MemoryHolds (sizes S) [] table cells 0 0
  no_block table cells no_table no_cells = record {
    first = λ _. 0;
    count = refl;
    few = omega arith;
    room = omega arith;
    each = λ k b e. absurd (none_there k e);
    lies = λ k b e. absurd (none_there k e);
    apart = λ j k a b e. absurd (none_there j e);
    free = λ k le. ap (λ m. m (2 * k)) no_cells;
    none = λ k lt. ap (λ m. m (2 * k + 1)) no_table;
    zero_block = ap (λ m. m 1) no_table;
  }
    where
      none_there : {b : bril.Block} → (k : ℕ) → slice_get [] k ≡ Some b → ⊥
      none_there zero e = cc
      none_there (suc k) e = cc

  -- and come to no item before
  pub start_between : (i : ℕ) → 1 ≤ i → i < start_steps → IsBetween S (after (machine_step S.image (sizes S)) i (start S.args))
  start_between = begun.between

  -- they lead to the program's first state
  pub start_related : Related S (first_state S.p S.limits S.args) (after (machine_step S.image (sizes S)) start_steps (start S.args))
  start_related = subst (Related S (first_state S.p S.limits S.args)) (sym begun.steps) (run (record {
    steps = 0;
    is = refl;
    frame = new_frame S.p.main S.args;
    older = [];
    frames = refl;
    running = refl;
    core = begun.core;
    done = begun.done;
    state = refl;
    holds = begun.holds;
    memory = subst (λ m. MemoryHolds (sizes S) [] begun.core.table begun.core.cells m begun.core.next_free) (sym begun.blocks)
        (subst (MemoryHolds (sizes S) [] begun.core.table begun.core.cells 0) (sym begun.next_free) (no_block begun.core.table begun.core.cells begun.table begun.cells));
    guards = λ k guard there. ap (λ m. m guard.word) begun.arrivals;
    printed = sym begun.printed;
  }))
