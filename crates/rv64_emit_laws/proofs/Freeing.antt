-- The item that frees a block.
use Rattle.std.proofs.Common.{◌≡◌, ℕ, suc, ◌+◌, ◌/◌, ◌^◌, ◌≤◌, Bool, true, false, cond, refl, sym, ap, ◌∙◌, subst, arith, [], ◌∷◌, ◌++◌, length, Some, pos, inl}
use Rattle.std.specs.Prelude.{slice_get}
use Rattle.bril_tree.specs.declared.limits.Fault.TheVariants as fault
use Rattle.bril_tree.specs.declared.value.Value.TheVariants.{Ptr}
use Rattle.bril_tree.specs.Memory.{live_block, changed_block, is_freeable}
use Rattle.bril_tree.specs.State as bril
use Rattle.bril_tree.specs.Edge.{onward}
use Rattle.bril_tree.specs.Step.{step, advances, at_point, faulted, frees}
use Rattle.rv64_words_laws.specs.blocks.Laws.{CoreHolds}
use Rattle.rv64_words_laws.proofs.lemmas.blocks.Freeing.{dead, frees_alike, free_keeps}
use Rattle.rv64_words_laws.specs.stretches.Core.{Core, without_block}
use Rattle.rv64_words_laws.proofs.lemmas.stretches.Calls.{frees_block, free, free_faults}
use Rattle.rv64_words_laws.proofs.lemmas.stretches.Going.{begin}
use Rattle.rv64_words_laws.specs.sequences.Moves.{fetch_size, fetch_words}
use Rattle.rv64_words_laws.proofs.lemmas.sequences.Sizes.{fetch_most}
use Rattle.rv64_words_laws.proofs.lemmas.values.Pointers.{block_part}
use Rattle.rv64_words.specs.declared.word.Word.TheVariants.{Ecall}
use Rattle.rv64_words.specs.Mnemonics.{addi}
use Rattle.rv64_words.specs.State.{State}
use Rattle.slot_code.specs.declared.item.Slot.TheVariants.{Variable}
use Rattle.slot_code.specs.declared.item.SlotItem.TheVariants.{Free}
use Rattle.slot_code.specs.Laws.{IsSlotOf}
use Rattle.rv64_emit_laws.proofs.Acting.{leads}
use Rattle.rv64_emit_laws.proofs.Arriving.{Moves, arrive, faults_moves, guards_by, here, home_here, memory_kept, onto_next, step_at}
use Rattle.rv64_emit_laws.proofs.Asking.{Asked, asks}
use Rattle.rv64_emit_laws.proofs.Holding.{SameHomes, keeps_homes, moved_holds}
use Rattle.rv64_emit_laws.proofs.Operands.{holds_slot, read_is, unchanged}
use Rattle.rv64_emit_laws.proofs.Ready.{HoldsPointer}
use Rattle.rv64_emit_laws.proofs.Relation.{FramesHold, RunsAlike}
use Rattle.rv64_emit_laws.proofs.Remembering.{same_made}
use Rattle.rv64_emit_laws.proofs.Setting.{Setting, entry_of, its_words, next_entry, sizes}
use Rattle.rv64_emit_laws.proofs.Standing.{standing}
use Rattle.rv64_emit_laws.proofs.Stretches.{landed}

module _ (S : Setting) (s : bril.State) (t : State) (r : RunsAlike S s t) (dear : 128 ≤ S.cost) (pointer : ℕ) (item : slice_get r.holds.function.code r.frame.point ≡ Some (Free pointer)) (points : HoldsPointer r.frame.locations pointer) (in_pointer : IsSlotOf r.holds.function (Variable pointer)) where
  abbrev freed : bril.State
  freed = record s { blocks = changed_block s.blocks points.block dead }

  -- the step, where it is known whether the block is freed
  stepped : (b : Bool) → is_freeable (live_block s.blocks points.block) points.offset ≡ b → step S.p S.limits s ≡ cond b (advances S.p S.limits r.frame r.older freed) (faulted fault.BadFree s)
  stepped b e =
      step_at S s t r (Some (Free pointer)) item
      ∙ (ap (λ v. frees S.p S.limits v r.frame r.older s) (read_is r.frame.locations (Variable pointer) (Ptr points.block points.offset) points.is)
      ∙ ap (λ x. cond x (advances S.p S.limits r.frame r.older freed) (faulted fault.BadFree s)) e)

  before : Asked S s t r 7 pointer (Ptr points.block points.offset) 0 (here S s t r) r.core (Ecall ∷ [])
  before =
      asks S s t r 7 pointer (Ptr points.block points.offset) (omega arith) (holds_slot S s t r (Free pointer) item (Variable pointer) (Ptr points.block points.offset) (inl refl) in_pointer points.is) (unchanged S s t r)
      (begin S.image (sizes S) (here S s t r) r.core (fetch_words 10 (home_here S s t r (Variable pointer)) ++ (addi 17 0 (pos 7) ∷ Ecall ∷ [])) (its_words S r.frame.function r.holds.function r.frame.point (Free pointer) r.holds.there item))

  module _ (a : Asked S s t r 7 pointer (Ptr points.block points.offset) 0 (here S s t r) r.core (Ecall ∷ [])) where
    memory : CoreHolds (sizes S) s.blocks a.core
    memory = memory_kept S s.blocks r.core a.core a.keeps r.memory

    test_is : frees_block a.core (a.core.registers 10) ≡ is_freeable (live_block s.blocks points.block) points.offset
    test_is = ap (frees_block a.core) a.word.is ∙ frees_alike (sizes S) s.blocks a.core memory points.block points.offset a.word.known points.fits

    abbrev last : Core
    last = without_block (a.core.registers 10 / 2 ^ 32) a.core

    last_same : SameHomes r.core last
    last_same = let k = keeps_homes r.core a.core a.keeps in record { zero_register = k.zero_register; link_register = k.link_register; frame_register = k.frame_register; frames_left = k.frames_left; homes = k.homes; stack = k.stack }

    memory_freed : is_freeable (live_block s.blocks points.block) points.offset ≡ true → CoreHolds (sizes S) (changed_block s.blocks points.block dead) last
    memory_freed ok =
        let block : a.core.registers 10 / 2 ^ 32 ≡ points.block = ap (λ x. x / 2 ^ 32) a.word.is ∙ block_part points.block points.offset points.fits in
        subst (λ x. CoreHolds (sizes S) (changed_block s.blocks points.block dead) (without_block x a.core)) (sym block)
        (free_keeps (sizes S) s.blocks a.core memory points.block points.offset ok)

    by_test : (b : Bool) → is_freeable (live_block s.blocks points.block) points.offset ≡ b → Moves S s t
    by_test false e =
        let home = home_here S s t r (Variable pointer) in
        let size = fetch_most home in
        let next = next_entry S r.frame.function r.holds.function r.frame.point (Free pointer) r.holds.there item in
        let ends = free_faults S.image (sizes S) a.number_is (test_is ∙ e) a.going in
        faults_moves S s t r fault.BadFree a.core (0 + fetch_size home + 1 + 1) (stepped false e) a.keeps ends (omega arith) (omega arith) (omega arith)
    by_test true e =
        let home = home_here S s t r (Variable pointer) in
        let size = fetch_most home in
        let there = next_entry S r.frame.function r.holds.function r.frame.point (Free pointer) r.holds.there item in
        let k = a.keeps in
        let g = free S.image (sizes S) a.number_is (test_is ∙ e) a.going in
        let moved = moved_holds S (length s.blocks) r.frame r.older r.core r.holds (standing S s t r) (suc r.frame.point) (leads S r.frame r.holds.function r.holds.there (Free pointer) item (onward r.frame.point) (inl refl) refl refl) last last_same in
        let holds = subst (λ m. FramesHold S m (at_point (suc r.frame.point) r.frame) r.older last) (sym (same_made dead s.blocks points.block)) moved in
        let count : 0 + fetch_size home + 1 + 1 ≡ suc (fetch_size home + 1) = omega arith in
        let at : here S s t r + fetch_size home + 1 + 1 ≡ entry_of S r.frame.function (suc r.frame.point) = omega arith in
        arrive S s t r (advances S.p S.limits r.frame r.older freed) (at_point (suc r.frame.point) r.frame) r.older last (fetch_size home + 1) (stepped true e) refl r.running (r.printed ∙ sym k.printed)
        holds (memory_freed e) (guards_by S s t r last k.arrivals) (onto_next S s t r (landed (suc (fetch_size home + 1)) (entry_of S r.frame.function (suc r.frame.point)) count at g)) (omega arith)

pub free_moves : (S : Setting) (s : bril.State) (t : State) (r : RunsAlike S s t) (dear : 128 ≤ S.cost) (pointer : ℕ) → slice_get r.holds.function.code r.frame.point ≡ Some (Free pointer) → HoldsPointer r.frame.locations pointer →
    IsSlotOf r.holds.function (Variable pointer) → Moves S s t
free_moves S s t r dear pointer item points in_pointer = by_test S s t r dear pointer item points in_pointer (before S s t r dear pointer item points in_pointer) (is_freeable (live_block s.blocks points.block) points.offset) refl
