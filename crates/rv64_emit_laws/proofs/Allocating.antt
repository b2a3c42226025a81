-- The item that makes a block.
use Rattle.std.proofs.Common.{◌≡◌, ◌≢◌, ℕ, suc, ◌+◌, ◌*◌, ◌^◌, ◌≤◌, refl, sym, ap, ◌∙◌, subst, arith, List, [], ◌∷◌, ◌++◌, length, Option, Some, None, pos, inl}
use Rattle.std.specs.Prelude.{slice_get}
use Rattle.bril_tree.specs.declared.limits.Fault.{Fault}
use Rattle.bril_tree.specs.declared.value.Value.TheVariants.{Int, Ptr}
use Rattle.bril_tree.specs.Memory.{allocation_fault, cells_of, new_block}
use Rattle.bril_tree.specs.Outcome.{int_of}
use Rattle.bril_tree.specs.State as bril
use Rattle.bril_tree.specs.Step.{step, allocates}
use Rattle.rv64_words_laws.specs.blocks.Laws.{CoreHolds}
use Rattle.rv64_words_laws.proofs.lemmas.blocks.Allocating.{faults_alike, allocation_keeps}
use Rattle.rv64_words_laws.proofs.lemmas.blocks.Lists.{pushed_length}
use Rattle.rv64_words_laws.specs.stretches.Core.{Core, with_block}
use Rattle.rv64_words_laws.proofs.lemmas.stretches.Calls.{block_fault, allocate, allocate_faults}
use Rattle.rv64_words.proofs.Assigned.{assigned_other}
use Rattle.rv64_words_laws.proofs.lemmas.stretches.Cores.{apart_from}
use Rattle.rv64_words_laws.proofs.lemmas.stretches.Going.{begin}
use Rattle.rv64_words_laws.specs.sequences.Moves.{fetch_size, fetch_words, fill_words}
use Rattle.rv64_words_laws.proofs.lemmas.sequences.Sizes.{fetch_most}
use Rattle.rv64_words.specs.declared.word.Word.{Word}
use Rattle.rv64_words.specs.declared.word.Word.TheVariants.{Ecall}
use Rattle.rv64_words.specs.Mnemonics.{addi}
use Rattle.rv64_words.specs.State.{State}
use Rattle.slot_code.specs.declared.item.Slot.TheVariants.{Variable}
use Rattle.slot_code.specs.declared.item.SlotItem.TheVariants.{Alloc}
use Rattle.slot_code.specs.Laws.{IsSlotOf}
use Rattle.rv64_emit_laws.proofs.Acting.{fills_slot}
use Rattle.rv64_emit_laws.proofs.Arriving.{Moves, faults_moves, here, home_here, memory_kept, step_at}
use Rattle.rv64_emit_laws.proofs.Asking.{Asked, asks}
use Rattle.rv64_emit_laws.proofs.Holding.{keeps_homes}
use Rattle.rv64_emit_laws.proofs.Operands.{holds_slot, read_is, unchanged}
use Rattle.rv64_emit_laws.proofs.Ready.{HoldsInt}
use Rattle.rv64_emit_laws.proofs.Relation.{HasWord, RunsAlike}
use Rattle.rv64_emit_laws.proofs.Remembering.{KeepsFrames, fills_moves}
use Rattle.rv64_emit_laws.proofs.Setting.{Setting, its_words, next_entry, sizes}

ten_not_six : ◌≢◌ {A = ℕ} 10 6
ten_not_six = λ e. absurd (omega arith)

module _ (S : Setting) (s : bril.State) (t : State) (r : RunsAlike S s t) (dest count : ℕ) (item : slice_get r.holds.function.code r.frame.point ≡ Some (Alloc dest count)) (held : HoldsInt r.frame.locations count) (in_count : IsSlotOf r.holds.function (Variable count)) where
  -- the words behind the argument and the number of the call
  abbrev rest : List Word
  rest = Ecall ∷ fill_words 10 (home_here S s t r (Variable dest))

  -- the step, where it is known whether there is a block
  stepped : (o : Option Fault) → allocation_fault S.limits.cells s.blocks held.number ≡ o → step S.p S.limits s ≡ allocates S.p S.limits o held.number (Some dest) r.frame r.older s
  stepped o e =
      step_at S s t r (Some (Alloc dest count)) item
      ∙ (ap (λ v. allocates S.p S.limits (allocation_fault S.limits.cells s.blocks (int_of v)) (int_of v) (Some dest) r.frame r.older s) (read_is r.frame.locations (Variable count) (Int held.number) held.is)
      ∙ ap (λ f. allocates S.p S.limits f held.number (Some dest) r.frame r.older s) e)

  before : Asked S s t r 6 count (Int held.number) 0 (here S s t r) r.core rest
  before =
      asks S s t r 6 count (Int held.number) (omega arith) (holds_slot S s t r (Alloc dest count) item (Variable count) (Int held.number) (inl refl) in_count held.is) (unchanged S s t r)
      (begin S.image (sizes S) (here S s t r) r.core (fetch_words 10 (home_here S s t r (Variable count)) ++ (addi 17 0 (pos 6) ∷ rest)) (its_words S r.frame.function r.holds.function r.frame.point (Alloc dest count) r.holds.there item))

  module _ (a : Asked S s t r 6 count (Int held.number) 0 (here S s t r) r.core rest) where
    memory : CoreHolds (sizes S) s.blocks a.core
    memory = memory_kept S s.blocks r.core a.core a.keeps r.memory

    fault_is : block_fault (sizes S) a.core (a.core.registers 10) ≡ allocation_fault S.limits.cells s.blocks held.number
    fault_is = ap (block_fault (sizes S) a.core) a.word.is ∙ faults_alike (sizes S) S.limits.cells s.blocks a.core refl memory held.number held.fits

    abbrev blocks_now : List bril.Block
    blocks_now = s.blocks ++ new_block (cells_of held.number) ∷ []

    abbrev last : Core
    last = with_block (sizes S) (a.core.registers 10) a.core

    block_kept : KeepsFrames S s t r last
    block_kept =
        let k = keeps_homes r.core a.core a.keeps in
        record {
          homes = record { zero_register = k.zero_register; link_register = k.link_register; frame_register = k.frame_register; frames_left = k.frames_left; homes = λ x is. assigned_other a.core.registers 10 _ x (apart_from 10 x refl is) ∙ k.homes x is; stack = k.stack };
          printed = a.keeps.printed;
          arrivals = a.keeps.arrivals;
        }

    pointer_is : HasWord (length blocks_now) (Ptr (suc (length s.blocks)) (pos 0)) (suc a.core.blocks * 2 ^ 32)
    pointer_is =
        let made : a.core.blocks ≡ length s.blocks = a.keeps.blocks ∙ r.memory.count in
        let long : length blocks_now ≡ suc (length s.blocks) = pushed_length s.blocks (new_block (cells_of held.number)) in
        let whole : suc (length s.blocks) * 2 ^ 32 ≡ suc (length s.blocks) * 2 ^ 32 + 0 = omega arith in
        record { is = ap (λ x. suc x * 2 ^ 32) made ∙ whole; known = omega arith }

    allocated : allocation_fault S.limits.cells s.blocks held.number ≡ None → CoreHolds (sizes S) blocks_now last
    allocated none = subst (λ x. CoreHolds (sizes S) blocks_now (with_block (sizes S) x a.core)) (sym a.word.is) (allocation_keeps (sizes S) S.limits.cells s.blocks a.core refl memory held.number none)

    by_fault : 128 ≤ S.cost → IsSlotOf r.holds.function (Variable dest) → (o : Option Fault) → allocation_fault S.limits.cells s.blocks held.number ≡ o → Moves S s t
    by_fault dear in_dest (Some kind) e =
        let size = fetch_most (home_here S s t r (Variable count)) in
        let next = next_entry S r.frame.function r.holds.function r.frame.point (Alloc dest count) r.holds.there item in
        let ends = allocate_faults S.image (sizes S) kind a.number_is (fault_is ∙ e) a.going in
        faults_moves S s t r kind a.core (0 + fetch_size (home_here S s t r (Variable count)) + 1 + 1) (stepped (Some kind) e) a.keeps ends (omega arith) (omega arith) (omega arith)
    by_fault dear in_dest None e =
        let home = home_here S s t r (Variable count) in
        let size = fetch_most home in
        let there = next_entry S r.frame.function r.holds.function r.frame.point (Alloc dest count) r.holds.there item in
        let g = allocate S.image (sizes S) a.number_is (fault_is ∙ e) a.going in
        let long : length blocks_now ≡ suc (length s.blocks) = pushed_length s.blocks (new_block (cells_of held.number)) in
        fills_moves S s t r blocks_now (Variable dest) (Ptr (suc (length s.blocks)) (pos 0)) 10 last (0 + fetch_size home + 1 + 1) (here S s t r + fetch_size home + 1 + 1) (omega arith) in_dest
        (fills_slot S r.frame r.holds.function r.holds.there (Alloc dest count) item (Variable dest) (inl refl) refl) ten_not_six pointer_is block_kept (allocated e) (stepped None e) g (omega arith) (omega arith)

pub alloc_moves : (S : Setting) (s : bril.State) (t : State) (r : RunsAlike S s t) (dear : 128 ≤ S.cost) (dest count : ℕ) → slice_get r.holds.function.code r.frame.point ≡ Some (Alloc dest count) → HoldsInt r.frame.locations count →
    IsSlotOf r.holds.function (Variable dest) → IsSlotOf r.holds.function (Variable count) → Moves S s t
alloc_moves S s t r dear dest count item held in_dest in_count = by_fault S s t r dest count item held in_count (before S s t r dest count item held in_count) dear in_dest (allocation_fault S.limits.cells s.blocks held.number) refl
