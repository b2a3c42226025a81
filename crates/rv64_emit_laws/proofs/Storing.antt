-- The item that stores a cell.
use Rattle.std.proofs.Common.{◌≡◌, ℕ, suc, ◌+◌, ◌*◌, ◌≤◌, true, false, refl, sym, ap, ◌∙◌, subst, arith, List, ◌++◌, length, Option, Some, None, inl, inr}
use Rattle.std.specs.Prelude.{slice_get}
use Rattle.bril_tree.specs.declared.value.Value.TheVariants.{Ptr}
use Rattle.bril_tree.specs.Memory.{cell_at, changed_block}
use Rattle.bril_tree.specs.State as bril
use Rattle.bril_tree.specs.Edge.{onward}
use Rattle.bril_tree.specs.Step.{step, advances, at_point, stores}
use Rattle.rv64_words_laws.specs.blocks.Laws.{CoreHolds}
use Rattle.rv64_words_laws.proofs.lemmas.blocks.Storing.{holding, store_keeps, stored_cells}
use Rattle.rv64_words_laws.specs.stretches.Core.{Core, Keeps, written, put_cell}
use Rattle.rv64_words_laws.proofs.lemmas.stretches.Going.{begin}
use Rattle.rv64_words_laws.specs.sequences.Moves.{fetch_size, fetch_words, register_for, source_size, source_words}
use Rattle.rv64_words_laws.specs.sequences.Operations.{cell_words, mark_cell_words, store_cell_words}
use Rattle.rv64_words_laws.proofs.lemmas.sequences.Sizes.{source_most}
use Rattle.rv64_words_laws.proofs.lemmas.values.Cells.{cell_marked, cell_stored}
use Rattle.rv64_words_laws.proofs.lemmas.values.Kept.{keeps_five, result_apart}
use Rattle.rv64_words.specs.declared.word.Word.{Word}
use Rattle.rv64_words.specs.Region.{cells_base}
use Rattle.rv64_words.specs.State.{State, assigned}
use Rattle.slot_code.specs.declared.item.Slot.TheVariants.{Variable}
use Rattle.slot_code.specs.declared.item.SlotItem.TheVariants.{Store}
use Rattle.slot_code.specs.Laws.{IsSlotOf}
use Rattle.slot_code.specs.Meaning.{read_slot}
use Rattle.rv64_emit_laws.proofs.Acting.{leads}
use Rattle.rv64_emit_laws.proofs.Arriving.{Moves, arrive, guards_by, here, home_here, memory_by, onto_next, step_at}
use Rattle.rv64_emit_laws.proofs.Holding.{SameHomes, home_usable, moved_holds, stack_few}
use Rattle.rv64_emit_laws.proofs.Operands.{Brought, brings, holds_slot, read_is, unchanged}
use Rattle.rv64_emit_laws.proofs.Pointing.{Pointed, AtCell, access_moves, at_cell}
use Rattle.rv64_emit_laws.proofs.Ready.{HoldsPointer, HoldsValue}
use Rattle.rv64_emit_laws.proofs.Registers.{takes_result}
use Rattle.rv64_emit_laws.proofs.Relation.{FramesHold, RunsAlike}
use Rattle.rv64_emit_laws.proofs.Remembering.{same_made}
use Rattle.rv64_emit_laws.proofs.Setting.{Setting, entry_of, its_words, next_entry, sizes}
use Rattle.rv64_emit_laws.proofs.Standing.{standing}
use Rattle.rv64_emit_laws.proofs.Stretches.{landed, with_end}

module _ (S : Setting) (s : bril.State) (t : State) (r : RunsAlike S s t) (dear : 128 ≤ S.cost) (pointer value : ℕ) (item : slice_get r.holds.function.code r.frame.point ≡ Some (Store pointer value)) (points : HoldsPointer r.frame.locations pointer)
    (holds : HoldsValue r.frame.locations (Variable value)) (in_pointer : IsSlotOf r.holds.function (Variable pointer)) (in_value : IsSlotOf r.holds.function (Variable value)) where
  -- the register in which the value is, and the words behind those that find the cell
  abbrev register : ℕ
  register = register_for 5 (home_here S s t r (Variable value))

  abbrev rest : List Word
  rest = mark_cell_words ++ (source_words 5 (home_here S s t r (Variable value)) ++ store_cell_words register)

  stepped : (o : Option ℕ) → cell_at s.blocks (Ptr points.block points.offset) ≡ o → step S.p S.limits s ≡ stores S.p S.limits o (Ptr points.block points.offset) holds.value r.frame r.older s
  stepped o e =
      step_at S s t r (Some (Store pointer value)) item
      ∙ (ap (λ v. stores S.p S.limits (cell_at s.blocks v) v (read_slot r.frame.locations (Variable value)) r.frame r.older s) (read_is r.frame.locations (Variable pointer) (Ptr points.block points.offset) points.is)
      ∙ (ap (λ v. stores S.p S.limits (cell_at s.blocks (Ptr points.block points.offset)) (Ptr points.block points.offset) v r.frame r.older s) (read_is r.frame.locations (Variable value) holds.value holds.is)
      ∙ ap (λ x. stores S.p S.limits x (Ptr points.block points.offset) holds.value r.frame r.older s) e))

  pointed : Pointed S s t r pointer points (cell_words ++ rest)
  pointed =
      let has = its_words S r.frame.function r.holds.function r.frame.point (Store pointer value) r.holds.there item in
      brings S s t r false 5 (Variable pointer) (Ptr points.block points.offset) refl (holds_slot S s t r (Store pointer value) item (Variable pointer) (Ptr points.block points.offset) (inl refl) in_pointer points.is) (unchanged S s t r)
      (begin S.image (sizes S) (here S s t r) r.core (fetch_words 5 (home_here S s t r (Variable pointer)) ++ (cell_words ++ rest)) has)

  module _ (n : ℕ) (there : cell_at s.blocks (Ptr points.block points.offset) ≡ Some n)
      (a : AtCell S s t r pointer points n rest) where
    abbrev at : ℕ
    at = r.memory.first points.block + n

    abbrev place : ℕ
    place = here S s t r + fetch_size (home_here S s t r (Variable pointer)) + 14

    -- the cell's mark is stored
    abbrev marked : Core
    marked = put_cell (written a.core 5 1) (2 * at) 1

    marked_keeps : Keeps r.core (written a.core 5 1)
    marked_keeps = keeps_five r.core a.core 1 a.keeps

    marked_same : SameHomes r.core marked
    marked_same = let k = marked_keeps in record { zero_register = k.zero_register; link_register = k.link_register; frame_register = k.frame_register; frames_left = k.frames_left; homes = k.homes; stack = k.stack }

    -- then a register has the value
    brought : Brought S s t r true 5 (Variable value) holds.value (a.steps + 1 + 1) (place + 1 + 1) marked (store_cell_words register)
    brought =
        brings S s t r true 5 (Variable value) holds.value refl (holds_slot S s t r (Store pointer value) item (Variable value) holds.value (inr (inl refl)) in_value holds.is) marked_same
        (cell_marked S.image (sizes S) at (stack_few S) (a.keeps.zero_register ∙ r.holds.zero_is) a.address a.inside a.small a.going)

    abbrev blocks_now : List bril.Block
    blocks_now = changed_block s.blocks points.block (holding n holds.value)

    module _ (q : Brought S s t r true 5 (Variable value) holds.value (a.steps + 1 + 1) (place + 1 + 1) marked (store_cell_words register)) where
      abbrev last : Core
      last = put_cell q.core (2 * at + 1) (q.core.registers register)

      memory : CoreHolds (sizes S) blocks_now last
      memory =
          let k = a.keeps in
          let w = q.core.registers register in
          memory_by S blocks_now (record r.core { cells = stored_cells r.core.cells at w }) last (q.keeps.table ∙ k.table) (ap (λ m. assigned m (2 * at + 1) w) q.keeps.cells ∙ ap (λ m. stored_cells m at w) k.cells) (q.keeps.blocks ∙ k.blocks) (q.keeps.next_free ∙ k.next_free)
          (store_keeps (sizes S) s.blocks r.core.table r.core.cells r.core.blocks r.core.next_free r.memory points.block n w points.offset holds.value a.cell q.word)

      last_same : SameHomes r.core last
      last_same =
          let k = q.keeps in
          let m = marked_same in
          record { zero_register = k.zero_register ∙ m.zero_register; link_register = k.link_register ∙ m.link_register; frame_register = k.frame_register ∙ m.frame_register; frames_left = k.frames_left ∙ m.frames_left; homes = λ x is. k.homes x is ∙ m.homes x is; stack = k.stack ∙ m.stack }

      -- register 7 has the cell's address still
      address : q.core.registers 7 ≡ cells_base + 16 * at
      address =
          let takes = takes_result (home_here S s t r (Variable value)) (home_usable S (length s.blocks) r.frame r.older r.core r.holds (Variable value) in_value) in
          q.others 7 (result_apart register 7 refl takes) (λ x. absurd (omega arith)) ∙ a.address

      stored_moves : Moves S s t
      stored_moves =
          let k = a.keeps in
          let size = source_most (home_here S s t r (Variable value)) in
          let few = a.few in
          let long = source_size (home_here S s t r (Variable value)) in
          let g = cell_stored S.image (sizes S) register at (stack_few S) address a.inside a.small (with_end (store_cell_words register) q.going) in
          let next = next_entry S r.frame.function r.holds.function r.frame.point (Store pointer value) r.holds.there item in
          let moved = moved_holds S (length s.blocks) r.frame r.older r.core r.holds (standing S s t r) (suc r.frame.point) (leads S r.frame r.holds.function r.holds.there (Store pointer value) item (onward r.frame.point) (inl refl) refl refl) last last_same in
          let frames = subst (λ m. FramesHold S m (at_point (suc r.frame.point) r.frame) r.older last) (sym (same_made (holding n holds.value) s.blocks points.block)) moved in
          let count : a.steps + 1 + 1 + long + 1 ≡ suc (a.steps + 1 + 1 + long) = omega arith in
          let there_now : place + 1 + 1 + long + 1 ≡ entry_of S r.frame.function (suc r.frame.point) = omega arith in
          arrive S s t r (advances S.p S.limits r.frame r.older (record s { blocks = blocks_now })) (at_point (suc r.frame.point) r.frame) r.older last (a.steps + 1 + 1 + long)
          (stepped (Some n) there) refl r.running (r.printed ∙ sym (q.keeps.printed ∙ k.printed)) frames memory (guards_by S s t r last (q.keeps.arrivals ∙ k.arrivals))
          (onto_next S s t r (landed (suc (a.steps + 1 + 1 + long)) (entry_of S r.frame.function (suc r.frame.point)) count there_now g)) (omega arith)

    found_moves : Moves S s t
    found_moves = stored_moves brought

  by_cell : (o : Option ℕ) → cell_at s.blocks (Ptr points.block points.offset) ≡ o → Moves S s t
  by_cell None e = access_moves S s t r pointer points rest dear pointed e (stepped None e) (let next = next_entry S r.frame.function r.holds.function r.frame.point (Store pointer value) r.holds.there item in omega arith)
  by_cell (Some n) e = found_moves n e (at_cell S s t r pointer points n rest pointed e)

pub store_moves : (S : Setting) (s : bril.State) (t : State) (r : RunsAlike S s t) (dear : 128 ≤ S.cost) (pointer value : ℕ) → slice_get r.holds.function.code r.frame.point ≡ Some (Store pointer value) → HoldsPointer r.frame.locations pointer →
    HoldsValue r.frame.locations (Variable value) → IsSlotOf r.holds.function (Variable pointer) → IsSlotOf r.holds.function (Variable value) → Moves S s t
store_moves S s t r dear pointer value item points holds in_pointer in_value = by_cell S s t r dear pointer value item points holds in_pointer in_value (cell_at s.blocks (Ptr points.block points.offset)) refl
