-- The item that loads a cell.
use Rattle.std.proofs.Common.{◌≡◌, ℕ, ◌+◌, ◌*◌, ◌≤◌, IsTrue, true, false, refl, sym, ap, ◌∙◌, subst, arith, List, ◌++◌, length, Option, Some, None, inl}
use Rattle.std.specs.Prelude.{slice_get}
use Rattle.bril_tree.specs.declared.limits.Fault.TheVariants as fault
use Rattle.bril_tree.specs.declared.value.Value.{Value}
use Rattle.bril_tree.specs.declared.value.Value.TheVariants.{Ptr}
use Rattle.bril_tree.specs.Memory.{cell_at, held}
use Rattle.bril_tree.specs.State as bril
use Rattle.bril_tree.specs.Step.{step, loads_held}
use Rattle.bril_tree.specs.Step as steps
use Rattle.rv64_words_laws.proofs.lemmas.blocks.Finding.{value_found, fresh_found}
use Rattle.rv64_words_laws.proofs.lemmas.stretches.Going.{across, begin, has_front}
use Rattle.rv64_words_laws.proofs.lemmas.stretches.Steps.{ends_after}
use Rattle.rv64_words_laws.specs.sequences.Moves.{fetch_size, fetch_words, register_for, target_words}
use Rattle.rv64_words_laws.specs.sequences.Operations.{cell_words, load_cell_words}
use Rattle.rv64_words_laws.proofs.lemmas.sequences.Sizes.{fetch_most}
use Rattle.rv64_words_laws.specs.values.Cells.{CellReady}
use Rattle.rv64_words_laws.specs.values.Operands.{is_result_register}
use Rattle.rv64_words_laws.proofs.lemmas.values.Cells.{loads_stored, loads_fresh}
use Rattle.rv64_words_laws.proofs.lemmas.values.Kept.{keeps_on}
use Rattle.rv64_words.specs.declared.word.Word.{Word}
use Rattle.rv64_words.specs.State.{State}
use Rattle.slot_code.specs.declared.item.Slot.TheVariants.{Variable}
use Rattle.slot_code.specs.declared.item.SlotItem.TheVariants.{Load}
use Rattle.slot_code.specs.Laws.{IsSlotOf}
use Rattle.rv64_emit_laws.proofs.Acting.{fills_slot}
use Rattle.rv64_emit_laws.proofs.Arriving.{Moves, faults_moves, here, home_here, results_moves, step_at}
use Rattle.rv64_emit_laws.proofs.Holding.{home_usable, stack_few}
use Rattle.rv64_emit_laws.proofs.Operands.{brings, holds_slot, read_is, unchanged}
use Rattle.rv64_emit_laws.proofs.Pointing.{Pointed, AtCell, access_moves, at_cell}
use Rattle.rv64_emit_laws.proofs.Ready.{HoldsPointer}
use Rattle.rv64_emit_laws.proofs.Registers.{but_on, takes_result}
use Rattle.rv64_emit_laws.proofs.Relation.{HasWord, RunsAlike}
use Rattle.rv64_emit_laws.proofs.Setting.{Setting, its_words, next_entry, sizes}

module _ (S : Setting) (s : bril.State) (t : State) (r : RunsAlike S s t) (dear : 128 ≤ S.cost) (dest pointer : ℕ) (item : slice_get r.holds.function.code r.frame.point ≡ Some (Load dest pointer)) (points : HoldsPointer r.frame.locations pointer)
    (in_dest : IsSlotOf r.holds.function (Variable dest)) (in_pointer : IsSlotOf r.holds.function (Variable pointer)) where
  -- the register that gets what the cell holds, and the words behind those that find the cell
  abbrev register : ℕ
  register = register_for 5 (home_here S s t r (Variable dest))

  abbrev rest : List Word
  rest = load_cell_words register ++ target_words 5 (home_here S s t r (Variable dest))

  stepped : (o : Option ℕ) → cell_at s.blocks (Ptr points.block points.offset) ≡ o → step S.p S.limits s ≡ steps.loads S.p S.limits o (Ptr points.block points.offset) (Some dest) r.frame r.older s
  stepped o e =
      step_at S s t r (Some (Load dest pointer)) item
      ∙ (ap (λ v. steps.loads S.p S.limits (cell_at s.blocks v) v (Some dest) r.frame r.older s) (read_is r.frame.locations (Variable pointer) (Ptr points.block points.offset) points.is)
      ∙ ap (λ x. steps.loads S.p S.limits x (Ptr points.block points.offset) (Some dest) r.frame r.older s) e)

  pointed : Pointed S s t r pointer points (cell_words ++ rest)
  pointed =
      let has = its_words S r.frame.function r.holds.function r.frame.point (Load dest pointer) r.holds.there item in
      brings S s t r false 5 (Variable pointer) (Ptr points.block points.offset) refl (holds_slot S s t r (Load dest pointer) item (Variable pointer) (Ptr points.block points.offset) (inl refl) in_pointer points.is) (unchanged S s t r)
      (begin S.image (sizes S) (here S s t r) r.core (fetch_words 5 (home_here S s t r (Variable pointer)) ++ (cell_words ++ rest)) has)

  module _ (n : ℕ) (there : cell_at s.blocks (Ptr points.block points.offset) ≡ Some n) (a : AtCell S s t r pointer points n rest) where
    abbrev at : ℕ
    at = r.memory.first points.block + n

    -- the word at which what the cell holds is loaded
    abbrev place : ℕ
    place = here S s t r + fetch_size (home_here S s t r (Variable pointer)) + 14

    takes : IsTrue (is_result_register register)
    takes = takes_result (home_here S s t r (Variable dest)) (home_usable S (length s.blocks) r.frame r.older r.core r.holds (Variable dest) in_dest)

    ready : CellReady S.image (sizes S) place a.core (load_cell_words register) at
    ready =
        let low = S.laid.few_entries r.frame.function r.frame.point in
        let size = fetch_most (home_here S s t r (Variable pointer)) in
        record {
          has = has_front S.image (sizes S) (load_cell_words register) (target_words 5 (home_here S s t r (Variable dest))) a.going;
          low = omega arith;
          few = stack_few S;
          null = a.keeps.zero_register ∙ r.holds.zero_is;
          address = a.address;
          inside = a.inside;
          small = a.small;
        }

    held_moves : (o : Option Value) → held s.blocks (Ptr points.block points.offset) n ≡ o → Moves S s t
    held_moves None e =
        let none = fresh_found (sizes S) s.blocks r.core.table r.core.cells r.core.blocks r.core.next_free r.memory points.block n points.offset a.cell e in
        let q = loads_fresh S.image (sizes S) place a.core register at takes ready (ap (λ m. m (2 * at)) a.keeps.cells ∙ none) in
        let within = q.within in
        let few = a.few in
        let some = a.some in
        let next = next_entry S r.frame.function r.holds.function r.frame.point (Load dest pointer) r.holds.there item in
        faults_moves S s t r fault.Uninit q.core (a.steps + q.steps) (stepped (Some n) there ∙ ap (λ x. loads_held S.p S.limits x (Some dest) r.frame r.older s) e) (keeps_on r.core a.core q.core a.keeps q.keeps)
        (ends_after S.image (sizes S) a.going.runs (omega arith) q.ends) (omega arith) (omega arith) (omega arith)
    held_moves (Some v) e =
        let to = home_here S s t r (Variable dest) in
        let found = value_found (sizes S) s.blocks r.core.table r.core.cells r.core.blocks r.core.next_free r.memory points.block n points.offset v a.cell e in
        let q = loads_stored S.image (sizes S) place a.core register at takes ready (ap (λ m. m (2 * at)) a.keeps.cells ∙ found.0) in
        let within = q.within in
        let few = a.few in
        let some = a.some in
        let g = across S.image (sizes S) (load_cell_words register) (target_words 5 to) a.going q.runs in
        let word : HasWord (length s.blocks) v (q.core.registers register) = subst (HasWord (length s.blocks) v) (sym (q.result ∙ ap (λ m. m (2 * at + 1)) a.keeps.cells)) found.1 in
        let next = next_entry S r.frame.function r.holds.function r.frame.point (Load dest pointer) r.holds.there item in
        results_moves S s t r true (Variable dest) v q.core (a.steps + q.steps) (place + 6) in_dest (fills_slot S r.frame r.holds.function r.holds.there (Load dest pointer) item (Variable dest) (inl refl) refl) word
        (but_on register r.core a.core q.core a.keeps q.keeps) (stepped (Some n) there ∙ ap (λ x. loads_held S.p S.limits x (Some dest) r.frame r.older s) e) g (omega arith) (omega arith) (omega arith)

  by_cell : (o : Option ℕ) → cell_at s.blocks (Ptr points.block points.offset) ≡ o → Moves S s t
  by_cell None e = access_moves S s t r pointer points rest dear pointed e (stepped None e) (let next = next_entry S r.frame.function r.holds.function r.frame.point (Load dest pointer) r.holds.there item in omega arith)
  by_cell (Some n) e =
      held_moves n e (at_cell S s t r pointer points n rest pointed e) (held s.blocks (Ptr points.block points.offset) n) refl

pub load_moves : (S : Setting) (s : bril.State) (t : State) (r : RunsAlike S s t) (dear : 128 ≤ S.cost) (dest pointer : ℕ) → slice_get r.holds.function.code r.frame.point ≡ Some (Load dest pointer) → HoldsPointer r.frame.locations pointer →
    IsSlotOf r.holds.function (Variable dest) → IsSlotOf r.holds.function (Variable pointer) → Moves S s t
load_moves S s t r dear dest pointer item points in_dest in_pointer = by_cell S s t r dear dest pointer item points in_dest in_pointer (cell_at s.blocks (Ptr points.block points.offset)) refl
