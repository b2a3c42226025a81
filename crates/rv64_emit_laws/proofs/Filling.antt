-- The items that give a slot a value: constants, copies, and the operations that compute.
use Rattle.std.proofs.Common.{◌≡◌, ◌≢◌, ℕ, suc, ◌+◌, ◌<◌, ◌≤◌, Bool, true, false, cond, refl, sym, ap, ◌∙◌, subst, arith, List, ◌++◌, length, None, Some, pos, inl, inr}
use Rattle.std.specs.Prelude.{slice_get}
use Rattle.std.proofs.lemmas.Bool.{eqb-true, false≢true}
use Rattle.bril_tree.specs.declared.home.Home.{Home}
use Rattle.bril_tree.specs.declared.home.Home.TheVariants.{Reg, Frame}
use Rattle.bril_tree.specs.declared.limits.End.TheVariants.{Faulted}
use Rattle.bril_tree.specs.declared.limits.Fault.{Fault}
use Rattle.bril_tree.specs.declared.operators.BinaryOp.{BinaryOp}
use Rattle.bril_tree.specs.declared.operators.UnaryOp.{UnaryOp}
use Rattle.bril_tree.specs.declared.operators.UnaryOp.TheVariants as unary
use Rattle.bril_tree.specs.declared.value.Value.{Value}
use Rattle.bril_tree.specs.declared.value.Value.TheVariants.{Int, Char}
use Rattle.bril_tree.specs.Operators.{binary_operation, unary_operation}
use Rattle.bril_tree.specs.Outcome.{Outcome, Yields, FaultsWith, HasEffect, computed, block_of}
use Rattle.bril_tree.specs.State as bril
use Rattle.bril_tree.specs.Step.{step, advanced, with_locations}
use Rattle.bril_tree.specs.Value.{IsInRange, word_of}
use Rattle.rv64_emit_laws.specs.layout.Items.{copied_size, copied_words, item_size, mark_size, mark_words, same_home}
use Rattle.rv64_emit_laws.proofs.lemmas.layout.Bounding.{constant_most}
use Rattle.rv64_emit_laws.proofs.lemmas.layout.Lengths.{binary_length, unary_length}
use Rattle.rv64_emit_laws.proofs.lemmas.layout.ItemWords.{word_small}
use Rattle.rv64_words_laws.specs.stretches.Core.{Core, Keeps, written}
use Rattle.rv64_words_laws.specs.stretches.Runs.{HasAt, Runs}
use Rattle.rv64_words_laws.proofs.lemmas.stretches.Cores.{written_here}
use Rattle.rv64_words_laws.proofs.lemmas.stretches.Going.{Going, across, begin, has_front}
use Rattle.rv64_words_laws.proofs.lemmas.stretches.Steps.{ends_after}
use Rattle.rv64_words_laws.specs.sequences.Moves.{Filled, copy_size, copy_words, home_word, operand_register, operand_size, operand_words, register_for, result_register, result_size, result_words, target_words}
use Rattle.rv64_words_laws.specs.sequences.Operations.{binary_size, binary_takes_any, binary_words, unary_size, unary_takes_any, unary_words}
use Rattle.rv64_words_laws.specs.sequences.Sequences.{constant_size, constant_words}
use Rattle.rv64_words_laws.proofs.lemmas.sequences.Constants.{constant}
use Rattle.rv64_words_laws.proofs.lemmas.sequences.Homes.{copy_goes}
use Rattle.rv64_words_laws.proofs.lemmas.sequences.Sizes.{copy_most, operand_most}
use Rattle.rv64_words_laws.specs.values.Laws.{BinaryReady, UnaryReady}
use Rattle.rv64_words_laws.specs.values.Operands.{Gives, EndsSo, UnaryTakes}
use Rattle.rv64_words_laws.proofs.lemmas.values.Binary.{binary_gives, binary_faults}
use Rattle.rv64_words_laws.proofs.lemmas.values.Kept.{keeps_itself, keeps_on, keeps_result, result_apart}
use Rattle.rv64_words_laws.proofs.lemmas.values.Unary.{unary_gives, unary_faults}
use Rattle.rv64_words.specs.declared.word.Word.{Word}
use Rattle.rv64_words.specs.State.{State}
use Rattle.slot_code.specs.declared.item.Slot.{Slot}
use Rattle.slot_code.specs.declared.item.Slot.TheVariants.{Variable}
use Rattle.slot_code.specs.declared.item.SlotItem.{SlotItem}
use Rattle.slot_code.specs.declared.item.SlotItem.TheVariants.{Constant, Copy, Unary, Binary}
use Rattle.slot_code.specs.Laws.{IsSlotOf}
use Rattle.slot_code.specs.Meaning.{computes, fills, read_slot, with_slot}
use Rattle.rv64_emit_laws.proofs.Acting.{Fills, fills_slot}
use Rattle.rv64_emit_laws.proofs.Arriving.{Idles, Moves, MovesAlone, faults_moves, filled_moves, here, home_here, idle_alone, idle_moves, results_moves, step_at}
use Rattle.rv64_emit_laws.proofs.Holding.{filled_holds, home_inside, home_usable, keeps_homes, stack_few}
use Rattle.rv64_emit_laws.proofs.Operands.{Holds, brings, holds_slot, read_is, unchanged, word_held}
use Rattle.rv64_emit_laws.proofs.Outcomes.{binary_block, binary_computes, binary_most, binary_operands, binary_some, unary_block, unary_computes, unary_most, unary_operand}
use Rattle.rv64_emit_laws.proofs.Ready.{BinaryFinds, HoldsValue, UnaryFinds}
use Rattle.rv64_emit_laws.proofs.Registers.{binary_takes, but_on, first_stays, takes_result}
use Rattle.rv64_emit_laws.proofs.Relation.{HasWord, RunsAlike}
use Rattle.rv64_emit_laws.proofs.Setting.{Setting, entry_of, its_words, next_entry, sizes}
use Rattle.rv64_emit_laws.proofs.Standing.{standing}
use Rattle.rv64_emit_laws.proofs.Stretches.{at_place, constant_some, copy_some, ends_some, runs_some, with_end}

module _ (S : Setting) (s : bril.State) (t : State) (r : RunsAlike S s t) (dear : 128 ≤ S.cost) where
  -- where a variable of the newest frame is
  abbrev home_of : ℕ → Home
  home_of x = home_here S s t r (Variable x)

  -- ---- constants and copies

  pub constant_moves : (dest : ℕ) (value : Value) → slice_get r.holds.function.code r.frame.point ≡ Some (Constant dest value) → IsInRange value → block_of value ≡ 0 → IsSlotOf r.holds.function (Variable dest) → Moves S s t
  constant_moves dest value item range block in_dest =
      let h = r.holds in
      let w = word_of value in
      let home = home_here S s t r (Variable dest) in
      let usable = home_usable S (length s.blocks) r.frame r.older r.core h (Variable dest) in_dest in
      let q = register_for 5 home in
      let takes = takes_result home usable in
      let not_zero : q ≢ 0 = λ x. result_apart q 0 refl takes (sym x) in
      let has = its_words S r.frame.function h.function r.frame.point (Constant dest value) h.there item in
      let g0 = begin S.image (sizes S) (here S s t r) r.core (constant_words q w ++ target_words 5 home) has in
      let g1 = constant S.image (sizes S) q w not_zero (word_small value range) h.zero_is g0 in
      let word : HasWord (length s.blocks) value ((written r.core q w).registers q) = record { is = written_here r.core q w not_zero; known = omega arith } in
      let there = next_entry S r.frame.function h.function r.frame.point (Constant dest value) h.there item in
      let size = constant_most w in
      let some = constant_some w in
      results_moves S s t r true (Variable dest) value (written r.core q w) (0 + constant_size w) (here S s t r + constant_size w) in_dest (fills_slot S r.frame h.function h.there (Constant dest value) item (Variable dest) (inl refl) refl) word
      (keeps_result q r.core r.core w takes (keeps_itself r.core)) (step_at S s t r (Some (Constant dest value)) item) g1 (omega arith) (omega arith) (omega arith)

  -- a slot gets a value that another slot has the word of
  copied_moves : (dest from : Slot) (v u : Value) → Holds S s t r from v → word_of u ≡ word_of v → block_of u ≤ block_of v → IsSlotOf r.holds.function dest → Fills S r.frame dest → step S.p S.limits s ≡ fills S.p S.slots S.limits dest u r.frame r.older s →
      HasAt S.image (here S s t r) (copy_words (home_here S s t r dest) (home_here S s t r from)) → here S s t r + copy_size (home_here S s t r dest) (home_here S s t r from) ≡ entry_of S r.frame.function (suc r.frame.point) → Moves S s t
  copied_moves dest from v u held same_word same_block in_dest fl stepped has there =
      let h = r.holds in
      let to = home_here S s t r dest in
      let of = home_here S s t r from in
      let usable = home_usable S (length s.blocks) r.frame r.older r.core h in
      let inside = home_inside S (length s.blocks) r.frame r.older r.core h in
      let g0 = begin S.image (sizes S) (here S s t r) r.core (copy_words to of) has in
      let q = copy_goes S.image (sizes S) h.base to of (stack_few S) h.at (usable dest in_dest) (inside dest in_dest) (usable from held.used) (inside from held.used) (with_end (copy_words to of) g0) in
      let word = word_held S s t r r.core from v (unchanged S s t r) held in
      let known = word.known in
      let some = copy_some to of in
      let most = copy_most to of in
      filled_moves S s t r dest u (home_word r.core h.base of) q.0 (0 + copy_size to of) in_dest fl (record { is = word.is ∙ sym same_word; known = omega arith }) q.1 stepped
      (at_place (entry_of S r.frame.function (suc r.frame.point)) there q.2.runs) (omega arith) (omega arith)

  -- homes that a test finds to be one are one
  one_home : (a b : Home) → same_home a b ≡ true → a ≡ b
  one_home (Reg a) (Reg b) h = ap Reg (eqb-true a b h)
  one_home (Frame a) (Frame b) h = ap Frame (eqb-true a b h)
  one_home (Reg a) (Frame b) h = absurd (false≢true h)
  one_home (Frame a) (Reg b) h = absurd (false≢true h)

  -- the two slots are at one home
  copied_idles : (dest from : Slot) (v u : Value) → Holds S s t r from v → word_of u ≡ word_of v → block_of u ≤ block_of v → IsSlotOf r.holds.function dest → Fills S r.frame dest → step S.p S.limits s ≡ fills S.p S.slots S.limits dest u r.frame r.older s →
      home_here S s t r dest ≡ home_here S s t r from → Idles S s t r
  copied_idles dest from v u held same_word same_block in_dest fl stepped one =
      let word = word_held S s t r r.core from v (unchanged S s t r) held in
      let known = word.known in
      record {
        after = fills S.p S.slots S.limits dest u r.frame r.older s;
        newest = advanced (with_locations (with_slot dest u r.frame.locations) r.frame);
        stepped = stepped;
        frames = refl;
        function = refl;
        point = refl;
        running = r.running;
        printed = r.printed;
        holds =
            filled_holds S (length s.blocks) r.frame r.older r.core r.holds (standing S s t r) dest fl u (home_word r.core r.holds.base (home_here S s t r from)) r.core in_dest (record { is = word.is ∙ sym same_word; known = omega arith })
            (filled_already r.holds.base (home_here S s t r dest) (home_here S s t r from) r.core one);
        memory = r.memory;
        guards = r.guards;
      }
    where
      filled_already : (b : ℕ) (to of : Home) (c : Core) → to ≡ of → Filled b to (home_word c b of) c c
      filled_already b to of c same = record {
        rest = record { zero_register = refl; link_register = refl; frame_register = refl; frames_left = refl; table = refl; cells = refl; blocks = refl; next_free = refl; printed = refl; arrivals = refl };
        got = ap (home_word c b) same;
        others = λ h usable other. refl;
        stack = λ k apart. refl;
      }

  -- An item that copies, with what it does in the program.
  module _ (item : SlotItem) (at : slice_get r.holds.function.code r.frame.point ≡ Some item) (dest from : Slot) (v u : Value) (held : Holds S s t r from v) (same_word : word_of u ≡ word_of v) (same_block : block_of u ≤ block_of v) (in_dest : IsSlotOf r.holds.function dest)
      (fl : Fills S r.frame dest) (stepped : step S.p S.limits s ≡ fills S.p S.slots S.limits dest u r.frame r.older s)
      (size : item_size (S.homes r.frame.function) r.holds.function r.frame.point item ≡ copied_size (S.homes r.frame.function) (home_here S s t r dest) (home_here S s t r from)) where
    copies : HasAt S.image (here S s t r) (copied_words (S.homes r.frame.function) (home_here S s t r dest) (home_here S s t r from)) → Moves S s t
    copies has = by (same_home (home_here S s t r dest) (home_here S s t r from)) refl has
      where
        by : (one : Bool) → same_home (home_here S s t r dest) (home_here S s t r from) ≡ one →
            HasAt S.image (here S s t r) (cond one (mark_words (S.homes r.frame.function)) (copy_words (home_here S s t r dest) (home_here S s t r from))) → Moves S s t
        by true h words =
            idle_moves S s t r (copied_idles dest from v u held same_word same_block in_dest fl stepped (one_home (home_here S s t r dest) (home_here S s t r from) h)) item at words
            (size ∙ ap (λ b. cond b (mark_size (S.homes r.frame.function)) (copy_size (home_here S s t r dest) (home_here S s t r from))) h) (omega arith)
        by false h words =
            let there = next_entry S r.frame.function r.holds.function r.frame.point item r.holds.there at in
            let its : item_size (S.homes r.frame.function) r.holds.function r.frame.point item ≡ copy_size (home_here S s t r dest) (home_here S s t r from) =
            size ∙ ap (λ b. cond b (mark_size (S.homes r.frame.function)) (copy_size (home_here S s t r dest) (home_here S s t r from))) h in
            copied_moves dest from v u held same_word same_block in_dest fl stepped words (omega arith)

    copies_alone : item_size (S.homes r.frame.function) r.holds.function r.frame.point item ≡ 0 → MovesAlone S s t
    copies_alone none = by (same_home (home_here S s t r dest) (home_here S s t r from)) refl
      where
        by : (one : Bool) → same_home (home_here S s t r dest) (home_here S s t r from) ≡ one → MovesAlone S s t
        by true h = idle_alone S s t r (copied_idles dest from v u held same_word same_block in_dest fl stepped (one_home (home_here S s t r dest) (home_here S s t r from) h)) item at none
        by false h =
            let its : item_size (S.homes r.frame.function) r.holds.function r.frame.point item ≡ copy_size (home_here S s t r dest) (home_here S s t r from) =
            size ∙ ap (λ b. cond b (mark_size (S.homes r.frame.function)) (copy_size (home_here S s t r dest) (home_here S s t r from))) h in
            let some = copy_some (home_here S s t r dest) (home_here S s t r from) in
            absurd (omega arith)

  module _ (dest from : Slot) (item : slice_get r.holds.function.code r.frame.point ≡ Some (Copy dest from)) (held : HoldsValue r.frame.locations from) (in_dest : IsSlotOf r.holds.function dest) (in_from : IsSlotOf r.holds.function from) where
    copy_held : Holds S s t r from held.value
    copy_held = holds_slot S s t r (Copy dest from) item from held.value (inl refl) in_from held.is

    copy_fills : Fills S r.frame dest
    copy_fills = fills_slot S r.frame r.holds.function r.holds.there (Copy dest from) item dest (inl refl) refl

    copy_step : step S.p S.limits s ≡ fills S.p S.slots S.limits dest held.value r.frame r.older s
    copy_step = step_at S s t r (Some (Copy dest from)) item ∙ ap (λ v. fills S.p S.slots S.limits dest v r.frame r.older s) (read_is r.frame.locations from held.value held.is)

    pub copy_moves : Moves S s t
    copy_moves = copies (Copy dest from) item dest from held.value held.value copy_held refl (omega arith) in_dest copy_fills copy_step refl (its_words S r.frame.function r.holds.function r.frame.point (Copy dest from) r.holds.there item)

    pub copy_alone : copied_size (S.homes r.frame.function) (home_here S s t r dest) (home_here S s t r from) ≡ 0 → MovesAlone S s t
    copy_alone none = copies_alone (Copy dest from) item dest from held.value held.value copy_held refl (omega arith) in_dest copy_fills copy_step refl none

  -- ---- operations

  -- the variable gets what an operation computes, or the run faults, as the words say
  computes_moves : (any : Bool) (outcome : Outcome) (dest : ℕ) (n j size : ℕ) (e : Core) (ws : List Word) → step S.p S.limits s ≡ computes S.p S.slots S.limits outcome dest r.frame r.older s → (outcome ≡ HasEffect → ⊥) →
      Keeps r.core e → Going S.image (sizes S) (here S s t r) r.core n j e (ws ++ result_words any (home_of dest)) → length ws ≡ size → 1 ≤ size → IsSlotOf r.holds.function (Variable dest) → Fills S r.frame (Variable dest) → n + size + 3 ≤ S.cost →
      j + size + result_size any (home_of dest) ≡ entry_of S r.frame.function (suc r.frame.point) →
      ((v : Value) → outcome ≡ Yields v → Gives S.image (sizes S) j e (result_register any (home_of dest)) size (word_of v) × (block_of v ≤ length s.blocks)) → ((kind : Fault) → outcome ≡ FaultsWith kind → EndsSo S.image (sizes S) j e size (Faulted kind)) → Moves S s t
  computes_moves any (Yields v) dest n j size e ws stepped computes keeps g long some in_dest fl cheap there gives ends =
      let home = home_of dest in
      let q = (gives v refl).0 in
      let within : q.steps ≤ size = q.within in
      let over : j < j + size = omega arith in
      let first = runs_some over q.runs in
      let g1 = across S.image (sizes S) ws (result_words any home) g (subst (λ m. Runs S.image (sizes S) j e q.steps (j + m) q.core) (sym long) q.runs) in
      let word : HasWord (length s.blocks) v (q.core.registers (result_register any home)) = record { is = q.result; known = (gives v refl).1 } in
      results_moves S s t r any (Variable dest) v q.core (n + q.steps) (j + length ws) in_dest fl word (but_on (result_register any home) r.core e q.core keeps q.keeps) stepped g1 (omega arith) (omega arith) (omega arith)
  computes_moves any (FaultsWith kind) dest n j size e ws stepped computes keeps g long some in_dest fl cheap there gives ends =
      let q = ends kind refl in
      let within : q.steps ≤ size = q.within in
      let first = ends_some q.ends in
      faults_moves S s t r kind q.core (n + q.steps) stepped (keeps_on r.core e q.core keeps q.keeps) (ends_after S.image (sizes S) g.runs (omega arith) q.ends) (omega arith) (omega arith) (omega arith)
  computes_moves any HasEffect dest n j size e ws stepped computes keeps g long some in_dest fl cheap there gives ends = absurd (computes refl)

  -- the words of an operation on one variable that isn't a copy
  abbrev operation_words : UnaryOp → (dest operand : ℕ) → List Word
  operation_words operation dest operand =
      let any = unary_takes_any operation in
      operand_words any 5 (home_of operand) ++ (unary_words operation (result_register any (home_of dest)) (operand_register any 5 (home_of operand)) ++ result_words any (home_of dest))

  abbrev operation_size : UnaryOp → (dest operand : ℕ) → ℕ
  operation_size operation dest operand =
      let any = unary_takes_any operation in
      operand_size any (home_of operand) + (unary_size operation + result_size any (home_of dest))

  operated_moves : (operation : UnaryOp) (dest operand : ℕ) → slice_get r.holds.function.code r.frame.point ≡ Some (Unary operation dest operand) → UnaryFinds r.frame.locations operation operand → IsSlotOf r.holds.function (Variable dest) → IsSlotOf r.holds.function (Variable operand) →
      1 ≤ unary_size operation → UnaryTakes operation (result_register (unary_takes_any operation) (home_of dest)) (operand_register (unary_takes_any operation) 5 (home_of operand)) → HasAt S.image (here S s t r) (operation_words operation dest operand) →
      entry_of S r.frame.function (suc r.frame.point) ≡ here S s t r + operation_size operation dest operand → Moves S s t
  operated_moves operation dest operand item finds in_dest in_operand some takes has there =
      let h = r.holds in
      let any = unary_takes_any operation in
      let d = result_register any (home_of dest) in
      let a = operand_register any 5 (home_of operand) in
      let ws = unary_words operation d a in
      let o = unary_operand r.frame.locations operation operand finds in
      let q = brings S s t r any 5 (Variable operand) o.value refl (holds_slot S s t r (Unary operation dest operand) item (Variable operand) o.value (inl refl) in_operand o.is) (unchanged S s t r)
      (begin S.image (sizes S) (here S s t r) r.core (operation_words operation dest operand) has) in
      let at = here S s t r + operand_size any (home_of operand) in
      let low = S.laid.few_entries r.frame.function r.frame.point in
      let size = operand_most any (home_of operand) in
      let operation_size = unary_most operation in
      let ready : UnaryReady S.image at q.core operation d a o.value = record {
        has = has_front S.image (sizes S) ws (result_words any (home_of dest)) q.going;
        takes = takes;
        low = omega arith;
        null = q.keeps.zero_register ∙ h.zero_is;
        operand = q.word.is;
        suits = o.suits;
      } in
      let is = step_at S s t r (Some (Unary operation dest operand)) item ∙ ap (λ v. computes S.p S.slots S.limits (computed (unary_operation operation) None v v) dest r.frame r.older s) (read_is r.frame.locations (Variable operand) o.value o.is) in
      computes_moves any (computed (unary_operation operation) None o.value o.value) dest (0 + operand_size any (home_of operand)) at (unary_size operation) q.core ws is (unary_computes operation o.value) q.keeps q.going (unary_length operation d a) some in_dest
      (fills_slot S r.frame h.function h.there (Unary operation dest operand) item (Variable dest) (inl refl) refl) (omega arith) (omega arith)
      (λ v yields. (unary_gives S.image (sizes S) at q.core operation d a o.value v ready yields, (let block = unary_block operation o.value v yields in let known = q.word.known in omega arith)))
      (λ kind fault. unary_faults S.image (sizes S) at q.core operation d a o.value kind ready fault)

  -- the number of a char
  module _ (dest operand : ℕ) (item : slice_get r.holds.function.code r.frame.point ≡ Some (Unary unary.CharToInt dest operand)) (finds : UnaryFinds r.frame.locations unary.CharToInt operand) (in_dest : IsSlotOf r.holds.function (Variable dest))
      (in_operand : IsSlotOf r.holds.function (Variable operand)) where
    char_held : Holds S s t r (Variable operand) (Char finds.number)
    char_held = holds_slot S s t r (Unary unary.CharToInt dest operand) item (Variable operand) (Char finds.number) (inl refl) in_operand finds.is

    char_fills : Fills S r.frame (Variable dest)
    char_fills = fills_slot S r.frame r.holds.function r.holds.there (Unary unary.CharToInt dest operand) item (Variable dest) (inl refl) refl

    char_step : step S.p S.limits s ≡ fills S.p S.slots S.limits (Variable dest) (Int (pos finds.number)) r.frame r.older s
    char_step =
        step_at S s t r (Some (Unary unary.CharToInt dest operand)) item
        ∙ ap (λ v. computes S.p S.slots S.limits (computed (unary_operation unary.CharToInt) None v v) dest r.frame r.older s) (read_is r.frame.locations (Variable operand) (Char finds.number) finds.is)

    char_moves : Moves S s t
    char_moves =
        copies (Unary unary.CharToInt dest operand) item (Variable dest) (Variable operand) (Char finds.number) (Int (pos finds.number)) char_held refl (omega arith) in_dest char_fills char_step refl
        (its_words S r.frame.function r.holds.function r.frame.point (Unary unary.CharToInt dest operand) r.holds.there item)

    pub char_alone : copied_size (S.homes r.frame.function) (home_of dest) (home_of operand) ≡ 0 → MovesAlone S s t
    char_alone none = copies_alone (Unary unary.CharToInt dest operand) item (Variable dest) (Variable operand) (Char finds.number) (Int (pos finds.number)) char_held refl (omega arith) in_dest char_fills char_step refl none

  pub unary_moves : (operation : UnaryOp) (dest operand : ℕ) → slice_get r.holds.function.code r.frame.point ≡ Some (Unary operation dest operand) → UnaryFinds r.frame.locations operation operand →
      IsSlotOf r.holds.function (Variable dest) → IsSlotOf r.holds.function (Variable operand) → Moves S s t
  unary_moves unary.Not dest operand item finds in_dest in_operand =
      let h = r.holds in
      let usable = home_usable S (length s.blocks) r.frame r.older r.core h (Variable dest) in_dest in
      operated_moves unary.Not dest operand item finds in_dest in_operand (omega arith) (takes_result (home_of dest) usable)
      (its_words S r.frame.function h.function r.frame.point (Unary unary.Not dest operand) h.there item) (next_entry S r.frame.function h.function r.frame.point (Unary unary.Not dest operand) h.there item)
  unary_moves unary.IntToChar dest operand item finds in_dest in_operand =
      let h = r.holds in
      operated_moves unary.IntToChar dest operand item finds in_dest in_operand (omega arith) (refl, refl)
      (its_words S r.frame.function h.function r.frame.point (Unary unary.IntToChar dest operand) h.there item) (next_entry S r.frame.function h.function r.frame.point (Unary unary.IntToChar dest operand) h.there item)
  unary_moves unary.CharToInt dest operand item finds in_dest in_operand =
      char_moves dest operand item finds in_dest in_operand

  -- the registers of two operands have their words
  record BothBrought (any : Bool) (x y : ℕ) (u v : Value) (ws : List Word) : Type 0 where
    core : Core
    keeps : Keeps r.core core
    first : HasWord (length s.blocks) u (core.registers (operand_register any 5 (home_of x)))
    second : HasWord (length s.blocks) v (core.registers (operand_register any 7 (home_of y)))
    going : Going S.image (sizes S) (here S s t r) r.core (0 + operand_size any (home_of x) + operand_size any (home_of y)) (here S s t r + operand_size any (home_of x) + operand_size any (home_of y)) core ws

  brings_both : (any : Bool) (x y : ℕ) (u v : Value) (ws : List Word) → Holds S s t r (Variable x) u → Holds S s t r (Variable y) v → HasAt S.image (here S s t r) (operand_words any 5 (home_of x) ++ (operand_words any 7 (home_of y) ++ ws)) → BothBrought any x y u v ws
  brings_both any x y u v ws holds_x holds_y has =
      let usable = home_usable S (length s.blocks) r.frame r.older r.core r.holds in
      let g0 = begin S.image (sizes S) (here S s t r) r.core (operand_words any 5 (home_of x) ++ (operand_words any 7 (home_of y) ++ ws)) has in
      let q1 = brings S s t r any 5 (Variable x) u refl holds_x (unchanged S s t r) g0 in
      let q2 = brings S s t r any 7 (Variable y) v refl holds_y (keeps_homes r.core q1.core q1.keeps) q1.going in
      let stays = first_stays any (home_of x) (home_of y) q1.core q2.core (usable (Variable x) holds_x.used) (usable (Variable y) holds_y.used) q2.keeps q2.others in
      record {
        core = q2.core;
        keeps = keeps_on r.core q1.core q2.core q1.keeps q2.keeps;
        first = subst (HasWord (length s.blocks) u) (sym stays) q1.word;
        second = q2.word;
        going = q2.going;
      }

  pub binary_moves : (operation : BinaryOp) (dest first second : ℕ) → slice_get r.holds.function.code r.frame.point ≡ Some (Binary operation dest first second) → BinaryFinds r.frame.locations operation first second →
      IsSlotOf r.holds.function (Variable dest) → IsSlotOf r.holds.function (Variable first) → IsSlotOf r.holds.function (Variable second) → Moves S s t
  binary_moves operation dest first second item finds in_dest in_first in_second =
      let h = r.holds in
      let any = binary_takes_any operation in
      let d = result_register any (home_of dest) in
      let a = operand_register any 5 (home_of first) in
      let b = operand_register any 7 (home_of second) in
      let ws = binary_words operation d a b in
      let o = binary_operands r.frame.locations operation first second finds in
      let holds = holds_slot S s t r (Binary operation dest first second) item in
      let q = brings_both any first second o.first o.second (ws ++ result_words any (home_of dest)) (holds (Variable first) o.first (inl refl) in_first o.first_is) (holds (Variable second) o.second (inr (inl refl)) in_second o.second_is)
      (its_words S r.frame.function h.function r.frame.point (Binary operation dest first second) h.there item) in
      let there = next_entry S r.frame.function h.function r.frame.point (Binary operation dest first second) h.there item in
      let low = S.laid.few_entries r.frame.function r.frame.point in
      let size_first = operand_most any (home_of first) in
      let size_second = operand_most any (home_of second) in
      let operation_size = binary_most operation in
      let at = here S s t r + operand_size any (home_of first) + operand_size any (home_of second) in
      let ready : BinaryReady S.image at q.core operation d a b o.first o.second = record {
        has = has_front S.image (sizes S) ws (result_words any (home_of dest)) q.going;
        takes = binary_takes operation (home_of dest) (home_of first) (home_of second) (home_usable S (length s.blocks) r.frame r.older r.core h (Variable dest) in_dest);
        low = omega arith;
        null = q.keeps.zero_register ∙ h.zero_is;
        first = q.first.is;
        second = q.second.is;
        suits = o.suits;
      } in
      let is = step_at S s t r (Some (Binary operation dest first second)) item
      ∙ (ap (λ v. computes S.p S.slots S.limits (computed (binary_operation operation) None v (read_slot r.frame.locations (Variable second))) dest r.frame r.older s) (read_is r.frame.locations (Variable first) o.first o.first_is)
      ∙ ap (λ v. computes S.p S.slots S.limits (computed (binary_operation operation) None o.first v) dest r.frame r.older s) (read_is r.frame.locations (Variable second) o.second o.second_is)) in
      computes_moves any (computed (binary_operation operation) None o.first o.second) dest (0 + operand_size any (home_of first) + operand_size any (home_of second)) at (binary_size operation) q.core ws is (binary_computes operation o.first o.second) q.keeps q.going
      (binary_length operation d a b) (binary_some operation) in_dest (fills_slot S r.frame h.function h.there (Binary operation dest first second) item (Variable dest) (inl refl) refl) (omega arith) (omega arith)
      (λ v yields. (binary_gives S.image (sizes S) at q.core operation d a b o.first o.second v ready yields, (let block = binary_block operation o.first o.second v yields in let known = q.first.known in omega arith)))
      (λ kind fault. binary_faults S.image (sizes S) at q.core operation d a b o.first o.second kind ready fault)
