-- What the machine has of the slots that an item reads.
use Rattle.std.proofs.Common.{◌≡◌, ◌≢◌, ℕ, ◌+◌, Bool, IsTrue, sym, ap, ◌∙◌, subst, List, ◌++◌, length, Some, pos}
use Rattle.std.specs.Prelude.{slice_get, unwrap_or}
use Rattle.bril_tree.specs.declared.value.Value.{Value}
use Rattle.bril_tree.specs.declared.value.Value.TheVariants.{Int}
use Rattle.bril_tree.specs.Live.{IsLive}
use Rattle.bril_tree.specs.Membership.{In}
use Rattle.bril_tree.specs.Operand.{Location}
use Rattle.bril_tree.specs.State as bril
use Rattle.bril_tree.specs.Step.{code_of}
use Rattle.rv64_words_laws.specs.stretches.Core.{Core, Keeps}
use Rattle.rv64_words_laws.proofs.lemmas.stretches.Going.{Going}
use Rattle.rv64_words_laws.specs.sequences.Moves.{home_word, is_temporary, operand_register, operand_size, operand_words}
use Rattle.rv64_words_laws.proofs.lemmas.sequences.Homes.{operand_goes}
use Rattle.rv64_words_laws.proofs.lemmas.values.Kept.{keeps_itself}
use Rattle.rv64_words.specs.declared.word.Word.{Word}
use Rattle.rv64_words.specs.State.{State}
use Rattle.slot_code.specs.declared.item.Slot.{Slot}
use Rattle.slot_code.specs.declared.item.Slot.TheVariants.{Variable, Shadow}
use Rattle.slot_code.specs.declared.item.SlotItem.{SlotItem}
use Rattle.slot_code.specs.Flow.{slot_location, slot_reads}
use Rattle.slot_code.specs.Laws.{IsSlotOf}
use Rattle.slot_code.specs.Meaning.{read_slot}
use Rattle.rv64_emit_laws.proofs.Acting.{reads_live}
use Rattle.rv64_emit_laws.proofs.Arriving.{here, home_here}
use Rattle.rv64_emit_laws.proofs.Holding.{SameHomes, home_held, home_inside, home_same, home_usable, keeps_homes, stack_few}
use Rattle.rv64_emit_laws.proofs.Ready.{slot_value}
use Rattle.rv64_emit_laws.proofs.Relation.{HasWord, RunsAlike}
use Rattle.rv64_emit_laws.proofs.Setting.{Setting, sizes}

-- what is read of a slot that holds a value
pub read_is : (locations : bril.Locals) (slot : Slot) (v : Value) → slot_value locations slot ≡ Some v → read_slot locations slot ≡ v
read_is locations (Variable x) v e = ap (λ o. unwrap_or o (Int (pos 0))) e
read_is locations (Shadow x) v e = ap (λ o. unwrap_or o (Int (pos 0))) e

module _ (S : Setting) (s : bril.State) (t : State) (r : RunsAlike S s t) where
  -- what an item reads is live
  pub reads : (item : SlotItem) → slice_get r.holds.function.code r.frame.point ≡ Some item → (x : Location) → In x (slot_reads item) → IsLive (code_of S.p r.frame.function) x r.frame.point
  reads item here x i = reads_live S r.frame r.holds.function r.holds.there item here x i

  -- a slot that is live, with the value that it holds
  pub record Holds (slot : Slot) (v : Value) : Type 0 where
    pub used : IsSlotOf r.holds.function slot
    pub live : IsLive (code_of S.p r.frame.function) (slot_location slot) r.frame.point
    pub is : slot_value r.frame.locations slot ≡ Some v

  pub holds_slot : (item : SlotItem) → slice_get r.holds.function.code r.frame.point ≡ Some item → (slot : Slot) (v : Value) → In (slot_location slot) (slot_reads item) → IsSlotOf r.holds.function slot → slot_value r.frame.locations slot ≡ Some v → Holds slot v
  holds_slot item here slot v read used is = record { used = used; live = reads item here (slot_location slot) read; is = is }

  -- homes are as they are
  pub unchanged : SameHomes r.core r.core
  unchanged = keeps_homes r.core r.core (keeps_itself r.core)

  -- the word of such a slot is at its home, as long as homes stay as they are
  pub word_held : (e : Core) (slot : Slot) (v : Value) → SameHomes r.core e → Holds slot v → HasWord (length s.blocks) v (home_word e r.holds.base (home_here S s t r slot))
  word_held e slot v same held =
      let h = r.holds in
      subst (HasWord (length s.blocks) v) (sym (home_same r.core e h.base (home_here S s t r slot) same (home_usable S (length s.blocks) r.frame r.older r.core h slot held.used)))
      (home_held S (length s.blocks) r.frame r.older r.core h slot v held.live held.is)

  -- the register of an operand has the word of a slot
  pub record Brought (any : Bool) (register : ℕ) (slot : Slot) (v : Value) (n j : ℕ) (e : Core) (ws : List Word) : Type 0 where
    pub core : Core
    pub keeps : Keeps e core
    pub word : HasWord (length s.blocks) v (core.registers (operand_register any register (home_here S s t r slot)))
    pub others : (q : ℕ) → q ≢ operand_register any register (home_here S s t r slot) → q ≢ 6 → core.registers q ≡ e.registers q
    pub going : Going S.image (sizes S) (here S s t r) r.core (n + operand_size any (home_here S s t r slot)) (j + operand_size any (home_here S s t r slot)) core ws

  pub brings : {n j : ℕ} {e : Core} {ws : List Word} → (any : Bool) (register : ℕ) (slot : Slot) (v : Value) → IsTrue (is_temporary register) → Holds slot v → SameHomes r.core e →
      Going S.image (sizes S) (here S s t r) r.core n j e (operand_words any register (home_here S s t r slot) ++ ws) → Brought any register slot v n j e ws
  brings {e = e} any register slot v temporary held same g =
      let h = r.holds in
      let home = home_here S s t r slot in
      let usable = home_usable S (length s.blocks) r.frame r.older r.core h slot held.used in
      let inside = home_inside S (length s.blocks) r.frame r.older r.core h slot held.used in
      let q = operand_goes S.image (sizes S) h.base any register home (stack_few S) (same.frame_register ∙ h.at) temporary usable inside g in
      record {
        core = q.0;
        keeps = q.1.keeps;
        word = subst (HasWord (length s.blocks) v) (sym q.1.got) (word_held e slot v same held);
        others = q.1.others;
        going = q.2;
      }
