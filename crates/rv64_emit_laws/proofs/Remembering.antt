-- What the machine holds of the frames when memory changes.
use Rattle.std.proofs.Common.{◌≡◌, ◌≢◌, ℕ, zero, suc, ◌+◌, ◌-◌, ◌≤◌, refl, sym, ◌∙◌, arith, List, [], ◌∷◌, length, Bool}
use Rattle.bril_tree.specs.declared.home.Home.{Home}
use Rattle.bril_tree.specs.declared.home.Home.TheVariants.{Reg, Frame}
use Rattle.bril_tree.specs.declared.numbered.Instr.{Instr}
use Rattle.bril_tree.specs.declared.value.Value.{Value}
use Rattle.bril_tree.specs.Memory.{changed_block}
use Rattle.bril_tree.specs.Operand.{Location}
use Rattle.bril_tree.specs.State as bril
use Rattle.bril_tree.specs.Step.{step, advanced, code_of, with_locations}
use Rattle.placement_laws.specs.Holding as holding
use Rattle.rv64_words_laws.specs.blocks.Laws.{CoreHolds}
use Rattle.rv64_words_laws.proofs.lemmas.blocks.Allocating.{word_known}
use Rattle.rv64_words_laws.proofs.lemmas.blocks.Lists.{changed_length}
use Rattle.rv64_words_laws.specs.stretches.Core.{Core}
use Rattle.rv64_words_laws.proofs.lemmas.stretches.Going.{Going}
use Rattle.rv64_words_laws.specs.sequences.Moves.{fill_size, fill_words, home_word}
use Rattle.rv64_words_laws.proofs.lemmas.sequences.Homes.{fill_goes}
use Rattle.rv64_words_laws.proofs.lemmas.sequences.Sizes.{fill_most}
use Rattle.rv64_words.specs.State.{State}
use Rattle.slot_code.specs.declared.item.Slot.{Slot}
use Rattle.slot_code.specs.Laws.{IsSlotOf}
use Rattle.slot_code.specs.Meaning.{fills, with_slot}
use Rattle.rv64_emit_laws.specs.Homes.{home_at, saved_at}
use Rattle.rv64_emit_laws.proofs.Acting.{Fills}
use Rattle.rv64_emit_laws.proofs.Arriving.{Moves, arrive, guards_by, here, memory_by, onto_next}
use Rattle.rv64_emit_laws.proofs.Holding.{SameHomes, filled_holds, home_inside, home_usable, kept_holds, stack_few}
use Rattle.rv64_emit_laws.proofs.Relation.{HasWord, Waits, OlderHold, FramesHold, RunsAlike, own_word, shadow_word, way_of}
use Rattle.rv64_emit_laws.proofs.Setting.{Setting, entry_of, sizes}
use Rattle.rv64_emit_laws.proofs.Standing.{standing}
use Rattle.rv64_emit_laws.proofs.Stretches.{landed, store_some, with_end}

-- ---- more blocks were made

module _ (made more : ℕ) (le : made ≤ more) where
  pub saves_more : (code : List Instr) {H : Type 0} (homes : Location → H) (saved : ℕ → Location → Bool) (point : ℕ) (saves : List bril.Locals) (shadow : ℕ → Location → ℕ) →
      holding.SavesHold code homes saved (HasWord made) point saves shadow → holding.SavesHold code homes saved (HasWord more) point saves shadow
  saves_more code homes saved point [] shadow h = tt
  saves_more code homes saved point (save ∷ older) shadow h =
      (λ x v o told held. word_known made more v (shadow (suc (length older)) x) le (h.0 x v o told held), saves_more code homes saved point older shadow h.1)

  pub steady_more : (code : List Instr) {H : Type 0} (homes : Location → H) (saved : ℕ → Location → Bool) (point : ℕ) (locations : bril.Locals) (saves : List bril.Locals) →
      holding.IsSteady code homes saved (HasWord made) point locations saves → holding.IsSteady code homes saved (HasWord more) point locations saves
  steady_more code homes saved point locations [] h = tt
  steady_more code homes saved point locations (save ∷ older) h = (h.0, steady_more code homes saved point locations older h.1)

  waits_more : (S : Setting) (above base back depth : ℕ) (f : bril.Frame) (stack : ℕ → ℕ) → Waits S made above base back depth f stack → Waits S more above base back depth f stack
  waits_more S above base back depth f stack w = record {
    function = w.function;
    there = w.there;
    dest = w.dest;
    args = w.args;
    here = w.here;
    takes = w.takes;
    alone = w.alone;
    below = w.below;
    ends = w.ends;
    deep = w.deep;
    way = w.way;
    kept = λ x v live own held. word_known made more v (own_word w.function w.below stack x) le (w.kept x v live own held);
  }

  pub older_more : (S : Setting) (above base back : ℕ) (older : List bril.Frame) (stack : ℕ → ℕ) → OlderHold S made above base back older stack → OlderHold S more above base back older stack
  unfolding waits_more
  older_more S above base back [] stack h = h
  older_more S above base back (f ∷ older) stack h = (waits_more S above base back (length older) f stack h.0, older_more S f.function h.0.below (stack h.0.below) older stack h.1)

  -- the frames are held as before
  abbrev pub frames_more : (S : Setting) (f : bril.Frame) (older : List bril.Frame) (c : Core) → FramesHold S made f older c → FramesHold S more f older c
  frames_more S f older c h = record {
    function = h.function;
    there = h.there;
    base = h.base;
    at = h.at;
    zero_is = h.zero_is;
    left = h.left;
    deep = h.deep;
    holds = record {
      homes_hold = record { at = λ x v needed held. word_known made more v (home_word c h.base (home_at (S.homes f.function) x)) le (h.holds.homes_hold.at x v needed held) };
      saves_hold = saves_more (code_of S.p f.function) (home_at (S.homes f.function)) (saved_at (S.homes f.function)) f.point f.saves (shadow_word h.function h.base c.stack) h.holds.saves_hold;
      steady = steady_more (code_of S.p f.function) (home_at (S.homes f.function)) (saved_at (S.homes f.function)) f.point f.locations f.saves h.holds.steady;
    };
    older_hold = older_more S f.function h.base (way_of (S.homes f.function).leaf c h.base) older c.stack h.older_hold;
  }

-- a change of one block makes no block
pub same_made : (change : bril.Block → bril.Block) (blocks : List bril.Block) (block : ℕ) → length (changed_block blocks block change) ≡ length blocks
same_made change blocks zero = refl
same_made change blocks (suc k) = changed_length change blocks k

-- ---- a slot gets a value, and memory has changed

fill_some : (home : Home) → 1 ≤ fill_size home
fill_some (Reg r) = omega arith
fill_some (Frame o) = store_some o

module _ (S : Setting) (s : bril.State) (t : State) (r : RunsAlike S s t) where
  -- what a stretch kept that changed memory
  pub record KeepsFrames (e : Core) : Type 0 where
    pub homes : SameHomes r.core e
    pub printed : e.printed ≡ r.core.printed
    pub arrivals : e.arrivals ≡ r.core.arrivals

  pub fills_moves : (blocks : List bril.Block) (dest : Slot) (v : Value) (rs : ℕ) (e : Core) (n j : ℕ) → length s.blocks ≤ length blocks → IsSlotOf r.holds.function dest → Fills S r.frame dest → rs ≢ 6 → HasWord (length blocks) v (e.registers rs) → KeepsFrames e →
      CoreHolds (sizes S) blocks e → step S.p S.limits s ≡ fills S.p S.slots S.limits dest v r.frame r.older (record s { blocks = blocks }) →
      Going S.image (sizes S) (here S s t r) r.core n j e (fill_words rs ((S.homes r.frame.function).home dest)) → j + fill_size ((S.homes r.frame.function).home dest) ≡ entry_of S r.frame.function (suc r.frame.point) →
      n + 3 ≤ S.cost → Moves S s t
  fills_moves blocks dest v rs e n j le in_dest fl not_six word keeps memory stepped g there cheap =
      let h = r.holds in
      let home = (S.homes r.frame.function).home dest in
      let kept = kept_holds S (length s.blocks) r.frame r.older r.core r.holds e keeps.homes in
      let more = frames_more (length s.blocks) (length blocks) le S r.frame r.older e kept in
      let f : bril.Frame = advanced (with_locations (with_slot dest v r.frame.locations) r.frame) in
      let filled = fill_goes S.image (sizes S) r.holds.base rs home (stack_few S) (keeps.homes.frame_register ∙ r.holds.at) not_six (home_usable S (length s.blocks) r.frame r.older r.core r.holds dest in_dest)
      (home_inside S (length s.blocks) r.frame r.older r.core r.holds dest in_dest) (with_end (fill_words rs home) g) in
      let last = filled.0 in
      let rest = filled.1.rest in
      let holds = filled_holds S (length blocks) r.frame r.older e more (standing S s t r) dest fl v (e.registers rs) last in_dest word filled.1 in
      let one = fill_some home in
      let three = fill_most home in
      let count : n + fill_size home ≡ suc (n + fill_size home - 1) = omega arith in
      arrive S s t r (fills S.p S.slots S.limits dest v r.frame r.older (record s { blocks = blocks })) f r.older last (n + fill_size home - 1) stepped refl r.running (r.printed ∙ (sym keeps.printed ∙ sym rest.printed)) holds
      (memory_by S blocks e last rest.table rest.cells rest.blocks rest.next_free memory) (guards_by S s t r last (rest.arrivals ∙ keeps.arrivals)) (onto_next S s t r (landed (suc (n + fill_size home - 1)) (entry_of S r.frame.function (suc r.frame.point)) count there filled.2)) (omega arith)
