-- Registers are kept in the own words of their slots: a call brings them there and back, and a function loads its arguments.
use Rattle.std.proofs.Common.{◌≡◌, ◌≢◌, ℕ, zero, suc, ◌+◌, ◌*◌, ◌<◌, ◌≤◌, ◌⊎◌, inl, inr, Bool, true, false, eqb, not, refl, sym, ap, ◌∙◌, subst, arith, true≢false, List, [], ◌++◌, map, Option, Some, None}
use Rattle.std.specs.Prelude.{nat_lt, slice_get}
use Rattle.std.proofs.lemmas.Bool.{and_from, and_parts}
use Rattle.std.proofs.lemmas.Bool.Decides.{nat_tests}
use Rattle.bril_tree.specs.declared.home.Home.{Home}
use Rattle.bril_tree.specs.declared.home.Home.TheVariants.{Reg, Frame}
use Rattle.bril_tree.specs.declared.value.Value.{Value}
use Rattle.bril_tree.specs.FrameWords.{frame_head}
use Rattle.bril_tree.specs.FunctionForm.{listed}
use Rattle.bril_tree.specs.Home.{is_home_register}
use Rattle.bril_tree.specs.Live.{IsLive}
use Rattle.bril_tree.specs.Locals.{location_value}
use Rattle.bril_tree.specs.Membership.{In}
use Rattle.bril_tree.specs.Operand.{Location}
use Rattle.bril_tree.specs.Operand as location
use Rattle.bril_tree.specs.State as bril
use Rattle.bril_tree.specs.Step.{code_of, new_frame}
use Rattle.placement_laws.specs.Holding.{HomesHold}
use Rattle.placement_laws.specs.Homes.{slot_of}
use Rattle.placement_laws.proofs.Calling.{needed_alone}
use Rattle.rv64_emit_laws.specs.layout.Homes.{FunctionHomes, in_register, is_loaded, is_variable, moves_of, outlives, slot_word}
use Rattle.rv64_emit_laws.proofs.lemmas.layout.Moving.{are_usable, homes_are_apart, move_in, slot_move, unmoved, words_are_apart}
use Rattle.rv64_words_laws.specs.stretches.Core.{Core, written}
use Rattle.rv64_words_laws.proofs.lemmas.stretches.Cores.{apart_from, written_other}
use Rattle.rv64_words_laws.proofs.lemmas.stretches.Going.{Going}
use Rattle.rv64_words_laws.specs.sequences.Moves.{AreHomesApart, AreInside, AreUsable, IsUsable, Move, NoWordIsHome, Restored, Saved, home_word, restore_size, restore_words, save_size, save_words}
use Rattle.rv64_words_laws.proofs.lemmas.sequences.Moves.{AfterOne, homes_restored, homes_saved}
use Rattle.rv64_words.specs.declared.word.Word.{Word}
use Rattle.rv64_words.specs.Region.{stack_base}
use Rattle.slot_code.specs.declared.item.Slot.{Slot}
use Rattle.slot_code.specs.declared.item.Slot.TheVariants.{Variable}
use Rattle.slot_code.specs.declared.item.SlotItem.TheVariants.{Call}
use Rattle.slot_code.specs.declared.slots.SlotFunction.{SlotFunction}
use Rattle.slot_code.specs.Laws.{IsSlotOf}
use Rattle.slot_code.specs.Numbering.{slot_number}
use Rattle.rv64_emit_laws.specs.Homes.{home_at, saved_at}
use Rattle.rv64_emit_laws.proofs.Frames.{arguments_hold, live_in, number_one, slot_fits}
use Rattle.rv64_emit_laws.proofs.Holding.{stack_few}
use Rattle.rv64_emit_laws.proofs.Homes.{framed_in, live_apart, origin, serving, sound_in, usable_in}
use Rattle.rv64_emit_laws.proofs.Relation.{HasWord, way_of}
use Rattle.rv64_emit_laws.proofs.Setting.{Setting, sizes}

-- ---- homes and registers

-- a home is a register, or isn't
framed_clash : (home : Home) (o : ℕ) → in_register home ≡ true → home ≡ Frame o → ⊥
framed_clash home o register e = true≢false (sym register ∙ ap in_register e)

-- a register in which no location may be is no home
pub home_unwritten : (c : Core) (r v b : ℕ) (home : Home) → is_home_register r ≡ false → IsUsable home → home_word (written c r v) b home ≡ home_word c b home
home_unwritten c r v b (Reg s) none usable = written_other c r v s (apart_from r s none usable)
home_unwritten c zero v b (Frame o) none usable = refl
home_unwritten c (suc r) v b (Frame o) none usable = refl

-- ---- moves between registers and own words

-- The slots that pass a test are in registers and live at one point; each is brought to its own word, or from there.
module _ (S : Setting) (f : ℕ) (g : SlotFunction) (there : slice_get S.slots.funcs f ≡ Some g) (point : ℕ) (test : Slot → Bool)
    (passes : (slot : Slot) → test slot ≡ true → (in_register ((S.homes f).home slot) ≡ true) × ((S.homes f).live point slot ≡ true)) where
  abbrev own_moves : List Move
  own_moves = moves_of (S.homes f) g frame_head test

  -- none of their homes is in the frame
  not_framed : (m : Move) (o : ℕ) → In m own_moves → m.home ≡ Frame o → ⊥
  not_framed m o i e =
      let w = slot_move (S.homes f) (origin S f g there).function g (origin S f g there).is frame_head test m i in
      framed_clash ((S.homes f).home w.slot) o (passes w.slot w.passes).0 (sym w.home ∙ e)

  -- and none of their words is the home of a slot
  other_word : (slot : Slot) (o : ℕ) → IsSlotOf g slot → (S.homes f).home slot ≡ Frame o → (m : Move) → In m own_moves → o ≢ m.word
  other_word slot o in_g e m i same =
      let w = slot_move (S.homes f) (origin S f g there).function g (origin S f g there).is frame_head test m i in
      let own : o ≡ slot_word g slot = framed_in S f g there slot o in_g e in
      let numbers : slot_number g.shadow_numbers slot ≡ slot_number g.shadow_numbers w.slot = (let word = w.word in omega arith) in
      let one = number_one (origin S f g there).function g (origin S f g there).is slot w.slot in_g w.in_g numbers in
      framed_clash ((S.homes f).home w.slot) o (passes w.slot w.passes).0 (sym (ap (S.homes f).home one) ∙ e)

  -- ---- saved

  -- the own word of a slot has what its home had
  pub own_holds : (b : ℕ) (c e : Core) → Saved b own_moves c e → (slot : Slot) → IsSlotOf g slot → (in_register ((S.homes f).home slot) ≡ true → test slot ≡ true) → e.stack (b + slot_word g slot) ≡ home_word c b ((S.homes f).home slot)
  own_holds b c e s slot in_g chosen = by ((S.homes f).home slot) refl
    where
      by : (home : Home) → (S.homes f).home slot ≡ home → e.stack (b + slot_word g slot) ≡ home_word c b ((S.homes f).home slot)
      by (Reg r) same = s.got _ (move_in (S.homes f) (origin S f g there).function g (origin S f g there).is frame_head test slot in_g (chosen (ap in_register same)))
      by (Frame o) same =
          let own : o ≡ slot_word g slot = framed_in S f g there slot o in_g same in
          s.others (b + slot_word g slot) (λ m i at. other_word slot o in_g same m i (omega arith)) ∙ (ap (λ n. c.stack (b + n)) (sym own) ∙ ap (home_word c b) (sym same))

  -- and its home still has it
  pub home_stays : (b : ℕ) (c e : Core) → Saved b own_moves c e → (slot : Slot) → IsSlotOf g slot → home_word e b ((S.homes f).home slot) ≡ home_word c b ((S.homes f).home slot)
  home_stays b c e s slot in_g = by ((S.homes f).home slot) refl (usable_in S f g there slot in_g)
    where
      by : (home : Home) → (S.homes f).home slot ≡ home → IsUsable home → home_word e b home ≡ home_word c b home
      by (Reg r) same usable = s.registers r (apart_from 5 r refl usable) (apart_from 6 r refl usable)
      by (Frame o) same usable = s.others (b + o) (λ m i at. other_word slot o in_g same m i (omega arith))

  -- words below those of the slots stay
  pub low_kept : (b : ℕ) (c e : Core) → Saved b own_moves c e → (k : ℕ) → k < b + 2 → e.stack k ≡ c.stack k
  low_kept b c e s k lt = s.others k (unmoved (S.homes f) (origin S f g there).function g (origin S f g there).is frame_head test b k (inl lt))

  -- ---- restored

  -- the home of a slot has what its own word has
  pub home_loaded : (b : ℕ) (c e : Core) → Restored b own_moves c e → (slot : Slot) → IsSlotOf g slot → (in_register ((S.homes f).home slot) ≡ true → test slot ≡ true) → home_word e b ((S.homes f).home slot) ≡ c.stack (b + slot_word g slot)
  home_loaded b c e s slot in_g chosen = by ((S.homes f).home slot) refl
    where
      by : (home : Home) → (S.homes f).home slot ≡ home → home_word e b ((S.homes f).home slot) ≡ c.stack (b + slot_word g slot)
      by (Reg r) same = s.got _ (move_in (S.homes f) (origin S f g there).function g (origin S f g there).is frame_head test slot in_g (chosen (ap in_register same)))
      by (Frame o) same =
          let own : o ≡ slot_word g slot = framed_in S f g there slot o in_g same in
          ap (home_word e b) same ∙ (s.stack (b + o) (λ m p i at. absurd (not_framed m p i at)) ∙ ap (λ n. c.stack (b + n)) own)

  -- the stack stays, and register 10
  pub stack_kept : (b : ℕ) (c e : Core) → Restored b own_moves c e → (k : ℕ) → e.stack k ≡ c.stack k
  stack_kept b c e s k = s.stack k (λ m o i at. absurd (not_framed m o i at))

  pub tenth_kept : (b : ℕ) (c e : Core) → Restored b own_moves c e → e.registers 10 ≡ c.registers 10
  tenth_kept b c e s = s.registers 10 (λ x. absurd (omega arith)) (λ x. absurd (omega arith)) ten
    where
      by : (home : Home) → home ≡ Reg 10 → IsUsable home → ⊥
      by home e usable = absurd (true≢false (sym (subst IsUsable e usable) ∙ refl))

      ten : (m : Move) → In m own_moves → m.home ≢ Reg 10
      ten m i e =
          let w = slot_move (S.homes f) (origin S f g there).function g (origin S f g there).is frame_head test m i in
          by m.home e (subst IsUsable (sym w.home) (usable_in S f g there w.slot w.in_g))

  -- ---- the words that do it

  module _ (b : ℕ) (room : b + g.words ≤ S.image.stack) where
    none_is_home : NoWordIsHome own_moves
    none_is_home m n i j e = not_framed n m.word j e

    usable_all : AreUsable own_moves
    usable_all = are_usable (S.homes f) (origin S f g there).function g (origin S f g there).is frame_head test (usable_in S f g there)

    inside_all : AreInside (sizes S) b own_moves
    inside_all m i =
        let w = slot_move (S.homes f) (origin S f g there).function g (origin S f g there).is frame_head test m i in
        let fits = slot_fits (origin S f g there).function g (origin S f g there).is w.slot w.in_g in
        let word : m.word ≡ frame_head + slot_number g.shadow_numbers w.slot = w.word in
        (omega arith, λ o e. absurd (not_framed m o i e))

    apart_all : AreHomesApart own_moves
    apart_all = homes_are_apart (S.homes f) (origin S f g there).function g (origin S f g there).is frame_head test
        (λ x y in_x in_y told_x told_y same. live_apart (code_of S.p f) (origin S f g there).function.args g (S.homes f) (serving S f g there) point x y (passes x told_x).1 (passes y told_y).1 (passes x told_x).0 same)

    pub saves_own : {k : ℕ} {c : Core} {n j : ℕ} (d : Core) (ws : List Word) → d.registers 2 ≡ stack_base + 8 * b → Going S.image (sizes S) k c n j d (save_words own_moves ++ ws) → AfterOne S.image (sizes S) (stack_few S) b (Saved b own_moves d) k c n j (save_size own_moves) ws
    saves_own d ws two on = homes_saved S.image (sizes S) (stack_few S) b own_moves d ws (words_are_apart (S.homes f) (origin S f g there).function g (origin S f g there).is frame_head test) none_is_home usable_all inside_all two on

    pub loads_own : {k : ℕ} {c : Core} {n j : ℕ} (d : Core) (ws : List Word) → d.registers 2 ≡ stack_base + 8 * b → Going S.image (sizes S) k c n j d (restore_words own_moves ++ ws) → AfterOne S.image (sizes S) (stack_few S) b (Restored b own_moves d) k c n j (restore_size own_moves) ws
    loads_own d ws two on = homes_restored S.image (sizes S) (stack_few S) b own_moves d ws apart_all none_is_home usable_all inside_all two on

-- ---- which slots they are

module _ (homes : FunctionHomes) where
  pub call_passes : (point : ℕ) (dest : Option ℕ) (slot : Slot) → outlives homes point dest slot ≡ true → (in_register (homes.home slot) ≡ true) × (homes.live (suc point) slot ≡ true)
  call_passes point dest slot e = (let p = and_parts _ _ e in (p.0, (and_parts _ _ p.1).0))

  pub call_chooses : (point : ℕ) (dest : Option ℕ) (slot : Slot) → homes.live (suc point) slot ≡ true → is_variable dest slot ≡ false → in_register (homes.home slot) ≡ true → outlives homes point dest slot ≡ true
  call_chooses point dest slot live other register = and_from _ _ register (and_from _ _ live (ap not other))

  pub opening_passes : (g : SlotFunction) (slot : Slot) → is_loaded homes g slot ≡ true → (in_register (homes.home slot) ≡ true) × (homes.live 0 slot ≡ true)
  opening_passes g slot e = (let p = and_parts _ _ e in (p.0, (and_parts _ _ p.1).1))

  pub opening_chooses : (g : SlotFunction) (x : ℕ) → x < g.args → homes.live 0 (Variable x) ≡ true → in_register (homes.home (Variable x)) ≡ true → is_loaded homes g (Variable x) ≡ true
  opening_chooses g x lt live register =
      let argument : nat_lt x g.args ≡ true = grind (arith, nat_tests) in
      and_from _ _ register (and_from _ _ argument live)

-- what isn't assigned isn't the destination
pub other_variable : (dest : Option ℕ) (x : Location) → (In x (map location.Variable (listed dest)) → ⊥) → is_variable dest (slot_of x) ≡ false
other_variable None x none = refl
other_variable (Some y) (location.Shadow x) none = refl
other_variable (Some y) (location.Variable x) none = by (eqb y x) refl
  where
    by : (t : Bool) → eqb y x ≡ t → eqb y x ≡ false
    by false e = e
    by true e = absurd (none (inl (let same : y ≡ x = grind (arith, nat_tests) in ap location.Variable (sym same))))

-- a function that calls is no leaf, and its way back is in its frame
pub way_in_frame : (S : Setting) (f : ℕ) (g : SlotFunction) → slice_get S.slots.funcs f ≡ Some g → (point : ℕ) (dest : Option ℕ) (function : ℕ) (args : List ℕ) → slice_get g.code point ≡ Some (Call dest function args) →
    (c : Core) (b : ℕ) → c.stack b ≡ way_of (S.homes f).leaf c b
way_in_frame S f g there point dest function args item c b = by (S.homes f).leaf refl
  where
    by : (leaf : Bool) → (S.homes f).leaf ≡ leaf → c.stack b ≡ way_of leaf c b
    by true told = absurd ((serving S f g there).leaf told point dest function args item)
    by false told = refl

-- ---- a new frame

-- The arguments of a new frame are at their homes.
module _ (S : Setting) (made : ℕ) (f : ℕ) (g : SlotFunction) (there : slice_get S.slots.funcs f ≡ Some g) (vals : List Value) (b : ℕ) (last : Core)
    (arrives : (x : ℕ) (v : Value) → slice_get vals x ≡ Some v → IsSlotOf g (Variable x) → (S.homes f).live 0 (Variable x) ≡ true → HasWord made v (home_word last b ((S.homes f).home (Variable x)))) where
  none_some : {v : Value} → None ≡ Some v → ⊥
  none_some x = cc

  argument : (x : ℕ) (v : Value) → IsLive (code_of S.p f) (location.Variable x) 0 → ((i : ℕ) × (x ≡ 0 + i) × (slice_get vals i ≡ Some v)) ⊎ (bril.no_values x ≡ Some v) → HasWord made v (home_word last b ((S.homes f).home (Variable x)))
  argument x v live (inl w) =
      let at : w.0 ≡ x = (let is = w.1 in omega arith) in
      let in_x = live_in S (new_frame f vals) g there (location.Variable x) 0 live in
      let told = ((serving S f g there).live 0 (location.Variable x)).1 live in
      arrives x v (subst (λ i. slice_get vals i ≡ Some v) at w.2) in_x told
  argument x v live (inr w) = absurd (none_some w)

  at_home : (x : Location) (v : Value) → IsLive (code_of S.p f) x 0 → location_value (new_frame f vals).locations x ≡ Some v → HasWord made v (home_word last b (home_at (S.homes f) x))
  at_home (location.Variable x) v live held = argument x v live (arguments_hold vals 0 bril.no_values x v held)
  at_home (location.Shadow x) v live held = absurd (none_some held)

  pub arguments_home : HomesHold (code_of S.p f) (home_at (S.homes f)) (saved_at (S.homes f)) (HasWord made) 0 (new_frame f vals).locations (home_word last b)
  arguments_home =
      let serves = serving S f g there in
      record { at = λ x v needed held. at_home x v (needed_alone (code_of S.p f) (origin S f g there).function.args (sound_in S f g there) (home_at (S.homes f)) (saved_at (S.homes f)) serves.saved serves.placed (HasWord made) [] tt (omega arith) x needed) held }
