-- What the machine holds of the frames of a program, when the newest one changes.
use Rattle.std.proofs.Common.{◌≡◌, ◌≢◌, ℕ, suc, ◌+◌, ◌*◌, ◌<◌, ◌≤◌, Bool, refl, sym, ap, ◌∙◌, subst, arith, List, length, Some, mul-le-mul_left}
use Rattle.std.specs.Prelude.{IsTrue, slice_get}
use Rattle.std.specs.List.{Contains}
use Rattle.bril_tree.specs.declared.home.Home.{Home}
use Rattle.bril_tree.specs.declared.home.Home.TheVariants.{Reg, Frame}
use Rattle.bril_tree.specs.declared.numbered.Instr.{Instr}
use Rattle.bril_tree.specs.declared.value.Value.{Value}
use Rattle.bril_tree.specs.Assigned.{assigns_at}
use Rattle.bril_tree.specs.Edge.{branches_at, onward}
use Rattle.bril_tree.specs.Home.{is_home_register}
use Rattle.bril_tree.specs.Live.{IsLive}
use Rattle.bril_tree.specs.Locals.{location_value}
use Rattle.bril_tree.specs.Operand.{Location}
use Rattle.bril_tree.specs.State as bril
use Rattle.bril_tree.specs.Step.{at_point, advanced, code_of, with_locations}
use Rattle.bril_tree.specs.Walk.{end_of}
use Rattle.placement_laws.specs.Holding.{FrameHolds}
use Rattle.placement_laws.specs.Homes.{slot_of}
use Rattle.placement_laws.specs.Needed.{IsNeeded, Live, Unsaved}
use Rattle.placement_laws.proofs.Filling.{homes_filled}
use Rattle.placement_laws.proofs.Steady.{homes_on, saves_on, steady_on}
use Rattle.placement_laws.proofs.Homes.{location_back}
use Rattle.rv64_emit_laws.specs.layout.Homes.{level_word, slot_word}
use Rattle.rv64_words_laws.specs.stretches.Core.{Core, Keeps}
use Rattle.rv64_words_laws.specs.sequences.Frames.{Reaches}
use Rattle.rv64_words_laws.specs.sequences.Moves.{Filled, IsHomeInside, IsUsable, home_word}
use Rattle.slot_code.specs.declared.item.Slot.{Slot}
use Rattle.slot_code.specs.Laws.{IsSlotOf}
use Rattle.slot_code.specs.Flow.{slot_location}
use Rattle.slot_code.specs.Meaning.{with_slot}
use Rattle.slot_code.specs.Numbering.{slot_number}
use Rattle.rv64_emit_laws.specs.Homes.{home_at, saved_at}
use Rattle.rv64_emit_laws.proofs.Acting.{Fills, Leads}
use Rattle.rv64_emit_laws.proofs.Frames.{filled_here, filled_other, inside, live_in, number_inside, older_stay, one_or_not, slot_back, slot_fits, value_at, value_of}
use Rattle.rv64_emit_laws.proofs.Homes.{framed_in, origin, usable_in}
use Rattle.rv64_emit_laws.proofs.Ready.{slot_value}
use Rattle.rv64_emit_laws.proofs.Relation.{FramesHold, HasWord, HoldsAt, shadow_word}
use Rattle.rv64_emit_laws.proofs.Setting.{Setting, sizes, widest}
use Rattle.rv64_emit_laws.proofs.Sources.{SourceAt}
use Rattle.rv64_emit_laws.proofs.Standing.{Stands, assigns_here, assigns_there, few_saves, goes_there}

-- the stack has room for the frames that are allowed, each as large as the largest
pub stack_room : (S : Setting) → S.limits.frames * widest S ≤ S.image.stack
stack_room S = let e = S.laid.is.stack in omega arith

pub stack_few : (S : Setting) → S.image.stack ≤ 8388608
stack_few S = let e = S.laid.is.stack in let h = S.laid.few_frames in omega arith

-- ---- what homes rely on

-- registers 0, 1, 2 and 8, those in which locations may be, and the stack are the same
pub record SameHomes (c e : Core) : Type 0 where
  pub zero_register : e.registers 0 ≡ c.registers 0
  pub link_register : e.registers 1 ≡ c.registers 1
  pub frame_register : e.registers 2 ≡ c.registers 2
  pub frames_left : e.registers 8 ≡ c.registers 8
  pub homes : (r : ℕ) → IsTrue (is_home_register r) → e.registers r ≡ c.registers r
  pub stack : e.stack ≡ c.stack

pub keeps_homes : (c e : Core) → Keeps c e → SameHomes c e
keeps_homes c e k = record { zero_register = k.zero_register; link_register = k.link_register; frame_register = k.frame_register; frames_left = k.frames_left; homes = k.homes; stack = k.stack }

pub same_itself : (c : Core) → SameHomes c c
same_itself c = record { zero_register = refl; link_register = refl; frame_register = refl; frames_left = refl; homes = λ r h. refl; stack = refl }

pub home_same : (c e : Core) (b : ℕ) (home : Home) → SameHomes c e → IsUsable home → home_word e b home ≡ home_word c b home
home_same c e b (Reg r) same usable = same.homes r usable
home_same c e b (Frame o) same usable = ap (λ m. m (b + o)) same.stack

-- homes that have other words where the point doesn't need them
pub reworded : (code : List Instr) {H : Type 0} (homes : Location → H) (saved : ℕ → Location → Bool) (Has : Value → ℕ → Type 0) (point : ℕ) (locations : bril.Locals) (saves : List bril.Locals) (word after : H → ℕ) (shadow : ℕ → Location → ℕ) →
    ((x : Location) → IsNeeded code saved point x → after (homes x) ≡ word (homes x)) → FrameHolds code homes saved Has point locations saves word shadow → FrameHolds code homes saved Has point locations saves after shadow
reworded code homes saved Has point locations saves word after shadow same h = record {
  homes_hold = record { at = λ x v needed held. subst (Has v) (sym (same x needed)) (h.homes_hold.at x v needed held) };
  saves_hold = h.saves_hold;
  steady = h.steady;
}

module _ (S : Setting) (made : ℕ) (f : bril.Frame) (older : List bril.Frame) (c : Core) (h : FramesHold S made f older c) where
  pub source : SourceAt S.p f.function h.function
  source = origin S f.function h.function h.there

  -- a word of the newest frame is one of the stack
  pub frame_reaches : (e : Core) (o : ℕ) → e.registers 2 ≡ c.registers 2 → o < h.function.words → Reaches (sizes S) e 2 h.base o
  frame_reaches e o same lt =
      let left : c.registers 8 + suc (length older) ≡ S.limits.frames = h.left in
      let few : suc (length older) ≤ S.limits.frames = omega arith in
      record {
        base = same ∙ h.at;
        inside = inside h.base o h.function.words (widest S) (length older) S.limits.frames S.image.stack h.deep (S.laid.frames f.function h.function h.there) lt few (stack_room S);
        few = stack_few S;
      }

  -- ---- homes of slots

  pub home_usable : (slot : Slot) → IsSlotOf h.function slot → IsUsable ((S.homes f.function).home slot)
  home_usable slot in_g = usable_in S f.function h.function h.there slot in_g

  -- a home in the frame is the slot's own word
  pub home_framed : (slot : Slot) (o : ℕ) → IsSlotOf h.function slot → (S.homes f.function).home slot ≡ Frame o → o ≡ slot_word h.function slot
  home_framed slot o in_g e = framed_in S f.function h.function h.there slot o in_g e

  pub home_inside : (slot : Slot) → IsSlotOf h.function slot → IsHomeInside (sizes S) h.base ((S.homes f.function).home slot)
  home_inside slot in_g o e =
      (frame_reaches c o refl (subst (λ n. n < h.function.words) (sym (home_framed slot o in_g e)) (slot_fits source.function h.function source.is slot in_g))).inside

  -- the word of a slot that is live and holds a value is at its home
  pub home_held : (slot : Slot) (v : Value) → IsLive (code_of S.p f.function) (slot_location slot) f.point → slot_value f.locations slot ≡ Some v → HasWord made v (home_word c h.base ((S.homes f.function).home slot))
  home_held slot v live held =
      subst (λ s. HasWord made v (home_word c h.base ((S.homes f.function).home s))) (slot_back slot)
      (h.holds.homes_hold.at (slot_location slot) v (Live live) (value_at f.locations slot ∙ held))

  -- what a point needs is a slot
  pub needed_in : (point : ℕ) (x : Location) → IsNeeded (code_of S.p f.function) (saved_at (S.homes f.function)) point x → IsSlotOf h.function (slot_of x)
  needed_in point x (Live live) = live_in S f h.function h.there x point live
  needed_in point x (Unsaved level u) = live_in S f h.function h.there x u.out.way.to u.out.live

  -- no word in which a speculation keeps a slot is the home of a slot
  pub no_level_home : (slot : Slot) (o level number : ℕ) → IsSlotOf h.function slot → (S.homes f.function).home slot ≡ Frame o → 1 ≤ level → h.base + (level_word h.function level + number) ≢ h.base + o
  no_level_home slot o level number in_g e some same =
      let own = home_framed slot o in_g e in
      let below = number_inside source.function h.function source.is slot in_g in
      let more : length h.function.slots * 1 ≤ length h.function.slots * level = mul-le-mul_left (length h.function.slots) some in
      let one : length h.function.slots * 1 ≡ length h.function.slots = omega arith in
      absurd (omega arith)

  -- ---- the newest frame stays at its point

  -- what homes rely on is the same
  pub same_words : (e : Core) → SameHomes c e →
      HoldsAt S made f f.point f.locations f.saves (home_word e h.base) (shadow_word h.function h.base e.stack)
  same_words e same =
      subst (λ m. HoldsAt S made f f.point f.locations f.saves (home_word e h.base) (shadow_word h.function h.base m)) (sym same.stack)
      (reworded (code_of S.p f.function) (home_at (S.homes f.function)) (saved_at (S.homes f.function)) (HasWord made) f.point f.locations f.saves (home_word c h.base) (home_word e h.base) (shadow_word h.function h.base c.stack)
      (λ x needed. home_same c e h.base (home_at (S.homes f.function) x) same (home_usable (slot_of x) (needed_in f.point x needed))) h.holds)

  -- at a point, by what it holds there
  abbrev pub holds_at : (point : ℕ) (e : Core) → SameHomes c e → HoldsAt S made f point f.locations f.saves (home_word e h.base) (shadow_word h.function h.base e.stack) → FramesHold S made (at_point point f) older e
  holds_at point e same holds = record {
    function = h.function;
    there = h.there;
    base = h.base;
    at = same.frame_register ∙ h.at;
    zero_is = same.zero_register ∙ h.zero_is;
    left = ap (λ y. y + suc (length older)) same.frames_left ∙ h.left;
    deep = h.deep;
    holds = holds;
    older_hold = older_stay S made f h.base older c e same.link_register (λ k lt. ap (λ m. m k) same.stack) h.older_hold;
  }

  abbrev pub kept_holds : (e : Core) → SameHomes c e → FramesHold S made f older e
  kept_holds e same = holds_at f.point e same (same_words e same)

  -- ---- it goes to another point

  pub moved_holds : Stands S f h.function → (point : ℕ) → Leads S f point → (e : Core) → SameHomes c e → FramesHold S made (at_point point f) older e
  moved_holds st point l e same = holds_at point e same (subst (λ k. HoldsAt S made f k f.locations f.saves (home_word e h.base) (shadow_word h.function h.base e.stack)) l.to (record {
    homes_hold = homes_on (code_of S.p f.function) st.sound (home_at (S.homes f.function)) (saved_at (S.homes f.function)) st.serves.saved (HasWord made) st.walk l.branch st.is (goes_there S f h.function st l.branch l.at)
        l.plain f.locations (home_word e h.base) none now.homes_hold;
    saves_hold = saves_on (code_of S.p f.function) st.sound (home_at (S.homes f.function)) (saved_at (S.homes f.function)) st.serves.saved (HasWord made) st.walk l.branch st.is (goes_there S f h.function st l.branch l.at)
        f.saves (shadow_word h.function h.base e.stack) (shadow_word h.function h.base e.stack) (few_saves S f h.function st) (λ level x some le o. refl) now.saves_hold;
    steady = steady_on (code_of S.p f.function) st.sound (home_at (S.homes f.function)) (saved_at (S.homes f.function)) st.serves.saved (HasWord made) st.walk l.branch st.is (goes_there S f h.function st l.branch l.at)
        f.locations f.locations f.saves (few_saves S f h.function st) (λ x n. refl) now.steady;
  }))
    where
      none : (x : Location) → Contains (assigns_at (slice_get (code_of S.p f.function) (end_of st.walk))) x → ⊥
      none x c = l.none x (assigns_here S f h.function st x c)

      now : HoldsAt S made f (end_of st.walk) f.locations f.saves (home_word e h.base) (shadow_word h.function h.base e.stack)
      now = subst (λ k. HoldsAt S made f k f.locations f.saves (home_word e h.base) (shadow_word h.function h.base e.stack)) (sym st.ends) (same_words e same)

  -- ---- a slot of it gets a value

  -- a slot of the newest frame gets a value, its home the word of that, and the frame goes to its next point
  pub filled_holds : Stands S f h.function → (dest : Slot) → Fills S f dest → (v : Value) (w : ℕ) (e : Core) → IsSlotOf h.function dest → HasWord made v w → Filled h.base ((S.homes f.function).home dest) w c e →
      FramesHold S made (advanced (with_locations (with_slot dest v f.locations) f)) older e
  filled_holds st dest fl v w e in_dest word filled = record {
    function = h.function;
    there = h.there;
    base = h.base;
    at = filled.rest.frame_register ∙ h.at;
    zero_is = filled.rest.zero_register ∙ h.zero_is;
    left = ap (λ y. y + suc (length older)) filled.rest.frames_left ∙ h.left;
    deep = h.deep;
    holds = record {
      homes_hold = homes_filled (code_of S.p f.function) st.func.args st.sound (home_at (S.homes f.function)) (saved_at (S.homes f.function)) st.serves.saved st.serves.placed (HasWord made) one_or_not st.walk (onward f.point) st.is there refl
          (slot_location dest) v f.locations (with_slot dest v f.locations) (home_word c h.base) (home_word e h.base) (assigns_there S f h.function st (slot_location dest) fl.assigns) (λ x i. fl.only x (assigns_here S f h.function st x i))
          (value_at (with_slot dest v f.locations) dest ∙ filled_here dest v f.locations) other_same (subst (λ s. HasWord made v (home_word e h.base ((S.homes f.function).home s))) (sym (slot_back dest)) (subst (HasWord made v) (sym filled.got) word))
          (λ x needed apart. filled.others (home_at (S.homes f.function) x) (home_usable (slot_of x) (needed_in (suc f.point) x needed)) (λ same. apart (same ∙ ap (S.homes f.function).home (sym (slot_back dest)))))
          now.homes_hold;
      saves_hold = saves_on (code_of S.p f.function) st.sound (home_at (S.homes f.function)) (saved_at (S.homes f.function)) st.serves.saved (HasWord made) st.walk (onward f.point) st.is there
          f.saves (shadow_word h.function h.base c.stack) (shadow_word h.function h.base e.stack) (few_saves S f h.function st)
          (λ level x some le o. filled.stack (h.base + (level_word h.function level + slot_number h.function.shadow_numbers (slot_of x))) (λ p is. no_level_home dest p level (slot_number h.function.shadow_numbers (slot_of x)) in_dest is some)) now.saves_hold;
      steady = steady_on (code_of S.p f.function) st.sound (home_at (S.homes f.function)) (saved_at (S.homes f.function)) st.serves.saved (HasWord made) st.walk (onward f.point) st.is there
          f.locations (with_slot dest v f.locations) f.saves (few_saves S f h.function st)
          (λ x none. other_same x (λ is. none (subst (Contains (assigns_at (slice_get (code_of S.p f.function) (end_of st.walk)))) (sym is) (assigns_there S f h.function st (slot_location dest) fl.assigns)))) now.steady;
    };
    older_hold = older_stay S made f h.base older c e filled.rest.link_register (λ k lt. filled.stack k (λ o is same. (let own = home_framed dest o in_dest is in absurd (omega arith)))) h.older_hold;
  }
    where
      there : Contains (branches_at (code_of S.p f.function) (end_of st.walk)) (onward f.point)
      there = goes_there S f h.function st (onward f.point) fl.at

      now : HoldsAt S made f (end_of st.walk) f.locations f.saves (home_word c h.base) (shadow_word h.function h.base c.stack)
      now = subst (λ k. HoldsAt S made f k f.locations f.saves (home_word c h.base) (shadow_word h.function h.base c.stack)) (sym st.ends) h.holds

      other_same : (x : Location) → x ≢ slot_location dest → location_value (with_slot dest v f.locations) x ≡ location_value f.locations x
      other_same x ne =
          let apart : slot_of x ≢ dest = (λ is. ne (sym (location_back x) ∙ ap slot_location is)) in
          sym (value_of (with_slot dest v f.locations) x) ∙ (filled_other dest (slot_of x) v f.locations apart ∙ value_of f.locations x)
