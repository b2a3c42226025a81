-- The frames of a program on the machine's stack.
use Rattle.std.proofs.Common.{◌≡◌, ◌≢◌, ℕ, zero, suc, ◌+◌, ◌*◌, ◌<◌, ◌≤◌, ◌⊎◌, inl, inr, ⊎_elim, Bool, true, false, cond, eqb, refl, sym, ap, ◌∙◌, subst, arith, List, [], ◌∷◌, length, Some, mul-le-mul_right}
use Rattle.std.specs.Prelude.{slice_get}
use Rattle.std.proofs.lemmas.Bool.{cases_eq}
use Rattle.std.proofs.lemmas.Bool.Decides.{nat_tests}
use Rattle.std.proofs.lemmas.Option.{same_Some, slice_get_within}
use Rattle.bril_tree.specs.declared.numbered_function.Func.{Func}
use Rattle.bril_tree.specs.declared.value.Value.{Value}
use Rattle.bril_tree.specs.FrameWords.{frame_head}
use Rattle.bril_tree.specs.Live.{IsLive}
use Rattle.bril_tree.specs.Locals.{location_value}
use Rattle.bril_tree.specs.Operand.{Location}
use Rattle.bril_tree.specs.Operand as location
use Rattle.bril_tree.specs.State.{Locals, Frame, Values, with_value}
use Rattle.bril_tree.specs.Step.{arguments_from, code_of, items_of}
use Rattle.placement_laws.specs.Homes.{slot_of}
use Rattle.placement_laws.proofs.Living.{live_slot}
use Rattle.rv64_emit_laws.specs.layout.Homes.{slot_word}
use Rattle.slot_code.specs.declared.item.Slot.{Slot}
use Rattle.slot_code.specs.declared.item.Slot.TheVariants.{Variable, Shadow}
use Rattle.slot_code.specs.Flow.{slot_location}
use Rattle.slot_code.specs.declared.slots.SlotFunction.{SlotFunction}
use Rattle.slot_code.specs.Laws.{IsSlotOf}
use Rattle.slot_code.specs.Lowered.{IsLoweredFunction}
use Rattle.slot_code.specs.Meaning.{with_slot}
use Rattle.slot_code.specs.Numbering.{slot_number}
use Rattle.slot_code.proofs.Places.{slot_place}
use Rattle.rv64_emit_laws.proofs.Ready.{slot_value}
use Rattle.rv64_emit_laws.proofs.Relation.{HasWord, OlderHold, way_of}
use Rattle.rv64_emit_laws.proofs.Setting.{Setting}
use Rattle.rv64_emit_laws.proofs.Sources.{source_at}
use Rattle.rv64_emit_laws.proofs.Ways.{way_stays}
use Rattle.rv64_words_laws.specs.stretches.Core.{Core}

-- ---- slots and their numbers

module _ (f : Func) (g : SlotFunction) (is : IsLoweredFunction f g) where
  pub number_inside : (slot : Slot) → IsSlotOf g slot → slot_number g.shadow_numbers slot < length g.slots
  number_inside slot in_g = slice_get_within g.slots (slot_number g.shadow_numbers slot) slot (slot_place f g is slot in_g)

  pub number_one : (x y : Slot) → IsSlotOf g x → IsSlotOf g y → slot_number g.shadow_numbers x ≡ slot_number g.shadow_numbers y → x ≡ y
  number_one x y in_x in_y same = same_Some x y (sym (slot_place f g is x in_x) ∙ ap (slice_get g.slots) same ∙ slot_place f g is y in_y)

  -- a frame has the words of its slots and more
  pub slots_fit : frame_head + length g.slots ≤ g.words
  slots_fit =
      let words = g_words in
      more (length g.slots) is.words.depth g.words words
    where
      g_words : g.words ≡ frame_head + length g.slots * (1 + is.words.depth)
      g_words = is.words.are ∙ ap (λ n. frame_head + n * (1 + is.words.depth)) (sym is.count)

      more : (n d w : ℕ) → w ≡ frame_head + n * (1 + d) → frame_head + n ≤ w
      more n d w e = let split : n * (1 + d) ≡ n + n * d = grind arith in omega arith

  -- each variable is a slot
  pub variables_fit : g.variables ≤ length g.slots
  variables_fit = by_number g.variables refl
    where
      by_number : (n : ℕ) → g.variables ≡ n → n ≤ length g.slots
      by_number zero e = omega arith
      by_number (suc n) e = let last : n < g.variables = omega arith in let below : n < length g.slots = number_inside (Variable n) last in omega arith

  pub slot_fits : (slot : Slot) → IsSlotOf g slot → frame_head + slot_number g.shadow_numbers slot < g.words
  slot_fits slot in_g = let inside = number_inside slot in_g in let fit = slots_fit in omega arith

-- a slot that got a value has it
pub filled_here : (slot : Slot) (v : Value) (locations : Locals) → slot_value (with_slot slot v locations) slot ≡ Some v
filled_here (Variable x) v locations = let e : eqb x x ≡ true = grind (arith, nat_tests) in ap (λ t. cond t (Some v) (locations.vars x)) e
filled_here (Shadow x) v locations = let e : eqb x x ≡ true = grind (arith, nat_tests) in ap (λ t. cond t (Some v) (locations.shadows x)) e

-- and no other slot changed
pub filled_other : (slot other : Slot) (v : Value) (locations : Locals) → other ≢ slot → slot_value (with_slot slot v locations) other ≡ slot_value locations other
filled_other (Variable x) (Variable y) v locations ne =
    let apart : y ≢ x = (λ e. ne (ap Variable e)) in
    let t : eqb y x ≡ false = grind (arith, nat_tests) in ap (λ b. cond b (Some v) (locations.vars y)) t
filled_other (Variable x) (Shadow y) v locations ne = refl
filled_other (Shadow x) (Variable y) v locations ne = refl
filled_other (Shadow x) (Shadow y) v locations ne =
    let apart : y ≢ x = (λ e. ne (ap Shadow e)) in
    let t : eqb y x ≡ false = grind (arith, nat_tests) in ap (λ b. cond b (Some v) (locations.shadows y)) t

-- what a location holds, its slot holds
pub value_of : (locations : Locals) (x : Location) → slot_value locations (slot_of x) ≡ location_value locations x
value_of locations (location.Variable x) = refl
value_of locations (location.Shadow x) = refl

pub value_at : (locations : Locals) (slot : Slot) → location_value locations (slot_location slot) ≡ slot_value locations slot
value_at locations (Variable x) = refl
value_at locations (Shadow x) = refl

-- a slot is that of the location that it is
pub slot_back : (slot : Slot) → slot_of (slot_location slot) ≡ slot
slot_back (Variable x) = refl
slot_back (Shadow x) = refl

-- two locations are one, or not
pub one_or_not : (x y : Location) → (x ≡ y) ⊎ (x ≢ y)
one_or_not (location.Variable x) (location.Variable y) = ⊎_elim (λ (e : x ≡ y). inl (ap location.Variable e)) (λ (ne : x ≡ y → ⊥). inr (λ h. ne cc)) (cases_eq x y)
one_or_not (location.Variable x) (location.Shadow y) = inr (λ h. cc)
one_or_not (location.Shadow x) (location.Variable y) = inr (λ h. cc)
one_or_not (location.Shadow x) (location.Shadow y) = ⊎_elim (λ (e : x ≡ y). inl (ap location.Shadow e)) (λ (ne : x ≡ y → ⊥). inr (λ h. ne cc)) (cases_eq x y)

-- ---- what is live

-- what is live somewhere in a function is a slot of it, and has a word in its frame
pub live_in : (S : Setting) (f : Frame) (g : SlotFunction) → slice_get S.slots.funcs f.function ≡ Some g → (x : Location) (point : ℕ) → IsLive (code_of S.p f.function) x point → IsSlotOf g (slot_of x)
live_in S f g there x point live =
    let source = source_at S.p S.slots S.lowered f.function g there in
    live_slot S.p f.function source.function g S.accepted source.there source.is x point (subst (λ c. IsLive c x point) (ap items_of source.there) live)

pub live_fits : (S : Setting) (f : Frame) (g : SlotFunction) → slice_get S.slots.funcs f.function ≡ Some g → (x : Location) (point : ℕ) → IsLive (code_of S.p f.function) x point → slot_word g (slot_of x) < g.words
live_fits S f g there x point live =
    let source = source_at S.p S.slots S.lowered f.function g there in
    slot_fits source.function g source.is (slot_of x) (live_in S f g there x point live)

-- ---- what changes of the stack don't matter

-- the words of a frame don't matter to those that wait, but for its way back
pub older_kept : (S : Setting) (made above base back now : ℕ) (older : List Frame) (s t : ℕ → ℕ) → now ≡ back → ((k : ℕ) → k < base → t k ≡ s k) → OlderHold S made above base back older s → OlderHold S made above base now older t
older_kept S made above base back now [] s t way same h = way ∙ h
older_kept S made above base back now (f ∷ older) s t way same h =
    let w = h.0 in
    let source = source_at S.p S.slots S.lowered f.function w.function w.there in
    let fit = slots_fit source.function w.function source.is in
    let ends : w.below + w.function.words ≡ base = w.ends in
    let low : w.below < base = omega arith in (
      record {
        function = w.function;
        there = w.there;
        dest = w.dest;
        args = w.args;
        here = w.here;
        takes = w.takes;
        alone = w.alone;
        below = w.below;
        ends = w.ends;
        deep = w.deep;
        way = way ∙ w.way;
        kept = λ x v live own held. (let fits = live_fits S f w.function w.there x (suc f.point) live in
            subst (HasWord made v) (sym (same (w.below + slot_word w.function (slot_of x)) (omega arith))) (w.kept x v live own held));
      },
      older_kept S made f.function w.below (s w.below) (t w.below) older s t (same w.below low) (λ k less. same k (omega arith)) h.1,
    )

-- those that wait for the newest one, where its way back and its first two words stay
pub older_stay : (S : Setting) (made : ℕ) (f : Frame) (base : ℕ) (older : List Frame) (c e : Core) → e.registers 1 ≡ c.registers 1 → ((k : ℕ) → k < base + 2 → e.stack k ≡ c.stack k) →
    OlderHold S made f.function base (way_of (S.homes f.function).leaf c base) older c.stack → OlderHold S made f.function base (way_of (S.homes f.function).leaf e base) older e.stack
older_stay S made f base older c e link same h =
    let leaf = (S.homes f.function).leaf in
    older_kept S made f.function base (way_of leaf c base) (way_of leaf e base) older c.stack e.stack (way_stays leaf c e base link (same base (omega arith))) (λ k lt. same k (omega arith)) h

-- ---- the places of frames

-- a word of a frame is one of the stack
pub inside : (base o words most n frames stack : ℕ) → base ≤ n * most → words ≤ most → o < words → suc n ≤ frames → frames * most ≤ stack → base + o < stack
inside base o words most n frames stack deep wide lt few room =
    let all : suc n * most ≤ frames * most = mul-le-mul_right most few in
    let next : suc n * most ≡ n * most + most = grind arith in
    omega arith

pub deeper : (base words most n : ℕ) → base ≤ n * most → words ≤ most → base + words ≤ suc n * most
deeper base words most n deep wide = let next : suc n * most ≡ n * most + most = grind arith in omega arith

-- a variable of a new frame holds the argument of its number
pub arguments_hold : (vals : List Value) (j : ℕ) (values : Values) (x : ℕ) (v : Value) → arguments_from j vals values x ≡ Some v → ((i : ℕ) × (x ≡ j + i) × (slice_get vals i ≡ Some v)) ⊎ (values x ≡ Some v)
arguments_hold [] j values x v e = inr e
arguments_hold (u ∷ vals) j values x v e = ⊎_elim later (λ h. by_test (eqb x j) refl h) (arguments_hold vals (suc j) (with_value values j u) x v e)
  where
    later : ((i : ℕ) × (x ≡ suc j + i) × (slice_get vals i ≡ Some v)) → ((i : ℕ) × (x ≡ j + i) × (slice_get (u ∷ vals) i ≡ Some v)) ⊎ (values x ≡ Some v)
    later h = let is : x ≡ suc j + h.0 = h.1 in inl (suc h.0, omega arith, h.2)

    by_test : (t : Bool) → eqb x j ≡ t → cond t (Some u) (values x) ≡ Some v → ((i : ℕ) × (x ≡ j + i) × (slice_get (u ∷ vals) i ≡ Some v)) ⊎ (values x ≡ Some v)
    by_test true same is = let at : x ≡ j + 0 = grind (arith, nat_tests) in inl (0, at, is)
    by_test false same is = inr is
