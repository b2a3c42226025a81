-- Moves of a function's slots: which ones there are, and when they can be made.
use Rattle.std.proofs.Common.{◌≡◌, ◌≢◌, ℕ, ◌+◌, ◌<◌, ◌≤◌, ◌⊎◌, inl, inr, Bool, true, sym, ap, ◌∙◌, subst, arith, List, length}
use Rattle.std.proofs.lemmas.Option.{slice_get_within}
use Rattle.bril_tree.specs.declared.home.Home.TheVariants.{Frame}
use Rattle.bril_tree.specs.declared.numbered_function.Func.{Func}
use Rattle.bril_tree.specs.Membership.{In}
use Rattle.rv64_words.specs.Region.{Sizes}
use Rattle.slot_code.specs.declared.item.Slot.{Slot}
use Rattle.slot_code.specs.declared.slots.SlotFunction.{SlotFunction}
use Rattle.slot_code.specs.Laws.{IsSlotOf}
use Rattle.slot_code.specs.Lowered.{IsLoweredFunction}
use Rattle.slot_code.specs.Numbering.{slot_number}
use Rattle.slot_code.proofs.Places.{slot_place, slots_are_numbered}
use Rattle.rv64_words_laws.specs.sequences.Moves.{Move, IsUsable, AreUsable, AreWordsApart, AreHomesApart, NoWordIsHome, AreInside}
use Rattle.rv64_emit_laws.specs.layout.Homes.{FunctionHomes, moves_of}
use Rattle.rv64_emit_laws.proofs.lemmas.layout.MoveLists.{homes_apart, in_moves, move_at, moves_in, words_apart}

module _ (homes : FunctionHomes) (f : Func) (g : SlotFunction) (is : IsLoweredFunction f g) (first : ℕ) (test : Slot → Bool) where
  abbrev number : Slot → ℕ
  number slot = slot_number g.shadow_numbers slot

  abbrev pub moves : List Move
  moves = moves_of homes g first test

  -- the move of a slot that passes
  pub move_in : (slot : Slot) → IsSlotOf g slot → test slot ≡ true → In (record { home = homes.home slot; word = first + number slot }) moves
  move_in slot in_g told =
      let none_more : 0 + number slot ≡ number slot = omega arith in
      subst (λ n. In (move_at homes first test slot n) moves) none_more (moves_in homes first test g.slots 0 (number slot) slot (slot_place f g is slot in_g) told)

  -- and each move is one
  pub record IsSlotMove (m : Move) : Type 0 where
    pub slot : Slot
    pub in_g : IsSlotOf g slot
    pub passes : test slot ≡ true
    pub home : m.home ≡ homes.home slot
    pub word : m.word ≡ first + number slot

  pub slot_move : (m : Move) → In m moves → IsSlotMove m
  slot_move m i =
      let w = in_moves homes first test g.slots m 0 i in
      let o = slots_are_numbered f g is w.place w.slot w.there in
      record {
        slot = w.slot;
        in_g = o.0;
        passes = w.passes;
        home = ap (λ (m : Move). m.home) w.is;
        word = ap (λ (m : Move). m.word) w.is ∙ (let e = o.1 in omega arith);
      }

  -- a word that is before or after all words to which or from which values are brought
  pub unmoved : (b k : ℕ) → (k < b + first) ⊎ (b + (first + length g.slots) ≤ k) → (m : Move) → In m moves → k ≢ b + m.word
  unmoved b k outside m i same = by outside
    where
      by : (k < b + first) ⊎ (b + (first + length g.slots) ≤ k) → ⊥
      by (inl below) = let w = slot_move m i in let word = w.word in absurd (omega arith)
      by (inr above) = let w = slot_move m i in let word = w.word in let inside = slice_get_within g.slots (number w.slot) w.slot (slot_place f g is w.slot w.in_g) in absurd (omega arith)

  pub words_are_apart : AreWordsApart moves
  words_are_apart = words_apart homes first test g.slots 0

  pub are_usable : ((slot : Slot) → IsSlotOf g slot → IsUsable (homes.home slot)) → AreUsable moves
  are_usable usable m i = let w = slot_move m i in subst IsUsable (sym w.home) (usable w.slot w.in_g)

  -- no word of theirs is that of a slot
  pub no_word_is_home : ((from to : Slot) → IsSlotOf g from → IsSlotOf g to → homes.home to ≢ Frame (first + number from)) → NoWordIsHome moves
  no_word_is_home apart m n i j same =
      let u = slot_move m i in
      let v = slot_move n j in
      apart u.slot v.slot u.in_g v.in_g (sym v.home ∙ (same ∙ ap Frame u.word))

  pub homes_are_apart : ((x y : Slot) → IsSlotOf g x → IsSlotOf g y → test x ≡ true → test y ≡ true → homes.home x ≡ homes.home y → x ≡ y) → AreHomesApart moves
  homes_are_apart apart = homes_apart homes first test g.slots 0
      (λ j k x y ne at_x at_y told_x told_y same. (let of_x = slots_are_numbered f g is j x at_x in let of_y = slots_are_numbered f g is k y at_y in
      ne (sym of_x.1 ∙ (ap number (apart x y of_x.0 of_y.0 told_x told_y same) ∙ of_y.1))))

  pub are_inside : (z : Sizes) (b : ℕ) → ((slot : Slot) → IsSlotOf g slot → b + (first + number slot) < z.stack) → ((slot : Slot) (o : ℕ) → IsSlotOf g slot → homes.home slot ≡ Frame o → b + o < z.stack) → AreInside z b moves
  are_inside z b words own m i =
      let w = slot_move m i in
      (subst (λ n. b + n < z.stack) (sym w.word) (words w.slot w.in_g), λ o e. own w.slot o w.in_g (sym w.home ∙ e))
