-- What the machine holds of the newest frame when a speculation begins, when it is kept, and when a guard takes it back.
use Rattle.std.proofs.Common.{◌≡◌, ◌≢◌, ℕ, suc, ◌+◌, ◌*◌, ◌<◌, ◌≤◌, inl, ⊎_elim, Bool, true, refl, sym, ap, ◌∙◌, subst, arith, le_trans, List, [], ◌∷◌, length, mul-le-mul_left, mul-le-mul_right}
use Rattle.std.specs.List.{Contains}
use Rattle.bril_tree.specs.declared.home.Home.{Home}
use Rattle.bril_tree.specs.declared.home.Home.TheVariants.{Reg, Frame}
use Rattle.bril_tree.specs.declared.numbered.Instr.{Instr}
use Rattle.bril_tree.specs.declared.value.Value.{Value}
use Rattle.bril_tree.specs.Edge.{Branch, branches_at, onward}
use Rattle.bril_tree.specs.FrameWords.{frame_head}
use Rattle.bril_tree.specs.Live.{IsLive}
use Rattle.bril_tree.specs.Membership.{In}
use Rattle.bril_tree.specs.Operand.{Location}
use Rattle.bril_tree.specs.State as bril
use Rattle.bril_tree.specs.Step.{advanced, at_point, code_of, dropped}
use Rattle.bril_tree.specs.Walk.{end_of}
use Rattle.placement_laws.specs.Holding.{SavesHold}
use Rattle.placement_laws.specs.Homes.{slot_of}
use Rattle.placement_laws.specs.Needed.{IsLiveOut, IsNeeded, Live}
use Rattle.placement_laws.specs.Open.{newest_site}
use Rattle.placement_laws.proofs.Speculating.{aborts, commits, speculates}
use Rattle.rv64_emit_laws.specs.layout.Homes.{level_word, moves_of, newest_at}
use Rattle.rv64_emit_laws.proofs.lemmas.layout.Moving.{are_inside, are_usable, homes_are_apart, move_in, no_word_is_home, slot_move, unmoved, words_are_apart}
use Rattle.rv64_words_laws.specs.stretches.Core.{Core}
use Rattle.rv64_words_laws.specs.sequences.Moves.{Move, AreHomesApart, AreInside, AreUsable, AreWordsApart, IsUsable, NoWordIsHome, Restored, Saved, home_word}
use Rattle.slot_code.specs.declared.item.Slot.{Slot}
use Rattle.slot_code.specs.Flow.{slot_location}
use Rattle.slot_code.specs.Laws.{IsSlotOf}
use Rattle.slot_code.specs.Numbering.{slot_number}
use Rattle.rv64_emit_laws.specs.Homes.{home_at, saved_at}
use Rattle.rv64_emit_laws.proofs.Acting.{Leads}
use Rattle.rv64_emit_laws.proofs.Frames.{deeper, live_in, number_inside, older_stay, one_or_not, slot_back}
use Rattle.rv64_emit_laws.proofs.Holding.{home_framed, home_inside, home_usable, needed_in, no_level_home, reworded, source, stack_room}
use Rattle.rv64_emit_laws.proofs.Relation.{FramesHold, HasWord, HoldsAt, shadow_word}
use Rattle.rv64_emit_laws.proofs.Setting.{Setting, sizes, widest}
use Rattle.rv64_emit_laws.proofs.Standing.{Stands, assigns_here, goes_there}

-- the words of older levels are the same
shadows_same : (code : List Instr) {H : Type 0} (homes : Location → H) (saved : ℕ → Location → Bool) (Has : Value → ℕ → Type 0) (point : ℕ) (saves : List bril.Locals) (shadow after : ℕ → Location → ℕ) →
    ((level : ℕ) (x : Location) → 1 ≤ level → after level x ≡ shadow level x) → SavesHold code homes saved Has point saves shadow → SavesHold code homes saved Has point saves after
shadows_same code homes saved Has point [] shadow after same h = tt
shadows_same code homes saved Has point (save ∷ older) shadow after same h = (
  λ x v o told held. subst (Has v) (sym (same (suc (length older)) x (omega arith))) (h.0 x v o told held),
  shadows_same code homes saved Has point older shadow after same h.1,
)

-- when slots can be kept at a level, and taken back
pub record CanMove (S : Setting) (base : ℕ) (moves : List Move) : Type 0 where
  pub words_apart : AreWordsApart moves
  pub no_word : NoWordIsHome moves
  pub usable : AreUsable moves
  pub inside : AreInside (sizes S) base moves

module _ (S : Setting) (made : ℕ) (f : bril.Frame) (older : List bril.Frame) (c : Core) (h : FramesHold S made f older c) where
  -- the whole frame is in the stack
  pub frame_within : h.base + h.function.words ≤ S.image.stack
  frame_within =
      let left : c.registers 8 + suc (length older) ≡ S.limits.frames = h.left in
      let few : suc (length older) ≤ S.limits.frames = omega arith in
      le_trans (deeper h.base h.function.words (widest S) (length older) h.deep (S.laid.frames f.function h.function h.there)) (le_trans (mul-le-mul_right (widest S) few) (stack_room S))

  -- ---- the words of a level

  -- those of an older level are below
  level_below : (level newer : ℕ) (slot : Slot) → level < newer → IsSlotOf h.function slot → level_word h.function level + slot_number h.function.shadow_numbers slot < level_word h.function newer
  level_below level newer slot less in_g =
      let origin = source S made f older c h in
      let below = number_inside origin.function h.function origin.is slot in_g in
      let more : length h.function.slots * suc level ≤ length h.function.slots * newer = mul-le-mul_left (length h.function.slots) less in
      let split : length h.function.slots * suc level ≡ length h.function.slots * level + length h.function.slots = grind arith in
      omega arith

  level_above : (level : ℕ) → 1 ≤ level → frame_head + length h.function.slots ≤ level_word h.function level
  level_above level some =
      let more : length h.function.slots * 1 ≤ length h.function.slots * level = mul-le-mul_left (length h.function.slots) some in
      let one : length h.function.slots * 1 ≡ length h.function.slots = omega arith in
      omega arith

  pub level_moves_can : (level : ℕ) (test : Slot → Bool) → 1 ≤ level → frame_head + length h.function.slots * (1 + level) ≤ h.function.words →
      CanMove S h.base (moves_of (S.homes f.function) h.function (level_word h.function level) test)
  level_moves_can level test some fit =
      let origin = source S made f older c h in
      let within = frame_within in
      let split : length h.function.slots * (1 + level) ≡ length h.function.slots * level + length h.function.slots = grind arith in
      record {
        words_apart = words_are_apart (S.homes f.function) origin.function h.function origin.is (level_word h.function level) test;
        no_word = no_word_is_home (S.homes f.function) origin.function h.function origin.is (level_word h.function level) test
            (λ from to in_from in_to same. no_level_home S made f older c h to (level_word h.function level + slot_number h.function.shadow_numbers from) level (slot_number h.function.shadow_numbers from) in_to same some refl);
        usable = are_usable (S.homes f.function) origin.function h.function origin.is (level_word h.function level) test (home_usable S made f older c h);
        inside = are_inside (S.homes f.function) origin.function h.function origin.is (level_word h.function level) test (sizes S) h.base
            (λ slot in_g. (let below = number_inside origin.function h.function origin.is slot in_g in omega arith)) (λ slot o in_g e. home_inside S made f older c h slot in_g o e);
      }

  -- ---- a speculation begins

  -- What is live and kept by the `speculate` at the frame's point, and perhaps more, was brought to the words of the new level.
  pub saved_holds : Stands S f h.function → Leads S f (suc f.point) → Contains (branches_at (code_of S.p f.function) f.point) (onward f.point) → (test : Slot → Bool) →
      ((x : Location) → IsLive (code_of S.p f.function) x f.point → saved_at (S.homes f.function) f.point x ≡ true → test (slot_of x) ≡ true) →
      (e : Core) → Saved h.base (moves_of (S.homes f.function) h.function (level_word h.function (suc (length f.saves))) test) c e → FramesHold S made (advanced (record f { saves = f.locations ∷ f.saves })) older e
  saved_holds st l at test chosen e saved = record {
    function = h.function;
    there = h.there;
    base = h.base;
    at = saved.rest.frame_register ∙ h.at;
    zero_is = saved.rest.zero_register ∙ h.zero_is;
    left = ap (λ y. y + suc (length older)) saved.rest.frames_left ∙ h.left;
    deep = h.deep;
    holds = reworded (code_of S.p f.function) (home_at (S.homes f.function)) (saved_at (S.homes f.function)) (HasWord made) (suc f.point) f.locations (f.locations ∷ f.saves) (home_word c h.base) (home_word e h.base) (shadow_word h.function h.base e.stack)
        (λ x needed. same_home (slot_of x) (needed_in S made f older c h (suc f.point) x needed) ((S.homes f.function).home (slot_of x)) refl) now;
    older_hold = older_stay S made f h.base older c e saved.rest.link_register (λ k lt. below k (omega arith)) h.older_hold;
  }
    where
      -- a word below the new level is as it was
      below : (k : ℕ) → k < h.base + level_word h.function (suc (length f.saves)) → e.stack k ≡ c.stack k
      below k lt = let origin = source S made f older c h in saved.others k (unmoved (S.homes f.function) origin.function h.function origin.is (level_word h.function (suc (length f.saves))) test h.base k (inl lt))

      same_home : (slot : Slot) → IsSlotOf h.function slot → (home : Home) → (S.homes f.function).home slot ≡ home → home_word e h.base home ≡ home_word c h.base home
      same_home slot in_g (Reg r) is =
          let usable : IsUsable (Reg r) = subst IsUsable is (home_usable S made f older c h slot in_g) in
          saved.registers r (not_five r usable) (not_six r usable)
        where
          not_five : (r : ℕ) → IsUsable (Reg r) → r ≢ 5
          not_five r usable same = let five : IsUsable (Reg 5) = subst (λ n. IsUsable (Reg n)) same usable in absurd cc

          not_six : (r : ℕ) → IsUsable (Reg r) → r ≢ 6
          not_six r usable same = let six : IsUsable (Reg 6) = subst (λ n. IsUsable (Reg n)) same usable in absurd cc
      same_home slot in_g (Frame o) is =
          let own = home_framed S made f older c h slot o in_g is in
          let origin = source S made f older c h in
          let inside = number_inside origin.function h.function origin.is slot in_g in
          let above = level_above (suc (length f.saves)) (omega arith) in
          below (h.base + o) (omega arith)

      copied : (x : Location) → IsLive (code_of S.p f.function) x (end_of st.walk) → saved_at (S.homes f.function) (end_of st.walk) x ≡ true →
          shadow_word h.function h.base e.stack (suc (length f.saves)) x ≡ home_word c h.base (home_at (S.homes f.function) x)
      copied x live told =
          let origin = source S made f older c h in
          saved.got _ (move_in (S.homes f.function) origin.function h.function origin.is (level_word h.function (suc (length f.saves))) test (slot_of x)
          (live_in S f h.function h.there x (end_of st.walk) live) (chosen x (subst (IsLive (code_of S.p f.function) x) st.ends live) (subst (λ site. saved_at (S.homes f.function) site x ≡ true) st.ends told)))

      same : (level : ℕ) (x : Location) → 1 ≤ level → level ≤ length f.saves → IsLiveOut (code_of S.p f.function) level (suc f.point) x → shadow_word h.function h.base e.stack level x ≡ shadow_word h.function h.base c.stack level x
      same level x some le o =
          let less = level_below level (suc (length f.saves)) (slot_of x) (omega arith) (live_in S f h.function h.there x o.way.to o.live) in
          below (h.base + (level_word h.function level + slot_number h.function.shadow_numbers (slot_of x))) (omega arith)

      now : HoldsAt S made f (suc f.point) f.locations (f.locations ∷ f.saves) (home_word c h.base) (shadow_word h.function h.base e.stack)
      now =
          speculates (code_of S.p f.function) st.func.args st.sound (home_at (S.homes f.function)) (saved_at (S.homes f.function)) st.serves.saved st.serves.placed (HasWord made) st.walk (onward f.point) st.is
          (goes_there S f h.function st (onward f.point) at) refl (λ x i. l.none x (assigns_here S f h.function st x i))
          f.locations f.saves (home_word c h.base) (shadow_word h.function h.base c.stack) (shadow_word h.function h.base e.stack) st.deep copied same
          (subst (λ k. HoldsAt S made f k f.locations f.saves (home_word c h.base) (shadow_word h.function h.base c.stack)) (sym st.ends) h.holds)

  -- ---- it is kept

  -- the newest level is dropped
  pub dropped_holds : Stands S f h.function → Leads S f (suc f.point) → Contains (branches_at (code_of S.p f.function) f.point) (onward f.point) → (newest : bril.Locals) (rest : List bril.Locals) → f.saves ≡ newest ∷ rest → FramesHold S made (advanced (record f { saves = dropped f.saves })) older c
  dropped_holds st l at newest rest are = record {
    function = h.function;
    there = h.there;
    base = h.base;
    at = h.at;
    zero_is = h.zero_is;
    left = h.left;
    deep = h.deep;
    older_hold = h.older_hold;
    holds = subst (λ xs. HoldsAt S made f (suc f.point) f.locations (dropped xs) (home_word c h.base) (shadow_word h.function h.base c.stack)) (sym are)
        (commits (code_of S.p f.function) st.func.args st.sound (home_at (S.homes f.function)) (saved_at (S.homes f.function)) st.serves.saved st.serves.placed (HasWord made) st.walk (onward f.point) st.is
        (goes_there S f h.function st (onward f.point) at) refl (λ x i. l.none x (assigns_here S f h.function st x i))
        f.locations newest rest (home_word c h.base) (shadow_word h.function h.base c.stack) (sym (ap length are) ∙ st.deep) now);
  }
    where
      now : HoldsAt S made f (end_of st.walk) f.locations (newest ∷ rest) (home_word c h.base) (shadow_word h.function h.base c.stack)
      now = subst (λ k. HoldsAt S made f k f.locations (newest ∷ rest) (home_word c h.base) (shadow_word h.function h.base c.stack)) (sym st.ends)
          (subst (λ xs. HoldsAt S made f f.point f.locations xs (home_word c h.base) (shadow_word h.function h.base c.stack)) are h.holds)

  -- ---- a guard takes it back

  module _ (st : Stands S f h.function) (newest : bril.Locals) (rest : List bril.Locals) (saves : f.saves ≡ newest ∷ rest) (label : ℕ) (at : Contains (branches_at (code_of S.p f.function) f.point) (record { from = f.point; to = label; aborts = true })) (test : Slot → Bool)
      (chosen : (x : Location) → test (slot_of x) ≡ true → IsLive (code_of S.p f.function) x label × (saved_at (S.homes f.function) (newest_at h.function f.point) x ≡ true))
      (all_chosen : (x : Location) → IsLive (code_of S.p f.function) x label → saved_at (S.homes f.function) (newest_at h.function f.point) x ≡ true → test (slot_of x) ≡ true) where
    abbrev back : List Move
    back = moves_of (S.homes f.function) h.function (level_word h.function (suc (length rest))) test

    abbrev way : Branch
    way = record { from = f.point; to = label; aborts = true }

    there : Contains (branches_at (code_of S.p f.function) (end_of st.walk)) way
    there = goes_there S f h.function st way at

    -- what is put back is needed at the label, so its homes are apart
    pub back_apart : AreHomesApart back
    back_apart =
        let origin = source S made f older c h in
        homes_are_apart (S.homes f.function) origin.function h.function origin.is (level_word h.function (suc (length rest))) test (λ x y in_x in_y told_x told_y same. one x y told_x told_y same)
      where
        live_at_label : (slot : Slot) → test slot ≡ true → IsLive (code_of S.p f.function) (slot_location slot) label
        live_at_label slot told = (chosen (slot_location slot) (subst (λ s. test s ≡ true) (sym (slot_back slot)) told)).0

        one : (x y : Slot) → test x ≡ true → test y ≡ true → (S.homes f.function).home x ≡ (S.homes f.function).home y → x ≡ y
        one x y told_x told_y same =
            ⊎_elim (λ (e : slot_location x ≡ slot_location y). sym (slot_back x) ∙ (ap slot_of e ∙ slot_back y))
            (λ (ne : slot_location x ≢ slot_location y).
            absurd (st.serves.placed.needed (way ∷ st.walk) (slot_location x) (slot_location y) (there, st.is) (Live (live_at_label x told_x)) (Live (live_at_label y told_y)) ne
            (ap (S.homes f.function).home (slot_back x) ∙ (same ∙ sym (ap (S.homes f.function).home (slot_back y))))))
            (one_or_not (slot_location x) (slot_location y))

    -- what is live at the label and kept by the newest speculation came back to its home, and its level is dropped
    pub restored_holds : (e : Core) → Restored h.base back c e → FramesHold S made (at_point label (record f { locations = newest; saves = rest })) older e
    restored_holds e restored = record {
      function = h.function;
      there = h.there;
      base = h.base;
      at = restored.rest.frame_register ∙ h.at;
      zero_is = restored.rest.zero_register ∙ h.zero_is;
      left = ap (λ y. y + suc (length older)) restored.rest.frames_left ∙ h.left;
      deep = h.deep;
      holds = record {
        homes_hold = now.homes_hold;
        saves_hold = shadows_same (code_of S.p f.function) (home_at (S.homes f.function)) (saved_at (S.homes f.function)) (HasWord made) label rest (shadow_word h.function h.base c.stack) (shadow_word h.function h.base e.stack) level_same now.saves_hold;
        steady = now.steady;
      };
      older_hold = older_stay S made f h.base older c e restored.rest.link_register (λ k lt. restored.stack k (λ m o i is same. (let own = moved_home m o i is in absurd (omega arith)))) h.older_hold;
    }
      where
        -- the home of a move in the frame is the slot's own word
        moved_home : (m : Move) (o : ℕ) → In m back → m.home ≡ Frame o → 2 ≤ o
        moved_home m o i is =
            let origin = source S made f older c h in
            let w = slot_move (S.homes f.function) origin.function h.function origin.is (level_word h.function (suc (length rest))) test m i in
            let own = home_framed S made f older c h w.slot o w.in_g (sym w.home ∙ is) in
            omega arith

        level_same : (level : ℕ) (x : Location) → 1 ≤ level → shadow_word h.function h.base e.stack level x ≡ shadow_word h.function h.base c.stack level x
        level_same level x some =
            restored.stack (h.base + (level_word h.function level + slot_number h.function.shadow_numbers (slot_of x)))
            (λ m o i is. (let origin = source S made f older c h in
            let w = slot_move (S.homes f.function) origin.function h.function origin.is (level_word h.function (suc (length rest))) test m i in
            no_level_home S made f older c h w.slot o level (slot_number h.function.shadow_numbers (slot_of x)) w.in_g (sym w.home ∙ is) some))

        before : HoldsAt S made f (end_of st.walk) f.locations (newest ∷ rest) (home_word c h.base) (shadow_word h.function h.base c.stack)
        before = subst (λ k. HoldsAt S made f k f.locations (newest ∷ rest) (home_word c h.base) (shadow_word h.function h.base c.stack)) (sym st.ends)
            (subst (λ xs. HoldsAt S made f f.point f.locations xs (home_word c h.base) (shadow_word h.function h.base c.stack)) saves h.holds)

        put : (x : Location) → test (slot_of x) ≡ true → home_word e h.base (home_at (S.homes f.function) x) ≡ shadow_word h.function h.base c.stack (suc (length rest)) x
        put x told =
            let origin = source S made f older c h in
            restored.got _ (move_in (S.homes f.function) origin.function h.function origin.is (level_word h.function (suc (length rest))) test (slot_of x) (live_in S f h.function h.there x label (chosen x told).0) told)

        left : (x : Location) → IsNeeded (code_of S.p f.function) (saved_at (S.homes f.function)) label x → ((y : Location) → test (slot_of y) ≡ true → home_at (S.homes f.function) y ≢ home_at (S.homes f.function) x) →
            home_word e h.base (home_at (S.homes f.function) x) ≡ home_word c h.base (home_at (S.homes f.function) x)
        left x needed apart =
            restored.others (home_at (S.homes f.function) x) (home_usable S made f older c h (slot_of x) (needed_in S made f older c h label x needed))
            (λ m i same. (let origin = source S made f older c h in
            let w = slot_move (S.homes f.function) origin.function h.function origin.is (level_word h.function (suc (length rest))) test m i in
            apart (slot_location w.slot) (subst (λ s. test s ≡ true) (sym (slot_back w.slot)) w.passes) (ap (S.homes f.function).home (slot_back w.slot) ∙ (sym w.home ∙ same))))

        -- the same, where the newest speculation is that of the walk
        told_by : (x : Location) → test (slot_of x) ≡ true → IsLive (code_of S.p f.function) x label × (saved_at (S.homes f.function) (newest_site (code_of S.p f.function) st.walk) x ≡ true)
        told_by x told = let c = chosen x told in (c.0, subst (λ site. saved_at (S.homes f.function) site x ≡ true) st.newest c.1)

        all_told : (x : Location) → IsLive (code_of S.p f.function) x label → saved_at (S.homes f.function) (newest_site (code_of S.p f.function) st.walk) x ≡ true → test (slot_of x) ≡ true
        all_told x live told = all_chosen x live (subst (λ site. saved_at (S.homes f.function) site x ≡ true) (sym st.newest) told)

        now : HoldsAt S made f label newest rest (home_word e h.base) (shadow_word h.function h.base c.stack)
        now =
            aborts (code_of S.p f.function) st.func.args st.sound (home_at (S.homes f.function)) (saved_at (S.homes f.function)) st.serves.saved st.serves.placed (HasWord made) st.walk way st.is there
            refl f.locations newest rest (home_word c h.base) (home_word e h.base) (shadow_word h.function h.base c.stack) (λ x. test (slot_of x)) (sym (ap length saves) ∙ st.deep) told_by all_told put left before
