-- The item that takes a speculation back where its condition doesn't hold.
use Rattle.std.proofs.Common.{◌≡◌, ◌≢◌, ℕ, suc, ◌+◌, ◌-◌, ◌*◌, ◌^◌, ◌<◌, ◌≤◌, Bool, true, false, ◌&&◌, cond, eqb, inl, inr, refl, sym, ap, ◌∙◌, subst, arith, List, [], ◌∷◌, ◌++◌, length, Some}
use Rattle.std.specs.Prelude.{slice_get}
use Rattle.std.specs.List.{Contains}
use Rattle.std.proofs.lemmas.Bool.{and_parts, eqb-true}
use Rattle.std.proofs.lemmas.Bool.Decides.{nat_tests}
use Rattle.std.proofs.lemmas.Option.{same_Some}
use Rattle.bril_tree.specs.declared.value.Value.TheVariants.{Bool as Boolean}
use Rattle.bril_tree.specs.Edge.{Branch, branches_at, onward}
use Rattle.bril_tree.specs.FrameWords.{frame_head}
use Rattle.bril_tree.specs.Live.{IsLive}
use Rattle.bril_tree.specs.Operand as location
use Rattle.bril_tree.specs.Operand.{Location}
use Rattle.bril_tree.specs.Outcome.{bool_of}
use Rattle.bril_tree.specs.State as bril
use Rattle.bril_tree.specs.State.{counted}
use Rattle.bril_tree.specs.Step.{advances, at_point, code_of, dropped, saved, step, with_failure}
use Rattle.bril_tree.specs.Value.{word_of}
use Rattle.placement_laws.specs.Homes.{slot_of}
use Rattle.rv64_emit_laws.specs.layout.Homes.{FunctionHomes, depth_at, is_taken_back, level_word, moves_of, newest_at}
use Rattle.rv64_emit_laws.specs.layout.Items.{guard_front, guard_front_size, skip_size, skip_words}
use Rattle.rv64_emit_laws.specs.layout.Laid.{IsGuardAt}
use Rattle.rv64_emit_laws.proofs.lemmas.layout.Bounding.{moves_restore_most}
use Rattle.rv64_words_laws.specs.stretches.Core.{Core, Keeps, arrived}
use Rattle.rv64_words_laws.proofs.lemmas.stretches.Going.{Going, begin, is_place}
use Rattle.rv64_words_laws.specs.sequences.Moves.{Move, Restored, register_for, restore_size, restore_words, source_size}
use Rattle.rv64_words_laws.proofs.lemmas.sequences.Jumps.{guard_jump_to}
use Rattle.rv64_words_laws.proofs.lemmas.sequences.Moves.{homes_restored}
use Rattle.rv64_words_laws.proofs.lemmas.sequences.Sizes.{source_most}
use Rattle.rv64_words.specs.declared.image.GuardAt.{GuardAt}
use Rattle.rv64_words.specs.declared.word.Word.{Word}
use Rattle.rv64_words.specs.State.{State}
use Rattle.slot_code.specs.declared.item.Slot.TheVariants.{Variable}
use Rattle.slot_code.specs.declared.item.SlotItem.TheVariants.{Guard}
use Rattle.slot_code.specs.declared.slots.SlotFunction.{SlotFunction}
use Rattle.slot_code.specs.Laws.{IsSlotOf}
use Rattle.slot_code.specs.Meaning.{slot_guards}
use Rattle.rv64_emit_laws.specs.Homes.{saved_at}
use Rattle.rv64_emit_laws.proofs.Acting.{goes, leads}
use Rattle.rv64_emit_laws.proofs.Between.{Comes, comes_in}
use Rattle.rv64_emit_laws.proofs.Arriving.{Moves, arrive, away, goes_moves, here, memory_by, step_at}
use Rattle.rv64_emit_laws.proofs.Depths.{frame_dear, now_typed, saves_are, saves_fit}
use Rattle.rv64_emit_laws.proofs.Holding.{keeps_homes, kept_holds, same_itself, stack_few}
use Rattle.rv64_emit_laws.proofs.Operands.{Brought, brings, read_is, reads}
use Rattle.rv64_emit_laws.proofs.Ready.{HoldsBool}
use Rattle.rv64_emit_laws.proofs.Relation.{FramesHold, GuardsHold, RunsAlike}
use Rattle.rv64_emit_laws.proofs.Saving.{back_apart, level_moves_can, restored_holds}
use Rattle.rv64_emit_laws.proofs.Setting.{Setting, entry_of, its_words, next_entry, sizes}
use Rattle.rv64_emit_laws.proofs.Skipping.{skip_falls, skip_leads}
use Rattle.rv64_emit_laws.proofs.Speculating.{newest_of}
use Rattle.rv64_emit_laws.proofs.Standing.{standing}
use Rattle.rv64_emit_laws.proofs.Stretches.{leaves_in, with_end}

-- what the guard at a point, whose abort leads to a label, takes back from the words of a level
abbrev taken_moves : FunctionHomes → SlotFunction → ℕ → ℕ → ℕ → List Move
taken_moves homes g level point label = moves_of homes g (level_word g level) (is_taken_back homes g point label)

module _ (S : Setting) (s : bril.State) (t : State) (r : RunsAlike S s t) (condition abort_to : ℕ) (item : slice_get r.holds.function.code r.frame.point ≡ Some (Guard condition abort_to)) where
  abbrev front : ℕ
  front = guard_front_size (S.homes r.frame.function) r.holds.function r.frame.point condition abort_to

  -- ---- counts

  -- the guard's own entry
  abbrev own : GuardAt
  own = record { word = entry_of S r.frame.function r.frame.point + front; func = r.frame.function; item = r.frame.point }

  own_is : IsGuardAt S.homes S.slots own
  own_is = record { function = r.holds.function; condition = condition; abort_to = abort_to; is_function = r.holds.there; is_item = item; is_word = refl }

  -- one failure more of this guard, and one arrival more at its word
  counts_held : (e : Core) → e.arrivals ≡ r.core.arrivals → GuardsHold S.image.guards (with_failure S.p S.limits r.frame s).failures (arrived (entry_of S r.frame.function r.frame.point + front) e).arrivals
  counts_held e same k guard there = by_test (eqb guard.word (entry_of S r.frame.function r.frame.point + front)) refl
    where
      j : ℕ
      j = entry_of S r.frame.function r.frame.point + front

      before : e.arrivals guard.word ≡ s.failures guard.func guard.item
      before = ap (λ m. m guard.word) same ∙ r.guards k guard there

      is : IsGuardAt S.homes S.slots guard
      is = S.laid.guards k guard there

      same_test : (n : ℕ) → eqb n n ≡ true
      same_test n = grind (arith, nat_tests)

      by_test : (b : Bool) → eqb guard.word (entry_of S r.frame.function r.frame.point + front) ≡ b →
          cond (eqb guard.word (entry_of S r.frame.function r.frame.point + front)) (counted (e.arrivals (entry_of S r.frame.function r.frame.point + front))) (e.arrivals guard.word)
          ≡ cond (eqb guard.func r.frame.function && eqb guard.item r.frame.point) (counted (s.failures guard.func guard.item)) (s.failures guard.func guard.item)
      by_test true found =
          let word = eqb-true guard.word (entry_of S r.frame.function r.frame.point + front) found in
          let one : guard ≡ own = S.laid.apart guard own is own_is word in
          let func : eqb guard.func r.frame.function ≡ true = ap (λ g. eqb g.func r.frame.function) one ∙ same_test r.frame.function in
          let point : eqb guard.item r.frame.point ≡ true = ap (λ g. eqb g.item r.frame.point) one ∙ same_test r.frame.point in
          ap (λ b. cond b (counted (e.arrivals (entry_of S r.frame.function r.frame.point + front))) (e.arrivals guard.word)) found
          ∙ (ap (λ n. counted (e.arrivals n)) (sym word) ∙ (ap counted before
          ∙ sym (ap (λ b. cond (b && eqb guard.item r.frame.point) (counted (s.failures guard.func guard.item)) (s.failures guard.func guard.item)) func
          ∙ ap (λ b. cond b (counted (s.failures guard.func guard.item)) (s.failures guard.func guard.item)) point)))
      by_test false other =
          ap (λ b. cond b (counted (e.arrivals (entry_of S r.frame.function r.frame.point + front))) (e.arrivals guard.word)) other
          ∙ (before ∙ sym (ap (λ b. cond b (counted (s.failures guard.func guard.item)) (s.failures guard.func guard.item)) (unlike (eqb guard.func r.frame.function && eqb guard.item r.frame.point) refl)))
        where
          unlike : (b : Bool) → (eqb guard.func r.frame.function && eqb guard.item r.frame.point) ≡ b → b ≡ false
          unlike false e = refl
          unlike true e =
              let parts = and_parts (eqb guard.func r.frame.function) (eqb guard.item r.frame.point) e in
              let func = eqb-true guard.func r.frame.function parts.0 in
              let point = eqb-true guard.item r.frame.point parts.1 in
              absurd (differ (same_word func point))
            where
              differ : guard.word ≢ entry_of S r.frame.function r.frame.point + front
              differ = grind (arith, nat_tests)

              same_word : guard.func ≡ r.frame.function → guard.item ≡ r.frame.point → guard.word ≡ entry_of S r.frame.function r.frame.point + front
              same_word func point =
                  let function : is.function ≡ r.holds.function = same_Some is.function r.holds.function (sym is.is_function ∙ (ap (slice_get S.slots.funcs) func ∙ r.holds.there)) in
                  let found : Guard is.condition is.abort_to ≡ Guard condition abort_to = same_Some _ _ (sym is.is_item ∙ (ap (λ g. slice_get g.code guard.item) function ∙ (ap (slice_get r.holds.function.code) point ∙ item))) in
                  let operand : is.condition ≡ condition = cc in
                  let label : is.abort_to ≡ abort_to = cc in
                  is.is_word ∙ (ap (λ f. entry_of S f guard.item + guard_front_size (S.homes f) is.function guard.item is.condition is.abort_to) func
                  ∙ (ap (λ n. entry_of S r.frame.function n + guard_front_size (S.homes r.frame.function) is.function n is.condition is.abort_to) point
                  ∙ (ap (λ g. entry_of S r.frame.function r.frame.point + guard_front_size (S.homes r.frame.function) g r.frame.point is.condition is.abort_to) function
                  ∙ (ap (λ n. entry_of S r.frame.function r.frame.point + guard_front_size (S.homes r.frame.function) r.holds.function r.frame.point n is.abort_to) operand
                  ∙ ap (λ n. entry_of S r.frame.function r.frame.point + guard_front_size (S.homes r.frame.function) r.holds.function r.frame.point condition n) label))))

  -- ---- both ways

  -- the words behind those of the condition
  abbrev behind : List Word
  behind =
      skip_words (register_for 5 ((S.homes r.frame.function).home (Variable condition))) (suc (restore_size (taken_moves (S.homes r.frame.function) r.holds.function (depth_at r.holds.function r.frame.point) r.frame.point abort_to)))
      ++ restore_words (taken_moves (S.homes r.frame.function) r.holds.function (depth_at r.holds.function r.frame.point) r.frame.point abort_to)

  -- the condition's word, and what comes after it
  condition_brought : (held : HoldsBool r.frame.locations condition) → IsSlotOf r.holds.function (Variable condition) → Brought S s t r true 5 (Variable condition) (Boolean held.truth) 0 (here S s t r) r.core behind
  condition_brought held in_g =
      let has = its_words S r.frame.function r.holds.function r.frame.point (Guard condition abort_to) r.holds.there item in
      brings S s t r true 5 (Variable condition) (Boolean held.truth) refl
      (record { used = in_g; live = reads S s t r (Guard condition abort_to) item (location.Variable condition) (inl refl); is = held.is }) (same_itself r.core)
      (begin S.image (sizes S) (here S s t r) r.core (guard_front (S.homes r.frame.function) r.holds.function r.frame.point condition abort_to) has.0)

  guard_step : HoldsBool r.frame.locations condition → (truth : Bool) → r.frame.locations.vars condition ≡ Some (Boolean truth) → step S.p S.limits s ≡ slot_guards S.p S.slots S.limits truth abort_to r.frame r.older s
  guard_step held truth is = step_at S s t r (Some (Guard condition abort_to)) item ∙ ap (λ v. slot_guards S.p S.slots S.limits (bool_of v) abort_to r.frame r.older s) (read_is r.frame.locations (Variable condition) (Boolean truth) is)

  -- the condition holds
  passes : (held : HoldsBool r.frame.locations condition) → IsSlotOf r.holds.function (Variable condition) → held.truth ≡ true → 128 + 8 * r.holds.function.words ≤ S.cost → Moves S s t
  passes held in_g truth dear =
      let h = r.holds in
      let g = h.function in
      let k = here S s t r in
      let home = (S.homes r.frame.function).home (Variable condition) in
      let o = source_size home in
      let cs = restore_size (taken_moves (S.homes r.frame.function) g (depth_at g r.frame.point) r.frame.point abort_to) in
      let b = condition_brought held in_g in
      let differ : eqb (b.core.registers (register_for 5 home)) (b.core.registers 0) ≡ false = ap (λ y. eqb y (b.core.registers 0)) (b.word.is ∙ ap (λ y. word_of (Boolean y)) truth) ∙ ap (eqb 1) (b.keeps.zero_register ∙ h.zero_is) in
      let next = next_entry S r.frame.function g r.frame.point (Guard condition abort_to) h.there item in
      let low = S.laid.few_entries r.frame.function (suc r.frame.point) in
      let q = skip_leads S.image (sizes S) (register_for 5 home) (suc cs) (restore_words (taken_moves (S.homes r.frame.function) g (depth_at g r.frame.point) r.frame.point abort_to)) (omega arith) differ b.going in
      let some = q.some in
      let few = q.few in
      let within = q.within in
      let size = source_most home in
      let count : q.steps ≡ suc (q.steps - 1) = omega arith in
      let at : k + o + skip_size (suc cs) + suc cs ≡ entry_of S r.frame.function (suc r.frame.point) = omega arith in
      goes_moves S s t r (advances S.p S.limits r.frame r.older s) (suc r.frame.point) (leads S r.frame h.function h.there (Guard condition abort_to) item (onward r.frame.point) (inl refl) refl refl) b.core (q.steps - 1)
      (guard_step held held.truth held.is ∙ ap (λ b. slot_guards S.p S.slots S.limits b abort_to r.frame r.older s) truth) refl r.running refl refl refl
      (comes_in S (suc (q.steps - 1)) (entry_of S r.frame.function (suc r.frame.point)) count at (away S s t r (omega arith) q.leads)) (omega arith) b.keeps

  module _ (newest : bril.Locals) (rest : List bril.Locals) (saves_is : r.frame.saves ≡ newest ∷ rest) where
    abbrev way : Branch
    way = record { from = r.frame.point; to = abort_to; aborts = true }

    abbrev back : List Move
    back = taken_moves (S.homes r.frame.function) r.holds.function (suc (length rest)) r.frame.point abort_to

    way_goes : Contains (branches_at (code_of S.p r.frame.function) r.frame.point) way
    way_goes = goes S r.frame r.holds.function r.holds.there (Guard condition abort_to) item way (inr (inl refl))

    -- exactly what is live at the label, and kept by the newest speculation, is taken back
    chosen : (x : Location) → is_taken_back (S.homes r.frame.function) r.holds.function r.frame.point abort_to (slot_of x) ≡ true → IsLive (code_of S.p r.frame.function) x abort_to × (saved_at (S.homes r.frame.function) (newest_at r.holds.function r.frame.point) x ≡ true)
    chosen x told =
        let parts = and_parts ((S.homes r.frame.function).saved (newest_at r.holds.function r.frame.point) (slot_of x)) ((S.homes r.frame.function).live abort_to (slot_of x)) told in
        (((standing S s t r).serves.live abort_to x).0 parts.1, parts.0)

    all_chosen : (x : Location) → IsLive (code_of S.p r.frame.function) x abort_to → saved_at (S.homes r.frame.function) (newest_at r.holds.function r.frame.point) x ≡ true → is_taken_back (S.homes r.frame.function) r.holds.function r.frame.point abort_to (slot_of x) ≡ true
    all_chosen x live told = ap (λ b. b && (S.homes r.frame.function).live abort_to (slot_of x)) told ∙ ((standing S s t r).serves.live abort_to x).1 live

    -- what the newest speculation kept came back, and the guard's word led to its abort
    restored_moves : (d e : Core) (n : ℕ) → Keeps r.core d → Restored r.holds.base back d e → step S.p S.limits s ≡ slot_guards S.p S.slots S.limits false abort_to r.frame r.older s →
        Comes S (here S s t r) r.core (suc n) (entry_of S r.frame.function abort_to) (arrived (here S s t r + front) e) → suc n ≤ S.cost → Moves S s t
    restored_moves d e n keeps restored stepped runs cheap =
        let f : bril.Frame = at_point abort_to (record r.frame { locations = newest; saves = rest }) in
        let u = slot_guards S.p S.slots S.limits false abort_to r.frame r.older s in
        let frame_is : at_point abort_to (record r.frame { locations = saved r.frame.saves r.frame.locations; saves = dropped r.frame.saves }) ≡ f =
        ap (λ xs. at_point abort_to (record r.frame { locations = saved xs r.frame.locations; saves = dropped xs })) saves_is in
        let before : FramesHold S (length s.blocks) r.frame r.older d = kept_holds S (length s.blocks) r.frame r.older r.core r.holds d (keeps_homes r.core d keeps) in
        let behind : FramesHold S (length s.blocks) f r.older e =
        restored_holds S (length s.blocks) r.frame r.older d (kept_holds S (length s.blocks) r.frame r.older r.core r.holds d (keeps_homes r.core d keeps)) (standing S s t r) newest rest saves_is abort_to way_goes
        (is_taken_back (S.homes r.frame.function) r.holds.function r.frame.point abort_to) chosen all_chosen e restored in
        let last = arrived (here S s t r + front) e in
        let holds = kept_holds S (length s.blocks) f r.older e behind last (record { zero_register = refl; link_register = refl; frame_register = refl; frames_left = refl; homes = λ q u. refl; stack = refl }) in
        arrive S s t r u f r.older last n stepped (ap (λ x. x ∷ r.older) frame_is) r.running (r.printed ∙ sym (restored.rest.printed ∙ keeps.printed)) holds
        (memory_by S s.blocks r.core e (restored.rest.table ∙ keeps.table) (restored.rest.cells ∙ keeps.cells) (restored.rest.blocks ∙ keeps.blocks) (restored.rest.next_free ∙ keeps.next_free) r.memory)
        (counts_held e (restored.rest.arrivals ∙ keeps.arrivals)) runs cheap

    -- the condition doesn't hold
    aborts : (held : HoldsBool r.frame.locations condition) → IsSlotOf r.holds.function (Variable condition) → held.truth ≡ false → Moves S s t
    aborts held in_g truth =
        let h = r.holds in
        let g = h.function in
        let homes = S.homes r.frame.function in
        let home = homes.home (Variable condition) in
        let k = here S s t r in
        let o = source_size home in
        let n = length g.slots in
        let d = depth_at g r.frame.point in
        let l = length rest in
        let now = now_typed S s t r in
        let dear = frame_dear S r.frame g h.there now in
        let depth : d ≡ suc l = sym (saves_are S r.frame g h.there now) ∙ ap length saves_is in
        let fit : frame_head + n * (1 + length r.frame.saves) ≤ g.words = saves_fit S r.frame g h.there now in
        let fit_level : frame_head + n * (1 + suc l) ≤ g.words = subst (λ m. frame_head + n * (1 + m) ≤ g.words) (ap length saves_is) fit in
        let split : n * (1 + suc l) ≡ n * suc l + n = grind arith in
        let cs = restore_size back in
        let b = condition_brought held in_g in
        let same_words : eqb (b.core.registers (register_for 5 home)) (b.core.registers 0) ≡ true = ap (λ y. eqb y (b.core.registers 0)) (b.word.is ∙ ap (λ y. word_of (Boolean y)) truth) ∙ ap (eqb 0) (b.keeps.zero_register ∙ h.zero_is) in
        let low = S.laid.few_entries r.frame.function r.frame.point in
        let low_next = S.laid.few_entries r.frame.function (suc r.frame.point) in
        let low_abort = S.laid.few_entries r.frame.function abort_to in
        let next = next_entry S r.frame.function g r.frame.point (Guard condition abort_to) h.there item in
        let three = source_most home in
        let place : k + o < 2 ^ 20 = omega arith in
        let g2 = skip_falls S.image (sizes S) (register_for 5 home) (suc (restore_size (taken_moves homes g d r.frame.point abort_to))) (restore_words (taken_moves homes g d r.frame.point abort_to)) place same_words b.going in
        let g3 = with_end (restore_words back) (subst (λ m. Going S.image (sizes S) k r.core (0 + o + 1) (k + o + skip_size (suc (restore_size (taken_moves homes g m r.frame.point abort_to)))) b.core (restore_words (taken_moves homes g m r.frame.point abort_to))) depth g2) in
        let can = level_moves_can S (length s.blocks) r.frame r.older r.core h (suc l) (is_taken_back homes g r.frame.point abort_to) (omega arith) fit_level in
        let apart = back_apart S (length s.blocks) r.frame r.older r.core h (standing S s t r) newest rest saves_is abort_to way_goes (is_taken_back homes g r.frame.point abort_to) chosen all_chosen in
        let q = homes_restored S.image (sizes S) (stack_few S) h.base back b.core [] apart can.no_word can.usable can.inside (b.keeps.frame_register ∙ h.at) g3 in
        let front_is : front ≡ o + (skip_size (suc cs) + cs) = ap (λ m. o + (skip_size (suc (restore_size (taken_moves homes g m r.frame.point abort_to))) + restore_size (taken_moves homes g m r.frame.point abort_to))) depth in
        let at : k + o + skip_size (suc cs) + cs ≡ k + front = omega arith in
        let g4 = is_place S.image (sizes S) (o + 1 + cs) (k + front) (omega arith) at q.going in
        let has = its_words S r.frame.function g r.frame.point (Guard condition abort_to) h.there item in
        let runs = guard_jump_to S.image (sizes S) (k + front) (entry_of S r.frame.function abort_to) refl (omega arith) (omega arith) has.1 g4 in
        let size = moves_restore_most homes g (level_word g (suc l)) (is_taken_back homes g r.frame.point abort_to) in
        let count : o + 1 + cs + 1 ≡ suc (o + 1 + cs) = omega arith in
        restored_moves b.core q.core (o + 1 + cs) b.keeps q.is (guard_step held held.truth held.is ∙ ap (λ b. slot_guards S.p S.slots S.limits b abort_to r.frame r.older s) truth)
        (away S s t r (omega arith) (leaves_in (suc (o + 1 + cs)) count runs)) (omega arith)

  pub guard_moves : HoldsBool r.frame.locations condition → r.frame.saves ≢ [] → IsSlotOf r.holds.function (Variable condition) → Moves S s t
  guard_moves held some in_g = by_truth held.truth refl
    where
      by_truth : (b : Bool) → held.truth ≡ b → Moves S s t
      by_truth true e = passes held in_g e (frame_dear S r.frame r.holds.function r.holds.there (now_typed S s t r))
      by_truth false e = let w = newest_of S s t r r.frame.saves some in aborts w.0 w.1 w.2 held in_g e
