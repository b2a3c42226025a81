-- The items that open and close a speculation.
use Rattle.std.proofs.Common.{◌≡◌, ◌≢◌, ℕ, suc, ◌+◌, ◌-◌, ◌*◌, ◌≤◌, ◌&&◌, Bool, true, false, cond, inl, ⊎_elim, refl, sym, ap, ◌∙◌, subst, arith, List, [], ◌∷◌, ◌++◌, length, Some}
use Rattle.std.specs.Prelude.{slice_get}
use Rattle.bril_tree.specs.Edge.{onward}
use Rattle.bril_tree.specs.FrameWords.{frame_head}
use Rattle.bril_tree.specs.Live.{IsLive}
use Rattle.bril_tree.specs.Operand.{Location}
use Rattle.bril_tree.specs.State as bril
use Rattle.bril_tree.specs.Step.{code_of, advanced, commits, dropped, speculates}
use Rattle.placement_laws.specs.Homes.{slot_of}
use Rattle.rv64_emit_laws.specs.layout.Homes.{FunctionHomes, is_kept, level_word, moves_of, speculate_moves}
use Rattle.rv64_emit_laws.specs.layout.Items.{mark_size, mark_words, nop_word}
use Rattle.rv64_emit_laws.proofs.lemmas.layout.Bounding.{moves_save_most}
use Rattle.rv64_words_laws.specs.stretches.Core.{Core}
use Rattle.rv64_words_laws.specs.stretches.Runs.{HasAt, Runs}
use Rattle.rv64_words_laws.proofs.lemmas.stretches.Going.{Going, begin, plain}
use Rattle.rv64_words_laws.specs.sequences.Moves.{Move, Saved, save_size, save_words}
use Rattle.rv64_words_laws.proofs.lemmas.sequences.Moves.{homes_saved}
use Rattle.rv64_words.specs.State.{State}
use Rattle.slot_code.specs.declared.item.SlotItem.TheVariants.{Commit, Speculate}
use Rattle.slot_code.specs.declared.slots.SlotFunction.{SlotFunction}
use Rattle.rv64_emit_laws.specs.Homes.{saved_at}
use Rattle.rv64_emit_laws.proofs.Acting.{goes, leads}
use Rattle.rv64_emit_laws.proofs.Arriving.{Idles, Moves, MovesAlone, arrive, guards_by, here, idle_alone, idle_moves, memory_by, onto_next, step_at}
use Rattle.rv64_emit_laws.proofs.Depths.{frame_dear, next_typed, now_typed, saves_are, saves_fit}
use Rattle.rv64_emit_laws.proofs.Holding.{stack_few}
use Rattle.rv64_emit_laws.proofs.Relation.{FramesHold, RunsAlike}
use Rattle.rv64_emit_laws.proofs.Saving.{dropped_holds, level_moves_can, saved_holds}
use Rattle.rv64_emit_laws.proofs.Setting.{Setting, entry_of, its_words, next_entry, sizes}
use Rattle.rv64_emit_laws.proofs.Standing.{standing}
use Rattle.rv64_emit_laws.proofs.Stretches.{landed, no_moves, none_or_some}

-- what the `speculate` at a point keeps, in the words of a level
abbrev kept_moves : FunctionHomes → SlotFunction → ℕ → ℕ → List Move
kept_moves homes g level point = moves_of homes g (level_word g level) (is_kept homes point)

module _ (S : Setting) (s : bril.State) (t : State) (r : RunsAlike S s t) where
  -- what is live here, and kept by the speculation that begins here, is among what is kept
  chosen : (x : Location) → IsLive (code_of S.p r.frame.function) x r.frame.point → saved_at (S.homes r.frame.function) r.frame.point x ≡ true → is_kept (S.homes r.frame.function) r.frame.point (slot_of x) ≡ true
  chosen x live told = ap (λ b. b && (S.homes r.frame.function).live r.frame.point (slot_of x)) told ∙ ((standing S s t r).serves.live r.frame.point x).1 live

  -- the moves that keep slots in the words of the new level, and how many words they have
  abbrev kept : List Move
  kept = kept_moves (S.homes r.frame.function) r.holds.function (suc (length r.frame.saves)) r.frame.point

  abbrev kept_size : ℕ
  kept_size = save_size kept

  -- a new level, at which the slots were kept
  level_holds : slice_get r.holds.function.code r.frame.point ≡ Some Speculate → (e : Core) → Saved r.holds.base kept r.core e →
      FramesHold S (length s.blocks) (advanced (record r.frame { saves = r.frame.locations ∷ r.frame.saves })) r.older e
  level_holds item e saved =
      saved_holds S (length s.blocks) r.frame r.older r.core r.holds (standing S s t r) (leads S r.frame r.holds.function r.holds.there Speculate item (onward r.frame.point) (inl refl) refl refl)
      (goes S r.frame r.holds.function r.holds.there Speculate item (onward r.frame.point) (inl refl)) (is_kept (S.homes r.frame.function) r.frame.point) chosen e saved

  saved_moves : slice_get r.holds.function.code r.frame.point ≡ Some Speculate → (e : Core) (n : ℕ) → Saved r.holds.base kept r.core e →
      Runs S.image (sizes S) (here S s t r) r.core (suc n) (entry_of S r.frame.function (suc r.frame.point)) e → suc n ≤ S.cost → Moves S s t
  saved_moves item e n saved runs cheap =
      arrive S s t r (speculates S.p S.limits r.frame r.older s) (advanced (record r.frame { saves = r.frame.locations ∷ r.frame.saves })) r.older e n (step_at S s t r (Some Speculate) item) refl r.running (r.printed ∙ sym saved.rest.printed)
      (level_holds item e saved)
      (memory_by S s.blocks r.core e saved.rest.table saved.rest.cells saved.rest.blocks saved.rest.next_free r.memory) (guards_by S s t r e saved.rest.arrivals) (onto_next S s t r runs) cheap

  -- no slot is kept
  nothing_saved : (b : ℕ) (moves : List Move) (c : Core) → moves ≡ [] → Saved b moves c c
  nothing_saved b [] c none = record {
    rest = record { zero_register = refl; link_register = refl; frame_register = refl; frames_left = refl; table = refl; cells = refl; blocks = refl; next_free = refl; printed = refl; arrivals = refl };
    registers = λ q not_five not_six. refl;
    got = λ m i. absurd i;
    others = λ k apart. refl;
  }
  nothing_saved b (m ∷ moves) c none = absurd cc

  level_idles : slice_get r.holds.function.code r.frame.point ≡ Some Speculate → kept ≡ [] → Idles S s t r
  level_idles item none = record {
    after = speculates S.p S.limits r.frame r.older s;
    newest = advanced (record r.frame { saves = r.frame.locations ∷ r.frame.saves });
    stepped = step_at S s t r (Some Speculate) item;
    frames = refl;
    function = refl;
    point = refl;
    running = r.running;
    printed = r.printed;
    holds = level_holds item r.core (nothing_saved r.holds.base kept r.core none);
    memory = r.memory;
    guards = r.guards;
  }

  same_size : save_size (speculate_moves (S.homes r.frame.function) r.holds.function r.frame.point) ≡ kept_size
  same_size = ap (λ m. save_size (kept_moves (S.homes r.frame.function) r.holds.function (suc m) r.frame.point)) (sym (saves_are S r.frame r.holds.function r.holds.there (now_typed S s t r)))

  pub speculate_alone : slice_get r.holds.function.code r.frame.point ≡ Some Speculate → save_size (speculate_moves (S.homes r.frame.function) r.holds.function r.frame.point) + mark_size (S.homes r.frame.function) ≡ 0 → MovesAlone S s t
  speculate_alone item none =
      let size = same_size in
      let empty : kept_size ≡ 0 = omega arith in
      idle_alone S s t r (level_idles item (no_moves kept empty)) Speculate item none

  -- the words that keep slots were executed; the word that marks the item may follow
  kept_leads : slice_get r.holds.function.code r.frame.point ≡ Some Speculate → (e : Core) → Saved r.holds.base kept r.core e →
      Going S.image (sizes S) (here S s t r) r.core (0 + kept_size)
      (here S s t r + kept_size) e (mark_words (S.homes r.frame.function)) →
      kept_size + 1 ≤ S.cost → Moves S s t
  kept_leads item e saved g cheap = by (S.homes r.frame.function).marked refl g
    where
      next : entry_of S r.frame.function (suc r.frame.point) ≡ here S s t r + (kept_size + mark_size (S.homes r.frame.function))
      next =
          let there = next_entry S r.frame.function r.holds.function r.frame.point Speculate r.holds.there item in
          let size = same_size in
          omega arith

      by : (marked : Bool) → (S.homes r.frame.function).marked ≡ marked →
          Going S.image (sizes S) (here S s t r) r.core (0 + kept_size)
          (here S s t r + kept_size) e (cond marked (nop_word ∷ []) []) → Moves S s t
      by true m words =
          let one : mark_size (S.homes r.frame.function) ≡ 1 = ap (λ b. cond b 1 0) m in
          let there = next in
          let count : 0 + kept_size + 1 ≡ suc kept_size = omega arith in
          let at : here S s t r + kept_size + 1 ≡ entry_of S r.frame.function (suc r.frame.point) = omega arith in
          saved_moves item e kept_size saved (landed (suc kept_size) (entry_of S r.frame.function (suc r.frame.point)) count at (plain S.image (sizes S) tt words)) (omega arith)
      by false m words = ⊎_elim
          (λ (none : kept_size ≡ 0).
          (let nought : mark_size (S.homes r.frame.function) ≡ 0 = ap (λ b. cond b 1 0) m in let size = same_size in inl (speculate_alone item (omega arith))))
          (λ (some : 1 ≤ kept_size).
          (let nought : mark_size (S.homes r.frame.function) ≡ 0 = ap (λ b. cond b 1 0) m in
          let there = next in
          let count : 0 + kept_size ≡ suc (kept_size - 1) = omega arith in
          let at : here S s t r + kept_size ≡ entry_of S r.frame.function (suc r.frame.point) = omega arith in
          saved_moves item e (kept_size - 1) saved (landed (suc (kept_size - 1)) (entry_of S r.frame.function (suc r.frame.point)) count at words) (omega arith)))
          (none_or_some kept_size)

  pub level_moves : slice_get r.holds.function.code r.frame.point ≡ Some Speculate → Moves S s t
  level_moves item =
      let h = r.holds in
      let g = h.function in
      let homes = S.homes r.frame.function in
      let k = here S s t r in
      let n = length g.slots in
      let l = length r.frame.saves in
      let f : bril.Frame = advanced (record r.frame { saves = r.frame.locations ∷ r.frame.saves }) in
      let stepped = step_at S s t r (Some Speculate) item in
      let now = now_typed S s t r in
      let next = next_typed S s t r f r.older (ap (λ x. x.frames) stepped) in
      let depth = saves_are S r.frame g h.there now in
      let fit : frame_head + n * (1 + suc l) ≤ g.words = saves_fit S f g h.there next in
      let dear = frame_dear S r.frame g h.there now in
      let split : n * (1 + suc l) ≡ n * suc l + n = grind arith in
      let has = subst (λ m. HasAt S.image k (save_words (kept_moves homes g (suc m) r.frame.point) ++ mark_words homes)) (sym depth) (its_words S r.frame.function g r.frame.point Speculate h.there item) in
      let g0 = begin S.image (sizes S) k r.core (save_words kept ++ mark_words homes) has in
      let can = level_moves_can S (length s.blocks) r.frame r.older r.core h (suc l) (is_kept homes r.frame.point) (omega arith) fit in
      let q = homes_saved S.image (sizes S) (stack_few S) h.base kept r.core (mark_words homes) can.words_apart can.no_word can.usable can.inside h.at g0 in
      let size = moves_save_most homes g (level_word g (suc l)) (is_kept homes r.frame.point) in
      kept_leads item q.core q.is q.going (omega arith)

  -- a list that isn't empty
  pub newest_of : (saves : List bril.Locals) → saves ≢ [] → (newest : bril.Locals) × (rest : List bril.Locals) × (saves ≡ newest ∷ rest)
  newest_of [] some = absurd (some refl)
  newest_of (save ∷ saves) some = (save, saves, refl)

  commit_idles : slice_get r.holds.function.code r.frame.point ≡ Some Commit → r.frame.saves ≢ [] → Idles S s t r
  commit_idles item some =
      let h = r.holds in
      let w = newest_of r.frame.saves some in
      record {
        after = commits S.p S.limits r.frame r.older s;
        newest = advanced (record r.frame { saves = dropped r.frame.saves });
        stepped = step_at S s t r (Some Commit) item;
        frames = refl;
        function = refl;
        point = refl;
        running = r.running;
        printed = r.printed;
        holds =
            dropped_holds S (length s.blocks) r.frame r.older r.core h (standing S s t r) (leads S r.frame h.function h.there Commit item (onward r.frame.point) (inl refl) refl refl)
            (goes S r.frame h.function h.there Commit item (onward r.frame.point) (inl refl)) w.0 w.1 w.2;
        memory = r.memory;
        guards = r.guards;
      }

  pub commit_alone : slice_get r.holds.function.code r.frame.point ≡ Some Commit → r.frame.saves ≢ [] → mark_size (S.homes r.frame.function) ≡ 0 → MovesAlone S s t
  commit_alone item some none = idle_alone S s t r (commit_idles item some) Commit item none

  pub commit_moves : slice_get r.holds.function.code r.frame.point ≡ Some Commit → r.frame.saves ≢ [] → 128 ≤ S.cost → Moves S s t
  commit_moves item some dear = idle_moves S s t r (commit_idles item some) Commit item (its_words S r.frame.function r.holds.function r.frame.point Commit r.holds.there item) refl (omega arith)
