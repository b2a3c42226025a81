-- The items that go to another point: those without words, jumps and branches.
use Rattle.std.proofs.Common.{◌≡◌, ℕ, suc, ◌+◌, ◌^◌, ◌<◌, ◌≤◌, Bool, true, false, cond, not, eqb, inl, inr, refl, sym, ap, ◌∙◌, arith, List, [], ◌∷◌, ◌++◌, length, Some, pos}
use Rattle.std.specs.Prelude.{slice_get}
use Rattle.std.proofs.lemmas.Bool.{eqb-true}
use Rattle.bril_tree.specs.declared.home.Home.{Home}
use Rattle.bril_tree.specs.declared.value.Value.TheVariants.{Bool as Boolean}
use Rattle.bril_tree.specs.Outcome.{bool_of}
use Rattle.bril_tree.specs.State as bril
use Rattle.bril_tree.specs.Edge.{onward}
use Rattle.bril_tree.specs.Step.{step, advances, advanced, at_point}
use Rattle.bril_tree.specs.Value.{word_of}
use Rattle.rv64_emit_laws.specs.layout.Items.{branch_size, branch_words, is_next, jump_size, mark_size, mark_words, way_size, way_words}
use Rattle.rv64_emit_laws.specs.layout.Reach.{is_in_reach}
use Rattle.rv64_words_laws.specs.stretches.Runs.{HasAt}
use Rattle.rv64_words_laws.proofs.lemmas.stretches.Going.{Going, begin, is_place, not_taken, taken}
use Rattle.rv64_words_laws.specs.sequences.Moves.{register_for, source_size, source_words}
use Rattle.rv64_words_laws.specs.sequences.Sequences.{jump_offset}
use Rattle.rv64_words_laws.proofs.lemmas.sequences.Jumps.{jump_to}
use Rattle.rv64_words_laws.proofs.lemmas.sequences.Sizes.{source_most}
use Rattle.rv64_words_laws.proofs.lemmas.values.Kept.{keeps_itself}
use Rattle.rv64_words.specs.declared.word.Condition.{Condition}
use Rattle.rv64_words.specs.declared.word.Condition.TheVariants as tests
use Rattle.rv64_words.specs.declared.word.Word.{Word}
use Rattle.rv64_words.specs.declared.word.Word.TheVariants as words
use Rattle.rv64_words.specs.declared.word.Word.TheVariants.{Jal}
use Rattle.rv64_words.specs.Arithmetic.{holds}
use Rattle.rv64_words.specs.Mnemonics.{beq}
use Rattle.rv64_words.specs.State.{State}
use Rattle.slot_code.specs.declared.item.Slot.TheVariants.{Variable}
use Rattle.slot_code.specs.declared.item.SlotItem.TheVariants.{Pass, Jump, Branch}
use Rattle.slot_code.specs.Laws.{IsSlotOf}
use Rattle.rv64_emit_laws.proofs.Acting.{leads}
use Rattle.rv64_emit_laws.proofs.Standing.{standing}
use Rattle.slot_code.specs.Meaning.{goes_to}
use Rattle.rv64_emit_laws.proofs.Arriving.{Idles, Moves, MovesAlone, away, goes_moves, here, home_here, idle_alone, idle_moves, onto_next, step_at}
use Rattle.rv64_emit_laws.proofs.Between.{Comes, comes_in}
use Rattle.rv64_emit_laws.proofs.Holding.{moved_holds}
use Rattle.rv64_emit_laws.proofs.Operands.{Brought, brings, holds_slot, read_is, unchanged}
use Rattle.rv64_emit_laws.proofs.Ready.{HoldsBool}
use Rattle.rv64_emit_laws.proofs.Relation.{RunsAlike}
use Rattle.rv64_emit_laws.proofs.Setting.{Setting, entry_of, its_words, next_entry, sizes}
use Rattle.rv64_emit_laws.proofs.Skipping.{branch_to}
use Rattle.rv64_emit_laws.proofs.Stretches.{landed, leaves_in}

module _ (S : Setting) (s : bril.State) (t : State) (r : RunsAlike S s t) where
  -- a label or a `nop`
  pass_idles : slice_get r.holds.function.code r.frame.point ≡ Some Pass → Idles S s t r
  pass_idles item = record {
    after = advances S.p S.limits r.frame r.older s;
    newest = advanced r.frame;
    stepped = step_at S s t r (Some Pass) item;
    frames = refl;
    function = refl;
    point = refl;
    running = r.running;
    printed = r.printed;
    holds = moved_holds S (length s.blocks) r.frame r.older r.core r.holds (standing S s t r) (suc r.frame.point) (leads S r.frame r.holds.function r.holds.there Pass item (onward r.frame.point) (inl refl) refl refl) r.core (unchanged S s t r);
    memory = r.memory;
    guards = r.guards;
  }

  pub pass_alone : slice_get r.holds.function.code r.frame.point ≡ Some Pass → MovesAlone S s t
  pass_alone item = idle_alone S s t r (pass_idles item) Pass item refl

  -- ---- jumps

  small : (f point : ℕ) → entry_of S f point < 2 ^ 20
  small f point = let h = S.laid.few_entries f point in omega arith

  -- a jump to the next item
  next_idles : (to : ℕ) → slice_get r.holds.function.code r.frame.point ≡ Some (Jump to) → to ≡ suc r.frame.point → Idles S s t r
  next_idles to item next = record {
    after = goes_to S.p S.slots S.limits to r.frame r.older s;
    newest = at_point to r.frame;
    stepped = step_at S s t r (Some (Jump to)) item;
    frames = refl;
    function = refl;
    point = next;
    running = r.running;
    printed = r.printed;
    holds = moved_holds S (length s.blocks) r.frame r.older r.core r.holds (standing S s t r) to (leads S r.frame r.holds.function r.holds.there (Jump to) item (record { from = r.frame.point; to = to; aborts = false }) (inl refl) refl refl) r.core (unchanged S s t r);
    memory = r.memory;
    guards = r.guards;
  }

  pub jump_alone : (to : ℕ) → slice_get r.holds.function.code r.frame.point ≡ Some (Jump to) → jump_size (S.homes r.frame.function) r.frame.point to ≡ 0 → MovesAlone S s t
  jump_alone to item none = by (is_next r.frame.point to) refl
    where
      by : (next : Bool) → is_next r.frame.point to ≡ next → MovesAlone S s t
      by true h = idle_alone S s t r (next_idles to item (eqb-true to (suc r.frame.point) h)) (Jump to) item none
      by false h = let one : jump_size (S.homes r.frame.function) r.frame.point to ≡ 1 = ap (λ b. cond b (mark_size (S.homes r.frame.function)) 1) h in absurd (omega arith)

  pub jump_moves : (to : ℕ) → slice_get r.holds.function.code r.frame.point ≡ Some (Jump to) → 128 ≤ S.cost → Moves S s t
  jump_moves to item dear = by (is_next r.frame.point to) refl (its_words S r.frame.function r.holds.function r.frame.point (Jump to) r.holds.there item)
    where
      by : (next : Bool) → is_next r.frame.point to ≡ next →
          HasAt S.image (here S s t r) (cond next (mark_words (S.homes r.frame.function)) (Jal 0 (jump_offset (here S s t r) (entry_of S r.frame.function to)) ∷ [])) → Moves S s t
      by true h has = idle_moves S s t r (next_idles to item (eqb-true to (suc r.frame.point) h)) (Jump to) item has (ap (λ b. cond b (mark_size (S.homes r.frame.function)) 1) h) (omega arith)
      by false h has =
          let k = here S s t r in
          let b = entry_of S r.frame.function to in
          let g0 = begin S.image (sizes S) k r.core (Jal 0 (jump_offset k b) ∷ []) has in
          let runs = jump_to S.image (sizes S) k b refl (small r.frame.function r.frame.point) (small r.frame.function to) g0 in
          let next = next_entry S r.frame.function r.holds.function r.frame.point (Jump to) r.holds.there item in
          let one : jump_size (S.homes r.frame.function) r.frame.point to ≡ 1 = ap (λ b. cond b (mark_size (S.homes r.frame.function)) 1) h in
          goes_moves S s t r (goes_to S.p S.slots S.limits to r.frame r.older s) to (leads S r.frame r.holds.function r.holds.there (Jump to) item (record { from = r.frame.point; to = to; aborts = false }) (inl refl) refl refl) r.core 0
          (step_at S s t r (Some (Jump to)) item) refl r.running refl refl refl (away S s t r (omega arith) runs) (omega arith) (keeps_itself r.core)

  -- ---- branches

  module _ (condition then_to else_to : ℕ) (item : slice_get r.holds.function.code r.frame.point ≡ Some (Branch condition then_to else_to)) (held : HoldsBool r.frame.locations condition) (in_g : IsSlotOf r.holds.function (Variable condition)) (dear : 128 ≤ S.cost) where
    abbrev f : ℕ
    f = r.frame.function

    abbrev home : Home
    home = home_here S s t r (Variable condition)

    abbrev register : ℕ
    register = register_for 5 home

    -- where the words behind those of the condition begin, and these words
    abbrev at : ℕ
    at = here S s t r + source_size home

    abbrev behind : List Word
    behind = branch_words r.holds.function (entry_of S r.frame.function) r.frame.point at register then_to else_to

    -- the condition's word is in its register
    brought : Brought S s t r true 5 (Variable condition) (Boolean held.truth) 0 (here S s t r) r.core behind
    brought =
        let has = its_words S f r.holds.function r.frame.point (Branch condition then_to else_to) r.holds.there item in
        brings S s t r true 5 (Variable condition) (Boolean held.truth) refl (holds_slot S s t r (Branch condition then_to else_to) item (Variable condition) (Boolean held.truth) (inl refl) in_g held.is) (unchanged S s t r)
        (begin S.image (sizes S) (here S s t r) r.core (source_words 5 home ++ behind) has)

    tested : (truth : Bool) → held.truth ≡ truth → eqb (brought.core.registers register) (brought.core.registers 0) ≡ not truth
    tested true b = ap (λ y. eqb y (brought.core.registers 0)) (brought.word.is ∙ ap (λ y. word_of (Boolean y)) b) ∙ ap (eqb 1) (brought.keeps.zero_register ∙ r.holds.zero_is)
    tested false b = ap (λ y. eqb y (brought.core.registers 0)) (brought.word.is ∙ ap (λ y. word_of (Boolean y)) b) ∙ ap (eqb 0) (brought.keeps.zero_register ∙ r.holds.zero_is)

    -- where words come to the item of the condition's value, that is the step
    goes_way : (truth : Bool) → held.truth ≡ truth → (n : ℕ) → n ≤ 8 → Comes S (here S s t r) r.core (suc n) (entry_of S r.frame.function (cond truth then_to else_to)) brought.core → Moves S s t
    goes_way truth b n few runs = by truth b runs
      where
        is : step S.p S.limits s ≡ goes_to S.p S.slots S.limits (cond held.truth then_to else_to) r.frame r.older s
        is = step_at S s t r (Some (Branch condition then_to else_to)) item
            ∙ ap (λ v. goes_to S.p S.slots S.limits (cond (bool_of v) then_to else_to) r.frame r.older s) (read_is r.frame.locations (Variable condition) (Boolean held.truth) held.is)

        by : (truth : Bool) → held.truth ≡ truth → Comes S (here S s t r) r.core (suc n) (entry_of S r.frame.function (cond truth then_to else_to)) brought.core → Moves S s t
        by true b runs =
            goes_moves S s t r (goes_to S.p S.slots S.limits then_to r.frame r.older s) then_to (leads S r.frame r.holds.function r.holds.there (Branch condition then_to else_to) item (record { from = r.frame.point; to = then_to; aborts = false }) (inl refl) refl refl) brought.core n
            (is ∙ ap (λ y. goes_to S.p S.slots S.limits (cond y then_to else_to) r.frame r.older s) b) refl r.running refl refl refl runs (omega arith) brought.keeps
        by false b runs =
            goes_moves S s t r (goes_to S.p S.slots S.limits else_to r.frame r.older s) else_to (leads S r.frame r.holds.function r.holds.there (Branch condition then_to else_to) item (record { from = r.frame.point; to = else_to; aborts = false }) (inr (inl refl)) refl refl) brought.core n
            (is ∙ ap (λ y. goes_to S.p S.slots S.limits (cond y then_to else_to) r.frame r.older s) b) refl r.running refl refl refl runs (omega arith) brought.keeps

    -- a jump among the words behind, which comes there in the second step
    jumps_way : (truth : Bool) → held.truth ≡ truth → (a : ℕ) → a + 1 ≤ entry_of S r.frame.function (suc r.frame.point) → (ws : List Word)
        → Going S.image (sizes S) (here S s t r) r.core (0 + source_size home + 1) a brought.core (Jal 0 (jump_offset a (entry_of S r.frame.function (cond truth then_to else_to))) ∷ ws) → Moves S s t
    jumps_way truth b a inside ws g =
        let size = source_most home in
        let low = S.laid.few_entries f (suc r.frame.point) in
        let runs = jump_to S.image (sizes S) a (entry_of S f (cond truth then_to else_to)) refl (omega arith) (small f (cond truth then_to else_to)) g in
        let count : 0 + source_size home + 1 + 1 ≡ suc (source_size home + 1) = omega arith in
        goes_way truth b (source_size home + 1) (omega arith) (away S s t r inside (leaves_in (suc (source_size home + 1)) count runs))

    -- the words behind lead to the next item, which is that of the condition's value
    falls_way : (truth : Bool) → held.truth ≡ truth → cond truth then_to else_to ≡ suc r.frame.point → (a : ℕ) → a ≡ entry_of S r.frame.function (suc r.frame.point)
        → Going S.image (sizes S) (here S s t r) r.core (0 + source_size home + 1) a brought.core [] → Moves S s t
    falls_way truth b next a there g =
        let size = source_most home in
        let count : 0 + source_size home + 1 ≡ suc (source_size home) = omega arith in
        goes_way truth b (source_size home) (omega arith)
        (comes_in S (suc (source_size home)) (entry_of S f (cond truth then_to else_to)) refl (ap (entry_of S f) (sym next))
        (onto_next S s t r (landed (suc (source_size home)) (entry_of S f (suc r.frame.point)) count there g)))

    abbrev to_then : ℕ → Word
    to_then a = Jal 0 (jump_offset a (entry_of S r.frame.function then_to))

    abbrev to_else : ℕ → Word
    to_else a = Jal 0 (jump_offset a (entry_of S r.frame.function else_to))

    low_at : at < 2 ^ 20
    low_at =
        let low = S.laid.few_entries f r.frame.point in
        let size = source_most home in
        omega arith

    -- one branch leads to the item of the condition's value
    near_way : (truth : Bool) → held.truth ≡ truth → (o : Condition) → holds o (brought.core.registers register) (brought.core.registers 0) ≡ true → at + 1 ≤ entry_of S r.frame.function (suc r.frame.point) → (ws : List Word)
        → Going S.image (sizes S) (here S s t r) r.core (0 + source_size home) at brought.core (words.Branch o register 0 (jump_offset at (entry_of S r.frame.function (cond truth then_to else_to))) ∷ ws) → Moves S s t
    near_way truth b o is inside ws g =
        let size = source_most home in
        let runs = branch_to S.image (sizes S) (entry_of S f (cond truth then_to else_to)) low_at (small f (cond truth then_to else_to)) is g in
        let count : 0 + source_size home + 1 ≡ suc (source_size home) = omega arith in
        goes_way truth b (source_size home) (omega arith) (away S s t r inside (leaves_in (suc (source_size home)) count runs))

    -- the next item is the one of false
    else_next : is_next r.frame.point else_to ≡ true → (near : Bool) → is_in_reach r.holds.function r.frame.point then_to ≡ near → (truth : Bool) → held.truth ≡ truth
        → Going S.image (sizes S) (here S s t r) r.core (0 + source_size home) at brought.core
        (cond near (words.Branch tests.Ne register 0 (jump_offset at (entry_of S r.frame.function then_to)) ∷ []) (words.Branch tests.Eq register 0 (pos 8) ∷ to_then (at + 1) ∷ [])) → Moves S s t
    else_next h near told truth b g = by near told truth b g
      where
        next : entry_of S r.frame.function (suc r.frame.point) ≡ at + way_size r.holds.function r.frame.point then_to
        next =
            let there = next_entry S f r.holds.function r.frame.point (Branch condition then_to else_to) r.holds.there item in
            let size : branch_size r.holds.function r.frame.point then_to else_to ≡ way_size r.holds.function r.frame.point then_to =
            ap (λ e. cond e (way_size r.holds.function r.frame.point then_to) (cond (is_next r.frame.point then_to) (way_size r.holds.function r.frame.point else_to) 3)) h in
            omega arith

        one : is_in_reach r.holds.function r.frame.point then_to ≡ true → entry_of S r.frame.function (suc r.frame.point) ≡ at + 1
        one told = let size : way_size r.holds.function r.frame.point then_to ≡ 1 = ap (λ e. cond e 1 2) told in omega (arith, next)

        two : is_in_reach r.holds.function r.frame.point then_to ≡ false → entry_of S r.frame.function (suc r.frame.point) ≡ at + 2
        two told = let size : way_size r.holds.function r.frame.point then_to ≡ 2 = ap (λ e. cond e 1 2) told in omega (arith, next)

        by : (near : Bool) → is_in_reach r.holds.function r.frame.point then_to ≡ near → (truth : Bool) → held.truth ≡ truth
            → Going S.image (sizes S) (here S s t r) r.core (0 + source_size home) at brought.core
            (cond near (words.Branch tests.Ne register 0 (jump_offset at (entry_of S r.frame.function then_to)) ∷ []) (words.Branch tests.Eq register 0 (pos 8) ∷ to_then (at + 1) ∷ [])) → Moves S s t
        by true told true b g = near_way true b tests.Ne (ap not (tested true b)) (omega (arith, one told)) [] g
        by true told false b g = falls_way false b (eqb-true else_to (suc r.frame.point) h) (at + 1) (omega (arith, one told)) (not_taken S.image (sizes S) (ap not (tested false b)) g)
        by false told true b g = jumps_way true b (at + 1) (omega (arith, two told)) [] (not_taken S.image (sizes S) (tested true b) g)
        by false told false b g =
            falls_way false b (eqb-true else_to (suc r.frame.point) h) (at + 1 + 1) (omega (arith, two told)) (taken S.image (sizes S) (to_then (at + 1) ∷ []) [] low_at (omega arith) (tested false b) g)

    -- it is the one of true
    then_next : is_next r.frame.point else_to ≡ false → is_next r.frame.point then_to ≡ true → (near : Bool) → is_in_reach r.holds.function r.frame.point else_to ≡ near → (truth : Bool) → held.truth ≡ truth
        → Going S.image (sizes S) (here S s t r) r.core (0 + source_size home) at brought.core
        (cond near (words.Branch tests.Eq register 0 (jump_offset at (entry_of S r.frame.function else_to)) ∷ []) (words.Branch tests.Ne register 0 (pos 8) ∷ to_else (at + 1) ∷ [])) → Moves S s t
    then_next other h near told truth b g = by near told truth b g
      where
        next : entry_of S r.frame.function (suc r.frame.point) ≡ at + way_size r.holds.function r.frame.point else_to
        next =
            let there = next_entry S f r.holds.function r.frame.point (Branch condition then_to else_to) r.holds.there item in
            let size : branch_size r.holds.function r.frame.point then_to else_to ≡ way_size r.holds.function r.frame.point else_to =
            ap (λ e. cond e (way_size r.holds.function r.frame.point then_to) (cond (is_next r.frame.point then_to) (way_size r.holds.function r.frame.point else_to) 3)) other
            ∙ ap (λ e. cond e (way_size r.holds.function r.frame.point else_to) 3) h in
            omega arith

        one : is_in_reach r.holds.function r.frame.point else_to ≡ true → entry_of S r.frame.function (suc r.frame.point) ≡ at + 1
        one told = let size : way_size r.holds.function r.frame.point else_to ≡ 1 = ap (λ e. cond e 1 2) told in omega (arith, next)

        two : is_in_reach r.holds.function r.frame.point else_to ≡ false → entry_of S r.frame.function (suc r.frame.point) ≡ at + 2
        two told = let size : way_size r.holds.function r.frame.point else_to ≡ 2 = ap (λ e. cond e 1 2) told in omega (arith, next)

        by : (near : Bool) → is_in_reach r.holds.function r.frame.point else_to ≡ near → (truth : Bool) → held.truth ≡ truth
            → Going S.image (sizes S) (here S s t r) r.core (0 + source_size home) at brought.core
            (cond near (words.Branch tests.Eq register 0 (jump_offset at (entry_of S r.frame.function else_to)) ∷ []) (words.Branch tests.Ne register 0 (pos 8) ∷ to_else (at + 1) ∷ [])) → Moves S s t
        by true told true b g = falls_way true b (eqb-true then_to (suc r.frame.point) h) (at + 1) (omega (arith, one told)) (not_taken S.image (sizes S) (tested true b) g)
        by true told false b g = near_way false b tests.Eq (tested false b) (omega (arith, one told)) [] g
        by false told true b g =
            falls_way true b (eqb-true then_to (suc r.frame.point) h) (at + 1 + 1) (omega (arith, two told)) (taken S.image (sizes S) (to_else (at + 1) ∷ []) [] low_at (omega arith) (ap not (tested true b)) g)
        by false told false b g = jumps_way false b (at + 1) (omega (arith, two told)) [] (not_taken S.image (sizes S) (ap not (tested false b)) g)

    -- it is none of the two
    none_next : is_next r.frame.point else_to ≡ false → is_next r.frame.point then_to ≡ false → (truth : Bool) → held.truth ≡ truth
        → Going S.image (sizes S) (here S s t r) r.core (0 + source_size home) at brought.core (beq register 0 (pos 8) ∷ to_then (at + 1) ∷ to_else (at + 2) ∷ []) → Moves S s t
    none_next other others truth b g = by truth b
      where
        next : entry_of S r.frame.function (suc r.frame.point) ≡ at + 3
        next =
            let there = next_entry S f r.holds.function r.frame.point (Branch condition then_to else_to) r.holds.there item in
            let size : branch_size r.holds.function r.frame.point then_to else_to ≡ 3 =
            ap (λ e. cond e (way_size r.holds.function r.frame.point then_to) (cond (is_next r.frame.point then_to) (way_size r.holds.function r.frame.point else_to) 3)) other
            ∙ ap (λ e. cond e (way_size r.holds.function r.frame.point else_to) 3) others in
            omega arith

        second : at + 1 + 1 ≡ at + 2
        second = omega arith

        by : (truth : Bool) → held.truth ≡ truth → Moves S s t
        by true b = jumps_way true b (at + 1) (omega (arith, next)) (to_else (at + 2) ∷ []) (not_taken S.image (sizes S) (tested true b) g)
        by false b =
            jumps_way false b (at + 2) (omega (arith, next)) []
            (is_place S.image (sizes S) (0 + source_size home + 1) (at + 2) refl second (taken S.image (sizes S) (to_then (at + 1) ∷ []) (to_else (at + 2) ∷ []) low_at (omega arith) (tested false b) g))

    pub branch_moves : Moves S s t
    branch_moves = by (is_next r.frame.point else_to) (is_next r.frame.point then_to) refl refl brought.going
      where
        by : (e u : Bool) → is_next r.frame.point else_to ≡ e → is_next r.frame.point then_to ≡ u → Going S.image (sizes S) (here S s t r) r.core (0 + source_size home) at brought.core
            (cond e (way_words r.holds.function (entry_of S r.frame.function) r.frame.point at tests.Ne tests.Eq register then_to)
            (cond u (way_words r.holds.function (entry_of S r.frame.function) r.frame.point at tests.Eq tests.Ne register else_to) (beq register 0 (pos 8) ∷ to_then (at + 1) ∷ to_else (at + 2) ∷ []))) → Moves S s t
        by true u is_else is_then g = else_next is_else (is_in_reach r.holds.function r.frame.point then_to) refl held.truth refl g
        by false true is_else is_then g = then_next is_else is_then (is_in_reach r.holds.function r.frame.point else_to) refl held.truth refl g
        by false false is_else is_then g = none_next is_else is_then held.truth refl g
