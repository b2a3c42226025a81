-- Each item leads to related states again.
use Rattle.std.proofs.Common.{◌≡◌, ℕ, suc, ◌+◌, ◌*◌, ◌≤◌, ◌⊎◌, inl, inr, List, [], ◌∷◌, ◌++◌, length, map, Option, Some, None, refl, sym, ap, ◌∙◌, subst, arith}
use Rattle.std.specs.Prelude.{All, slice_get}
use Rattle.std.specs.List.{AllByRecursion}
use Rattle.std.specs.Option.{option_map}
use Rattle.std.proofs.lemmas.List.Elements.{recursion_from_All}
use Rattle.std.proofs.lemmas.Option.{same_Some}
use Rattle.simulation.specs.Simulation.{Star}
use Rattle.simulation.specs.System.{Agree, after}
use Rattle.bril_tree.specs.declared.limits.End.{End}
use Rattle.bril_tree.specs.declared.operators.UnaryOp.TheVariants as unary
use Rattle.program_numbers.specs.Cost.{longest_arguments}
use Rattle.bril_tree.specs.FunctionForm.{listed}
use Rattle.bril_tree.specs.State as bril
use Rattle.bril_tree.specs.Step.{step}
use Rattle.bril_tree.specs.Value.{word_of}
use Rattle.bril_tree.proofs.Elements.{All-at}
use Rattle.rv64_image_laws.specs.Implements.{image_system, program_system}
use Rattle.rv64_emit_laws.specs.layout.Items.{item_size}
use Rattle.rv64_emit_laws.proofs.lemmas.layout.Bounding.{branch_some}
use Rattle.rv64_words.specs.Machine.{machine_step}
use Rattle.rv64_words.specs.State.{State, Finished}
use Rattle.slot_code.specs.declared.item.Printed.{Printed}
use Rattle.slot_code.specs.declared.item.Slot.TheVariants.{Variable}
use Rattle.slot_code.specs.declared.item.SlotItem.{SlotItem}
use Rattle.slot_code.specs.declared.item.SlotItem.TheVariants.{Pass, Constant, Copy, Unary, Binary, Jump, Branch, Call, Return, Print, Alloc, Free, Store, Load, Speculate, Commit, Guard}
use Rattle.slot_code.specs.declared.slots.SlotFunction.{SlotFunction}
use Rattle.slot_code.specs.Laws.{IsSlotOf, slots_used}
use Rattle.rv64_emit_laws.proofs.Allocating.{alloc_moves}
use Rattle.rv64_emit_laws.proofs.Arriving.{Moves, MovesAlone, distance}
use Rattle.rv64_emit_laws.proofs.Calling.{call_moves}
use Rattle.rv64_emit_laws.proofs.Filling.{binary_moves, char_alone, constant_moves, copy_alone, copy_moves, unary_moves}
use Rattle.rv64_emit_laws.proofs.Freeing.{free_moves}
use Rattle.rv64_emit_laws.proofs.Guarding.{guard_moves}
use Rattle.rv64_emit_laws.proofs.HavingWords.{print_some}
use Rattle.rv64_emit_laws.proofs.Jumping.{branch_moves, jump_alone, jump_moves, pass_alone}
use Rattle.rv64_emit_laws.proofs.Loading.{load_moves}
use Rattle.rv64_emit_laws.proofs.Outcomes.{binary_some}
use Rattle.rv64_emit_laws.proofs.Printing.{print_moves}
use Rattle.rv64_emit_laws.proofs.Ready.{Finds}
use Rattle.rv64_emit_laws.proofs.Relation.{RunsAlike, Related, run, over}
use Rattle.rv64_emit_laws.proofs.Returning.{end_moves, return_moves}
use Rattle.rv64_emit_laws.proofs.Setting.{Setting, sizes}
use Rattle.rv64_emit_laws.proofs.Speculating.{commit_alone, commit_moves, level_moves, speculate_alone}
use Rattle.rv64_emit_laws.proofs.Points.{ListFits, FrameAt, AtItem, AtEnd, frame_at, well_typed}
use Rattle.rv64_emit_laws.proofs.Storing.{store_moves}
use Rattle.rv64_emit_laws.proofs.Stretches.{constant_some}

-- ---- slots of lists

module _ (g : SlotFunction) where
  slots_of : (xs : List ℕ) → AllByRecursion (IsSlotOf g) (map Variable xs) → AllByRecursion (λ x. IsSlotOf g (Variable x)) xs
  slots_of [] h = tt
  slots_of (x ∷ xs) h = (h.0, slots_of xs h.1)

  args_used : (dest : Option ℕ) (args : List ℕ) → AllByRecursion (IsSlotOf g) (map Variable (listed dest ++ args)) → AllByRecursion (λ x. IsSlotOf g (Variable x)) args
  args_used None args h = slots_of args h
  args_used (Some x) args h = slots_of args h.1

  printed_used : (args : List Printed) → AllByRecursion (IsSlotOf g) (map (λ a. Variable a.variable) args) → AllByRecursion (λ a. IsSlotOf g (Variable a.variable)) args
  printed_used [] h = tt
  printed_used (a ∷ args) h = (h.0, printed_used args h.1)

module _ (S : Setting) where
  dear : 128 ≤ S.cost
  dear = let e = S.is_cost.is in omega arith

  listed_dear : (n : ℕ) → n ≤ longest_arguments S.p → 128 + 8 * n ≤ S.cost
  listed_dear n h = let e = S.is_cost.is in omega arith

  module _ (s : bril.State) (t : State) (r : RunsAlike S s t) where
    abbrev IsHere : SlotItem → Type 0
    IsHere item = slice_get r.holds.function.code r.frame.point ≡ Some item

    abbrev Uses : SlotItem → Type 0
    Uses item = All (IsSlotOf r.holds.function) (slots_used item)

    item_moves : (item : SlotItem) → IsHere item → Finds S.p S.slots r.frame item → Uses item → ListFits (longest_arguments S.p) item → Moves S s t
    item_moves Pass here finds used fits = inl (pass_alone S s t r here)
    item_moves (Constant dest value) here finds used fits = constant_moves S s t r dear dest value here finds.0 finds.1 (All-at (IsSlotOf r.holds.function) (slots_used (Constant dest value)) 0 (Variable dest) used refl)
    item_moves (Copy dest from) here finds used fits =
        copy_moves S s t r dear dest from here finds (All-at (IsSlotOf r.holds.function) (slots_used (Copy dest from)) 0 dest used refl) (All-at (IsSlotOf r.holds.function) (slots_used (Copy dest from)) 1 from used refl)
    item_moves (Unary operation dest operand) here finds used fits =
        let all = slots_used (Unary operation dest operand) in
        unary_moves S s t r dear operation dest operand here finds (All-at (IsSlotOf r.holds.function) all 0 (Variable dest) used refl) (All-at (IsSlotOf r.holds.function) all 1 (Variable operand) used refl)
    item_moves (Binary operation dest first second) here finds used fits =
        let all = slots_used (Binary operation dest first second) in
        binary_moves S s t r dear operation dest first second here finds (All-at (IsSlotOf r.holds.function) all 0 (Variable dest) used refl) (All-at (IsSlotOf r.holds.function) all 1 (Variable first) used refl)
        (All-at (IsSlotOf r.holds.function) all 2 (Variable second) used refl)
    item_moves (Jump to) here finds used fits = jump_moves S s t r to here dear
    item_moves (Branch condition then_to else_to) here finds used fits =
        branch_moves S s t r condition then_to else_to here finds (All-at (IsSlotOf r.holds.function) (slots_used (Branch condition then_to else_to)) 0 (Variable condition) used refl) dear
    item_moves (Call dest function args) here finds used fits =
        call_moves S s t r dest function args here (listed_dear (length args) fits) finds (args_used r.holds.function dest args (recursion_from_All (IsSlotOf r.holds.function) (slots_used (Call dest function args)) used))
    item_moves (Return value) here finds used fits =
        return_moves S s t r dear value here finds (λ x e. All-at (IsSlotOf r.holds.function) (slots_used (Return value)) 0 (Variable x) used (ap (λ v. slice_get (slots_used (Return v)) 0) e))
    item_moves (Print args) here finds used fits =
        print_moves S s t r args here finds (printed_used r.holds.function args (recursion_from_All (IsSlotOf r.holds.function) (slots_used (Print args)) used)) (listed_dear (length args) fits)
    item_moves (Alloc dest count) here finds used fits =
        let all = slots_used (Alloc dest count) in
        alloc_moves S s t r dear dest count here finds (All-at (IsSlotOf r.holds.function) all 0 (Variable dest) used refl) (All-at (IsSlotOf r.holds.function) all 1 (Variable count) used refl)
    item_moves (Free pointer) here finds used fits =
        let all = slots_used (Free pointer) in
        free_moves S s t r dear pointer here finds (All-at (IsSlotOf r.holds.function) all 0 (Variable pointer) used refl)
    item_moves (Store pointer value) here finds used fits =
        let all = slots_used (Store pointer value) in
        store_moves S s t r dear pointer value here finds.0 finds.1 (All-at (IsSlotOf r.holds.function) all 0 (Variable pointer) used refl) (All-at (IsSlotOf r.holds.function) all 1 (Variable value) used refl)
    item_moves (Load dest pointer) here finds used fits =
        let all = slots_used (Load dest pointer) in
        load_moves S s t r dear dest pointer here finds (All-at (IsSlotOf r.holds.function) all 0 (Variable dest) used refl) (All-at (IsSlotOf r.holds.function) all 1 (Variable pointer) used refl)
    item_moves Speculate here finds used fits = level_moves S s t r here
    item_moves Commit here finds used fits = commit_moves S s t r here finds dear
    item_moves (Guard condition abort_to) here finds used fits =
        guard_moves S s t r condition abort_to here finds.0 finds.1 (All-at (IsSlotOf r.holds.function) (slots_used (Guard condition abort_to)) 0 (Variable condition) used refl)

    -- where the item has no words the program moves alone
    abbrev IsEmpty : SlotItem → Type 0
    IsEmpty item = item_size (S.homes r.frame.function) r.holds.function r.frame.point item ≡ 0

    item_alone : (item : SlotItem) → IsHere item → Finds S.p S.slots r.frame item → Uses item → IsEmpty item → MovesAlone S s t
    item_alone Pass here finds used none = pass_alone S s t r here
    item_alone (Copy dest from) here finds used none =
        copy_alone S s t r dear dest from here finds (All-at (IsSlotOf r.holds.function) (slots_used (Copy dest from)) 0 dest used refl) (All-at (IsSlotOf r.holds.function) (slots_used (Copy dest from)) 1 from used refl) none
    item_alone (Unary unary.CharToInt dest operand) here finds used none =
        let all = slots_used (Unary unary.CharToInt dest operand) in
        char_alone S s t r dear dest operand here finds (All-at (IsSlotOf r.holds.function) all 0 (Variable dest) used refl) (All-at (IsSlotOf r.holds.function) all 1 (Variable operand) used refl) none
    item_alone (Jump to) here finds used none = jump_alone S s t r to here none
    item_alone Speculate here finds used none = speculate_alone S s t r here none
    item_alone Commit here finds used none = commit_alone S s t r here finds none
    item_alone (Constant dest value) here finds used none = let some = constant_some (word_of value) in absurd (omega arith)
    item_alone (Unary unary.Not dest operand) here finds used none = absurd (omega arith)
    item_alone (Unary unary.IntToChar dest operand) here finds used none = absurd (omega arith)
    item_alone (Binary operation dest first second) here finds used none = let some = binary_some operation in absurd (omega arith)
    item_alone (Branch condition then_to else_to) here finds used none = let some = branch_some r.holds.function r.frame.point then_to else_to in absurd (omega arith)
    item_alone (Call dest function args) here finds used none = absurd (omega arith)
    item_alone (Return value) here finds used none = absurd (omega arith)
    item_alone (Print args) here finds used none = let some = print_some (S.homes r.frame.function) args in absurd (omega arith)
    item_alone (Alloc dest count) here finds used none = absurd (omega arith)
    item_alone (Free pointer) here finds used none = absurd (omega arith)
    item_alone (Store pointer value) here finds used none = absurd (omega arith)
    item_alone (Load dest pointer) here finds used none = absurd (omega arith)
    item_alone (Guard condition abort_to) here finds used none = absurd (omega arith)

    -- the newest frame of a run is well typed
    its_frame : FrameAt S r.frame r.holds.function
    its_frame = frame_at S r.frame r.holds.function r.holds.there (well_typed S r.steps r.frame r.older (ap (λ x. x.frames) (sym r.is) ∙ r.frames))

    pub empty_alone : (item : SlotItem) → IsHere item → IsEmpty item → MovesAlone S s t
    empty_alone item here none = by its_frame
      where
        by : FrameAt S r.frame r.holds.function → MovesAlone S s t
        by (AtItem own at finds used fits) =
            let same : item ≡ own = same_Some item own (sym here ∙ at) in
            item_alone own at finds used (subst IsEmpty same none)
        by (AtEnd end gives) = absurd (let clash : None ≡ Some item = sym end ∙ here in cc)

    run_moves : FrameAt S r.frame r.holds.function → Moves S s t
    run_moves (AtItem item here finds used fits) = item_moves item here finds used fits
    run_moves (AtEnd none gives) = end_moves S s t r dear none gives

  pub related_moves : (s : bril.State) (t : State) → Related S s t → s.ended ≡ None → Moves S s t
  related_moves s t (run r) none = run_moves s t r (its_frame s t r)
  related_moves s t (over r) none = absurd (never r.how (sym r.ended ∙ none))
    where
      never : (how : End) → Some how ≡ None → ⊥
      never how e = cc

  pub related_agree : (s : bril.State) (t : State) → Related S s t → Agree (program_system S.p S.limits) (image_system S.image S.limits) s t
  related_agree s t (run r) = (ap (option_map Finished) r.running ∙ sym (ap (λ x. x.stopped) r.state), r.printed ∙ sym (ap (λ x. x.printed) r.state))
  related_agree s t (over r) = (ap (option_map Finished) r.ended ∙ sym r.stopped, r.printed)

  map_none : (o : Option End) → option_map Finished o ≡ None → o ≡ None
  map_none None e = refl
  map_none (Some x) e = cc

  -- what a simulation asks of it
  moves_so : (s : bril.State) (t : State) → Moves S s t → MovesAlone S s t ⊎ ((m : ℕ) × (suc m ≤ S.cost) × Related S (step S.p S.limits s) (after (machine_step S.image (sizes S)) (suc m) t))
  moves_so s t (inl alone) = inl alone
  moves_so s t (inr m) = inr (m.0, m.1, m.2)

  -- each step of the program is so many words, or none, and then the newest frame comes nearer to its end
  pub simulation : Star (program_system S.p S.limits) (image_system S.image S.limits) S.cost (distance S) (Related S)
  simulation = record {
    agrees = related_agree;
    moves = λ s t r e. moves_so s t (related_moves s t r (map_none s.ended e));
  }
