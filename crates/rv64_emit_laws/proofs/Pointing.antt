-- The words of an item that find the cell of a pointer.
use Rattle.std.proofs.Common.{◌≡◌, ℕ, suc, ◌+◌, ◌*◌, ◌^◌, ◌<◌, ◌≤◌, false, ap, ◌∙◌, arith, List, ◌++◌, length, Some, None}
use Rattle.bril_tree.specs.declared.limits.Fault.TheVariants as fault
use Rattle.bril_tree.specs.declared.value.Value.TheVariants.{Ptr}
use Rattle.bril_tree.specs.Memory.{cell_at}
use Rattle.bril_tree.specs.State as bril
use Rattle.bril_tree.specs.Step.{step, faulted}
use Rattle.rv64_words_laws.proofs.lemmas.blocks.Finding.{CellFound, cell_found, cell_missing, size_few}
use Rattle.rv64_words_laws.specs.stretches.Core.{Core, Keeps}
use Rattle.rv64_words_laws.proofs.lemmas.stretches.Going.{Going, across, has_front}
use Rattle.rv64_words_laws.proofs.lemmas.stretches.Steps.{ends_after}
use Rattle.rv64_words_laws.specs.sequences.Moves.{fetch_size}
use Rattle.rv64_words_laws.specs.sequences.Operations.{cell_words}
use Rattle.rv64_words_laws.proofs.lemmas.sequences.Sizes.{fetch_most}
use Rattle.rv64_words_laws.specs.values.Cells.{PointerReady, is_inside}
use Rattle.rv64_words_laws.proofs.lemmas.values.Cells as words
use Rattle.rv64_words_laws.proofs.lemmas.values.Kept.{keeps_on}
use Rattle.rv64_words.specs.declared.word.Word.{Word}
use Rattle.rv64_words.specs.Region.{cells_base}
use Rattle.rv64_words.specs.State.{State}
use Rattle.slot_code.specs.declared.item.Slot.TheVariants.{Variable}
use Rattle.rv64_emit_laws.proofs.Arriving.{Moves, faults_moves, here, home_here}
use Rattle.rv64_emit_laws.proofs.Holding.{stack_few}
use Rattle.rv64_emit_laws.proofs.Operands.{Brought}
use Rattle.rv64_emit_laws.proofs.Ready.{HoldsPointer}
use Rattle.rv64_emit_laws.proofs.Relation.{RunsAlike}
use Rattle.rv64_emit_laws.proofs.Setting.{Setting, entry_of, sizes}
use Rattle.rv64_emit_laws.proofs.Stretches.{ends_some, runs_some}

module _ (S : Setting) (s : bril.State) (t : State) (r : RunsAlike S s t) (pointer : ℕ) (points : HoldsPointer r.frame.locations pointer) where
  -- register 5 has the pointer, and these are the words of the item from there on
  abbrev pub Pointed : List Word → Type 0
  Pointed ws = Brought S s t r false 5 (Variable pointer) (Ptr points.block points.offset) 0 (here S s t r) r.core ws

  -- there are few cells before the next free one
  few_before : r.core.next_free ≤ 4194304
  few_before =
      let room : 2 * r.core.next_free ≤ 2 * S.limits.cells = r.memory.room in
      let few : S.limits.cells ≤ 4194304 = S.limits.few_cells in
      omega arith

  ready : (ws : List Word) (q : Pointed (cell_words ++ ws)) → PointerReady S.image (sizes S) (here S s t r + fetch_size (home_here S s t r (Variable pointer))) q.core cell_words points.block points.offset
  ready ws q =
      let low = S.laid.few_entries r.frame.function r.frame.point in
      let size = fetch_most (home_here S s t r (Variable pointer)) in
      let known : points.block ≤ length s.blocks = q.word.known in
      let few : length s.blocks ≤ 262144 = r.memory.few in
      let small = size_few (sizes S) s.blocks r.core.table r.core.cells r.core.blocks r.core.next_free r.memory points.block known in
      let next_free = few_before in
      let same : q.core.table (2 * points.block + 1) ≡ r.core.table (2 * points.block + 1) = ap (λ m. m (2 * points.block + 1)) q.keeps.table in
      record {
        has = has_front S.image (sizes S) cell_words ws q.going;
        low = omega arith;
        few = stack_few S;
        null = q.keeps.zero_register ∙ r.holds.zero_is;
        pointer = q.word.is;
        fits = points.fits;
        known = omega arith;
        limited = omega arith;
      }

  -- the pointer has no cell
  pub access_moves : (ws : List Word) → 128 ≤ S.cost → Pointed (cell_words ++ ws) → cell_at s.blocks (Ptr points.block points.offset) ≡ None → step S.p S.limits s ≡ faulted fault.Access s →
      here S s t r + fetch_size (home_here S s t r (Variable pointer)) + 14 ≤ entry_of S r.frame.function (suc r.frame.point) → Moves S s t
  access_moves ws dear q none stepped inside =
      let home = home_here S s t r (Variable pointer) in
      let out = cell_missing (sizes S) s.blocks r.core.table r.core.cells r.core.blocks r.core.next_free r.memory points.block points.offset q.word.known none in
      let no_cell : is_inside points.offset (q.core.table (2 * points.block + 1)) ≡ false = ap (λ m. is_inside points.offset (m (2 * points.block + 1))) q.keeps.table ∙ out in
      let last = words.cell_faults S.image (sizes S) (here S s t r + fetch_size home) q.core points.block points.offset (ready ws q) no_cell in
      let within = last.within in
      let size = fetch_most home in
      let some = ends_some last.ends in
      faults_moves S s t r fault.Access last.core (0 + fetch_size home + last.steps) stepped (keeps_on r.core q.core last.core q.keeps last.keeps) (ends_after S.image (sizes S) q.going.runs (omega arith) last.ends) inside (omega arith) (omega arith)

  -- or it has cell n of its block, and register 7 gets the cell's address
  pub record AtCell (n : ℕ) (ws : List Word) : Type 0 where
    pub cell : CellFound (sizes S) s.blocks r.core.table r.core.cells r.core.blocks r.core.next_free r.memory points.block n points.offset
    pub core : Core
    pub keeps : Keeps r.core core
    pub address : core.registers 7 ≡ cells_base + 16 * (r.memory.first points.block + n)
    pub inside : 2 * (r.memory.first points.block + n) + 1 < 2 * S.limits.cells
    pub small : r.memory.first points.block + n < 2 ^ 58
    pub steps : ℕ
    pub some : 1 ≤ steps
    pub few : steps ≤ 17
    pub going : Going S.image (sizes S) (here S s t r) r.core steps (here S s t r + fetch_size (home_here S s t r (Variable pointer)) + 14) core ws

  pub at_cell : (n : ℕ) (ws : List Word) → Pointed (cell_words ++ ws) → cell_at s.blocks (Ptr points.block points.offset) ≡ Some n → AtCell n ws
  at_cell n ws q there =
      let home = home_here S s t r (Variable pointer) in
      let f = cell_found (sizes S) s.blocks r.core.table r.core.cells r.core.blocks r.core.next_free r.memory points.block n points.offset q.word.known there in
      let first = r.memory.first points.block in
      let inside : first + n < r.core.next_free = f.inside in
      let next_free = few_before in
      let room : 2 * r.core.next_free ≤ 2 * S.limits.cells = r.memory.room in
      let small : first + n < 2 ^ 58 = omega arith in
      let size = f.size in
      let below = f.below in
      let same : q.core.table (2 * points.block + 1) ≡ r.core.table (2 * points.block + 1) = ap (λ m. m (2 * points.block + 1)) q.keeps.table in
      let listed : n < q.core.table (2 * points.block + 1) = omega arith in
      let address = ap (λ m. m (2 * points.block)) q.keeps.table ∙ f.address in
      let last = words.cell_found S.image (sizes S) (here S s t r + fetch_size home) q.core points.block points.offset (ready ws q) n first f.offset_is listed address small in
      let within = last.within in
      let most = fetch_most home in
      let over : here S s t r + fetch_size home < here S s t r + fetch_size home + 14 = omega arith in
      let first_step = runs_some over last.runs in
      record {
        cell = f;
        core = last.core;
        keeps = keeps_on r.core q.core last.core q.keeps last.keeps;
        address = last.result;
        inside = omega arith;
        small = small;
        steps = 0 + fetch_size home + last.steps;
        some = omega arith;
        few = omega arith;
        going = across S.image (sizes S) cell_words ws q.going last.runs;
      }
