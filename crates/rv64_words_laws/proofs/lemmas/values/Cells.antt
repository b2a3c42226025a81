-- The words that find a cell, and those that load and store it.
use Rattle.std.proofs.Common.{◌≡◌, ℕ, ◌+◌, ◌*◌, ◌/◌, ◌%◌, ◌^◌, ◌<◌, ◌≤◌, true, false, not, eqb, ltb, IsTrue, refl, sym, ap, ◌∙◌, arith, List, [], ◌∷◌, ◌++◌, ℤ, pos, negsuc}
use Rattle.std.specs.Prelude.{FitsSigned}
use Rattle.std.specs.Int.{w32, w64, cast_unsigned}
use Rattle.std.proofs.lemmas.Bool.Decides.{nat_tests}
use Rattle.bril_tree.specs.declared.limits.End.TheVariants.{Faulted}
use Rattle.bril_tree.specs.declared.limits.Fault.TheVariants as fault
use Rattle.rv64_words.specs.declared.image.Image.{Image}
use Rattle.rv64_words.specs.declared.word.Word.{Word}
use Rattle.rv64_words.specs.declared.word.Word.TheVariants.{Lui, Ld, Sd}
use Rattle.rv64_words.specs.Arithmetic.{moved_by}
use Rattle.rv64_words.specs.Mnemonics.{add, slli, srli, srai, bltu, bne}
use Rattle.rv64_words.specs.Region.{Sizes, table_base, cells_base, table_words, most_blocks}
use Rattle.rv64_words_laws.specs.stretches.Core.{Core, written, put_cell, Keeps}
use Rattle.rv64_words_laws.specs.stretches.Runs.{effects}
use Rattle.rv64_words_laws.proofs.lemmas.stretches.Cores.{written_here}
use Rattle.rv64_words_laws.proofs.lemmas.stretches.Going.{Going, begin, plain, plains, load_table, load_cell, store_cell, taken, not_taken, is_core, is_place}
use Rattle.rv64_words_laws.specs.sequences.Operations.{cell_words, load_cell_words, mark_cell_words, store_cell_words}
use Rattle.rv64_words_laws.specs.sequences.Sequences.{fault_words}
use Rattle.rv64_words_laws.specs.values.Cells.{is_inside, PointerReady, FindsCell, CellReady}
use Rattle.rv64_words_laws.specs.values.Cells.{CellWordsFind, CellWordsFault, LoadWordsGive, LoadWordsFault, MarkWordsRun, StoreWordsRun}
use Rattle.rv64_words_laws.specs.values.Operands.{is_result_register, Gives, EndsSo}
use Rattle.rv64_words_laws.proofs.lemmas.values.Kept.{keeps_itself, keeps_five, keeps_six, keeps_seven, keeps_result, result_apart, gives_by, faults_by}
use Rattle.rv64_words_laws.proofs.lemmas.values.Operands.{two}
use Rattle.rv64_words_laws.proofs.lemmas.values.Pointers.{sign_extended, offset_part, block_part}

-- as the words compare
inside_word : (offset : ℤ) (size : ℕ) → FitsSigned w32 offset → size < 2 ^ 63 → ltb (cast_unsigned w64 offset) size ≡ is_inside offset size
inside_word (pos n) size fits few = refl
inside_word (negsuc n) size fits few = let f = fits.sfits in grind (arith, nat_tests)

-- the address of a block's entry in the block table
entry_word : (block : ℕ) → block ≤ most_blocks → (block * 2 ^ 4 % 2 ^ 64 + 536870912) % 2 ^ 64 ≡ table_base + 8 * (2 * block)
entry_word block low = omega arith

size_word : (block : ℕ) → block ≤ most_blocks → moved_by (table_base + 8 * (2 * block)) (pos 8) ≡ table_base + 8 * (2 * block + 1)
size_word block low = omega arith

first_word : (block : ℕ) → block ≤ most_blocks → moved_by (table_base + 8 * (2 * block)) (pos 0) ≡ table_base + 8 * (2 * block)
first_word block low = omega arith

-- the address of a cell
cell_word : (first n : ℕ) → first + n < 2 ^ 58 → (cells_base + 16 * first + n * 2 ^ 4 % 2 ^ 64) % 2 ^ 64 ≡ cells_base + 16 * (first + n)
cell_word first n few = omega arith

flag_word : (at : ℕ) → at < 2 ^ 58 → moved_by (cells_base + 16 * at) (pos 0) ≡ cells_base + 8 * (2 * at)
flag_word at few = omega arith

value_word : (at : ℕ) → at < 2 ^ 58 → moved_by (cells_base + 16 * at) (pos 8) ≡ cells_base + 8 * (2 * at + 1)
value_word at few = omega arith

-- ---- the cell of a pointer

abbrev front_words : List Word
front_words = srli 6 5 32 ∷ slli 6 6 4 ∷ Lui 7 0x20000 ∷ add 6 6 7 ∷ slli 5 5 32 ∷ srai 5 5 32 ∷ []

abbrev back_words : List Word
back_words = Ld 6 6 (pos 0) ∷ slli 5 5 4 ∷ add 7 6 5 ∷ []

module _ (image : Image) (z : Sizes) (k : ℕ) (c : Core) (block : ℕ) (offset : ℤ) (r : PointerReady image z k c cell_words block offset) where
  abbrev front : Core
  front = effects front_words c

  front_kept : Keeps c (effects front_words c)
  front_kept = keeps_five c _ _ (keeps_five c _ _ (keeps_six c _ _ (keeps_seven c _ _ (keeps_six c _ _ (keeps_six c c _ (keeps_itself c))))))

  entry_is : (effects front_words c).registers 6 ≡ table_base + 8 * (2 * block)
  entry_is =
      ap (λ x. (x / 2 ^ 32 * 2 ^ 4 % 2 ^ 64 + 536870912) % 2 ^ 64) r.pointer
      ∙ (ap (λ x. (x * 2 ^ 4 % 2 ^ 64 + 536870912) % 2 ^ 64) (block_part block offset r.fits) ∙ entry_word block r.known)

  offset_is : (effects front_words c).registers 5 ≡ cast_unsigned w64 offset
  offset_is = ap sign_extended r.pointer ∙ offset_part block offset r.fits

  -- with the block's size in register 7
  sized : Going image z k c (0 + 6 + 1) (k + 6 + 1) (written (effects front_words c) 7 (c.table (2 * block + 1))) (bltu 5 7 (pos 16) ∷ (fault_words 5 ++ back_words))
  sized =
      let known : block ≤ most_blocks = r.known in
      let inside : 2 * block + 1 < table_words = omega arith in
      load_table image z (2 * block + 1) (ap (λ x. moved_by x (pos 8)) entry_is ∙ size_word block known) r.few inside
      (plains image z front_words (Ld 7 6 (pos 8) ∷ bltu 5 7 (pos 16) ∷ (fault_words 5 ++ back_words)) (tt, (tt, (tt, (tt, (tt, (tt, tt)))))) (begin image z k c cell_words r.has))

  test_is : ltb ((effects front_words c).registers 5) (c.table (2 * block + 1)) ≡ is_inside offset (c.table (2 * block + 1))
  test_is = ap (λ x. ltb x (c.table (2 * block + 1))) offset_is ∙ inside_word offset (c.table (2 * block + 1)) r.fits r.limited

  pub cell_faults : is_inside offset (c.table (2 * block + 1)) ≡ false → EndsSo image z k c 14 (Faulted fault.Access)
  cell_faults out =
      faults_by image z 14 4 fault.Access (omega arith) (omega arith) (keeps_seven c _ (c.table (2 * block + 1)) front_kept) r.null refl (not_taken image z (test_is ∙ out) sized)

  pub cell_found : (n first : ℕ) → offset ≡ pos n → n < c.table (2 * block + 1) → c.table (2 * block) ≡ cells_base + 16 * first → first + n < 2 ^ 58 → FindsCell image z k c 14 (first + n)
  cell_found n first is lt address few =
      let below : k < 2 ^ 19 = r.low in
      let known : block ≤ most_blocks = r.known in
      let lower : k + 6 + 1 < 2 ^ 20 = omega arith in
      let inside : 2 * block < table_words = omega arith in
      let true_is : is_inside offset (c.table (2 * block + 1)) ≡ true = ap (λ o. is_inside o (c.table (2 * block + 1))) is ∙ lt_true n (c.table (2 * block + 1)) lt in
      let g1 = taken image z (fault_words 5) back_words lower (omega arith) (test_is ∙ true_is) sized in
      let g2 = load_table image z (2 * block) (ap (λ x. moved_by x (pos 0)) entry_is ∙ first_word block known) r.few inside g1 in
      let g3 = plain image z tt (plain image z tt g2) in
      let here : (effects front_words c).registers 5 ≡ n = offset_is ∙ ap (cast_unsigned w64) is in
      record {
        steps = 0 + 6 + 1 + 1 + 1 + 1 + 1;
        within = omega arith;
        core = _;
        keeps = keeps_seven c _ _ (keeps_five c _ _ (keeps_six c _ _ (keeps_seven c _ (c.table (2 * block + 1)) front_kept)));
        result = two (λ x y. (x + y * 2 ^ 4 % 2 ^ 64) % 2 ^ 64) address here ∙ cell_word first n few;
        runs = (is_place image z (0 + 6 + 1 + 1 + 1 + 1 + 1) (k + 14) refl (omega arith) g3).runs;
      }
    where
      lt_true : (a b : ℕ) → a < b → ltb a b ≡ true
      lt_true a b h = grind (arith, nat_tests)

-- ---- loads and stores

module _ (image : Image) (z : Sizes) (k : ℕ) (c : Core) (d at : ℕ) (result : IsTrue (is_result_register d)) where
  flag_inside : 2 * at + 1 < z.cells → 2 * at < z.cells
  flag_inside h = omega arith

  -- whether it was stored is in register 5
  flagged : CellReady image z k c (load_cell_words d) at → Going image z k c (0 + 1) (k + 1) (written c 5 (c.cells (2 * at))) (bne 5 0 (pos 16) ∷ (fault_words 6 ++ Ld d 7 (pos 8) ∷ []))
  flagged r = load_cell image z (2 * at) (ap (λ x. moved_by x (pos 0)) r.address ∙ flag_word at r.small) r.few (flag_inside r.inside) (begin image z k c (load_cell_words d) r.has)

  pub loads_stored : CellReady image z k c (load_cell_words d) at → c.cells (2 * at) ≡ 1 → Gives image z k c d 6 (c.cells (2 * at + 1))
  loads_stored r one =
      let below : k < 2 ^ 19 = r.low in
      let lower : k + 1 < 2 ^ 20 = omega arith in
      let differ : not (eqb (c.cells (2 * at)) (c.registers 0)) ≡ true = two_tests (c.cells (2 * at)) (c.registers 0) 1 0 one r.null in
      let g1 = taken image z (fault_words 6) (Ld d 7 (pos 8) ∷ []) lower (omega arith) differ (flagged r) in
      gives_by image z d 6 (c.cells (2 * at + 1)) (omega arith) (omega arith) (keeps_result d c _ (c.cells (2 * at + 1)) result (keeps_five c c (c.cells (2 * at)) (keeps_itself c)))
      (written_here _ d (c.cells (2 * at + 1)) (λ same. result_apart d 0 refl result (sym same)))
      (load_cell image z (2 * at + 1) (ap (λ x. moved_by x (pos 8)) r.address ∙ value_word at r.small) r.few r.inside g1)
    where
      two_tests : (x y v w : ℕ) → x ≡ v → y ≡ w → not (eqb x y) ≡ not (eqb v w)
      two_tests x y v w e f = ap (λ t. not (eqb t y)) e ∙ ap (λ t. not (eqb v t)) f

  pub loads_fresh : CellReady image z k c (load_cell_words d) at → c.cells (2 * at) ≡ 0 → EndsSo image z k c 6 (Faulted fault.Uninit)
  loads_fresh r none =
      let equal : not (eqb (c.cells (2 * at)) (c.registers 0)) ≡ false = ap (λ x. not (eqb x (c.registers 0))) none ∙ ap (λ x. not (eqb 0 x)) r.null in
      faults_by image z 6 5 fault.Uninit (omega arith) (omega arith) (keeps_five c c _ (keeps_itself c)) r.null refl (not_taken image z equal (flagged r))

-- the two stores of a cell, in a stretch
module _ (image : Image) (z : Sizes) where
  pub cell_marked : {k : ℕ} {c : Core} {n j : ℕ} {e : Core} {ws : List Word} → (at : ℕ) → z.stack ≤ 8388608 → e.registers 0 ≡ 0 → e.registers 7 ≡ cells_base + 16 * at → 2 * at + 1 < z.cells → at < 2 ^ 58
      → Going image z k c n j e (mark_cell_words ++ ws) → Going image z k c (n + 1 + 1) (j + 1 + 1) (put_cell (written e 5 1) (2 * at) 1) ws
  cell_marked {e = e} at few null address inside small g =
      let g1 = is_core image z (written e 5 1) (ap (λ x. written e 5 ((x + 1) % 2 ^ 64)) null) (plain image z tt g) in
      let lower : 2 * at < z.cells = omega arith in
      store_cell image z (2 * at) (ap (λ x. moved_by x (pos 0)) address ∙ flag_word at small) few lower g1

  pub cell_stored : {k : ℕ} {c : Core} {n j : ℕ} {e : Core} {ws : List Word} → (v at : ℕ) → z.stack ≤ 8388608 → e.registers 7 ≡ cells_base + 16 * at → 2 * at + 1 < z.cells → at < 2 ^ 58
      → Going image z k c n j e (Sd 7 v (pos 8) ∷ ws) → Going image z k c (n + 1) (j + 1) (put_cell e (2 * at + 1) (e.registers v)) ws
  cell_stored v at few address inside small g = store_cell image z (2 * at + 1) (ap (λ x. moved_by x (pos 8)) address ∙ value_word at small) few inside g

-- ---- the laws

pub cell_words_find : CellWordsFind
cell_words_find image z k c block n first offset r is lt address few = cell_found image z k c block offset r n first is lt address few

pub cell_words_fault : CellWordsFault
cell_words_fault image z k c block offset r out = cell_faults image z k c block offset r out

pub load_words_give : LoadWordsGive
load_words_give image z k c d at result r one = loads_stored image z k c d at result r one

pub load_words_fault : LoadWordsFault
load_words_fault image z k c d at result r none = loads_fresh image z k c d at result r none

pub mark_words_run : MarkWordsRun
mark_words_run image z k c at r =
    let g = cell_marked image z at r.few r.null r.address r.inside r.small (begin image z k c mark_cell_words r.has) in
    (is_place image z 2 (k + 2) (omega arith) (omega arith) g).runs

pub store_words_run : StoreWordsRun
store_words_run image z k c v at r =
    let g = cell_stored image z v at r.few r.address r.inside r.small (begin image z k c (store_cell_words v) r.has) in
    (is_place image z 1 (k + 1) (omega arith) refl g).runs
