-- How many cells are live: by the block table and by the program's blocks.
use Rattle.std.proofs.Common.{◌≡◌, ℕ, zero, suc, ◌+◌, ◌*◌, ◌<◌, ◌≤◌, cond, refl, sym, ap, ◌∙◌, arith, List, length, take, Some}
use Rattle.std.specs.Prelude.{slice_get}
use Rattle.std.proofs.lemmas.List.{take_all}
use Rattle.std.proofs.lemmas.List.Sums.{sum_by_more}
use Rattle.std.proofs.lemmas.Option.{get_or_from_slice_get}
use Rattle.bril_tree.specs.State.{Block}
use Rattle.bril_tree.proofs.Elements.{get_inside}
use Rattle.bril_tree.specs.Memory.{cells_live}
use Rattle.rv64_words.specs.Environment.{live_cells}

-- the cells of a block, where it is live
abbrev pub live_of : Block → ℕ
live_of b = cond b.is_live b.size 0

-- where the table has the size of each of the blocks, both counts are the same
module _ (table : ℕ → ℕ) (blocks : List Block) (sizes : (k : ℕ) (b : Block) → slice_get blocks k ≡ Some b → table (2 * suc k + 1) ≡ cond b.is_live b.size 0) where
  live_prefix : (k : ℕ) → k ≤ length blocks → live_cells table k ≡ cells_live (take k blocks)
  live_prefix zero le = refl
  live_prefix (suc k) le =
      let inside : k < length blocks = omega arith in
      let found = get_inside blocks k inside in
      let one : suc k ≡ k + 1 = omega arith in
      ap (λ n. n + table (2 * suc k + 1)) (live_prefix k (omega arith))
      ∙ (ap (λ n. cells_live (take k blocks) + n) (sizes k found.0 found.1 ∙ ap live_of (sym (get_or_from_slice_get blocks k found.0 found.0 found.1)))
      ∙ (sym (sum_by_more live_of blocks k found.0 inside)
      ∙ ap (λ n. cells_live (take n blocks)) (sym one)))

  pub live_alike : live_cells table (length blocks) ≡ cells_live blocks
  live_alike = live_prefix (length blocks) (omega arith) ∙ ap cells_live (take_all (length blocks) blocks (omega arith))
