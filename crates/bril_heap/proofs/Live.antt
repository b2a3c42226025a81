-- How many cells and how many blocks are live, and whether a block is.
use Rattle.std.proofs.Common.{◌≡◌, ℕ, zero, suc, ◌+◌, ◌<◌, nat_lt, ℤ, pos, negsuc, nat_abs, int_lt, Bool, true, false, not, cond, if◌then◌else◌, ◌||◌, ◌==◌, List, [], ◌∷◌, map, length, Some, None, zero-add, refl, sym, ◌∙◌, arith}
use Rattle.std.specs.List.{count_by}
use Rattle.std.proofs.lemmas.Grind.{common_steps}
use Rattle.std.proofs.lemmas.Bool.{lt-ltb}
use Rattle.std.proofs.lemmas.List.{length-map}
use Rattle.std.proofs.lemmas.List.Folds.{fold-map}
use Rattle.std.proofs.lemmas.List.Sums.{sum_by-cons}
use Rattle.bril_tree.specs.declared.limits.Fault.TheVariants as fault
use Rattle.bril_tree.specs.Memory.{is_live_any, cells_live, most_blocks, allocation_fault}
use Rattle.bril_tree.specs.State.{Block}
use Rattle.bril_heap.specs.Heap.{BlockView, IsHeap, block_seen}

is_live_any-more : (first rest : Bool) (n m : ℕ) → rest ≡ not (n == 0) → m ≡ cond first 1 0 + n → (first || rest) ≡ not (m == 0)
is_live_any-more true rest n m is more = grind (arith, common_steps)
is_live_any-more false rest n m is more = rw (more, zero-add) is

-- a block is live exactly where their count isn't 0
pub is_live_any-count : (blocks : List Block) → is_live_any blocks ≡ not (count_by (λ b. b.is_live) blocks == 0)
is_live_any-count [] = refl
is_live_any-count (b ∷ blocks) =
    is_live_any-more b.is_live (is_live_any blocks) (count_by (λ b. b.is_live) blocks) (count_by (λ b. b.is_live) (b ∷ blocks)) (is_live_any-count blocks) (sum_by-cons (λ (b : Block). cond b.is_live 1 0) b blocks)

pub count-seen : (bs : List BlockView) → count_by (λ b. b.is_live) (map block_seen bs) ≡ count_by (λ b. b.is_live) bs
count-seen bs = fold-map (λ (a : ℕ) (b : Block). a + cond b.is_live 1 0) block_seen 0 bs

-- why a block of some cells can't be had, where there are fewer blocks than the most
pub fault-seen : (limit in_use live : ℕ) (bs : List BlockView) (count : ℤ) → IsHeap limit in_use live bs → int_lt count (pos 1) ≡ false → length bs < most_blocks → allocation_fault limit (map block_seen bs) count ≡ (if nat_lt limit (in_use + nat_abs count) then Some fault.Cells else None)
fault-seen limit in_use live bs (negsuc n) heap some few = cc
fault-seen limit in_use live bs (pos zero) heap some few = cc
fault-seen limit in_use live bs (pos (suc n)) heap some few =
    let sizes : cells_live (map block_seen bs) ≡ in_use = fold-map (λ (a : ℕ) (b : Block). a + cond b.is_live b.size 0) block_seen 0 bs ∙ sym heap.counted in
    rw (length-map bs block_seen, lt-ltb (length bs) most_blocks few, sizes) refl
