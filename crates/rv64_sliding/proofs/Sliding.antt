-- One step of sliding in place, as a loop makes it: the block table and the cells now, and the cell to which the next block goes.
use Rattle.std.proofs.Common.{◌≡◌, ◌≢◌, ℕ, suc, ◌+◌, ◌-◌, ◌*◌, ◌/◌, ◌<◌, ◌≤◌, cond, ⊎_elim, sym, ap, ◌∙◌, subst, arith}
use Rattle.std.proofs.lemmas.Bool.{cases_eq, eq-eqb, ne_eqb}
use Rattle.rv64_words.specs.Region.{cells_base}
use Rattle.rv64_words.specs.State.{assigned}
use Rattle.rv64_words.specs.Environment.{live_cells, slid_cells, slid_table}
use Rattle.rv64_sliding.specs.Order.{first_cell, IsLiveOf, IsOrdered, IsTight, IsMovable, table_moved, cells_moved}
use Rattle.rv64_processor.specs.RegionView.{moved_down, first_words}
use Rattle.rv64_sliding.proofs.InPlace.{SlidSoFar, live_below, live_within, slid_begins, slid_dead, slid_live, slid_ends, slid_front, slid_later, slid_more_dead, slid_more_live}
use Rattle.rv64_processor.proofs.Moving.{moved-none}
use Rattle.rv64_words.proofs.Slid.{slid_odd}

-- The first n blocks slid.
pub record Slides (old_table old_cells : ℕ → ℕ) (blocks n : ℕ) (table cells : ℕ → ℕ) (to : ℕ) : Type 0 where
  pub table_is : table ≡ slid_table old_table n
  pub to_is : to ≡ live_cells old_table n
  pub cells_are : SlidSoFar old_table old_cells blocks n cells
  pub within : n ≤ blocks

module _ (old_table old_cells : ℕ → ℕ) (blocks free : ℕ) (o : IsOrdered old_table blocks free) where
  -- from the block on that was freed first by number
  pub slides_first : (low n : ℕ) → IsTight old_table blocks free low → low ≡ suc n → n < blocks → Slides old_table old_cells blocks n old_table old_cells (first_cell old_table low)
  slides_first low n t e lt =
      let front : (b : ℕ) → b < n → old_table (2 * suc b + 1) ≢ 0 → old_table (2 * suc b) ≡ cells_base + 16 * live_cells old_table b = (λ b less some. t.front b (omega arith) (record { made = omega arith; size = some })) in
      let at = t.freed n e lt in
      let same : first_cell old_table low ≡ first_cell old_table (suc n) = ap (first_cell old_table) e in
      record {
        table_is = sym (slid_front old_table n front);
        to_is = omega arith;
        cells_are = slid_begins old_table old_cells blocks free o n (omega arith) front;
        within = omega arith;
      }

  -- where it is
  pub freed_at : (low n : ℕ) → IsTight old_table blocks free low → low ≡ suc n → n < blocks → cells_base ≤ old_table (2 * low)
  freed_at low n t e lt = let at = t.freed n e lt in let same : old_table (2 * low) ≡ old_table (2 * suc n) = ap (λ x. old_table (2 * x)) e in omega arith

  module _ (n : ℕ) (table cells : ℕ → ℕ) (to : ℕ) (s : Slides old_table old_cells blocks n table cells to) (lt : n < blocks) where
    size_is : table (2 * suc n + 1) ≡ old_table (2 * suc n + 1)
    size_is = ap (λ f. f (2 * suc n + 1)) s.table_is ∙ slid_odd old_table n (suc n)

    address_is : table (2 * suc n) ≡ old_table (2 * suc n)
    address_is = ap (λ f. f (2 * suc n)) s.table_is ∙ slid_later old_table n (suc n) (omega arith)

    -- the next block, where it isn't live
    pub slides_dead : table (2 * suc n + 1) ≡ 0 → Slides old_table old_cells blocks (suc n) table cells to
    slides_dead none =
        let size = size_is in
        let to_is = s.to_is in
        record {
          table_is = s.table_is ∙ sym (slid_more_dead old_table n (sym size ∙ none));
          to_is = omega arith;
          cells_are = slid_dead old_table old_cells blocks free o n cells (sym size ∙ none) s.cells_are;
          within = omega arith;
        }

    -- and where it is
    module _ (some : table (2 * suc n + 1) ≢ 0) where
      alive : IsLiveOf old_table blocks n
      alive = record { made = lt; size = subst (λ x. x ≢ 0) size_is some }

      first_is : first_cell table (suc n) ≡ first_cell old_table (suc n)
      first_is = ap (λ x. (x - cells_base) / 16) address_is

      pub block_at : table (2 * suc n) ≡ cells_base + 16 * first_cell table (suc n)
      block_at = address_is ∙ (o.address n alive ∙ ap (λ x. cells_base + 16 * x) (sym first_is))

      pub block_ahead : to ≤ first_cell table (suc n)
      block_ahead = let ahead = live_below old_table blocks free o n n (omega arith) alive in let to_is = s.to_is in let first = first_is in omega arith

      pub block_inside : first_cell table (suc n) + table (2 * suc n + 1) ≤ free
      block_inside = let below = o.below n alive in let size = size_is in let first = first_is in omega arith

      pub slides_live : Slides old_table old_cells blocks (suc n) (assigned table (2 * suc n) (cells_base + 16 * to)) (moved_down cells (2 * first_cell table (suc n)) (2 * to) (2 * table (2 * suc n + 1))) (to + table (2 * suc n + 1))
      slides_live =
          let size = size_is in
          let to_is = s.to_is in
          record {
            table_is = ap (λ f. assigned f (2 * suc n) (cells_base + 16 * to)) s.table_is ∙ (ap (λ x. assigned (slid_table old_table n) (2 * suc n) (cells_base + 16 * x)) to_is ∙ sym (slid_more_live old_table n alive.size));
            to_is = omega arith;
            cells_are =
                subst (λ x. SlidSoFar old_table old_cells blocks (suc n) (moved_down cells (2 * x) (2 * to) (2 * table (2 * suc n + 1)))) (sym first_is)
                (subst (λ x. SlidSoFar old_table old_cells blocks (suc n) (moved_down cells (2 * first_cell old_table (suc n)) (2 * x) (2 * table (2 * suc n + 1)))) (sym to_is)
                (subst (λ x. SlidSoFar old_table old_cells blocks (suc n) (moved_down cells (2 * first_cell old_table (suc n)) (2 * live_cells old_table n) (2 * x))) (sym size)
                (slid_live old_table old_cells blocks free o n cells alive s.cells_are)));
            within = omega arith;
          }

  -- the next block, live or not
  pub slides_more : (n : ℕ) (table cells : ℕ → ℕ) (to : ℕ) → Slides old_table old_cells blocks n table cells to → n < blocks → Slides old_table old_cells blocks (suc n) (table_moved table (suc n) to) (cells_moved table cells (suc n) to) (to + table (2 * suc n + 1))
  slides_more n table cells to s lt = ⊎_elim dead live (cases_eq (table (2 * suc n + 1)) 0)
    where
      dead : table (2 * suc n + 1) ≡ 0 → Slides old_table old_cells blocks (suc n) (table_moved table (suc n) to) (cells_moved table cells (suc n) to) (to + table (2 * suc n + 1))
      dead none =
          let at : to ≡ to + table (2 * suc n + 1) = omega arith in
          subst (λ x. Slides old_table old_cells blocks (suc n) (table_moved table (suc n) to) (cells_moved table cells (suc n) to) x) at
          (subst (λ f. Slides old_table old_cells blocks (suc n) (table_moved table (suc n) to) f to) (moved-none cells (2 * first_cell table (suc n)) (2 * to) ∙ ap (λ x. moved_down cells (2 * first_cell table (suc n)) (2 * to) (2 * x)) (sym none))
          (subst (λ f. Slides old_table old_cells blocks (suc n) f cells to) (sym (ap (λ t. cond t table (assigned table (2 * suc n) (cells_base + 16 * to))) (eq-eqb (table (2 * suc n + 1)) 0 none)))
          (slides_dead n table cells to s lt none)))

      live : table (2 * suc n + 1) ≢ 0 → Slides old_table old_cells blocks (suc n) (table_moved table (suc n) to) (cells_moved table cells (suc n) to) (to + table (2 * suc n + 1))
      live some =
          subst (λ f. Slides old_table old_cells blocks (suc n) f (cells_moved table cells (suc n) to) (to + table (2 * suc n + 1))) (sym (ap (λ t. cond t table (assigned table (2 * suc n) (cells_base + 16 * to))) (ne_eqb (table (2 * suc n + 1)) 0 some)))
          (slides_live n table cells to s lt some)

  -- it may move
  pub movable : (n : ℕ) (table cells : ℕ → ℕ) (to room : ℕ) → Slides old_table old_cells blocks n table cells to → n < blocks → 2 * free ≤ room → table (2 * suc n + 1) ≢ 0 → IsMovable table (suc n) to room
  movable n table cells to room s lt fits some = record {
    address = block_at n table cells to s lt some;
    ahead = block_ahead n table cells to s lt some;
    inside = (let inside = block_inside n table cells to s lt some in omega arith);
  }

  -- they end before the next free cell
  pub slides_within : (n : ℕ) (table cells : ℕ → ℕ) (to : ℕ) → Slides old_table old_cells blocks n table cells to → to ≤ free
  slides_within n table cells to s = let most = live_within old_table blocks free o n s.within in let to_is = s.to_is in omega arith

  -- all slid
  pub slides_last : (table cells : ℕ → ℕ) (to : ℕ) → Slides old_table old_cells blocks blocks table cells to → (table ≡ slid_table old_table blocks) × (first_words cells (2 * to) ≡ slid_cells old_table old_cells blocks) × (to ≡ live_cells old_table blocks)
  slides_last table cells to s = (s.table_is, ap (λ x. first_words cells (2 * x)) s.to_is ∙ slid_ends old_table old_cells blocks free o blocks cells s.cells_are, s.to_is)
