-- The machine holds the blocks after the live ones slid.
use Rattle.std.proofs.Common.{◌≡◌, ◌≢◌, ℕ, zero, suc, ◌+◌, ◌-◌, ◌*◌, ◌<◌, ◌≤◌, ◌⊎◌, inl, inr, Bool, true, false, cond, eqb, refl, sym, ap, ◌∙◌, subst, ⊎_elim, arith, List, length, Some}
use Rattle.std.specs.Prelude.{slice_get}
use Rattle.std.proofs.lemmas.Bool.{cases_lt, eq-eqb, ne_eqb}
use Rattle.std.proofs.lemmas.Option.{slice_get_within}
use Rattle.bril_tree.specs.State.{Block}
use Rattle.rv64_words.specs.Region.{Sizes, cells_base}
use Rattle.bril_tree.specs.Memory.{cells_live}
use Rattle.rv64_words_laws.specs.blocks.Memory.{HasWord, BlockHolds, LiesIn, MemoryHolds}
use Rattle.rv64_words.specs.Environment.{live_cells, first_word, slid_cells, slid_table}
use Rattle.rv64_words.proofs.Live.{live_rising}
use Rattle.rv64_words_laws.proofs.lemmas.blocks.Live.{live_alike}
use Rattle.rv64_words.proofs.Slid.{slid_odd, slid_even, slid_even_dead, slid_at, slid_after}

module _ (z : Sizes) (blocks : List Block) (table cells : ℕ → ℕ) (made next_free : ℕ) (h : MemoryHolds z blocks table cells made next_free) where
  -- the table has as many live cells as the program
  pub live_is : live_cells table made ≡ cells_live blocks
  live_is = ap (live_cells table) h.count ∙ live_alike table blocks (λ k b e. (h.each k b e).size)

  -- where the first cell of a block is after that; one that isn't live stays
  abbrev pub slid_first : ℕ → ℕ
  slid_first zero = 0
  slid_first (suc k) = cond (eqb (table (2 * suc k + 1)) 0) (h.first (suc k)) (live_cells table k)

  size_live : (k : ℕ) (b : Block) → slice_get blocks k ≡ Some b → b.is_live ≡ true → table (2 * suc k + 1) ≡ b.size
  size_live k b e live = (h.each k b e).size ∙ ap (λ t. cond t b.size 0) live

  some_live : (k : ℕ) (b : Block) → slice_get blocks k ≡ Some b → b.is_live ≡ true → table (2 * suc k + 1) ≢ 0
  some_live k b e live = (λ none. (let size = size_live k b e live in let some = (h.lies k b e live).some in absurd (omega arith)))

  first_live : (k : ℕ) (b : Block) → slice_get blocks k ≡ Some b → b.is_live ≡ true → slid_first (suc k) ≡ live_cells table k
  first_live k b e live = ap (λ t. cond t (h.first (suc k)) (live_cells table k)) (ne_eqb (table (2 * suc k + 1)) 0 (some_live k b e live))

  first_dead : (k : ℕ) → table (2 * suc k + 1) ≡ 0 → slid_first (suc k) ≡ h.first (suc k)
  first_dead k none = ap (λ t. cond t (h.first (suc k)) (live_cells table k)) (eq-eqb (table (2 * suc k + 1)) 0 none)

  -- up to a live block and with it there are no more cells than up to a later one
  reaches : (j k : ℕ) (a : Block) → slice_get blocks j ≡ Some a → a.is_live ≡ true → j < k → live_cells table j + a.size ≤ live_cells table k
  reaches j k a e live lt =
      let rising : live_cells table (suc j) ≤ live_cells table k = live_rising table (suc j) k (omega arith) in
      let size = size_live j a e live in
      omega arith

  -- a word of a live block
  word_slid : (k : ℕ) (b : Block) → slice_get blocks k ≡ Some b → b.is_live ≡ true → (i : ℕ) → i < 2 * b.size → slid_cells table cells made (2 * slid_first (suc k) + i) ≡ cells (2 * h.first (suc k) + i)
  word_slid k b e live i lt =
      let made_is : made ≡ length blocks = h.count in
      let inside : k < length blocks = slice_get_within blocks k b e in
      let size = size_live k b e live in
      let address = (h.each k b e).address in
      let from : first_word table (suc k) + i ≡ 2 * h.first (suc k) + i = omega arith in
      ap (λ x. slid_cells table cells made (2 * x + i)) (first_live k b e live) ∙ (slid_at table cells made k i (omega arith) (omega arith) ∙ ap cells from)

  flag_slid : (k : ℕ) (b : Block) → slice_get blocks k ≡ Some b → b.is_live ≡ true → (n : ℕ) → n < b.size → slid_cells table cells made (2 * (slid_first (suc k) + n)) ≡ cells (2 * (h.first (suc k) + n))
  flag_slid k b e live n lt =
      let to : 2 * (slid_first (suc k) + n) ≡ 2 * slid_first (suc k) + 2 * n = omega arith in
      let from : 2 * h.first (suc k) + 2 * n ≡ 2 * (h.first (suc k) + n) = omega arith in
      ap (slid_cells table cells made) to ∙ (word_slid k b e live (2 * n) (omega arith) ∙ ap cells from)

  value_slid : (k : ℕ) (b : Block) → slice_get blocks k ≡ Some b → b.is_live ≡ true → (n : ℕ) → n < b.size → slid_cells table cells made (2 * (slid_first (suc k) + n) + 1) ≡ cells (2 * (h.first (suc k) + n) + 1)
  value_slid k b e live n lt =
      let to : 2 * (slid_first (suc k) + n) + 1 ≡ 2 * slid_first (suc k) + (2 * n + 1) = omega arith in
      let from : 2 * h.first (suc k) + (2 * n + 1) ≡ 2 * (h.first (suc k) + n) + 1 = omega arith in
      ap (slid_cells table cells made) to ∙ (word_slid k b e live (2 * n + 1) (omega arith) ∙ ap cells from)

  address_slid : (k : ℕ) (b : Block) → slice_get blocks k ≡ Some b → (t : Bool) → b.is_live ≡ t → slid_table table made (2 * suc k) ≡ cells_base + 16 * slid_first (suc k)
  address_slid k b e true live =
      let made_is : made ≡ length blocks = h.count in
      let inside : k < length blocks = slice_get_within blocks k b e in
      slid_even table made k (omega arith) (some_live k b e live) ∙ ap (λ x. cells_base + 16 * x) (sym (first_live k b e live))
  address_slid k b e false dead =
      let none : table (2 * suc k + 1) ≡ 0 = (h.each k b e).size ∙ ap (λ t. cond t b.size 0) dead in
      slid_even_dead table made (suc k) none ∙ ((h.each k b e).address ∙ ap (λ x. cells_base + 16 * x) (sym (first_dead k none)))

  each_slid : (k : ℕ) (b : Block) → slice_get blocks k ≡ Some b → BlockHolds (length blocks) (suc k) (slid_first (suc k)) b (slid_table table made) (slid_cells table cells made)
  each_slid k b e =
      let old = h.each k b e in
      record {
        address = address_slid k b e b.is_live refl;
        size = slid_odd table made (suc k) ∙ old.size;
        stored = λ live n v lt held. (flag_slid k b e live n lt ∙ (old.stored live n v lt held).0, subst (HasWord (length blocks) v) (sym (value_slid k b e live n lt)) (old.stored live n v lt held).1);
        fresh = λ live n lt held. flag_slid k b e live n lt ∙ old.fresh live n lt held;
      }

  lies_slid : (k : ℕ) (b : Block) → slice_get blocks k ≡ Some b → b.is_live ≡ true → LiesIn (live_cells table made) (slid_first (suc k)) b
  lies_slid k b e live =
      let made_is : made ≡ length blocks = h.count in
      let inside : k < length blocks = slice_get_within blocks k b e in
      let at = first_live k b e live in
      let reach = reaches k made b e live (omega arith) in
      record { some = (h.lies k b e live).some; inside = omega arith }

  apart_slid : (j k : ℕ) (a b : Block) → slice_get blocks j ≡ Some a → slice_get blocks k ≡ Some b → a.is_live ≡ true → b.is_live ≡ true → j ≢ k →
      (slid_first (suc j) + a.size ≤ slid_first (suc k)) ⊎ (slid_first (suc k) + b.size ≤ slid_first (suc j))
  apart_slid j k a b e f live alive ne =
      let one = first_live j a e live in
      let two = first_live k b f alive in
      ⊎_elim
      (λ lt. inl (let reach = reaches j k a e live lt in omega arith))
      (λ le. inr (let lt : k < j = omega arith in let reach = reaches k j b f alive lt in omega arith))
      (cases_lt j k)

  pub slid_holds : 2 * live_cells table made ≤ z.cells → MemoryHolds z blocks (slid_table table made) (slid_cells table cells made) made (live_cells table made)
  slid_holds room = record {
    first = slid_first;
    count = h.count;
    few = h.few;
    room = room;
    each = each_slid;
    lies = lies_slid;
    apart = apart_slid;
    free = λ k le. slid_after table cells made (2 * k) (omega arith);
    none = λ k lt. slid_odd table made k ∙ h.none k lt;
    zero_block = slid_odd table made 0 ∙ h.zero_block;
  }
