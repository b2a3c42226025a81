-- Sliding in place: one block after the other moves to the front.
use Rattle.std.proofs.Common.{◌≡◌, ◌≢◌, ℕ, zero, suc, ◌+◌, ◌-◌, ◌*◌, ◌<◌, ◌≤◌, ◌⊎◌, inl, inr, Bool, true, false, ◌&&◌, cond, eqb, leb, ltb, refl, sym, ap, ◌∙◌, ⊎_elim, arith}
use Rattle.std.proofs.lemmas.Bool.{cases_eq, cases_lt, ne_eqb, eq-eqb}
use Rattle.std.proofs.lemmas.Bool.Decides.{nat_tests}
use Rattle.rv64_words.specs.Region.{cells_base}
use Rattle.rv64_words.specs.State.{assigned}
use Rattle.rv64_words.proofs.Words.{same_words}
use Rattle.rv64_words.proofs.Assigned.{assigned_other, assigned_same}
use Rattle.rv64_words.specs.Environment.{live_cells, first_word, slid_cells, slid_table}
use Rattle.rv64_sliding.specs.Order.{first_cell, IsLiveOf, IsOrdered}
use Rattle.rv64_processor.specs.RegionView.{moved_down, first_words}
use Rattle.rv64_words.proofs.Slid.{slid_after}

-- a block that doesn't slide changes nothing
pub slid_more_dead : (table : ℕ → ℕ) (n : ℕ) → table (2 * suc n + 1) ≡ 0 → slid_table table (suc n) ≡ slid_table table n
slid_more_dead table n none = ap (λ t. cond t (slid_table table n) (assigned (slid_table table n) (2 * suc n) (cells_base + 16 * live_cells table n))) (eq-eqb (table (2 * suc n + 1)) 0 none)

pub slid_more_live : (table : ℕ → ℕ) (n : ℕ) → table (2 * suc n + 1) ≢ 0 → slid_table table (suc n) ≡ assigned (slid_table table n) (2 * suc n) (cells_base + 16 * live_cells table n)
slid_more_live table n some = ap (λ t. cond t (slid_table table n) (assigned (slid_table table n) (2 * suc n) (cells_base + 16 * live_cells table n))) (ne_eqb (table (2 * suc n + 1)) 0 some)

-- the entry of a later block is as it was
pub slid_later : (table : ℕ → ℕ) (n k : ℕ) → n < k → slid_table table n (2 * k) ≡ table (2 * k)
slid_later table zero k lt = refl
slid_later table (suc n) k lt = by (slid_later table n k (omega arith)) (eqb (table (2 * suc n + 1)) 0)
  where
    by : slid_table table n (2 * k) ≡ table (2 * k) → (t : Bool) → cond t (slid_table table n) (assigned (slid_table table n) (2 * suc n) (cells_base + 16 * live_cells table n)) (2 * k) ≡ table (2 * k)
    by rest true = rest
    by rest false = assigned_other (slid_table table n) (2 * suc n) (cells_base + 16 * live_cells table n) (2 * k) (λ e. absurd (omega arith)) ∙ rest

-- blocks that lie at the front without gaps stay
pub slid_front : (table : ℕ → ℕ) (n : ℕ) → ((b : ℕ) → b < n → table (2 * suc b + 1) ≢ 0 → table (2 * suc b) ≡ cells_base + 16 * live_cells table b) → slid_table table n ≡ table
slid_front table zero at = refl
slid_front table (suc n) at = ⊎_elim
    (dead (slid_front table n (λ b lt. at b (omega arith))))
    (live (slid_front table n (λ b lt. at b (omega arith))))
    (cases_eq (table (2 * suc n + 1)) 0)
  where
    dead : slid_table table n ≡ table → table (2 * suc n + 1) ≡ 0 → slid_table table (suc n) ≡ table
    dead rest none = slid_more_dead table n none ∙ rest

    live : slid_table table n ≡ table → table (2 * suc n + 1) ≢ 0 → slid_table table (suc n) ≡ table
    live rest some =
        slid_more_live table n some
        ∙ (ap (λ f. assigned f (2 * suc n) (cells_base + 16 * live_cells table n)) rest
        ∙ (ap (assigned table (2 * suc n)) (sym (at n (omega arith) some))
        ∙ assigned_same table (2 * suc n)))

module _ (table : ℕ → ℕ) (blocks free : ℕ) (o : IsOrdered table blocks free) where
  -- the live blocks before a live one take no more cells than there are before it
  pub live_below : (n b : ℕ) → n ≤ b → IsLiveOf table blocks b → live_cells table n ≤ first_cell table (suc b)
  live_below zero b le live = omega arith
  live_below (suc n) b le live = ⊎_elim
      (dead (live_below n b (omega arith) live))
      (alive (λ here. live_below n n (omega arith) here))
      (cases_eq (table (2 * suc n + 1)) 0)
    where
      dead : live_cells table n ≤ first_cell table (suc b) → table (2 * suc n + 1) ≡ 0 → live_cells table (suc n) ≤ first_cell table (suc b)
      dead rest none = omega arith

      alive : (IsLiveOf table blocks n → live_cells table n ≤ first_cell table (suc n)) → table (2 * suc n + 1) ≢ 0 → live_cells table (suc n) ≤ first_cell table (suc b)
      alive rest some =
          let made = live.made in
          let here : IsLiveOf table blocks n = record { made = omega arith; size = some } in
          let before = rest here in
          let order = o.rising n b (omega arith) here live in
          omega arith

  -- all live blocks take no more cells than there are before the next free one
  pub live_within : (n : ℕ) → n ≤ blocks → live_cells table n ≤ free
  live_within zero le = omega arith
  live_within (suc n) le = ⊎_elim
      (dead (live_within n (omega arith)))
      alive
      (cases_eq (table (2 * suc n + 1)) 0)
    where
      dead : live_cells table n ≤ free → table (2 * suc n + 1) ≡ 0 → live_cells table (suc n) ≤ free
      dead rest none = omega arith

      alive : table (2 * suc n + 1) ≢ 0 → live_cells table (suc n) ≤ free
      alive some =
          let here : IsLiveOf table blocks n = record { made = omega arith; size = some } in
          let before = live_below n n (omega arith) here in
          let order = o.below n here in
          omega arith

  -- the first word of a live block
  pub first_word_is : (b : ℕ) → IsLiveOf table blocks b → first_word table (suc b) ≡ 2 * first_cell table (suc b)
  first_word_is b live = let at = o.address b live in omega arith

-- In the middle of it: the first n blocks slid. Words before their end are those of the cells that slid, and those from the first
-- word of a live block that didn't slide yet are as they were.
pub record SlidSoFar (table cells : ℕ → ℕ) (blocks n : ℕ) (now : ℕ → ℕ) : Type 0 where
  pub front : (i : ℕ) → i < 2 * live_cells table n → now i ≡ slid_cells table cells n i
  pub ahead : (b : ℕ) → n ≤ b → IsLiveOf table blocks b → (i : ℕ) → 2 * first_cell table (suc b) ≤ i → now i ≡ cells i

module _ (table cells : ℕ → ℕ) (blocks free : ℕ) (o : IsOrdered table blocks free) where
  -- the blocks at the front, which lie there without gaps
  pub slid_begins : (n : ℕ) → n ≤ blocks → ((b : ℕ) → b < n → table (2 * suc b + 1) ≢ 0 → table (2 * suc b) ≡ cells_base + 16 * live_cells table b) → SlidSoFar table cells blocks n cells
  slid_begins n le at = record { front = λ i lt. sym (stays n le at i lt); ahead = λ b more live i from. refl }
    where
      stays : (n : ℕ) → n ≤ blocks → ((b : ℕ) → b < n → table (2 * suc b + 1) ≢ 0 → table (2 * suc b) ≡ cells_base + 16 * live_cells table b) → (i : ℕ) → i < 2 * live_cells table n → slid_cells table cells n i ≡ cells i
      stays zero le at i lt = absurd (omega arith)
      stays (suc n) le at i lt = ⊎_elim (earlier (stays n (omega arith) (λ b less. at b (omega arith)) i)) here (cases_lt i (2 * live_cells table n))
        where
          earlier : (i < 2 * live_cells table n → slid_cells table cells n i ≡ cells i) → i < 2 * live_cells table n → slid_cells table cells (suc n) i ≡ cells i
          earlier rest less = ap (λ t. cond t (cells (first_word table (suc n) + (i - 2 * live_cells table n))) (slid_cells table cells n i)) (out less) ∙ rest less
            where
              out : i < 2 * live_cells table n → (leb (2 * live_cells table n) i && ltb i (2 * live_cells table n + 2 * table (2 * suc n + 1))) ≡ false
              out less = grind (arith, nat_tests)

          here : 2 * live_cells table n ≤ i → slid_cells table cells (suc n) i ≡ cells i
          here le =
              let some : table (2 * suc n + 1) ≢ 0 = (λ none. absurd (omega arith)) in
              let address = at n (omega arith) some in
              let same : first_word table (suc n) + (i - 2 * live_cells table n) ≡ i = omega arith in
              ap (λ t. cond t (cells (first_word table (suc n) + (i - 2 * live_cells table n))) (slid_cells table cells n i)) (inside le) ∙ ap cells same
            where
              inside : 2 * live_cells table n ≤ i → (leb (2 * live_cells table n) i && ltb i (2 * live_cells table n + 2 * table (2 * suc n + 1))) ≡ true
              inside le = grind (arith, nat_tests)

  -- a block that isn't live
  pub slid_dead : (n : ℕ) (now : ℕ → ℕ) → table (2 * suc n + 1) ≡ 0 → SlidSoFar table cells blocks n now → SlidSoFar table cells blocks (suc n) now
  slid_dead n now none s = record {
    front = λ i lt. (let less : i < 2 * live_cells table n = omega arith in s.front i less ∙ sym (over i));
    ahead = λ b le live i from. s.ahead b (omega arith) live i from;
  }
    where
      out : (i : ℕ) → (leb (2 * live_cells table n) i && ltb i (2 * live_cells table n + 2 * table (2 * suc n + 1))) ≡ false
      out i = grind (arith, nat_tests)

      over : (i : ℕ) → slid_cells table cells (suc n) i ≡ slid_cells table cells n i
      over i = ap (λ t. cond t (cells (first_word table (suc n) + (i - 2 * live_cells table n))) (slid_cells table cells n i)) (out i)

  -- a live one, whose words move to the front
  pub slid_live : (n : ℕ) (now : ℕ → ℕ) → IsLiveOf table blocks n → SlidSoFar table cells blocks n now → SlidSoFar table cells blocks (suc n) (moved_down now (2 * first_cell table (suc n)) (2 * live_cells table n) (2 * table (2 * suc n + 1)))
  slid_live n now live s = record { front = λ i lt. by_front i lt (cases_lt i (2 * live_cells table n)); ahead = by_ahead }
    where
      out : (i : ℕ) → i < 2 * live_cells table n → (leb (2 * live_cells table n) i && ltb i (2 * live_cells table n + 2 * table (2 * suc n + 1))) ≡ false
      out i lt = grind (arith, nat_tests)

      past : (i : ℕ) → 2 * live_cells table n + 2 * table (2 * suc n + 1) ≤ i → (leb (2 * live_cells table n) i && ltb i (2 * live_cells table n + 2 * table (2 * suc n + 1))) ≡ false
      past i le = grind (arith, nat_tests)

      within : (i : ℕ) → 2 * live_cells table n ≤ i → i < 2 * live_cells table n + 2 * table (2 * suc n + 1) → (leb (2 * live_cells table n) i && ltb i (2 * live_cells table n + 2 * table (2 * suc n + 1))) ≡ true
      within i le lt = grind (arith, nat_tests)

      by_front : (i : ℕ) → i < 2 * live_cells table (suc n) → (i < 2 * live_cells table n) ⊎ (2 * live_cells table n ≤ i) → moved_down now (2 * first_cell table (suc n)) (2 * live_cells table n) (2 * table (2 * suc n + 1)) i ≡ slid_cells table cells (suc n) i
      by_front i lt (inl less) =
          ap (λ t. cond t (now (2 * first_cell table (suc n) + (i - 2 * live_cells table n))) (now i)) (out i less)
          ∙ (s.front i less
          ∙ ap (λ t. cond t (cells (first_word table (suc n) + (i - 2 * live_cells table n))) (slid_cells table cells n i)) (sym (out i less)))
      by_front i lt (inr le) =
          let test = within i le (omega arith) in
          ap (λ t. cond t (now (2 * first_cell table (suc n) + (i - 2 * live_cells table n))) (now i)) test
          ∙ (s.ahead n (omega arith) live (2 * first_cell table (suc n) + (i - 2 * live_cells table n)) (omega arith)
          ∙ (ap (λ x. cells (x + (i - 2 * live_cells table n))) (sym (first_word_is table blocks free o n live))
          ∙ ap (λ t. cond t (cells (first_word table (suc n) + (i - 2 * live_cells table n))) (slid_cells table cells n i)) (sym test)))

      by_ahead : (b : ℕ) → suc n ≤ b → IsLiveOf table blocks b → (i : ℕ) → 2 * first_cell table (suc b) ≤ i → moved_down now (2 * first_cell table (suc n)) (2 * live_cells table n) (2 * table (2 * suc n + 1)) i ≡ cells i
      by_ahead b le alive i from =
          let order = o.rising n b (omega arith) live alive in
          let below = live_below table blocks free o n n (omega arith) live in
          ap (λ t. cond t (now (2 * first_cell table (suc n) + (i - 2 * live_cells table n))) (now i)) (past i (omega arith))
          ∙ s.ahead b (omega arith) alive i from

  -- at the end, where all after them becomes 0
  pub slid_ends : (n : ℕ) (now : ℕ → ℕ) → SlidSoFar table cells blocks n now → first_words now (2 * live_cells table n) ≡ slid_cells table cells n
  slid_ends n now s = same_words _ _ (λ i. by i (ltb i (2 * live_cells table n)) refl)
    where
      less : (i : ℕ) → ltb i (2 * live_cells table n) ≡ true → i < 2 * live_cells table n
      less i e = grind (arith, nat_tests)

      more : (i : ℕ) → ltb i (2 * live_cells table n) ≡ false → 2 * live_cells table n ≤ i
      more i e = grind (arith, nat_tests)

      by : (i : ℕ) → (t : Bool) → ltb i (2 * live_cells table n) ≡ t → cond t (now i) 0 ≡ slid_cells table cells n i
      by i true e = s.front i (less i e)
      by i false e = sym (slid_after table cells n i (more i e))
