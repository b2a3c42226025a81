-- A new block, where need be after sliding.
use Rattle.std.proofs.Common.{◌≡◌, ◌≢◌, ℕ, zero, suc, ◌+◌, ◌-◌, ◌*◌, ◌^◌, ◌<◌, ◌≤◌, ◌⊎◌, inl, inr, Bool, true, false, not, ◌&&◌, cond, ltb, refl, sym, ap, ◌∙◌, subst, arith, le_trans, List, [], ◌∷◌, ◌++◌, length, Option, Some, None, ℤ, pos, negsuc}
use Rattle.std.specs.Prelude.{FitsSigned, slice_get}
use Rattle.std.specs.Int.{w64, cast_unsigned}
use Rattle.std.proofs.lemmas.Bool.Decides.{nat_tests}
use Rattle.std.proofs.lemmas.Option.{slice_get_within}
use Rattle.bril_tree.specs.declared.limits.Fault.{Fault}
use Rattle.bril_tree.specs.declared.limits.Fault.TheVariants as fault
use Rattle.bril_tree.specs.declared.value.Value.{Value}
use Rattle.bril_tree.specs.Memory.{cells_live, most_blocks, allocation_fault, cells_of, new_block}
use Rattle.bril_tree.specs.State.{Block}
use Rattle.rv64_words.specs.Region.{Sizes, cells_base}
use Rattle.rv64_words.specs.State.{assigned}
use Rattle.rv64_words.specs.Environment.{live_cells, slid_cells, slid_table, slides}
use Rattle.rv64_words_laws.specs.stretches.Core.{Core, with_block}
use Rattle.rv64_words_laws.proofs.lemmas.stretches.Calls.{block_fault}
use Rattle.rv64_words.proofs.Assigned.{assigned_here, assigned_other}
use Rattle.rv64_words_laws.specs.blocks.Memory.{HasWord, BlockHolds, LiesIn, MemoryHolds}
use Rattle.rv64_words_laws.specs.blocks.Laws.{CoreHolds}
use Rattle.rv64_words_laws.proofs.lemmas.blocks.Holds.{live_is, slid_holds}
use Rattle.rv64_words_laws.proofs.lemmas.blocks.Lists.{pushed, pushed_length}

-- ---- the fault

not_counted : (m : ℕ) → m < 2 ^ 63 → (ltb 0 (2 ^ 64 - suc m) && ltb (2 ^ 64 - suc m) (2 ^ 63)) ≡ false
not_counted m lt = grind (arith, nat_tests)

counted : (m : ℕ) → suc m < 2 ^ 63 → (ltb 0 (suc m) && ltb (suc m) (2 ^ 63)) ≡ true
counted m lt = grind (arith, nat_tests)

too_many : (cells limit next_free m : ℕ) → cells ≡ 2 * limit → ltb cells (2 * (next_free + suc m)) ≡ ltb limit (next_free + suc m)
too_many cells limit next_free m e = grind (arith, nat_tests)

abbrev fault_by : Bool → Bool → Bool → Option Fault
fault_by counted few many = cond (not counted) (Some fault.BadAlloc) (cond (not few) (Some fault.Allocs) (cond many (Some fault.Cells) None))

-- the machine gives a block exactly where the program gets one, and else the same fault
pub faults_alike : (z : Sizes) (limit : ℕ) (blocks : List Block) (c : Core) → z.cells ≡ 2 * limit → CoreHolds z blocks c → (n : ℤ) → FitsSigned w64 n → block_fault z c (cast_unsigned w64 n) ≡ allocation_fault limit blocks n
faults_alike z limit blocks c cells h (negsuc m) fits =
    let small = fits.sfits in
    ap (λ t. fault_by t (ltb c.blocks 262144) (ltb z.cells (2 * (live_cells c.table c.blocks + (2 ^ 64 - suc m))))) (not_counted m small)
faults_alike z limit blocks c cells h (pos zero) fits = refl
faults_alike z limit blocks c cells h (pos (suc m)) fits =
    let small = fits.sfits in
    ap (λ t. fault_by t (ltb c.blocks 262144) (ltb z.cells (2 * (live_cells c.table c.blocks + suc m)))) (counted m small)
    ∙ (ap (λ x. fault_by true (ltb x 262144) (ltb z.cells (2 * (live_cells c.table c.blocks + suc m)))) h.count
    ∙ (ap (fault_by true (ltb (length blocks) 262144)) (too_many z.cells limit (live_cells c.table c.blocks) m cells)
    ∙ ap (λ x. fault_by true (ltb (length blocks) 262144) (ltb limit (x + suc m))) (live_is z blocks c.table c.cells c.blocks c.next_free h)))

-- what is known where there is none
pub record IsAllowed (limit : ℕ) (blocks : List Block) (n : ℤ) : Type 0 where
  pub some : 1 ≤ cells_of n
  pub word : cast_unsigned w64 n ≡ cells_of n
  pub few : length blocks < most_blocks
  pub room : cells_live blocks + cells_of n ≤ limit

pub allowed : (limit : ℕ) (blocks : List Block) (n : ℤ) → allocation_fault limit blocks n ≡ None → IsAllowed limit blocks n
allowed limit blocks (negsuc m) e = absurd (let f : Some fault.BadAlloc ≡ None = e in cc)
allowed limit blocks (pos zero) e = absurd (let f : Some fault.BadAlloc ≡ None = e in cc)
allowed limit blocks (pos (suc m)) e = by_tests (ltb (length blocks) most_blocks) (ltb limit (cells_live blocks + suc m)) refl refl e
  where
    by_tests : (few many : Bool) → ltb (length blocks) most_blocks ≡ few → ltb limit (cells_live blocks + suc m) ≡ many → cond (not few) (Some fault.Allocs) (cond many (Some fault.Cells) None) ≡ None → IsAllowed limit blocks (pos (suc m))
    by_tests true true f g e = absurd (let x : Some fault.Cells ≡ None = e in cc)
    by_tests false many f g e = absurd (let x : Some fault.Allocs ≡ None = e in cc)
    by_tests true false f g e = record { some = omega arith; word = refl; few = grind (arith, nat_tests); room = grind (arith, nat_tests) }

-- ---- the blocks with one more

pub word_known : (made more : ℕ) (v : Value) (w : ℕ) → made ≤ more → HasWord made v w → HasWord more v w
word_known made more v w le h = record { is = h.is; known = le_trans h.known le }

-- a block that was there, where its entry in the table is the same
block_again : (made more number first now : ℕ) (b : Block) (table changed cells : ℕ → ℕ) → made ≤ more → now ≡ first → changed (2 * number) ≡ table (2 * number) → changed (2 * number + 1) ≡ table (2 * number + 1) → BlockHolds made number first b table cells → BlockHolds more number now b changed cells
block_again made more number first now b table changed cells le same address size h = subst (λ x. BlockHolds more number x b changed cells) (sym same) (record {
  address = address ∙ h.address;
  size = size ∙ h.size;
  stored = λ live k v lt e. ((h.stored live k v lt e).0, word_known made more v (cells (2 * (first + k) + 1)) le (h.stored live k v lt e).1);
  fresh = h.fresh;
})

module _ (z : Sizes) (blocks : List Block) (table cells : ℕ → ℕ) (made next_free count : ℕ) (h : MemoryHolds z blocks table cells made next_free) where
  abbrev now_first : ℕ → ℕ
  now_first = assigned h.first (suc made) next_free

  abbrev now_table : ℕ → ℕ
  now_table = assigned (assigned table (2 * suc made) (cells_base + 16 * next_free)) (2 * suc made + 1) count

  table_other : (i : ℕ) → i ≢ 2 * suc made → i ≢ 2 * suc made + 1 → assigned (assigned table (2 * suc made) (cells_base + 16 * next_free)) (2 * suc made + 1) count i ≡ table i
  table_other i a b = assigned_other (assigned table (2 * suc made) (cells_base + 16 * next_free)) (2 * suc made + 1) count i b ∙ assigned_other table (2 * suc made) (cells_base + 16 * next_free) i a

  first_old : (k : ℕ) → k < length blocks → assigned h.first (suc made) next_free (suc k) ≡ h.first (suc k)
  first_old k lt = let c = h.count in assigned_other h.first (suc made) next_free (suc k) (λ e. absurd (omega arith))

  first_new : (k : ℕ) → k ≡ length blocks → assigned h.first (suc made) next_free (suc k) ≡ next_free
  first_new k e = let c = h.count in let same : suc k ≡ suc made = omega arith in ap (assigned h.first (suc made) next_free) same ∙ assigned_here h.first (suc made) next_free

  each_now : (k : ℕ) (b : Block) → (slice_get blocks k ≡ Some b) ⊎ ((k ≡ length blocks) × (new_block count ≡ b)) → BlockHolds (suc (length blocks)) (suc k) (assigned h.first (suc made) next_free (suc k)) b (assigned (assigned table (2 * suc made) (cells_base + 16 * next_free)) (2 * suc made + 1) count) cells
  each_now k b (inl e) =
      let lt = slice_get_within blocks k b e in
      let c = h.count in
      let more : length blocks ≤ suc (length blocks) = omega arith in
      block_again (length blocks) (suc (length blocks)) (suc k) (h.first (suc k)) _ b table _ cells more (first_old k lt)
      (table_other (2 * suc k) (λ x. absurd (omega arith)) (λ x. absurd (omega arith))) (table_other (2 * suc k + 1) (λ x. absurd (omega arith)) (λ x. absurd (omega arith))) (h.each k b e)
  each_now k b (inr e) =
      let c = h.count in
      let at : k ≡ length blocks = e.0 in
      let same : suc k ≡ suc made = omega arith in
      let differ : 2 * suc made ≢ 2 * suc made + 1 = (λ x. absurd (omega arith)) in
      let address : assigned (assigned table (2 * suc made) (cells_base + 16 * next_free)) (2 * suc made + 1) count (2 * suc made) ≡ cells_base + 16 * next_free =
      assigned_other (assigned table (2 * suc made) (cells_base + 16 * next_free)) (2 * suc made + 1) count (2 * suc made) differ ∙ assigned_here table (2 * suc made) (cells_base + 16 * next_free) in
      let fresh : BlockHolds (suc (length blocks)) (suc made) next_free (new_block count) (assigned (assigned table (2 * suc made) (cells_base + 16 * next_free)) (2 * suc made + 1) count) cells = record {
        address = address;
        size = assigned_here (assigned table (2 * suc made) (cells_base + 16 * next_free)) (2 * suc made + 1) count;
        stored = λ live i v lt held. absurd (let x : None ≡ Some v = held in cc);
        fresh = λ live i lt held. h.free (next_free + i) (omega arith);
      } in
      subst (λ x. BlockHolds (suc (length blocks)) (suc k) (assigned h.first (suc made) next_free (suc k)) x (assigned (assigned table (2 * suc made) (cells_base + 16 * next_free)) (2 * suc made + 1) count) cells) e.1
      (subst (λ x. BlockHolds (suc (length blocks)) (suc k) x (new_block count) (assigned (assigned table (2 * suc made) (cells_base + 16 * next_free)) (2 * suc made + 1) count) cells) (sym (first_new k at))
      (subst (λ x. BlockHolds (suc (length blocks)) x next_free (new_block count) (assigned (assigned table (2 * suc made) (cells_base + 16 * next_free)) (2 * suc made + 1) count) cells) (sym same) fresh))

  lies_now : (k : ℕ) (b : Block) → 1 ≤ count → (slice_get blocks k ≡ Some b) ⊎ ((k ≡ length blocks) × (new_block count ≡ b)) → b.is_live ≡ true → LiesIn (next_free + count) (assigned h.first (suc made) next_free (suc k)) b
  lies_now k b some (inl e) live =
      let lt = slice_get_within blocks k b e in
      let l = h.lies k b e live in
      let inside : h.first (suc k) + b.size ≤ next_free = l.inside in
      let here = first_old k lt in
      record { some = l.some; inside = omega arith }
  lies_now k b some (inr e) live =
      let size : count ≡ b.size = ap (λ x. x.size) e.1 in
      let here = first_new k e.0 in
      record { some = omega arith; inside = omega arith }

  apart_now : (j k : ℕ) (a b : Block) → (slice_get blocks j ≡ Some a) ⊎ ((j ≡ length blocks) × (new_block count ≡ a)) → (slice_get blocks k ≡ Some b) ⊎ ((k ≡ length blocks) × (new_block count ≡ b)) → a.is_live ≡ true → b.is_live ≡ true → j ≢ k
      → (assigned h.first (suc made) next_free (suc j) + a.size ≤ assigned h.first (suc made) next_free (suc k)) ⊎ (assigned h.first (suc made) next_free (suc k) + b.size ≤ assigned h.first (suc made) next_free (suc j))
  apart_now j k a b (inl e) (inl f) live alive ne = by (h.apart j k a b e f live alive ne)
    where
      by : (h.first (suc j) + a.size ≤ h.first (suc k)) ⊎ (h.first (suc k) + b.size ≤ h.first (suc j)) → (assigned h.first (suc made) next_free (suc j) + a.size ≤ assigned h.first (suc made) next_free (suc k)) ⊎ (assigned h.first (suc made) next_free (suc k) + b.size ≤ assigned h.first (suc made) next_free (suc j))
      by (inl x) = let one = first_old j (slice_get_within blocks j a e) in let two = first_old k (slice_get_within blocks k b f) in inl (omega arith)
      by (inr x) = let one = first_old j (slice_get_within blocks j a e) in let two = first_old k (slice_get_within blocks k b f) in inr (omega arith)
  apart_now j k a b (inl e) (inr f) live alive ne =
      let one = first_old j (slice_get_within blocks j a e) in
      let two = first_new k f.0 in
      let place = (h.lies j a e live).inside in
      inl (omega arith)
  apart_now j k a b (inr e) (inl f) live alive ne =
      let one = first_new j e.0 in
      let two = first_old k (slice_get_within blocks k b f) in
      let place = (h.lies k b f alive).inside in
      inr (omega arith)
  apart_now j k a b (inr e) (inr f) live alive ne = absurd (ne (e.0 ∙ sym f.0))

  pub one_more : length blocks < most_blocks → 1 ≤ count → 2 * (next_free + count) ≤ z.cells → MemoryHolds z (blocks ++ new_block count ∷ []) (assigned (assigned table (2 * suc made) (cells_base + 16 * next_free)) (2 * suc made + 1) count) cells (suc made) (next_free + count)
  one_more few some room =
      let c = h.count in
      let long : length (blocks ++ new_block count ∷ []) ≡ suc (length blocks) = pushed_length blocks (new_block count) in
      record {
        first = assigned h.first (suc made) next_free;
        count = omega arith;
        few = omega arith;
        room = room;
        each = λ k b e. subst (λ n. BlockHolds n (suc k) (assigned h.first (suc made) next_free (suc k)) b (assigned (assigned table (2 * suc made) (cells_base + 16 * next_free)) (2 * suc made + 1) count) cells) (sym long) (each_now k b (pushed blocks (new_block count) k b e));
        lies = λ k b e live. lies_now k b some (pushed blocks (new_block count) k b e) live;
        apart = λ j k a b e f live alive ne. apart_now j k a b (pushed blocks (new_block count) j a e) (pushed blocks (new_block count) k b f) live alive ne;
        free = λ k le. h.free k (omega arith);
        none = λ k lt. (let lower : length blocks < k = omega arith in table_other (2 * k + 1) (λ x. absurd (omega arith)) (λ x. absurd (omega arith)) ∙ h.none k lower);
        zero_block = table_other 1 (λ x. absurd (omega arith)) (λ x. absurd (omega arith)) ∙ h.zero_block;
      }

-- the machine holds the blocks with the new one, after those that were made or, where there is no room for it, after sliding
module _ (z : Sizes) (blocks : List Block) (c : Core) (h : CoreHolds z blocks c) (count : ℕ) (few : length blocks < most_blocks) (some : 1 ≤ count) (room : 2 * (live_cells c.table c.blocks + count) ≤ z.cells) where
  -- the core with the block, by whether the others slid
  abbrev holds_by : Bool → Type 0
  holds_by slid =
      let table = cond slid (slid_table c.table c.blocks) c.table in
      let free = cond slid (live_cells c.table c.blocks) c.next_free in
      MemoryHolds z (blocks ++ new_block count ∷ []) (assigned (assigned table (2 * suc c.blocks) (cells_base + 16 * free)) (2 * suc c.blocks + 1) count) (cond slid (slid_cells c.table c.cells c.blocks) c.cells) (suc c.blocks) (free + count)

  by_test : (t : Bool) → slides z c.next_free count ≡ t → holds_by t
  by_test true e =
      one_more z blocks (slid_table c.table c.blocks) (slid_cells c.table c.cells c.blocks) c.blocks (live_cells c.table c.blocks) count
      (slid_holds z blocks c.table c.cells c.blocks c.next_free h (omega arith)) few some room
  by_test false e = one_more z blocks c.table c.cells c.blocks c.next_free count h few some (let le : 2 * (c.next_free + count) ≤ z.cells = fits e in le)
    where
      fits : slides z c.next_free count ≡ false → 2 * (c.next_free + count) ≤ z.cells
      fits e = grind (arith, nat_tests)

  pub block_holds : CoreHolds z (blocks ++ new_block count ∷ []) (with_block z count c)
  block_holds = by_test (slides z c.next_free count) refl

pub allocation_keeps : (z : Sizes) (limit : ℕ) (blocks : List Block) (c : Core) → z.cells ≡ 2 * limit → CoreHolds z blocks c → (n : ℤ) → allocation_fault limit blocks n ≡ None → CoreHolds z (blocks ++ new_block (cells_of n) ∷ []) (with_block z (cast_unsigned w64 n) c)
allocation_keeps z limit blocks c cells h n none =
    let a = allowed limit blocks n none in
    let live = live_is z blocks c.table c.cells c.blocks c.next_free h in
    let room : cells_live blocks + cells_of n ≤ limit = a.room in
    subst (λ x. CoreHolds z (blocks ++ new_block (cells_of n) ∷ []) (with_block z x c)) (sym a.word)
    (block_holds z blocks c h (cells_of n) a.few a.some (omega arith))
