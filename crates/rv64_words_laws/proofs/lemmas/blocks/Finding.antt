-- What the machine finds in its memory of a block and of a cell.
use Rattle.std.proofs.Common.{◌≡◌, ℕ, zero, suc, ◌+◌, ◌*◌, ◌<◌, ◌≤◌, Bool, true, false, cond, ltb, refl, sym, ap, ◌∙◌, subst, arith, List, length, Option, Some, None, ℤ, pos, negsuc}
use Rattle.std.specs.Prelude.{slice_get}
use Rattle.std.proofs.lemmas.Bool.{ltb-true}
use Rattle.std.proofs.lemmas.Bool.Decides.{nat_tests}
use Rattle.bril_tree.specs.declared.value.Value.{Value}
use Rattle.bril_tree.specs.Memory.{if_live, live_block, cell_inside, cell_of}
use Rattle.bril_tree.specs.State.{Block}
use Rattle.bril_tree.proofs.Elements.{get_inside}
use Rattle.rv64_words.specs.Region.{Sizes, cells_base}
use Rattle.rv64_words_laws.specs.values.Cells.{is_inside}
use Rattle.rv64_words_laws.specs.blocks.Memory.{HasWord, MemoryHolds}

-- how many cells a live block has
abbrev pub live_size : Option Block → ℕ
live_size None = 0
live_size (Some b) = b.size

-- The block of a number is live.
pub record IsLive (blocks : List Block) (block : ℕ) (b : Block) : Type 0 where
  pub place : ℕ
  pub number : block ≡ suc place
  pub here : slice_get blocks place ≡ Some b
  pub live : b.is_live ≡ true

live_by_test : (b c : Block) (t : Bool) → cond t (Some b) None ≡ Some c → (t ≡ true) × (b ≡ c)
live_by_test b c true e = (refl, cc)
live_by_test b c false e = absurd (let f : None ≡ Some c = e in cc)

live_here : (blocks : List Block) (k : ℕ) (o : Option Block) (c : Block) → slice_get blocks k ≡ o → if_live o ≡ Some c → IsLive blocks (suc k) c
live_here blocks k None c here e = absurd (let f : None ≡ Some c = e in cc)
live_here blocks k (Some b) c here e =
    let both = live_by_test b c b.is_live e in
    record { place = k; number = refl; here = here ∙ ap Some both.1; live = ap (λ x. x.is_live) (sym both.1) ∙ both.0 }

pub live_is : (blocks : List Block) (block : ℕ) (b : Block) → live_block blocks block ≡ Some b → IsLive blocks block b
live_is blocks zero b e = absurd (let f : None ≡ Some b = e in cc)
live_is blocks (suc k) b e = live_here blocks k (slice_get blocks k) b refl e

module _ (z : Sizes) (blocks : List Block) (table cells : ℕ → ℕ) (made next_free : ℕ) (h : MemoryHolds z blocks table cells made next_free) where
  -- the block table has the size of each block that was made, 0 for one that isn't live
  pub size_found : (block : ℕ) → block ≤ length blocks → table (2 * block + 1) ≡ live_size (live_block blocks block)
  size_found zero le = h.zero_block
  size_found (suc k) le =
      let inside : k < length blocks = omega arith in
      let found = get_inside blocks k inside in
      (h.each k found.0 found.1).size ∙ (by_test found.0 found.0.is_live refl ∙ ap (λ o. live_size (if_live o)) (sym found.1))
    where
      by_test : (b : Block) (t : Bool) → b.is_live ≡ t → cond b.is_live b.size 0 ≡ live_size (cond b.is_live (Some b) None)
      by_test b true e = ap (λ t. cond t b.size 0) e ∙ ap (λ t. live_size (cond t (Some b) None)) (sym e)
      by_test b false e = ap (λ t. cond t b.size 0) e ∙ ap (λ t. live_size (cond t (Some b) None)) (sym e)

  -- and for one that is beyond them
  pub size_none : (block : ℕ) → length blocks < block → table (2 * block + 1) ≡ 0
  size_none block lt = h.none block lt

  -- a size is no larger than the number of the next free cell
  pub size_few : (block : ℕ) → block ≤ length blocks → table (2 * block + 1) ≤ next_free
  size_few block le = by (live_block blocks block) refl
    where
      by : (o : Option Block) → live_block blocks block ≡ o → table (2 * block + 1) ≤ next_free
      by None e = let s : table (2 * block + 1) ≡ 0 = size_found block le ∙ ap live_size e in omega arith
      by (Some b) e =
          let s : table (2 * block + 1) ≡ b.size = size_found block le ∙ ap live_size e in
          let l = live_is blocks block b e in
          let inside = (h.lies l.place b l.here l.live).inside in
          omega arith

  -- ---- cells

  -- The cell of a pointer is there: it is cell n of a live block.
  pub record CellFound (block n : ℕ) (offset : ℤ) : Type 0 where
    pub owner : Block
    pub is_live : IsLive blocks block owner
    pub offset_is : offset ≡ pos n
    pub below : n < owner.size
    pub size : table (2 * block + 1) ≡ owner.size
    pub address : table (2 * block) ≡ cells_base + 16 * h.first block
    pub inside : h.first block + n < next_free

  pub cell_found : (block n : ℕ) (offset : ℤ) → block ≤ length blocks → cell_inside (live_block blocks block) offset ≡ Some n → CellFound block n offset
  cell_found block n offset le e = by_block (live_block blocks block) refl offset refl e
    where
      by_test : (b : Block) (m : ℕ) (t : Bool) → ltb m b.size ≡ t → cond t (Some m) None ≡ Some n → (m ≡ n) × (m < b.size)
      by_test b m true less f = (cc, ltb-true m b.size less)
      by_test b m false less f = absurd (let g : None ≡ Some n = f in cc)

      by_block : (o : Option Block) → live_block blocks block ≡ o → (i : ℤ) → offset ≡ i → cell_inside o i ≡ Some n → CellFound block n offset
      by_block None live i is f = absurd (let g : None ≡ Some n = f in cc)
      by_block (Some b) live (negsuc m) is f = absurd (let g : None ≡ Some n = f in cc)
      by_block (Some b) live (pos m) is f =
          let l = live_is blocks block b live in
          let both = by_test b m (ltb m b.size) refl f in
          let same : m ≡ n = both.0 in
          let less : m < b.size = both.1 in
          let place = (h.lies l.place b l.here l.live).inside in
          let at_block : h.first block ≡ h.first (suc l.place) = ap h.first l.number in
          record {
            owner = b;
            is_live = l;
            offset_is = is ∙ ap pos same;
            below = omega arith;
            size = size_found block le ∙ ap live_size live;
            address = ap (λ x. table (2 * x)) l.number ∙ ((h.each l.place b l.here).address ∙ ap (λ x. cells_base + 16 * x) (sym at_block));
            inside = omega arith;
          }

  -- or it isn't, and the machine's test says so
  pub cell_missing : (block : ℕ) (offset : ℤ) → block ≤ length blocks → cell_inside (live_block blocks block) offset ≡ None → is_inside offset (table (2 * block + 1)) ≡ false
  cell_missing block offset le e = by_block (live_block blocks block) refl offset e
    where
      by_test : (m size : ℕ) (t : Bool) → ltb m size ≡ t → cond t (Some m) None ≡ None → ltb m size ≡ false
      by_test m size true less f = absurd (let g : Some m ≡ None = f in cc)
      by_test m size false less f = less

      none_inside : (i : ℤ) → is_inside i 0 ≡ false
      none_inside (pos m) = grind (arith, nat_tests)
      none_inside (negsuc m) = refl

      by_block : (o : Option Block) → live_block blocks block ≡ o → (i : ℤ) → cell_inside o i ≡ None → is_inside i (table (2 * block + 1)) ≡ false
      by_block None live i f = ap (is_inside i) (size_found block le ∙ ap live_size live) ∙ none_inside i
      by_block (Some b) live (negsuc m) f = refl
      by_block (Some b) live (pos m) f = ap (ltb m) (size_found block le ∙ ap live_size live) ∙ by_test m b.size (ltb m b.size) refl f

  -- what a cell holds: its word, where it was stored
  pub value_found : (block n : ℕ) (offset : ℤ) (v : Value) → CellFound block n offset → cell_of (live_block blocks block) n ≡ Some v → (cells (2 * (h.first block + n)) ≡ 1) × HasWord (length blocks) v (cells (2 * (h.first block + n) + 1))
  value_found block n offset v f e =
      let l = f.is_live in
      let both = (h.each l.place f.owner l.here).stored l.live n v f.below (owner_cell block n offset f ∙ e) in
      let at_block : h.first (suc l.place) ≡ h.first block = ap h.first (sym l.number) in
      subst (λ x. (cells (2 * (x + n)) ≡ 1) × HasWord (length blocks) v (cells (2 * (x + n) + 1))) at_block both
    where
      owner_cell : (block n : ℕ) (offset : ℤ) (f : CellFound block n offset) → f.owner.cells n ≡ cell_of (live_block blocks block) n
      owner_cell block n offset f =
          let l = f.is_live in
          sym (ap (λ x. cell_of (live_block blocks x) n) l.number ∙ (ap (λ o. cell_of (if_live o) n) l.here ∙ ap (λ t. cell_of (cond t (Some f.owner) None) n) l.live))

  pub fresh_found : (block n : ℕ) (offset : ℤ) → CellFound block n offset → cell_of (live_block blocks block) n ≡ None → cells (2 * (h.first block + n)) ≡ 0
  fresh_found block n offset f e =
      let l = f.is_live in
      let owner_cell : f.owner.cells n ≡ None = sym (ap (λ x. cell_of (live_block blocks x) n) l.number ∙ (ap (λ o. cell_of (if_live o) n) l.here ∙ ap (λ t. cell_of (cond t (Some f.owner) None) n) l.live)) ∙ e in
      let none = (h.each l.place f.owner l.here).fresh l.live n f.below owner_cell in
      let at_block : h.first (suc l.place) ≡ h.first block = ap h.first (sym l.number) in
      subst (λ x. cells (2 * (x + n)) ≡ 0) at_block none
