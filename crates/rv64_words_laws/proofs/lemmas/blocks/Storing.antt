-- A cell that is stored.
use Rattle.std.proofs.Common.{◌≡◌, ◌≢◌, ℕ, suc, ◌+◌, ◌*◌, ◌<◌, ◌≤◌, ◌⊎◌, inl, inr, Bool, true, false, cond, eqb, refl, sym, ap, ◌∙◌, subst, arith, List, length, Some, None, ℤ}
use Rattle.std.specs.Prelude.{slice_get}
use Rattle.std.proofs.lemmas.Bool.Decides.{nat_tests}
use Rattle.std.proofs.lemmas.Bool.{eqb-true}
use Rattle.std.proofs.lemmas.Option.{same_Some}
use Rattle.bril_tree.specs.declared.value.Value.{Value}
use Rattle.bril_tree.specs.Memory.{changed, changed_block}
use Rattle.bril_tree.specs.State.{Block, with_value}
use Rattle.rv64_words.specs.Region.{Sizes}
use Rattle.rv64_words.specs.State.{assigned}
use Rattle.rv64_words.proofs.Assigned.{assigned_here, assigned_other}
use Rattle.rv64_words_laws.specs.blocks.Memory.{HasWord, BlockHolds, LiesIn, MemoryHolds}
use Rattle.rv64_words_laws.proofs.lemmas.blocks.Finding.{CellFound}
use Rattle.rv64_words_laws.proofs.lemmas.blocks.Lists.{IsChanged, IsOther, changed_length, changed_at}

abbrev pub holding : ℕ → Value → Block → Block
holding n v b = record b { cells = with_value b.cells n v }

-- the cells with one stored
abbrev pub stored_cells : (ℕ → ℕ) → ℕ → ℕ → (ℕ → ℕ)
stored_cells cells at w = assigned (assigned cells (2 * at) 1) (2 * at + 1) w

flag_here : (cells : ℕ → ℕ) (at w : ℕ) → stored_cells cells at w (2 * at) ≡ 1
flag_here cells at w = let differ : 2 * at ≢ 2 * at + 1 = (λ x. absurd (omega arith)) in assigned_other (assigned cells (2 * at) 1) (2 * at + 1) w (2 * at) differ ∙ assigned_here cells (2 * at) 1

value_here : (cells : ℕ → ℕ) (at w : ℕ) → stored_cells cells at w (2 * at + 1) ≡ w
value_here cells at w = assigned_here (assigned cells (2 * at) 1) (2 * at + 1) w

flag_other : (cells : ℕ → ℕ) (at w i : ℕ) → i ≢ at → stored_cells cells at w (2 * i) ≡ cells (2 * i)
flag_other cells at w i ne =
    let one : 2 * i ≢ 2 * at + 1 = (λ x. absurd (omega arith)) in
    let two : 2 * i ≢ 2 * at = (λ x. ne (omega arith)) in
    assigned_other (assigned cells (2 * at) 1) (2 * at + 1) w (2 * i) one ∙ assigned_other cells (2 * at) 1 (2 * i) two

value_other : (cells : ℕ → ℕ) (at w i : ℕ) → i ≢ at → stored_cells cells at w (2 * i + 1) ≡ cells (2 * i + 1)
value_other cells at w i ne =
    let one : 2 * i + 1 ≢ 2 * at + 1 = (λ x. ne (omega arith)) in
    let two : 2 * i + 1 ≢ 2 * at = (λ x. absurd (omega arith)) in
    assigned_other (assigned cells (2 * at) 1) (2 * at + 1) w (2 * i + 1) one ∙ assigned_other cells (2 * at) 1 (2 * i + 1) two

module _ (z : Sizes) (blocks : List Block) (table cells : ℕ → ℕ) (made next_free k n w : ℕ) (v : Value) (h : MemoryHolds z blocks table cells made next_free) (owner : Block) (here : slice_get blocks k ≡ Some owner) (live : owner.is_live ≡ true) (below : n < owner.size) (word : HasWord (length blocks) v w) where
  -- the block with the cell
  owner_now : BlockHolds (length blocks) (suc k) (h.first (suc k)) (holding n v owner) table (stored_cells cells (h.first (suc k) + n) w)
  owner_now =
      let old = h.each k owner here in
      record {
        address = old.address;
        size = old.size;
        stored = λ l m u lt e. by_stored l m u lt (eqb m n) refl e;
        fresh = λ l m lt e. by_fresh l m lt (eqb m n) refl e;
      }
    where
      by_stored : owner.is_live ≡ true → (m : ℕ) (u : Value) → m < owner.size → (t : Bool) → eqb m n ≡ t → cond t (Some v) (owner.cells m) ≡ Some u
          → (stored_cells cells (h.first (suc k) + n) w (2 * (h.first (suc k) + m)) ≡ 1) × HasWord (length blocks) u (stored_cells cells (h.first (suc k) + n) w (2 * (h.first (suc k) + m) + 1))
      by_stored l m u lt true same e =
          let at : h.first (suc k) + m ≡ h.first (suc k) + n = ap (λ x. h.first (suc k) + x) (eqb-true m n same) in
          let is : v ≡ u = same_Some v u e in (
            ap (λ x. stored_cells cells (h.first (suc k) + n) w (2 * x)) at ∙ flag_here cells (h.first (suc k) + n) w,
            subst (λ x. HasWord (length blocks) u (stored_cells cells (h.first (suc k) + n) w (2 * x + 1))) (sym at)
                (subst (HasWord (length blocks) u) (sym (value_here cells (h.first (suc k) + n) w)) (subst (λ x. HasWord (length blocks) x w) is word)),
          )
      by_stored l m u lt false differ e =
          let ne : h.first (suc k) + m ≢ h.first (suc k) + n = (λ x. (let same : m ≡ n = omega arith in absurd (clash same differ))) in
          let old = (h.each k owner here).stored l m u lt e in
          (flag_other cells (h.first (suc k) + n) w (h.first (suc k) + m) ne ∙ old.0, subst (HasWord (length blocks) u) (sym (value_other cells (h.first (suc k) + n) w (h.first (suc k) + m) ne)) old.1)
        where
          clash : m ≡ n → eqb m n ≡ false → ⊥
          clash a b = grind (arith, nat_tests)

      by_fresh : owner.is_live ≡ true → (m : ℕ) → m < owner.size → (t : Bool) → eqb m n ≡ t → cond t (Some v) (owner.cells m) ≡ None → stored_cells cells (h.first (suc k) + n) w (2 * (h.first (suc k) + m)) ≡ 0
      by_fresh l m lt true same e = absurd (let x : Some v ≡ None = e in cc)
      by_fresh l m lt false differ e =
          let ne : h.first (suc k) + m ≢ h.first (suc k) + n = (λ x. (let same : m ≡ n = omega arith in absurd (clash same differ))) in
          flag_other cells (h.first (suc k) + n) w (h.first (suc k) + m) ne ∙ (h.each k owner here).fresh l m lt e
        where
          clash : m ≡ n → eqb m n ≡ false → ⊥
          clash a b = grind (arith, nat_tests)

  each_now : (j : ℕ) (b : Block) → IsChanged (holding n v) blocks k j b ⊎ IsOther (holding n v) blocks k j b → BlockHolds (length blocks) (suc j) (h.first (suc j)) b table (stored_cells cells (h.first (suc k) + n) w)
  each_now j b (inl e) =
      let one : owner ≡ e.old = same_Some owner e.old (sym here ∙ e.here) in
      subst (λ x. BlockHolds (length blocks) (suc j) (h.first (suc j)) x table (stored_cells cells (h.first (suc k) + n) w)) (ap (holding n v) one ∙ e.is)
      (subst (λ x. BlockHolds (length blocks) (suc x) (h.first (suc x)) (holding n v owner) table (stored_cells cells (h.first (suc k) + n) w)) (sym e.place) owner_now)
  each_now j b (inr e) =
      let old = h.each j b e.here in
      record {
        address = old.address;
        size = old.size;
        stored = λ l m u lt f. (let ne = away l m lt in (flag_other cells (h.first (suc k) + n) w (h.first (suc j) + m) ne ∙ (old.stored l m u lt f).0, subst (HasWord (length blocks) u) (sym (value_other cells (h.first (suc k) + n) w (h.first (suc j) + m) ne)) (old.stored l m u lt f).1));
        fresh = λ l m lt f. flag_other cells (h.first (suc k) + n) w (h.first (suc j) + m) (away l m lt) ∙ old.fresh l m lt f;
      }
    where
      away : b.is_live ≡ true → (m : ℕ) → m < b.size → h.first (suc j) + m ≢ h.first (suc k) + n
      away l m lt = by (h.apart j k b owner e.here here l live e.place)
        where
          by : (h.first (suc j) + b.size ≤ h.first (suc k)) ⊎ (h.first (suc k) + owner.size ≤ h.first (suc j)) → h.first (suc j) + m ≢ h.first (suc k) + n
          by (inl x) = λ same. absurd (omega arith)
          by (inr x) = λ same. absurd (omega arith)

  lies_now : (j : ℕ) (b : Block) → IsChanged (holding n v) blocks k j b ⊎ IsOther (holding n v) blocks k j b → b.is_live ≡ true → LiesIn next_free (h.first (suc j)) b
  lies_now j b (inl e) l =
      let old = h.lies k e.old e.here (ap (λ x. x.is_live) e.is ∙ l) in
      let size : e.old.size ≡ b.size = ap (λ x. x.size) e.is in
      subst (λ x. LiesIn next_free (h.first (suc x)) b) (sym e.place) (record { some = subst (λ x. 1 ≤ x) size old.some; inside = subst (λ x. h.first (suc k) + x ≤ next_free) size old.inside })
  lies_now j b (inr e) l = h.lies j b e.here l

  -- a block as it was
  record Was (j : ℕ) (b : Block) : Type 0 where
    before : Block
    there : slice_get blocks j ≡ Some before
    alike : before.is_live ≡ b.is_live
    size : before.size ≡ b.size

  was : (j : ℕ) (b : Block) → IsChanged (holding n v) blocks k j b ⊎ IsOther (holding n v) blocks k j b → Was j b
  was j b (inl e) = record { before = e.old; there = ap (slice_get blocks) e.place ∙ e.here; alike = ap (λ x. x.is_live) e.is; size = ap (λ x. x.size) e.is }
  was j b (inr e) = record { before = b; there = e.here; alike = refl; size = refl }

  apart_now : (i j : ℕ) (a b : Block) → Was i a → Was j b → a.is_live ≡ true → b.is_live ≡ true → i ≢ j → (h.first (suc i) + a.size ≤ h.first (suc j)) ⊎ (h.first (suc j) + b.size ≤ h.first (suc i))
  apart_now i j a b x y l m ne =
      subst (λ s. (h.first (suc i) + s ≤ h.first (suc j)) ⊎ (h.first (suc j) + b.size ≤ h.first (suc i))) x.size
      (subst (λ s. (h.first (suc i) + x.before.size ≤ h.first (suc j)) ⊎ (h.first (suc j) + s ≤ h.first (suc i))) y.size
      (h.apart i j x.before y.before x.there y.there (x.alike ∙ l) (y.alike ∙ m) ne))

  pub one_stored : MemoryHolds z (changed blocks k (holding n v)) table (stored_cells cells (h.first (suc k) + n) w) made next_free
  one_stored =
      let long : length (changed blocks k (holding n v)) ≡ length blocks = changed_length (holding n v) blocks k in
      let place = (h.lies k owner here live).inside in
      record {
        first = h.first;
        count = h.count ∙ sym long;
        few = subst (λ x. x ≤ 262144) (sym long) h.few;
        room = h.room;
        each = λ j b e. subst (λ x. BlockHolds x (suc j) (h.first (suc j)) b table (stored_cells cells (h.first (suc k) + n) w)) (sym long) (each_now j b (changed_at (holding n v) blocks k j b e));
        lies = λ j b e l. lies_now j b (changed_at (holding n v) blocks k j b e) l;
        apart = λ i j a b e f l m ne. apart_now i j a b (was i a (changed_at (holding n v) blocks k i a e)) (was j b (changed_at (holding n v) blocks k j b f)) l m ne;
        free = λ x le. (let ne : x ≢ h.first (suc k) + n = (λ same. absurd (omega arith)) in flag_other cells (h.first (suc k) + n) w x ne ∙ h.free x le);
        none = λ x lt. h.none x (omega arith);
        zero_block = h.zero_block;
      }

-- the machine holds the blocks with that cell stored
pub store_keeps : (z : Sizes) (blocks : List Block) (table cells : ℕ → ℕ) (made next_free : ℕ) (h : MemoryHolds z blocks table cells made next_free) (block n w : ℕ) (offset : ℤ) (v : Value) → CellFound z blocks table cells made next_free h block n offset → HasWord (length blocks) v w
    → MemoryHolds z (changed_block blocks block (holding n v)) table (stored_cells cells (h.first block + n) w) made next_free
store_keeps z blocks table cells made next_free h block n w offset v f word =
    let l = f.is_live in
    subst (λ x. MemoryHolds z (changed_block blocks x (holding n v)) table (stored_cells cells (h.first x + n) w) made next_free) (sym l.number)
    (one_stored z blocks table cells made next_free l.place n w v h f.owner l.here l.live f.below word)
