-- Blocks whose cells hold values of their types.
use Rattle.std.proofs.Common.{◌≡◌, ℕ, zero, suc, ◌<◌, ◌^◌, Bool, true, false, not, List, [], ◌∷◌, ◌++◌, length, Option, Some, None, ℤ, pos, negsuc, refl, sym, ap, subst, ◌∙◌, inl, inr, arith, cond}
use Rattle.std.specs.Prelude.{slice_get, ◌==◌, nat_lt}
use Rattle.std.proofs.lemmas.Bool.{and_parts, eqb-true, ltb-true}
use Rattle.bril_tree.specs.declared.limits.Fault.{Fault}
use Rattle.bril_tree.specs.declared.types.Base.{Base}
use Rattle.bril_tree.specs.declared.types.Ty.{Ty}
use Rattle.bril_tree.specs.declared.value.Value.{Value}
use Rattle.bril_tree.specs.declared.value.Value.TheVariants.{Int, Bool as Boolean, Char, Ptr}
use Rattle.bril_tree.specs.Memory.{live_block, if_live, cell_of, held, changed, changed_block, new_block, ended_block, most_blocks, allocation_fault}
use Rattle.bril_tree.specs.Outcome.{block_of}
use Rattle.bril_tree.specs.State.{Values, Block, with_value}
use Rattle.bril_tree.specs.Typing.{points_to}
use Rattle.bril_tree.proofs.Typings.{same_base-is}
use Rattle.type_soundness.proofs.Typed.{Cell, cell_type, PointsTo, IsTyped, IsTyped-more, IsTyped-same, HasType, Extends, Extends-push}

-- each value in the cells is of their type
abbrev pub CellsHold : List Cell → Cell → Values → Type 0
CellsHold heap c cells = (n : ℕ) (v : Value) → cells n ≡ Some v → IsTyped heap c.depth c.base v

-- so is each value in the cells of each block
abbrev pub BlocksHold : List Cell → List Cell → List Block → Type 0
BlocksHold heap [] [] = Unit {0}
BlocksHold heap [] (b ∷ blocks) = ⊥
BlocksHold heap (c ∷ cells) [] = ⊥
BlocksHold heap (c ∷ cells) (b ∷ blocks) = CellsHold heap c b.cells × BlocksHold heap cells blocks

-- the blocks have the types of the heap
abbrev pub Remembers : List Cell → List Block → Type 0
Remembers heap blocks = BlocksHold heap heap blocks

-- ---- one more block

CellsHold-more : (heap more : List Cell) (c : Cell) (cells : Values) → Extends heap more → CellsHold heap c cells → CellsHold more c cells
CellsHold-more heap more c cells x h n v e = IsTyped-more heap more c.depth c.base v x (h n v e)

BlocksHold-push : (heap more cells : List Cell) (blocks : List Block) (c : Cell) (size : ℕ) → Extends heap more → BlocksHold heap cells blocks → BlocksHold more (cells ++ c ∷ []) (blocks ++ new_block size ∷ [])
BlocksHold-push heap more [] [] c size x h = ((λ n v e. absurd (let f : None ≡ Some v = e in cc)), tt)
BlocksHold-push heap more [] (b ∷ blocks) c size x h = absurd h
BlocksHold-push heap more (d ∷ cells) [] c size x h = absurd h
BlocksHold-push heap more (d ∷ cells) (b ∷ blocks) c size x h = (CellsHold-more heap more d b.cells x h.0, BlocksHold-push heap more cells blocks c size x h.1)

pub Remembers-push : (heap : List Cell) (blocks : List Block) (c : Cell) (size : ℕ) → Remembers heap blocks → Remembers (heap ++ c ∷ []) (blocks ++ new_block size ∷ [])
Remembers-push heap blocks c size h = BlocksHold-push heap (heap ++ c ∷ []) heap blocks c size (Extends-push heap c) h

same-count : (heap cells : List Cell) (blocks : List Block) → BlocksHold heap cells blocks → length cells ≡ length blocks
same-count heap [] [] h = refl
same-count heap [] (b ∷ blocks) h = absurd h
same-count heap (c ∷ cells) [] h = absurd h
same-count heap (c ∷ cells) (b ∷ blocks) h = ap suc (same-count heap cells blocks h.1)

newest-cell : (cells : List Cell) (c : Cell) → slice_get (cells ++ c ∷ []) (length cells) ≡ Some c
newest-cell [] c = refl
newest-cell (d ∷ cells) c = newest-cell cells c

-- the number of the new block is that of its type
pub pushed-type : (heap : List Cell) (blocks : List Block) (c : Cell) → Remembers heap blocks → cell_type (heap ++ c ∷ []) (suc (length blocks)) ≡ Some c
pushed-type heap blocks c h = ap (slice_get (heap ++ c ∷ [])) (sym (same-count heap heap blocks h)) ∙ newest-cell heap c

few-by_test : (few most : Bool) (kind other : Fault) → cond (not few) (Some kind) (cond most (Some other) None) ≡ None → few ≡ true
few-by_test true most kind other e = refl
few-by_test false most kind other e = absurd (cc)

-- a block that can be had has a number of 32 bits
pub block-fits : (most : ℕ) (blocks : List Block) (count : ℤ) → allocation_fault most blocks count ≡ None → suc (length blocks) < 2 ^ 32
block-fits most blocks (negsuc n) e = absurd (cc)
block-fits most blocks (pos zero) e = absurd (cc)
block-fits most blocks (pos (suc n)) e = let less = ltb-true (length blocks) most_blocks (few-by_test (nat_lt (length blocks) most_blocks) _ _ _ e) in omega arith

-- ---- a change of one block

-- the change keeps values of the cells' type in a block with cells of the type
abbrev pub Keeps : List Cell → Cell → (Block → Block) → Type 0
Keeps heap c change = (b : Block) → CellsHold heap c b.cells → CellsHold heap c (change b).cells

BlocksHold-changed : (heap cells : List Cell) (blocks : List Block) (k : ℕ) (change : Block → Block) → ((c : Cell) → slice_get cells k ≡ Some c → Keeps heap c change) → BlocksHold heap cells blocks → BlocksHold heap cells (changed blocks k change)
BlocksHold-changed heap [] [] k change keeps h = tt
BlocksHold-changed heap [] (b ∷ blocks) k change keeps h = absurd h
BlocksHold-changed heap (c ∷ cells) [] k change keeps h = absurd h
BlocksHold-changed heap (c ∷ cells) (b ∷ blocks) zero change keeps h = (keeps c refl b h.0, h.1)
BlocksHold-changed heap (c ∷ cells) (b ∷ blocks) (suc k) change keeps h = (h.0, BlocksHold-changed heap cells blocks k change keeps h.1)

pub Remembers-changed : (heap : List Cell) (blocks : List Block) (k : ℕ) (change : Block → Block) → ((c : Cell) → cell_type heap k ≡ Some c → Keeps heap c change) → Remembers heap blocks → Remembers heap (changed_block blocks k change)
Remembers-changed heap blocks zero change keeps h = h
Remembers-changed heap blocks (suc k) change keeps h = BlocksHold-changed heap heap blocks k change keeps h

-- a block that was freed has no values
pub ended-keeps : (heap : List Cell) (c : Cell) → CellsHold heap c ended_block.cells
ended-keeps heap c n v e = absurd (let f : None ≡ Some v = e in cc)

stored-by_test : (same : Bool) (heap : List Cell) (c : Cell) (m n : ℕ) (v w : Value) (cells : Values) → IsTyped heap c.depth c.base v → CellsHold heap c cells → cond same (Some v) (cells m) ≡ Some w → IsTyped heap c.depth c.base w
stored-by_test true heap c m n v w cells t h e = let same : v ≡ w = cc in subst (λ u. IsTyped heap c.depth c.base u) same t
stored-by_test false heap c m n v w cells t h e = h m w e

-- a value of the cells' type is stored
pub stored-keeps : (heap : List Cell) (c : Cell) (n : ℕ) (v : Value) (cells : Values) → IsTyped heap c.depth c.base v → CellsHold heap c cells → CellsHold heap c (with_value cells n v)
stored-keeps heap c n v cells t h m w e = stored-by_test (m == n) heap c m n v w cells t h e

-- ---- pointers

points-parts : (s t : Ty) → points_to s t ≡ true → (s.depth ≡ suc t.depth) × (s.base ≡ t.base)
points-parts s t e =
    let both = and_parts _ _ e in
    (eqb-true s.depth _ both.0 ∙ omega arith, same_base-is s.base t.base both.1)

-- the block of a pointer has cells of the type that it points to, or is none
typed-pointer : (heap : List Cell) (depth : ℕ) (b : Base) (v : Value) → IsTyped heap (suc depth) b v → PointsTo heap depth b (block_of v)
typed-pointer heap depth b (Int n) h = absurd h.1
typed-pointer heap depth b (Boolean x) h = absurd h.1
typed-pointer heap depth b (Char c) h = absurd h.1
typed-pointer heap depth b (Ptr block offset) h = h.1

pub pointer-cells : (heap : List Cell) (s t : Ty) (v : Value) → points_to s t ≡ true → HasType heap (Some s) v → PointsTo heap t.depth t.base (block_of v)
pointer-cells heap s t v e h =
    let both = points-parts s t e in
    typed-pointer heap t.depth t.base v (IsTyped-same heap s.depth (suc t.depth) s.base t.base v both.0 both.1 h)

-- ---- what is loaded

live-cells : (heap : List Cell) (c : Cell) (o : Option Block) (n : ℕ) (v : Value) → ((b : Block) → o ≡ Some b → CellsHold heap c b.cells) → cell_of (if_live o) n ≡ Some v → IsTyped heap c.depth c.base v
live-cells heap c None n v h e = absurd (let f : None ≡ Some v = e in cc)
live-cells heap c (Some b) n v h e = live-by_test b.is_live e
  where
    live-by_test : (live : Bool) → cell_of (cond live (Some b) None) n ≡ Some v → IsTyped heap c.depth c.base v
    live-by_test true e = h b refl n v e
    live-by_test false e = absurd (let f : None ≡ Some v = e in cc)

block-cells : (heap cells : List Cell) (blocks : List Block) (k : ℕ) (c : Cell) (b : Block) → BlocksHold heap cells blocks → slice_get cells k ≡ Some c → slice_get blocks k ≡ Some b → CellsHold heap c b.cells
block-cells heap [] [] k c b h at here = absurd (let f : None ≡ Some b = here in cc)
block-cells heap [] (d ∷ blocks) k c b h at here = absurd h
block-cells heap (d ∷ cells) [] k c b h at here = absurd h
block-cells heap (d ∷ cells) (x ∷ blocks) zero c b h at here =
    let same_cell : d ≡ c = cc in
    let same_block : x ≡ b = cc in
    subst (λ (y : Block). CellsHold heap c y.cells) same_block (subst (λ (y : Cell). CellsHold heap y x.cells) same_cell h.0)
block-cells heap (d ∷ cells) (x ∷ blocks) (suc k) c b h at here = block-cells heap cells blocks k c b h.1 at here

-- what a block with cells of a type holds is of the type
cells-held : (heap : List Cell) (blocks : List Block) (c : Cell) (block n : ℕ) (v : Value) → Remembers heap blocks → cell_type heap block ≡ Some c → cell_of (live_block blocks block) n ≡ Some v → IsTyped heap c.depth c.base v
cells-held heap blocks c zero n v h at e = absurd (let f : None ≡ Some v = e in cc)
cells-held heap blocks c (suc k) n v h at e = live-cells heap c (slice_get blocks k) n v (λ b here. block-cells heap heap blocks k c b h at here) e

held-by : (heap : List Cell) (blocks : List Block) (depth : ℕ) (b : Base) (block n : ℕ) (v : Value) → Remembers heap blocks → PointsTo heap depth b block → cell_of (live_block blocks block) n ≡ Some v → IsTyped heap depth b v
held-by heap blocks depth b block n v h (inl none) e =
    absurd (let f : None ≡ Some v = ap (λ k. cell_of (live_block blocks k) n) (sym none) ∙ e in cc)
held-by heap blocks depth b block n v h (inr at) e = cells-held heap blocks (record { depth = depth; base = b }) block n v h at e

-- what a pointer's block holds is of the type that the pointer points to
pub held-typed : (heap : List Cell) (blocks : List Block) (s t : Ty) (pointer v : Value) (n : ℕ) → Remembers heap blocks → points_to s t ≡ true → HasType heap (Some s) pointer → held blocks pointer n ≡ Some v → HasType heap (Some t) v
held-typed heap blocks s t pointer v n h e typed at = held-by heap blocks t.depth t.base (block_of pointer) n v h (pointer-cells heap s t pointer e typed) at

-- a value of the type that a pointer points to is of the type of the cells of its block
pub stored-typed : (heap : List Cell) (s t : Ty) (pointer v : Value) (c : Cell) → points_to s t ≡ true → HasType heap (Some s) pointer → HasType heap (Some t) v → cell_type heap (block_of pointer) ≡ Some c → IsTyped heap c.depth c.base v
stored-typed heap s t pointer v c e typed tv at = by_block (pointer-cells heap s t pointer e typed)
  where
    by_block : PointsTo heap t.depth t.base (block_of pointer) → IsTyped heap c.depth c.base v
    by_block (inl none) = absurd (let f : None ≡ Some c = ap (cell_type heap) (sym none) ∙ at in cc)
    by_block (inr here) =
        let same : record { depth = t.depth; base = t.base } ≡ c = (let both : Some (record { depth = t.depth; base = t.base }) ≡ Some c = sym here ∙ at in cc) in
        subst (λ (d : Cell). IsTyped heap d.depth d.base v) same tv
