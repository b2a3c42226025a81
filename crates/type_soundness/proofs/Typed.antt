-- Values of a type, over the types of the cells of each block.
use Rattle.std.proofs.Common.{◌≡◌, ◌⊎◌, ℕ, zero, suc, true, List, [], ◌∷◌, ◌++◌, Option, Some, None, slice_get, sym, subst, inl, inr}
use Rattle.std.proofs.lemmas.Bool.{and_parts, eqb-true}
use Rattle.bril_tree.specs.declared.types.Base.{Base}
use Rattle.bril_tree.specs.declared.types.Ty.{Ty}
use Rattle.bril_tree.specs.declared.value.Value.{Value}
use Rattle.bril_tree.specs.declared.value.Value.TheVariants.{Int, Bool as Boolean, Char, Ptr}
use Rattle.bril_tree.specs.Run.{Suits}
use Rattle.bril_tree.specs.Typing.{same_type, both_typed, is_plain, if_typed}
use Rattle.bril_tree.specs.Value.{IsInRange, IsOfBase, IsOfDepth}
use Rattle.bril_tree.proofs.Typings.{same_base-is}

-- the type of a block's cells
pub record Cell : Type 0 where
  pub depth : ℕ
  pub base : Base

-- the type of the cells of a block, whose number counts from 1
abbrev pub cell_type : List Cell → ℕ → Option Cell
cell_type heap zero = None
cell_type heap (suc k) = slice_get heap k

-- the number is that of no block, or of one whose cells have the type
abbrev pub PointsTo : List Cell → ℕ → Base → ℕ → Type 0
PointsTo heap depth b block = (block ≡ 0) ⊎ (cell_type heap block ≡ Some (record { depth = depth; base = b }))

-- a pointer to values of the type
abbrev pub IsPointerTo : List Cell → ℕ → Base → Value → Type 0
IsPointerTo heap depth b (Int n) = ⊥
IsPointerTo heap depth b (Boolean x) = ⊥
IsPointerTo heap depth b (Char c) = ⊥
IsPointerTo heap depth b (Ptr block offset) = PointsTo heap depth b block

-- a value in its range and of so many pointers round a base
abbrev pub IsTyped : List Cell → ℕ → Base → Value → Type 0
IsTyped heap zero b v = IsInRange v × IsOfBase b v
IsTyped heap (suc depth) b v = IsInRange v × IsPointerTo heap depth b v

-- what has no type may be anything
abbrev pub HasType : List Cell → Option Ty → Value → Type 0
HasType heap None v = Unit {0}
HasType heap (Some ty) v = IsTyped heap ty.depth ty.base v

-- ---- what it gives

of_depth : (heap : List Cell) (depth : ℕ) (b : Base) (v : Value) → IsTyped heap depth b v → IsInRange v × IsOfDepth depth b v
of_depth heap zero b v h = h
of_depth heap (suc depth) b (Int n) h = absurd h.1
of_depth heap (suc depth) b (Boolean x) h = absurd h.1
of_depth heap (suc depth) b (Char c) h = absurd h.1
of_depth heap (suc depth) b (Ptr block offset) h = (h.0, tt)

pub HasType-suits : (heap : List Cell) (ty : Ty) (v : Value) → HasType heap (Some ty) v → Suits v (Some ty)
HasType-suits heap ty v h = of_depth heap ty.depth ty.base v h

-- ---- the same type

pub IsTyped-same : (heap : List Cell) (d e : ℕ) (a b : Base) (v : Value) → d ≡ e → a ≡ b → IsTyped heap d a v → IsTyped heap e b v
IsTyped-same heap d e a b v p q h = subst (λ c. IsTyped heap e c v) q (subst (λ n. IsTyped heap n a v) p h)

same_type-parts : (s t : Ty) → same_type s t ≡ true → (s.depth ≡ t.depth) × (s.base ≡ t.base)
same_type-parts s t e =
    let both = and_parts _ _ e in
    (eqb-true s.depth t.depth both.0, same_base-is s.base t.base both.1)

pub HasType-same_type : (heap : List Cell) (s t : Ty) (v : Value) → same_type s t ≡ true → HasType heap (Some s) v → HasType heap (Some t) v
HasType-same_type heap s t v e h = let both = same_type-parts s t e in IsTyped-same heap s.depth t.depth s.base t.base v both.0 both.1 h

pub HasType-back : (heap : List Cell) (s t : Ty) (v : Value) → same_type s t ≡ true → HasType heap (Some t) v → HasType heap (Some s) v
HasType-back heap s t v e h = let both = same_type-parts s t e in IsTyped-same heap t.depth s.depth t.base s.base v (sym both.0) (sym both.1) h

pub HasType-both : (heap : List Cell) (s t : Option Ty) (v : Value) → both_typed same_type s t ≡ true → HasType heap s v → HasType heap t v
HasType-both heap None t v e h = absurd (cc)
HasType-both heap (Some s) None v e h = absurd (cc)
HasType-both heap (Some s) (Some t) v e h = HasType-same_type heap s t v e h

-- ---- a type that is no pointer

pub HasType-plain : (heap : List Cell) (b : Base) (ty : Option Ty) (v : Value) → if_typed (is_plain b) ty ≡ true → IsInRange v → IsOfBase b v → HasType heap ty v
HasType-plain heap b None v e r o = tt
HasType-plain heap b (Some ty) v e r o =
    let both = and_parts _ _ e in
    IsTyped-same heap 0 ty.depth b ty.base v (sym (eqb-true ty.depth 0 both.0)) (same_base-is b ty.base both.1) (r, o)

-- ---- more blocks

-- each block of the first heap is in the second
abbrev pub Extends : List Cell → List Cell → Type 0
Extends heap more = (block : ℕ) (c : Cell) → cell_type heap block ≡ Some c → cell_type more block ≡ Some c

PointsTo-more : (heap more : List Cell) (depth : ℕ) (b : Base) (block : ℕ) → Extends heap more → PointsTo heap depth b block → PointsTo more depth b block
PointsTo-more heap more depth b block x (inl e) = inl e
PointsTo-more heap more depth b block x (inr e) = inr (x block _ e)

IsPointerTo-more : (heap more : List Cell) (depth : ℕ) (b : Base) (v : Value) → Extends heap more → IsPointerTo heap depth b v → IsPointerTo more depth b v
IsPointerTo-more heap more depth b (Int n) x h = absurd h
IsPointerTo-more heap more depth b (Boolean y) x h = absurd h
IsPointerTo-more heap more depth b (Char c) x h = absurd h
IsPointerTo-more heap more depth b (Ptr block offset) x h = PointsTo-more heap more depth b block x h

pub IsTyped-more : (heap more : List Cell) (depth : ℕ) (b : Base) (v : Value) → Extends heap more → IsTyped heap depth b v → IsTyped more depth b v
IsTyped-more heap more zero b v x h = h
IsTyped-more heap more (suc depth) b v x h = (h.0, IsPointerTo-more heap more depth b v x h.1)

pub HasType-more : (heap more : List Cell) (ty : Option Ty) (v : Value) → Extends heap more → HasType heap ty v → HasType more ty v
HasType-more heap more None v x h = tt
HasType-more heap more (Some ty) v x h = IsTyped-more heap more ty.depth ty.base v x h

cell_type-append : (heap : List Cell) (k : ℕ) (c d : Cell) → slice_get heap k ≡ Some d → slice_get (heap ++ c ∷ []) k ≡ Some d
cell_type-append [] k c d e = absurd (let f : None ≡ Some d = e in cc)
cell_type-append (x ∷ heap) zero c d e = e
cell_type-append (x ∷ heap) (suc k) c d e = cell_type-append heap k c d e

pub Extends-push : (heap : List Cell) (c : Cell) → Extends heap (heap ++ c ∷ [])
Extends-push heap c zero d e = absurd (let f : None ≡ Some d = e in cc)
Extends-push heap c (suc k) d e = cell_type-append heap k c d e
