-- What contracts see of cells as they are kept, and where in their list a block and its cells are found.
use Rattle.std.specs.Prelude.{◌≡◌, ℕ, suc, ◌<◌, ◌/◌, ◌%◌, ◌^◌, true, false, List, [], ◌∷◌, map, length, Option, Some, None, slice_get, ℤ, pos}
use Rattle.std.specs.Char.{IsScalar}
use Rattle.std.specs.Int.{w32, w64, cast_signed}
use Rattle.bril_tree.specs.State.{Block}
use Rattle.bril_tree.specs.declared.value.Value.{Value}
use Rattle.bril_tree.specs.declared.value.Value.TheVariants as value
use Rattle.bril_heap.specs.declared.stored_cell.Kind.{Kind}
use Rattle.bril_heap.specs.declared.stored_cell.Kind.TheVariants as kind
use Rattle.bril_heap.specs.Heap.{BlockView, block_seen}

-- the word can stand beside the kind: that of a char is a scalar value
abbrev pub IsFit : Kind → ℕ → Type 0
IsFit kind.Char word = IsScalar word
IsFit kind word = Unit {0}

-- what a cell with a kind and a word holds, None where it was never stored
abbrev pub cell_held : Kind → ℕ → Option Value
cell_held kind.Never word = None
cell_held kind.False word = Some (value.Bool false)
cell_held kind.True word = Some (value.Bool true)
cell_held kind.Int word = Some (value.Int (cast_signed w64 word))
cell_held kind.Char word = Some (value.Char word)
cell_held kind.Ptr word = Some (value.Ptr (word / 2 ^ 32) (cast_signed w32 (word % 2 ^ 32)))

-- what the cells of a block hold, of which each has a kind and a word
abbrev pub cells_held : List Kind → List ℕ → List (Option Value)
cells_held (kind ∷ kinds) (word ∷ words) = cell_held kind word ∷ cells_held kinds words
cells_held kinds words = []

-- the blocks of the semantics
abbrev pub seen : List BlockView → List Block
seen blocks = map block_seen blocks

-- the live block of a number stands at a place
pub record IsLiveAt (blocks : List BlockView) (block place : ℕ) : Type 0 where
  pub number : block ≡ suc place
  pub within : place < length blocks
  pub live : (b : BlockView) → slice_get blocks place ≡ Some b → b.is_live ≡ true

-- an offset in a block is a cell of the block at a place
pub record IsCellAt (blocks : List BlockView) (block : ℕ) (offset : ℤ) (place cell : ℕ) : Type 0 where
  pub found : IsLiveAt blocks block place
  pub cell_is : offset ≡ pos cell
  pub inside : (b : BlockView) → slice_get blocks place ≡ Some b → cell < length b.cells
