-- What contracts see of blocks of memory, and what calls on them answer.
use Rattle.std.specs.Prelude.{◌≡◌, ℕ, ◌≤◌, Bool, if◌then◌else◌, List, map, length, Option, Some, None, option_and_then, slice_get, Result, Ok, Err}
use Rattle.std.specs.List.{count_by, sum_by}
use Rattle.bril_tree.specs.declared.limits.Fault.{Fault}
use Rattle.bril_tree.specs.declared.limits.Fault.TheVariants as fault
use Rattle.bril_tree.specs.declared.value.Value.{Value}
use Rattle.bril_tree.specs.Memory.{held, changed_block, most_blocks}
use Rattle.bril_tree.specs.Outcome.{block_of}
use Rattle.bril_tree.specs.State.{Values, with_value, Block}
use Rattle.bril_heap.specs.declared.fault.HeapFault.{HeapFault}
use Rattle.bril_heap.specs.declared.fault.HeapFault.TheVariants as heap

-- a block: whether it is live, and what each of its cells holds, None where it was never stored
pub record BlockView : Type 0 where
  pub is_live : Bool
  pub cells : List (Option Value)

-- The most cells that may be live, and the blocks, of which the first has the number 1.
pub record CellsView : Type 0 where
  pub limit : ℕ
  pub blocks : List BlockView

-- what a heap keeps: how many cells its live blocks have, which are no more than its limit, and how many blocks are live
pub record IsHeap (limit in_use live : ℕ) (blocks : List BlockView) : Type 0 where
  pub counted : in_use ≡ sum_by (λ b. if b.is_live then length b.cells else 0) blocks
  pub within : in_use ≤ limit
  pub alive : live ≡ count_by (λ b. b.is_live) blocks
  pub few : length blocks ≤ most_blocks

-- a list of entries, some of them empty, as a map
abbrev pub entries_of : List (Option Value) → Values
entries_of entries n = option_and_then (λ entry. entry) (slice_get entries n)

abbrev pub block_seen : BlockView → Block
block_seen b = record { size = length b.cells; is_live = b.is_live; cells = entries_of b.cells }

-- the blocks of the semantics
abbrev pub blocks_of : CellsView → List Block
blocks_of c = map block_seen c.blocks

-- the refusal is for this fault; memory may be wanting where there is none
abbrev pub IsRefusal : HeapFault → Option Fault → Type 0
IsRefusal heap.BadAlloc why = why ≡ Some fault.BadAlloc
IsRefusal heap.Allocs why = why ≡ Some fault.Allocs
IsRefusal heap.Cells why = why ≡ Some fault.Cells
IsRefusal heap.Memory why = why ≡ None

-- what a load answers: the cell is inside a live block, and was stored
abbrev pub stored_or_fault : Option Value → Result Value Fault
stored_or_fault None = Err fault.Uninit
stored_or_fault (Some v) = Ok v

abbrev pub load_answer : List Block → Value → Option ℕ → Result Value Fault
load_answer blocks pointer None = Err fault.Access
load_answer blocks pointer (Some n) = stored_or_fault (held blocks pointer n)

-- the blocks with a value in a cell of the block of a pointer
abbrev pub with_stored : List Block → Value → ℕ → Value → List Block
with_stored blocks pointer n v = changed_block blocks (block_of pointer) (λ b. record b { cells = with_value b.cells n v })

-- What a store answers, and the blocks that it leaves, from the cell inside a live block, where there is one.
abbrev pub Stores : Result (Unit {0}) Fault → List Block → Value → Option ℕ → Value → List Block → Type 0
Stores result before pointer None v after = (result ≡ Err fault.Access) × (after ≡ before)
Stores result before pointer (Some n) v after = (result ≡ Ok tt) × (after ≡ with_stored before pointer n v)
