-- The machine's memory: three regions of 64-bit words.
use Rattle.std.specs.Prelude.{ℕ, ◌+◌, ◌*◌, ◌/◌, ◌%◌, ◌-◌, Bool, ◌&&◌, ◌==◌, nat_le, nat_lt, if◌then◌else◌, Option, Some, None}
use Rattle.rv64_words.specs.declared.image.Image.{Image}

abbrev pub stack_base : ℕ
stack_base = 0x10000000

abbrev pub table_base : ℕ
table_base = 0x20000000

abbrev pub cells_base : ℕ
cells_base = 0x40000000

-- the most blocks that are ever allocated; they have the numbers 1 to this one
abbrev pub most_blocks : ℕ
most_blocks = 262144

-- two words for each block number from 0 to 262,144: the address of its first cell, and its size
abbrev pub table_words : ℕ
table_words = 524290

-- the most words of an image, and the most words of 64 bits of its stack
abbrev pub most_words : ℕ
most_words = 250000

abbrev pub most_stack : ℕ
most_stack = 8388608

-- how many words the stack and the cells have; a cell has two: 1 where it was stored, else 0, and its value
pub record Sizes : Type 0 where
  pub stack : ℕ
  pub cells : ℕ

-- the sizes of the regions of an image under a limit of cells
abbrev pub sizes_of : Image → ℕ → Sizes
sizes_of image cells = record { stack = image.stack; cells = 2 * cells }

-- a word of memory, by its region and its number there
pub data Address : Type 0 where
  InStack : (k : ℕ) → Address
  InTable : (k : ℕ) → Address
  InCells : (k : ℕ) → Address

-- the address lies in a region of this base and size
abbrev pub is_within : ℕ → ℕ → ℕ → Bool
is_within base words at = nat_le base at && nat_lt at (base + 8 * words)

-- the word at an address, which is a multiple of 8 inside a region
abbrev pub address_at : Sizes → ℕ → Option Address
address_at z at =
    if at % 8 == 0 then
    (if is_within stack_base z.stack at then Some (InStack ((at - stack_base) / 8))
    else (if is_within table_base table_words at then Some (InTable ((at - table_base) / 8))
    else (if is_within cells_base z.cells at then Some (InCells ((at - cells_base) / 8)) else None)))
    else None
