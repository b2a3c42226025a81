-- The environment calls. The number is in register 17, the argument in register 10.
use Rattle.std.specs.Prelude.{ℕ, zero, suc, ◌+◌, ◌-◌, ◌*◌, ◌/◌, ◌%◌, ◌^◌, Bool, false, not, ◌&&◌, ◌||◌, ◌==◌, nat_le, nat_lt, if◌then◌else◌, List, [], ◌∷◌, Option, Some, None, slice_get, codes, encode_utf8}
use lib.Utf8.{scalar}
use Rattle.std.specs.Option.{option_map}
use Rattle.std.specs.Int.{w64, cast_signed}
use Rattle.std.specs.Fmt.{signed_decimal}
use Rattle.bril_tree.specs.declared.limits.End.{End}
use Rattle.bril_tree.specs.declared.limits.End.TheVariants.{Ended, Faulted}
use Rattle.bril_tree.specs.declared.limits.Fault.{Fault}
use Rattle.bril_tree.specs.declared.limits.Fault.TheVariants as fault
use Rattle.rv64_words.specs.declared.trap.Trap.TheVariants as trap
use Rattle.rv64_words.specs.Region.{Sizes, cells_base, most_blocks}
use Rattle.rv64_words.specs.State.{State, assigned, with_register, with_printed, next, finished, trapped}

-- ---- the prints

-- call 2: the argument as a truth
abbrev pub truth_text : ℕ → List ℕ
truth_text a = if a == 0 then codes "false" else codes "true"

-- call 3: the argument as a char, in UTF-8
abbrev pub char_printed : ℕ → State → State
char_printed a s = if scalar a then next (with_printed (encode_utf8 a) s) else trapped (trap.NoScalar s.pc a) s

-- ---- memory

-- the size of a block, 0 where it isn't live
abbrev pub block_size : (ℕ → ℕ) → ℕ → ℕ
block_size table b = table (2 * b + 1)

-- the sizes of the live blocks among 1 to n together: that of a block that isn't live is 0
abbrev pub live_cells : (ℕ → ℕ) → ℕ → ℕ
live_cells table zero = 0
live_cells table (suc b) = live_cells table b + block_size table (suc b)

-- the number of the word of the cells at which a block begins
abbrev pub first_word : (ℕ → ℕ) → ℕ → ℕ
first_word table b = (table (2 * b) - cells_base) / 8

-- the words of the cells after the live blocks among 1 to n slid to the front: one block after the other, with what its words
-- held, and 0 after them
abbrev pub slid_cells : (ℕ → ℕ) → (ℕ → ℕ) → ℕ → (ℕ → ℕ)
slid_cells table cells zero i = 0
slid_cells table cells (suc b) i =
    let to = 2 * live_cells table b in
    if nat_le to i && nat_lt i (to + 2 * block_size table (suc b)) then cells (first_word table (suc b) + (i - to)) else slid_cells table cells b i

-- the block table after that: a live block has its new address; one that isn't live keeps the one that it had
abbrev pub slid_table : (ℕ → ℕ) → ℕ → (ℕ → ℕ)
slid_table table zero = table
slid_table table (suc b) = if block_size table (suc b) == 0 then slid_table table b else assigned (slid_table table b) (2 * suc b) (cells_base + 16 * live_cells table b)

-- why a block of so many cells can't be had, in this order
abbrev pub allocation_fault : Sizes → State → ℕ → Option Fault
allocation_fault z s count =
    if not (nat_lt 0 count && nat_lt count (2 ^ 63)) then Some fault.BadAlloc
    else (if not (nat_lt s.blocks most_blocks) then Some fault.Allocs
    else (if nat_lt z.cells (2 * (live_cells s.table s.blocks + count)) then Some fault.Cells else None))

-- the live blocks slide first, where there is no room for so many cells from the next free one on
abbrev pub slides : Sizes → ℕ → ℕ → Bool
slides z free count = nat_lt z.cells (2 * (free + count))

abbrev pub room_made : Sizes → ℕ → State → State
room_made z count s =
    let slide = slides z s.next_free count in
    record s {
      table = (if slide then slid_table s.table s.blocks else s.table);
      cells = (if slide then slid_cells s.table s.cells s.blocks else s.cells);
      next_free = (if slide then live_cells s.table s.blocks else s.next_free);
    }

-- the next block takes so many cells from the next free one on; register 10 becomes its pointer
abbrev pub cells_taken : ℕ → State → State
cells_taken count s =
    let block = suc s.blocks in
    next (with_register (record s {
      table = assigned (assigned s.table (2 * block) (cells_base + 16 * s.next_free)) (2 * block + 1) count;
      blocks = block;
      next_free = s.next_free + count;
    }) 10 (block * 2 ^ 32))

-- call 6: room is made for so many cells, and the next block takes them
abbrev pub allocated : Sizes → ℕ → State → State
allocated z count s = cells_taken count (room_made z count s)

abbrev pub allocated_or_fault : Sizes → Option Fault → ℕ → State → State
allocated_or_fault z None count s = allocated z count s
allocated_or_fault z (Some f) count s = finished (Faulted f) s

-- call 7: the pointer is offset 0 of a live block
abbrev pub is_freeable : State → ℕ → Bool
is_freeable s pointer = (pointer % 2 ^ 32 == 0) && (nat_lt (pointer / 2 ^ 32) (most_blocks + 1) && not (block_size s.table (pointer / 2 ^ 32) == 0))

abbrev pub freed : ℕ → State → State
freed pointer s =
    if is_freeable s pointer then next (record s { table = assigned s.table (2 * (pointer / 2 ^ 32) + 1) 0 })
    else finished (Faulted fault.BadFree) s

-- ---- the end

-- one of the blocks 1 to n is live
abbrev pub is_live_any : (ℕ → ℕ) → ℕ → Bool
is_live_any table zero = false
is_live_any table (suc b) = not (block_size table (suc b) == 0) || is_live_any table b

-- the faults in their order, counted from 0
abbrev pub fault_of : ℕ → Option Fault
fault_of n =
    slice_get (fault.DivZero ∷ fault.BadChar ∷ fault.BadAlloc ∷ fault.BadFree ∷ fault.Access ∷ fault.Uninit ∷ fault.Leak ∷ fault.Frames ∷ fault.Cells ∷ fault.PtrRange ∷ fault.Allocs ∷ []) n

-- call 8, with 0: the end of the program, which is the fault Leak where a block is live
abbrev pub program_end : State → End
program_end s = if is_live_any s.table s.blocks then Faulted fault.Leak else Ended

-- call 8, the end that its argument names: 0 the end of the program, 1 to 11 a fault
abbrev pub end_of : ℕ → State → Option End
end_of zero s = Some (program_end s)
end_of (suc n) s = option_map Faulted (fault_of n)

abbrev pub ended : Option End → State → State
ended None s = trapped (trap.Call s.pc 8) s
ended (Some e) s = finished e s

-- ---- the call of a number, with the argument a

abbrev pub called : Sizes → ℕ → ℕ → State → State
called z number a s =
    if number == 1 then next (with_printed (signed_decimal (cast_signed w64 a)) s)
    else (if number == 2 then next (with_printed (truth_text a) s)
    else (if number == 3 then char_printed a s
    else (if number == 4 then next (with_printed (32 ∷ []) s)
    else (if number == 5 then next (with_printed (10 ∷ []) s)
    else (if number == 6 then allocated_or_fault z (allocation_fault z s a) a s
    else (if number == 7 then freed a s
    else (if number == 8 then ended (end_of a s) s else trapped (trap.Call s.pc number) s)))))))
