-- What words change of a machine that runs on: all of its state but the pc, the way it stops and the words done.
use Rattle.std.specs.Prelude.{◌≡◌, ◌≢◌, ℕ, zero, suc, ◌+◌, ◌*◌, ◌^◌, IsTrue, List, ◌++◌, None, if◌then◌else◌}
use Rattle.bril_tree.specs.Home.{is_home_register}
use Rattle.bril_tree.specs.State.{counted}
use Rattle.rv64_words.specs.Environment.{live_cells, slid_cells, slid_table, slides}
use Rattle.rv64_words.specs.Region.{Sizes, cells_base}
use Rattle.rv64_words.specs.State.{State, assigned}

pub record Core : Type 0 where
  pub registers : ℕ → ℕ
  pub stack : ℕ → ℕ
  pub table : ℕ → ℕ
  pub cells : ℕ → ℕ
  pub blocks : ℕ
  pub next_free : ℕ
  pub printed : List ℕ
  pub arrivals : ℕ → ℕ

-- the running machine at a pc, with d words done
abbrev pub at_pc : ℕ → Core → ℕ → State
at_pc pc c d = record {
  pc = pc;
  registers = c.registers;
  stack = c.stack;
  table = c.table;
  cells = c.cells;
  blocks = c.blocks;
  next_free = c.next_free;
  printed = c.printed;
  arrivals = c.arrivals;
  stopped = None;
  done = d;
}

-- the running machine at word k
abbrev pub machine : ℕ → Core → ℕ → State
machine k c d = at_pc (4 * k) c d

-- what a state that runs changes by
abbrev pub core_of : State → Core
core_of s = record {
  registers = s.registers;
  stack = s.stack;
  table = s.table;
  cells = s.cells;
  blocks = s.blocks;
  next_free = s.next_free;
  printed = s.printed;
  arrivals = s.arrivals;
}

-- ---- changes

-- a register gets a value; register 0 stays
abbrev pub written : Core → ℕ → ℕ → Core
written c zero v = c
written c (suc r) v = record c { registers = assigned c.registers (suc r) v }

-- a word of the stack, and one of the cells
abbrev pub put : Core → ℕ → ℕ → Core
put c at v = record c { stack = assigned c.stack at v }

abbrev pub put_cell : Core → ℕ → ℕ → Core
put_cell c at v = record c { cells = assigned c.cells at v }

abbrev pub said : Core → List ℕ → Core
said c text = record c { printed = c.printed ++ text }

-- the word of a guard was executed
abbrev pub arrived : ℕ → Core → Core
arrived k c = record c { arrivals = assigned c.arrivals k (counted (c.arrivals k)) }

-- the live blocks slid, where there was no room for so many cells from the next free one on
abbrev pub with_room : Sizes → ℕ → Core → Core
with_room z count c =
    let slide = slides z c.next_free count in
    record c {
      table = (if slide then slid_table c.table c.blocks else c.table);
      cells = (if slide then slid_cells c.table c.cells c.blocks else c.cells);
      next_free = (if slide then live_cells c.table c.blocks else c.next_free);
    }

-- a new block of so many cells, where need be after sliding; register 10 has its pointer
abbrev pub with_block : Sizes → ℕ → Core → Core
with_block z count c =
    let d = with_room z count c in
    let block = suc d.blocks in
    record d {
      registers = assigned d.registers 10 (block * 2 ^ 32);
      table = assigned (assigned d.table (2 * block) (cells_base + 16 * d.next_free)) (2 * block + 1) count;
      blocks = block;
      next_free = d.next_free + count;
    }

-- a block is no longer live
abbrev pub without_block : ℕ → Core → Core
without_block block c = record c { table = assigned c.table (2 * block + 1) 0 }

-- ---- what stays

-- What the code between frames relies on is as it was: registers 0, 1, 2 and 8, those in which locations may be, memory, and what
-- can be seen from outside. Other registers may have changed.
pub record Keeps (c e : Core) : Type 0 where
  pub zero_register : e.registers 0 ≡ c.registers 0
  pub link_register : e.registers 1 ≡ c.registers 1
  pub frame_register : e.registers 2 ≡ c.registers 2
  pub frames_left : e.registers 8 ≡ c.registers 8
  pub homes : (r : ℕ) → IsTrue (is_home_register r) → e.registers r ≡ c.registers r
  pub stack : e.stack ≡ c.stack
  pub table : e.table ≡ c.table
  pub cells : e.cells ≡ c.cells
  pub blocks : e.blocks ≡ c.blocks
  pub next_free : e.next_free ≡ c.next_free
  pub printed : e.printed ≡ c.printed
  pub arrivals : e.arrivals ≡ c.arrivals

-- The same, but for one register, which isn't 0, 1, 2 or 8.
pub record KeepsBut (d : ℕ) (c e : Core) : Type 0 where
  pub zero_register : e.registers 0 ≡ c.registers 0
  pub link_register : e.registers 1 ≡ c.registers 1
  pub frame_register : e.registers 2 ≡ c.registers 2
  pub frames_left : e.registers 8 ≡ c.registers 8
  pub homes : (r : ℕ) → IsTrue (is_home_register r) → r ≢ d → e.registers r ≡ c.registers r
  pub stack : e.stack ≡ c.stack
  pub table : e.table ≡ c.table
  pub cells : e.cells ≡ c.cells
  pub blocks : e.blocks ≡ c.blocks
  pub next_free : e.next_free ≡ c.next_free
  pub printed : e.printed ≡ c.printed
  pub arrivals : e.arrivals ≡ c.arrivals
