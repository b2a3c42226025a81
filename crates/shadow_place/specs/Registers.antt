-- The homes of slots, by registers.
use Rattle.std.specs.Prelude.{◌≡◌, ◌≢◌, ℕ, ◌+◌, ◌<◌, ◌==◌, nat_lt, List, slice_index, IsTrue, if◌then◌else◌}
use Rattle.bril_tree.specs.declared.home.Home.{Home}
use Rattle.bril_tree.specs.declared.home.Home.TheVariants.{Reg, Frame}
use Rattle.bril_tree.specs.FrameWords.{frame_head}
use Rattle.bril_tree.specs.Home.{is_home_register}

-- so many registers are homes
abbrev pub home_registers : ℕ
home_registers = 23

-- those from 0: 3, 4, 9, 11 to 16, 18 to 31
abbrev pub home_register : ℕ → ℕ
home_register n =
    if nat_lt n 2 then n + 3
    else (if nat_lt n 3 then 9
    else (if nat_lt n 9 then n + 8 else n + 9))

-- a register of its own for each of the first slots, and none for the others
abbrev pub own_register : ℕ → ℕ
own_register slot = if nat_lt slot home_registers then home_register slot else 0

-- the home of a slot, where each slot has a register, or 0 for none and is in its own word of the frame
abbrev pub home_from : List ℕ → ℕ → Home
home_from registers slot = if slice_index registers slot == 0 then Frame (frame_head + slot) else Reg (slice_index registers slot)

-- a slot that has a register has one that is a home, and its own word has a number below 256
abbrev pub AreHomeRegisters : List ℕ → Type 0
AreHomeRegisters registers = (slot : ℕ) → slice_index registers slot ≢ 0 → IsTrue (is_home_register (slice_index registers slot)) × (frame_head + slot < 256)

-- slots of one register are one
abbrev pub AreOwnRegisters : List ℕ → Type 0
AreOwnRegisters registers = (j k : ℕ) → slice_index registers j ≢ 0 → slice_index registers j ≡ slice_index registers k → j ≡ k
