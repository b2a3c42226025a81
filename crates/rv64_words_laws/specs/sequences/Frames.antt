-- What loads and stores of a frame's words leave.
use Rattle.std.specs.Prelude.{◌≡◌, ℕ, ◌+◌, ◌*◌, ◌%◌, ◌^◌, ◌<◌, ◌≤◌, if◌then◌else◌}
use Rattle.rv64_words.specs.Arithmetic.{extended_32}
use Rattle.rv64_words.specs.Region.{Sizes, stack_base, most_stack}
use Rattle.rv64_words_laws.specs.stretches.Core.{Core, written}
use Rattle.rv64_words_laws.specs.sequences.Sequences.{high_part, is_near}

-- A register has the address of the stack's word b, and word o from there is inside the stack.
pub record Reaches (z : Sizes) (e : Core) (r b o : ℕ) : Type 0 where
  pub base : e.registers r ≡ stack_base + 8 * b
  pub inside : b + o < z.stack
  pub few : z.stack ≤ most_stack

-- what register 6 has after a load or a store of word o from the base in register r
abbrev pub far_address : Core → ℕ → ℕ → ℕ
far_address e r o = (extended_32 (high_part (8 * o) * 4096) + e.registers r) % 2 ^ 64

abbrev pub address_left : Core → ℕ → ℕ → ℕ
address_left e r o = if is_near o then e.registers 6 else far_address e r o

-- the core with that
abbrev pub addressed : Core → ℕ → ℕ → Core
addressed e r o = written e 6 (address_left e r o)
