-- Words of the stack by their addresses.
use Rattle.std.specs.Prelude.{ℕ, Option, Some, None}
use Rattle.rv64_words.specs.Region.{Address, InCells, InStack, InTable, Sizes, address_at}
use Rattle.rv64_words.specs.State.{State}

abbrev pub word_in_stack : State → Option Address → Option ℕ
word_in_stack t None = None
word_in_stack t (Some (InStack k)) = Some (t.stack k)
word_in_stack t (Some (InTable k)) = None
word_in_stack t (Some (InCells k)) = None

-- the word at an address, where that is a multiple of 8 inside the stack
abbrev pub stack_word_at : Sizes → State → ℕ → Option ℕ
stack_word_at z t at = word_in_stack t (address_at z at)
