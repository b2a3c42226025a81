-- The machine's state, and the changes that words make to it.
use Rattle.std.specs.Prelude.{ℕ, zero, suc, ◌+◌, ◌==◌, if◌then◌else◌, List, [], ◌∷◌, ◌++◌, Option, Some, None, slice_index, map}
use Rattle.bril_tree.specs.declared.limits.End.{End}
use Rattle.bril_tree.specs.declared.value.Value.{Value}
use Rattle.bril_tree.specs.State.{counted}
use Rattle.bril_tree.specs.Value.{word_of}
use Rattle.rv64_words.specs.declared.trap.Trap.{Trap}
use Rattle.rv64_words.specs.Region.{stack_base}

-- how a machine stops: by an end of the program, or by a trap
pub data Stop : Type 0 where
  Finished : (e : End) → Stop
  Trapped : (t : Trap) → Stop

-- The state: the pc in bytes, the 32 registers, the words of the three regions, how many blocks and cells were
-- allocated, what was printed, how often each guard's word was executed, by the word's number, how the machine
-- stopped, None while it runs, and how many words were executed. Both counts stay at 2^64 - 1.
pub record State : Type 0 where
  pub pc : ℕ
  pub registers : ℕ → ℕ
  pub stack : ℕ → ℕ
  pub table : ℕ → ℕ
  pub cells : ℕ → ℕ
  pub blocks : ℕ
  pub next_free : ℕ
  pub printed : List ℕ
  pub arrivals : ℕ → ℕ
  pub stopped : Option Stop
  pub done : ℕ

-- f with another value at x
abbrev pub assigned : (ℕ → ℕ) → ℕ → ℕ → (ℕ → ℕ)
assigned f x v y = if y == x then v else f y

-- a list as a function of the index, 0 past its end
abbrev pub words_of : List ℕ → (ℕ → ℕ)
words_of xs k = slice_index xs k

-- register 0 is always 0, and a write to it does nothing
abbrev pub with_register : State → ℕ → ℕ → State
with_register s zero v = s
with_register s (suc r) v = record s { registers = assigned s.registers (suc r) v }

abbrev pub with_printed : List ℕ → State → State
with_printed bytes s = record s { printed = s.printed ++ bytes }

-- the word was executed, and the one at a pc follows
abbrev pub goes_to : ℕ → State → State
goes_to pc s = record s { pc = pc; done = counted s.done }

-- the word was executed, and the next one follows
abbrev pub next : State → State
next s = record s { pc = s.pc + 4; done = counted s.done }

-- the word was executed, and ended the run
abbrev pub finished : End → State → State
finished e s = record s { stopped = Some (Finished e); done = counted s.done }

-- the machine can't go on; nothing was executed
abbrev pub trapped : Trap → State → State
trapped t s = record s { stopped = Some (Trapped t) }

-- The first state: register 2 holds the base of the stack, and argument k stands in stack word 2 + k.
abbrev pub start : List Value → State
start args = record {
  pc = 0;
  registers = assigned (λ _. 0) 2 stack_base;
  stack = words_of (0 ∷ 0 ∷ map word_of args);
  table = λ _. 0;
  cells = λ _. 0;
  blocks = 0;
  next_free = 0;
  printed = [];
  arrivals = λ _. 0;
  stopped = None;
  done = 0;
}
