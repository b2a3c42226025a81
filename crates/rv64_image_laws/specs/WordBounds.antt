-- How many words an image of a program has at most, and how large its stack is.
use Rattle.std.specs.Prelude.{◌≡◌, ℕ, ◌+◌, ◌*◌, ◌≤◌, Bool, true, false, length}
use Rattle.std.specs.List.{list_all, sum_by}
use Rattle.bril_tree.specs.declared.limits.Limits.{Limits}
use Rattle.bril_tree.specs.declared.numbered.Instr.{Instr}
use Rattle.bril_tree.specs.declared.numbered.Instr.TheVariants.{Label, Const, Act}
use Rattle.bril_tree.specs.declared.numbered_function.Func.{Func}
use Rattle.bril_tree.specs.declared.operation.Op.{Op}
use Rattle.bril_tree.specs.declared.operation.Op.TheVariants as op
use Rattle.bril_tree.specs.declared.program.Prog.{Prog}
use Rattle.bril_tree.specs.FrameWords.{location_count}
use Rattle.program_numbers.specs.ProgramNumbers.{IsLargestFrame}
use Rattle.rv64_words.specs.Region.{most_words, most_stack}

-- ---- words

-- the most words of an operation on so many arguments, in a function of so many locations
abbrev pub operation_bound : Op → ℕ → ℕ → ℕ
operation_bound op.Nop locations args = 0
operation_bound op.Jmp locations args = 2
operation_bound op.Commit locations args = 4
operation_bound op.Br locations args = 8
operation_bound op.Not locations args = 12
operation_bound op.Id locations args = 12
operation_bound op.Get locations args = 12
operation_bound op.Set locations args = 12
operation_bound op.Undef locations args = 12
operation_bound op.CharToInt locations args = 12
operation_bound op.Free locations args = 12
operation_bound op.Div locations args = 24
operation_bound op.IntToChar locations args = 24
operation_bound op.PtrAdd locations args = 32
operation_bound op.Load locations args = 48
operation_bound op.Store locations args = 48
operation_bound op.Call locations args = 64 + 8 * args
operation_bound op.Print locations args = 8 + 8 * args
operation_bound op.Speculate locations args = 4 + 8 * locations
operation_bound op.Guard locations args = 12 + 8 * locations
operation_bound _ locations args = 16

-- the most words of an item, in a function of so many locations
abbrev pub word_bound : ℕ → Instr → ℕ
word_bound locations (Label l) = 0
word_bound locations (Const dest ty value) = 12
word_bound locations (Act dest ty operation args funcs labels) = operation_bound operation locations (length args)

-- the most words of a function
abbrev pub function_bound : Func → ℕ
function_bound f = 40 + sum_by (word_bound (location_count f)) f.code

-- the most words of an image of the program
abbrev pub word_bounds : Prog → ℕ
word_bounds p = 32 + sum_by function_bound p.funcs

-- the bound of the item is one for all numbers of locations
abbrev pub has_fixed_bound : Instr → Bool
has_fixed_bound (Act dest ty op.Speculate args funcs labels) = false
has_fixed_bound (Act dest ty op.Guard args funcs labels) = false
has_fixed_bound _ = true

-- and so is that of each item of the program: its word bounds can be told before its locations are counted
abbrev pub has_fixed_bounds : Prog → Bool
has_fixed_bounds p = list_all (λ f. list_all has_fixed_bound f.code) p.funcs

-- ---- the stack

-- the words of 64 bits of the program's stack: as many times the largest frame as frames are allowed
pub record IsStackSize (p : Prog) (limits : Limits) (words : ℕ) : Type 0 where
  pub frame : ℕ
  pub largest : IsLargestFrame p frame
  pub is : words ≡ limits.frames * frame

-- The program's image has few enough words, and needs few enough words of stack.
pub record IsWithin (p : Prog) (limits : Limits) : Type 0 where
  pub code : word_bounds p ≤ most_words
  pub stack : ℕ
  pub size : IsStackSize p limits stack
  pub few : stack ≤ most_stack
