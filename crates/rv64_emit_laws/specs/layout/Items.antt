-- The words of each item of code over slots, and how many they are, by the homes of the function's slots.
--
-- Register 2 has the address of the frame, and register 8 the number of frames that may still be made. Operands that aren't in
-- registers are brought into 5 and 7, and results that don't go to registers are left in 5 or 10; 6 has the address of a far
-- word of the frame, and 7 that of a far frame.
use Rattle.std.specs.Prelude.{ℕ, suc, ◌+◌, ◌*◌, ◌==◌, Bool, false, nat_lt, if◌then◌else◌, List, [], ◌∷◌, ◌++◌, Option, Some, None, pos, negsuc}
use Rattle.bril_tree.specs.declared.types.Base.{Base}
use Rattle.bril_tree.specs.declared.types.Base.TheVariants as base
use Rattle.bril_tree.specs.declared.home.Home.{Home}
use Rattle.bril_tree.specs.declared.home.Home.TheVariants.{Reg, Frame}
use Rattle.bril_tree.specs.declared.operators.BinaryOp.{BinaryOp}
use Rattle.bril_tree.specs.declared.operators.UnaryOp.{UnaryOp}
use Rattle.bril_tree.specs.declared.operators.UnaryOp.TheVariants as unary
use Rattle.bril_tree.specs.Value.{word_of}
use Rattle.rv64_words.specs.declared.word.Word.{Word}
use Rattle.rv64_words.specs.declared.word.Condition.{Condition}
use Rattle.rv64_words.specs.declared.word.Condition.TheVariants as tests
use Rattle.rv64_words.specs.declared.word.Word.TheVariants as words
use Rattle.rv64_words.specs.declared.word.Word.TheVariants.{Jal, Jalr, Ld, Sd, Ecall}
use Rattle.rv64_words.specs.Mnemonics.{addi, beq, bne}
use Rattle.slot_code.specs.declared.item.Printed.{Printed}
use Rattle.slot_code.specs.declared.item.SlotItem.{SlotItem}
use Rattle.slot_code.specs.declared.item.SlotItem.TheVariants.{Pass, Constant, Copy, Unary, Binary, Jump, Branch, Call, Return, Print, Alloc, Free, Store, Load, Speculate, Commit, Guard}
use Rattle.slot_code.specs.declared.slots.SlotFunction.{SlotFunction}
use Rattle.rv64_words_laws.specs.sequences.Operations.{unary_takes_any, unary_words, binary_takes_any, binary_words, alloc_words, free_words, cell_words, load_cell_words, mark_cell_words, store_cell_words, unary_size, binary_size}
use Rattle.rv64_words_laws.specs.sequences.Moves.{register_for, source_words, source_size, target_words, target_size, copy_words, copy_size, operand_register, operand_words, operand_size, result_register, result_words, result_size, fetch_words, fetch_size, fill_words, fill_size, save_words, save_size, restore_words, restore_size}
use Rattle.rv64_words_laws.specs.sequences.Sequences.{constant_words, fault_words, jump_offset, frame_by_words, bytes_up, bytes_down, constant_size, frame_by_size}
use Rattle.rv64_emit_laws.specs.layout.Homes.{FunctionHomes, variable_home, call_moves, guard_moves, speculate_moves}
use Rattle.rv64_emit_laws.specs.layout.Passing.{pass_words, pass_size}
use Rattle.rv64_emit_laws.specs.layout.Reach.{is_in_reach}

-- ---- items for which nothing is to be done

-- a word that does nothing
abbrev pub nop_word : Word
nop_word = addi 0 0 (pos 0)

-- such an item has this word where items are marked, else none
abbrev pub mark_words : FunctionHomes → List Word
mark_words homes = if homes.marked then nop_word ∷ [] else []

abbrev pub mark_size : FunctionHomes → ℕ
mark_size homes = if homes.marked then 1 else 0

-- an item is the one behind that at a point
abbrev pub is_next : (point to : ℕ) → Bool
is_next point to = to == suc point

-- a jump to the next item is one, and so is a copy from a home to itself
abbrev pub jump_words : FunctionHomes → (entry : ℕ → ℕ) → (point at to : ℕ) → List Word
jump_words homes entry point at to = if is_next point to then mark_words homes else Jal 0 (jump_offset at (entry to)) ∷ []

abbrev pub jump_size : FunctionHomes → (point to : ℕ) → ℕ
jump_size homes point to = if is_next point to then mark_size homes else 1

abbrev pub same_home : Home → Home → Bool
same_home (Reg a) (Reg b) = a == b
same_home (Frame a) (Frame b) = a == b
same_home _ _ = false

abbrev pub copied_words : FunctionHomes → (dest from : Home) → List Word
copied_words homes dest from = if same_home dest from then mark_words homes else copy_words dest from

abbrev pub copied_size : FunctionHomes → (dest from : Home) → ℕ
copied_size homes dest from = if same_home dest from then mark_size homes else copy_size dest from

-- ---- calls and returns

-- the fault Frames where no frame may be made, else one less may be
abbrev pub room_words : List Word
room_words = bne 8 0 (pos 16) ∷ (fault_words 8 ++ addi 8 8 (negsuc 0) ∷ [])

-- the result, which comes in register 10, into its destination
abbrev pub call_result_words : FunctionHomes → Option ℕ → List Word
call_result_words homes None = []
call_result_words homes (Some x) = fill_words 10 (variable_home homes x)

abbrev pub call_result_size : FunctionHomes → Option ℕ → ℕ
call_result_size homes None = 0
call_result_size homes (Some x) = fill_size (variable_home homes x)

-- how many words of the call at a point come before its jump
abbrev pub before_call : FunctionHomes → SlotFunction → ℕ → Option ℕ → ℕ → List ℕ → ℕ
before_call homes g point dest function args = 5 + (save_size (call_moves homes g point dest) + (pass_size homes g function args + frame_by_size (bytes_up g.words)))

-- the words after its jump: the caller's frame is the frame again, registers get back what the call kept, and the destination gets
-- the result
abbrev pub after_call : FunctionHomes → SlotFunction → ℕ → Option ℕ → List Word
after_call homes g point dest =
    frame_by_words (bytes_down g.words) ++ (restore_words (call_moves homes g point dest) ++ call_result_words homes dest)

abbrev pub after_call_size : FunctionHomes → SlotFunction → ℕ → Option ℕ → ℕ
after_call_size homes g point dest =
    frame_by_size (bytes_down g.words) + (restore_size (call_moves homes g point dest) + call_result_size homes dest)

-- a call of the function of a number, which begins at word `start`; the call itself begins at word `here`
abbrev pub call_words : FunctionHomes → SlotFunction → (point here : ℕ) → Option ℕ → (function start : ℕ) → List ℕ → List Word
call_words homes g point here dest function start args =
    room_words ++ (save_words (call_moves homes g point dest) ++ (pass_words homes g function args ++ (frame_by_words (bytes_up g.words)
    ++ Jal 1 (jump_offset (here + before_call homes g point dest function args) start) ∷ after_call homes g point dest)))

-- the word to which the called function returns
abbrev pub return_word : FunctionHomes → SlotFunction → (point here : ℕ) → Option ℕ → ℕ → List ℕ → ℕ
return_word homes g point here dest function args = here + before_call homes g point dest function args + 1

-- the way back into its word of the frame, and from there, but for a leaf
abbrev pub keep_way_words : FunctionHomes → List Word
keep_way_words homes = if homes.leaf then [] else Sd 2 1 (pos 0) ∷ []

abbrev pub take_way_words : FunctionHomes → List Word
take_way_words homes = if homes.leaf then [] else Ld 1 2 (pos 0) ∷ []

abbrev pub keep_way_size : FunctionHomes → ℕ
keep_way_size homes = if homes.leaf then 0 else 1

-- the end of a function: one frame more may be made, and control goes to the caller's next word
abbrev pub leave_words : FunctionHomes → List Word
leave_words homes = take_way_words homes ++ addi 8 8 (pos 1) ∷ Jalr 0 1 (pos 0) ∷ []

abbrev pub leave_size : FunctionHomes → ℕ
leave_size homes = keep_way_size homes + 2

-- the returned value into register 10
abbrev pub returned_words : FunctionHomes → Option ℕ → List Word
returned_words homes None = []
returned_words homes (Some x) = fetch_words 10 (variable_home homes x)

abbrev pub returned_size : FunctionHomes → Option ℕ → ℕ
returned_size homes None = 0
returned_size homes (Some x) = fetch_size (variable_home homes x)

-- ---- output

-- the environment call of a number
abbrev pub environment_words : ℕ → List Word
environment_words number = addi 17 0 (pos number) ∷ Ecall ∷ []

-- the environment call that prints a value
abbrev pub print_call : Base → ℕ
print_call base.Int = 1
print_call base.Bool = 2
print_call base.Char = 3

abbrev pub value_words : FunctionHomes → Printed → List Word
value_words homes a = fetch_words 10 (variable_home homes a.variable) ++ environment_words (print_call a.kind)

-- each value after a space
abbrev pub spaced_words : FunctionHomes → List Printed → List Word
spaced_words homes [] = []
spaced_words homes (a ∷ args) = environment_words 4 ++ (value_words homes a ++ spaced_words homes args)

abbrev pub spaced_size : FunctionHomes → List Printed → ℕ
spaced_size homes [] = 0
spaced_size homes (a ∷ args) = 4 + (fetch_size (variable_home homes a.variable) + spaced_size homes args)

-- the values, with a space between two, and a line feed
abbrev pub print_words : FunctionHomes → List Printed → List Word
print_words homes [] = environment_words 5
print_words homes (a ∷ args) = value_words homes a ++ (spaced_words homes args ++ environment_words 5)

abbrev pub print_size : FunctionHomes → List Printed → ℕ
print_size homes [] = 2
print_size homes (a ∷ args) = 4 + (fetch_size (variable_home homes a.variable) + spaced_size homes args)

-- ---- branches

-- To an item from word `at` at a point, where register r and 0 meet a condition, else on: by one branch where it reaches, else by a
-- jump that the branch of the other condition skips. Items begin where `entry` says.
abbrev pub way_words : SlotFunction → (entry : ℕ → ℕ) → (point at : ℕ) → (leads skips : Condition) → (r to : ℕ) → List Word
way_words g entry point at leads skips r to =
    if is_in_reach g point to then words.Branch leads r 0 (jump_offset at (entry to)) ∷ []
    else words.Branch skips r 0 (pos 8) ∷ Jal 0 (jump_offset (at + 1) (entry to)) ∷ []

abbrev pub way_size : SlotFunction → (point to : ℕ) → ℕ
way_size g point to = if is_in_reach g point to then 1 else 2

-- the words of a branch at a point behind those of its condition, which register r has: where one item is the next, those lead to
-- the other
abbrev pub branch_words : SlotFunction → (entry : ℕ → ℕ) → (point at r then_to else_to : ℕ) → List Word
branch_words g entry point at r then_to else_to =
    if is_next point else_to then way_words g entry point at tests.Ne tests.Eq r then_to
    else (if is_next point then_to then way_words g entry point at tests.Eq tests.Ne r else_to
    else beq r 0 (pos 8) ∷ Jal 0 (jump_offset (at + 1) (entry then_to)) ∷ Jal 0 (jump_offset (at + 2) (entry else_to)) ∷ [])

abbrev pub branch_size : SlotFunction → (point then_to else_to : ℕ) → ℕ
branch_size g point then_to else_to =
    if is_next point else_to then way_size g point then_to else (if is_next point then_to then way_size g point else_to else 3)

-- ---- speculation

-- one branch leads over so many words: it reaches 4 KiB
abbrev pub reaches_over : ℕ → Bool
reaches_over count = nat_lt count 1023

-- over so many words where register r isn't 0: by one branch where it reaches, else by a jump that another branch skips
abbrev pub skip_words : (r count : ℕ) → List Word
skip_words r count =
    if reaches_over count then bne r 0 (pos (4 * suc count)) ∷ []
    else beq r 0 (pos 8) ∷ Jal 0 (jump_offset 0 (suc count)) ∷ []

abbrev pub skip_size : ℕ → ℕ
skip_size count = if reaches_over count then 1 else 2

-- how many words of the guard at a point are for a condition that doesn't hold: those that put back what the newest open
-- speculation kept, and the jump to its abort
abbrev pub failing_size : FunctionHomes → SlotFunction → (point label : ℕ) → ℕ
failing_size homes g point label = suc (restore_size (guard_moves homes g point label))

-- the words of the guard at a point before its last, the jump to its abort: over the rest where the condition holds, else what the
-- newest open speculation kept goes back to its homes
abbrev pub guard_front : FunctionHomes → SlotFunction → (point condition label : ℕ) → List Word
guard_front homes g point condition label =
    source_words 5 (variable_home homes condition) ++ (skip_words (register_for 5 (variable_home homes condition)) (failing_size homes g point label) ++ restore_words (guard_moves homes g point label))

abbrev pub guard_front_size : FunctionHomes → SlotFunction → (point condition label : ℕ) → ℕ
guard_front_size homes g point condition label =
    source_size (variable_home homes condition) + (skip_size (failing_size homes g point label) + restore_size (guard_moves homes g point label))

-- ---- operations

-- the number of a char is its word already, so that `char2int` is a copy
abbrev pub unary_item_words : FunctionHomes → UnaryOp → (dest operand : Home) → List Word
unary_item_words homes unary.CharToInt dest operand = copied_words homes dest operand
unary_item_words homes operation dest operand =
    let any = unary_takes_any operation in
    operand_words any 5 operand ++ (unary_words operation (result_register any dest) (operand_register any 5 operand) ++ result_words any dest)

abbrev pub unary_item_size : FunctionHomes → UnaryOp → (dest operand : Home) → ℕ
unary_item_size homes unary.CharToInt dest operand = copied_size homes dest operand
unary_item_size homes operation dest operand =
    let any = unary_takes_any operation in
    operand_size any operand + (unary_size operation + result_size any dest)

abbrev pub binary_item_words : BinaryOp → (dest first second : Home) → List Word
binary_item_words operation dest first second =
    let any = binary_takes_any operation in
    operand_words any 5 first ++ (operand_words any 7 second
    ++ (binary_words operation (result_register any dest) (operand_register any 5 first) (operand_register any 7 second) ++ result_words any dest))

abbrev pub binary_item_size : BinaryOp → (dest first second : Home) → ℕ
binary_item_size operation dest first second =
    let any = binary_takes_any operation in
    operand_size any first + (operand_size any second + (binary_size operation + result_size any dest))

-- ---- items

-- how many words the item at a point has
abbrev pub item_size : FunctionHomes → SlotFunction → ℕ → SlotItem → ℕ
item_size homes g point Pass = 0
item_size homes g point (Constant dest value) = constant_size (word_of value) + target_size (variable_home homes dest)
item_size homes g point (Copy dest from) = copied_size homes (homes.home dest) (homes.home from)
item_size homes g point (Unary operation dest operand) = unary_item_size homes operation (variable_home homes dest) (variable_home homes operand)
item_size homes g point (Binary operation dest first second) = binary_item_size operation (variable_home homes dest) (variable_home homes first) (variable_home homes second)
item_size homes g point (Jump to) = jump_size homes point to
item_size homes g point (Branch condition then_to else_to) = source_size (variable_home homes condition) + branch_size g point then_to else_to
item_size homes g point (Call dest function args) =
    before_call homes g point dest function args + (1 + after_call_size homes g point dest)
item_size homes g point (Return value) = returned_size homes value + leave_size homes
item_size homes g point (Print args) = print_size homes args
item_size homes g point (Alloc dest count) = fetch_size (variable_home homes count) + (2 + fill_size (variable_home homes dest))
item_size homes g point (Free pointer) = fetch_size (variable_home homes pointer) + 2
item_size homes g point (Store pointer value) = fetch_size (variable_home homes pointer) + (16 + (source_size (variable_home homes value) + 1))
item_size homes g point (Load dest pointer) = fetch_size (variable_home homes pointer) + (20 + target_size (variable_home homes dest))
item_size homes g point Speculate = save_size (speculate_moves homes g point) + mark_size homes
item_size homes g point Commit = mark_size homes
item_size homes g point (Guard condition abort_to) = guard_front_size homes g point condition abort_to + 1

-- where functions begin, where the items of this function begin, and where the item at this point does
module _ (homes : FunctionHomes) (start entry : ℕ → ℕ) (g : SlotFunction) (point here : ℕ) where
  -- the last word of a guard: it is executed where the condition doesn't hold
  abbrev pub abort_word : ℕ → ℕ → Word
  abort_word condition abort_to = Jal 0 (jump_offset (here + guard_front_size homes g point condition abort_to) (entry abort_to))

  -- the words of the item at the point
  abbrev pub item_words : SlotItem → List Word
  item_words Pass = []
  item_words (Constant dest value) = constant_words (register_for 5 (variable_home homes dest)) (word_of value) ++ target_words 5 (variable_home homes dest)
  item_words (Copy dest from) = copied_words homes (homes.home dest) (homes.home from)
  item_words (Unary operation dest operand) = unary_item_words homes operation (variable_home homes dest) (variable_home homes operand)
  item_words (Binary operation dest first second) = binary_item_words operation (variable_home homes dest) (variable_home homes first) (variable_home homes second)
  item_words (Jump to) = jump_words homes entry point here to
  item_words (Branch condition then_to else_to) =
      let home = variable_home homes condition in
      source_words 5 home ++ branch_words g entry point (here + source_size home) (register_for 5 home) then_to else_to
  item_words (Call dest function args) = call_words homes g point here dest function (start function) args
  item_words (Return value) = returned_words homes value ++ leave_words homes
  item_words (Print args) = print_words homes args
  item_words (Alloc dest count) = fetch_words 10 (variable_home homes count) ++ (alloc_words ++ fill_words 10 (variable_home homes dest))
  item_words (Free pointer) = fetch_words 10 (variable_home homes pointer) ++ free_words
  item_words (Store pointer value) =
      fetch_words 5 (variable_home homes pointer) ++ (cell_words ++ (mark_cell_words ++ (source_words 5 (variable_home homes value) ++ store_cell_words (register_for 5 (variable_home homes value)))))
  item_words (Load dest pointer) =
      fetch_words 5 (variable_home homes pointer) ++ (cell_words ++ (load_cell_words (register_for 5 (variable_home homes dest)) ++ target_words 5 (variable_home homes dest)))
  item_words Speculate = save_words (speculate_moves homes g point) ++ mark_words homes
  item_words Commit = mark_words homes
  item_words (Guard condition abort_to) = guard_front homes g point condition abort_to ++ abort_word condition abort_to ∷ []
