-- How many words sequences and items have.
use Rattle.std.proofs.Common.{◌≡◌, ℕ, suc, ◌+◌, Bool, true, false, cond, eqb, List, [], ◌∷◌, ◌++◌, length, Option, Some, None, refl, ap, arith, length-append}
use Rattle.bril_tree.specs.declared.home.Home.{Home}
use Rattle.bril_tree.specs.declared.home.Home.TheVariants.{Reg, Frame}
use Rattle.bril_tree.specs.declared.operators.BinaryOp.{BinaryOp}
use Rattle.bril_tree.specs.declared.operators.BinaryOp.TheVariants as binary
use Rattle.bril_tree.specs.declared.operators.UnaryOp.{UnaryOp}
use Rattle.bril_tree.specs.declared.operators.UnaryOp.TheVariants as unary
use Rattle.bril_tree.specs.Value.{word_of}
use Rattle.rv64_words.specs.declared.word.Condition.{Condition}
use Rattle.rv64_words.specs.declared.word.Condition.TheVariants as tests
use Rattle.rv64_words.specs.declared.word.Word.{Word}
use Rattle.rv64_words.specs.declared.word.Word.TheVariants.{Jal}
use Rattle.slot_code.specs.declared.item.Printed.{Printed}
use Rattle.slot_code.specs.declared.item.SlotItem.{SlotItem}
use Rattle.slot_code.specs.declared.item.SlotItem.TheVariants.{Pass, Constant, Copy, Unary, Binary, Jump, Branch, Call, Return, Print, Alloc, Free, Store, Load, Speculate, Commit, Guard}
use Rattle.slot_code.specs.declared.slots.SlotFunction.{SlotFunction}
use Rattle.rv64_words_laws.specs.sequences.Operations.{store_cell_words, unary_words, binary_words, unary_size, binary_size, binary_takes_any}
use Rattle.rv64_words_laws.specs.sequences.Moves.{Move, register_for, source_words, source_size, target_words, target_size, copy_words, copy_size, operand_words, operand_size, result_words, result_size, fetch_words, fetch_size, fill_words, fill_size, save_one, save_one_size, save_words, save_size, restore_one, restore_one_size, restore_words, restore_size}
use Rattle.rv64_words_laws.specs.sequences.Sequences.{constant_words, load_words, store_words, frame_by_words, bytes_up, bytes_down, jump_offset, fits_12, fits_32, is_near, constant_size, load_size, store_size, frame_by_size}
use Rattle.rv64_emit_laws.specs.layout.Homes.{FunctionHomes, variable_home, call_moves, guard_moves, speculate_moves}
use Rattle.rv64_emit_laws.specs.layout.Items.{item_size, item_words, unary_item_words, unary_item_size, binary_item_words, binary_item_size, call_result_words, call_result_size, call_words, before_call, after_call, after_call_size, returned_words, returned_size, value_words, spaced_words, spaced_size, print_words, print_size, environment_words, print_call, guard_front, guard_front_size, branch_size, branch_words, copied_size, copied_words, failing_size, is_next, keep_way_size, keep_way_words, leave_size, leave_words, mark_size, mark_words, reaches_over, same_home, skip_size, skip_words, take_way_words, way_size, way_words}
use Rattle.rv64_emit_laws.specs.layout.Passing.{Way, nowhere, stored, swapped, copied, loaded, pass_copies, pass_copies_size, pass_loads, pass_size, pass_stores, pass_words, way_at, with_copy, with_copy_size}
use Rattle.rv64_emit_laws.specs.layout.Reach.{is_in_reach}

-- a list that a test chooses
chosen : (t : Bool) (xs ys : List Word) (m n : ℕ) → length xs ≡ m → length ys ≡ n → length (cond t xs ys) ≡ cond t m n
chosen true xs ys m n first second = first
chosen false xs ys m n first second = second

joined : (xs ys : List Word) (m n : ℕ) → length xs ≡ m → length ys ≡ n → length (xs ++ ys) ≡ m + n
joined xs ys m n first second = omega (arith, length-append xs ys)

pub load_length : (r o : ℕ) → length (load_words r o) ≡ load_size o
load_length r o = chosen (is_near o) _ _ 1 3 refl refl

pub store_length : (r o : ℕ) → length (store_words r o) ≡ store_size o
store_length r o = chosen (is_near o) _ _ 1 3 refl refl

pub constant_length : (r n : ℕ) → length (constant_words r n) ≡ constant_size n
constant_length r n = chosen (fits_12 n) _ _ 1 _ refl (chosen (fits_32 n) _ _ 2 8 refl refl)

pub fetch_length : (r : ℕ) (home : Home) → length (fetch_words r home) ≡ fetch_size home
fetch_length r (Reg s) = refl
fetch_length r (Frame o) = load_length r o

pub fill_length : (r : ℕ) (home : Home) → length (fill_words r home) ≡ fill_size home
fill_length r (Reg s) = refl
fill_length r (Frame o) = store_length r o

pub source_length : (r : ℕ) (home : Home) → length (source_words r home) ≡ source_size home
source_length r (Reg s) = refl
source_length r (Frame o) = load_length r o

pub target_length : (r : ℕ) (home : Home) → length (target_words r home) ≡ target_size home
target_length r (Reg s) = refl
target_length r (Frame o) = store_length r o

pub operand_length : (any : Bool) (r : ℕ) (home : Home) → length (operand_words any r home) ≡ operand_size any home
operand_length true r home = source_length r home
operand_length false r home = fetch_length r home

pub result_length : (any : Bool) (home : Home) → length (result_words any home) ≡ result_size any home
result_length true home = target_length 5 home
result_length false home = fill_length 5 home

pub copy_length : (dest from : Home) → length (copy_words dest from) ≡ copy_size dest from
copy_length dest (Reg s) = fill_length s dest
copy_length dest (Frame o) = joined (load_words (register_for 5 dest) o) (target_words 5 dest) _ _ (load_length (register_for 5 dest) o) (target_length 5 dest)

save_one_length : (home : Home) (o : ℕ) → length (save_one home o) ≡ save_one_size home o
save_one_length (Reg r) o = store_length r o
save_one_length (Frame p) o = joined (load_words 5 p) (store_words 5 o) _ _ (load_length 5 p) (store_length 5 o)

restore_one_length : (home : Home) (o : ℕ) → length (restore_one home o) ≡ restore_one_size home o
restore_one_length (Reg r) o = load_length r o
restore_one_length (Frame p) o = joined (load_words 5 o) (store_words 5 p) _ _ (load_length 5 o) (store_length 5 p)

pub save_length : (moves : List Move) → length (save_words moves) ≡ save_size moves
save_length [] = refl
save_length (m ∷ moves) = joined (save_one m.home m.word) (save_words moves) _ _ (save_one_length m.home m.word) (save_length moves)

pub restore_length : (moves : List Move) → length (restore_words moves) ≡ restore_size moves
restore_length [] = refl
restore_length (m ∷ moves) = joined (restore_one m.home m.word) (restore_words moves) _ _ (restore_one_length m.home m.word) (restore_length moves)

pub frame_by_length : (n : ℕ) → length (frame_by_words n) ≡ frame_by_size n
frame_by_length n = chosen (fits_12 n) _ _ 1 3 refl refl

pub unary_length : (operation : UnaryOp) (d a : ℕ) → length (unary_words operation d a) ≡ unary_size operation
unary_length unary.Not d a = refl
unary_length unary.CharToInt d a = refl
unary_length unary.IntToChar d a = refl

pub binary_length : (operation : BinaryOp) (d a b : ℕ) → length (binary_words operation d a b) ≡ binary_size operation
binary_length binary.Add d a b = refl
binary_length binary.Sub d a b = refl
binary_length binary.Mul d a b = refl
binary_length binary.Div d a b = refl
binary_length binary.Eq d a b = refl
binary_length binary.Lt d a b = refl
binary_length binary.Gt d a b = refl
binary_length binary.Le d a b = refl
binary_length binary.Ge d a b = refl
binary_length binary.Ceq d a b = refl
binary_length binary.Clt d a b = refl
binary_length binary.Cgt d a b = refl
binary_length binary.Cle d a b = refl
binary_length binary.Cge d a b = refl
binary_length binary.And d a b = refl
binary_length binary.Or d a b = refl
binary_length binary.PtrAdd d a b = refl

-- ---- items for which nothing may be to be done

pub mark_length : (homes : FunctionHomes) → length (mark_words homes) ≡ mark_size homes
mark_length homes = chosen homes.marked _ _ 1 0 refl refl

pub copied_length : (homes : FunctionHomes) (dest from : Home) → length (copied_words homes dest from) ≡ copied_size homes dest from
copied_length homes dest from = chosen (same_home dest from) _ _ _ _ (mark_length homes) (copy_length dest from)

-- ---- operations

pub unary_item_length : (homes : FunctionHomes) (operation : UnaryOp) (dest operand : Home) → length (unary_item_words homes operation dest operand) ≡ unary_item_size homes operation dest operand
unary_item_length homes unary.Not dest operand =
    let d = register_for 5 dest in
    let a = register_for 5 operand in
    joined (operand_words true 5 operand) _ _ _ (operand_length true 5 operand) (joined (unary_words unary.Not d a) _ _ _ (unary_length unary.Not d a) (result_length true dest))
unary_item_length homes unary.CharToInt dest operand = copied_length homes dest operand
unary_item_length homes unary.IntToChar dest operand = joined (operand_words false 5 operand) _ _ _ (operand_length false 5 operand) (joined (unary_words unary.IntToChar 5 5) _ _ _ (unary_length unary.IntToChar 5 5) (result_length false dest))

pub binary_item_length : (operation : BinaryOp) (dest first second : Home) → length (binary_item_words operation dest first second) ≡ binary_item_size operation dest first second
binary_item_length operation dest first second =
    let any = binary_takes_any operation in
    joined (operand_words any 5 first) _ _ _ (operand_length any 5 first)
    (joined (operand_words any 7 second) _ _ _ (operand_length any 7 second) (joined (binary_words operation _ _ _) _ _ _ (binary_length operation _ _ _) (result_length any dest)))

-- ---- calls, returns and output

copy_length_with : (w : Way) (words : List Word) (size : ℕ) → length words ≡ size → length (with_copy w words) ≡ with_copy_size w size
copy_length_with nowhere words size same = same
copy_length_with stored words size same = same
copy_length_with (swapped r) words size same = same
copy_length_with (copied r s) words size same = chosen (eqb r s) _ _ _ _ same (ap suc same)
copy_length_with (loaded r o) words size same = same

module _ (homes : FunctionHomes) (g : SlotFunction) (to : ℕ) where
  pub copies_length : (k : ℕ) (args : List ℕ) → length (pass_copies homes g to k args) ≡ pass_copies_size homes g to k args
  copies_length k [] = refl
  copies_length k (a ∷ args) = copy_length_with (way_at homes g to k a args) _ _ (copies_length (suc k) args)

  pub pass_length : (args : List ℕ) → length (pass_words homes g to args) ≡ pass_size homes g to args
  pass_length args =
      let stores = pass_stores homes g to 0 args in
      let loads = pass_loads homes g to 0 args in
      joined (save_words stores) _ _ _ (save_length stores) (joined (pass_copies homes g to 0 args) (restore_words loads) _ _ (copies_length 0 args) (restore_length loads))

pub call_result_length : (homes : FunctionHomes) (dest : Option ℕ) → length (call_result_words homes dest) ≡ call_result_size homes dest
call_result_length homes None = refl
call_result_length homes (Some x) = fill_length 10 (variable_home homes x)

pub returned_length : (homes : FunctionHomes) (value : Option ℕ) → length (returned_words homes value) ≡ returned_size homes value
returned_length homes None = refl
returned_length homes (Some x) = fetch_length 10 (variable_home homes x)

pub spaced_length : (homes : FunctionHomes) (args : List Printed) → length (spaced_words homes args) ≡ spaced_size homes args
spaced_length homes [] = refl
spaced_length homes (a ∷ args) =
    let value = joined (fetch_words 10 (variable_home homes a.variable)) (environment_words (print_call a.kind)) _ 2 (fetch_length 10 (variable_home homes a.variable)) refl in
    let rest = joined (value_words homes a) (spaced_words homes args) _ _ value (spaced_length homes args) in
    omega (arith, rest)

pub print_length : (homes : FunctionHomes) (args : List Printed) → length (print_words homes args) ≡ print_size homes args
print_length homes [] = refl
print_length homes (a ∷ args) =
    let value = joined (fetch_words 10 (variable_home homes a.variable)) (environment_words (print_call a.kind)) _ 2 (fetch_length 10 (variable_home homes a.variable)) refl in
    let rest = joined (spaced_words homes args) (environment_words 5) _ 2 (spaced_length homes args) refl in
    let all = joined (value_words homes a) (spaced_words homes args ++ environment_words 5) _ _ value rest in
    omega (arith, all)

way_length : (g : SlotFunction) (entry : ℕ → ℕ) (point at : ℕ) (leads skips : Condition) (r to : ℕ) → length (way_words g entry point at leads skips r to) ≡ way_size g point to
way_length g entry point at leads skips r to = chosen (is_in_reach g point to) _ _ 1 2 refl refl

pub branch_length : (g : SlotFunction) (entry : ℕ → ℕ) (point at r then_to else_to : ℕ) → length (branch_words g entry point at r then_to else_to) ≡ branch_size g point then_to else_to
branch_length g entry point at r then_to else_to =
    chosen (is_next point else_to) _ _ _ _ (way_length g entry point at tests.Ne tests.Eq r then_to) (chosen (is_next point then_to) _ _ _ 3 (way_length g entry point at tests.Eq tests.Ne r else_to) refl)

pub skip_length : (r count : ℕ) → length (skip_words r count) ≡ skip_size count
skip_length r count = chosen (reaches_over count) _ _ 1 2 refl refl

pub guard_front_length : (homes : FunctionHomes) (g : SlotFunction) (point condition label : ℕ) → length (guard_front homes g point condition label) ≡ guard_front_size homes g point condition label
guard_front_length homes g point condition label =
    let home = variable_home homes condition in
    let count = failing_size homes g point label in
    let moves = guard_moves homes g point label in
    joined (source_words 5 home) _ _ _ (source_length 5 home) (joined (skip_words (register_for 5 home) count) (restore_words moves) _ _ (skip_length (register_for 5 home) count) (restore_length moves))

pub call_length : (homes : FunctionHomes) (g : SlotFunction) (point here : ℕ) (dest : Option ℕ) (function start : ℕ) (args : List ℕ) →
    length (call_words homes g point here dest function start args) ≡ before_call homes g point dest function args + (1 + after_call_size homes g point dest)
call_length homes g point here dest function start args =
    let moves = call_moves homes g point dest in
    let up = frame_by_words (bytes_up g.words) in
    let down = frame_by_words (bytes_down g.words) in
    let reloaded = joined (restore_words moves) (call_result_words homes dest) _ _ (restore_length moves) (call_result_length homes dest) in
    let last = joined down (restore_words moves ++ call_result_words homes dest) _ _ (frame_by_length (bytes_down g.words)) reloaded in
    let back = Jal 1 (jump_offset (here + before_call homes g point dest function args) start) ∷ after_call homes g point dest in
    let upped = joined up back _ (1 + after_call_size homes g point dest) (frame_by_length (bytes_up g.words)) (omega (arith, last)) in
    let passed = joined (pass_words homes g function args) (up ++ back) _ _ (pass_length homes g function args) upped in
    let kept = joined (save_words moves) (pass_words homes g function args ++ (up ++ back)) _ _ (save_length moves) passed in
    omega (arith, kept)

-- ---- what begins a function, and what leaves it

pub keep_way_length : (homes : FunctionHomes) → length (keep_way_words homes) ≡ keep_way_size homes
keep_way_length homes = chosen homes.leaf _ _ 0 1 refl refl

pub leave_length : (homes : FunctionHomes) → length (leave_words homes) ≡ leave_size homes
leave_length homes = joined (take_way_words homes) _ _ 2 (chosen homes.leaf _ _ 0 1 refl refl) refl

-- ---- items

pub item_length : (homes : FunctionHomes) (start entry : ℕ → ℕ) (g : SlotFunction) (point here : ℕ) (item : SlotItem) → length (item_words homes start entry g point here item) ≡ item_size homes g point item
item_length homes start entry g point here Pass = refl
item_length homes start entry g point here (Constant dest value) =
    let home = variable_home homes dest in
    joined (constant_words (register_for 5 home) (word_of value)) _ _ _ (constant_length (register_for 5 home) (word_of value)) (target_length 5 home)
item_length homes start entry g point here (Copy dest from) = copied_length homes (homes.home dest) (homes.home from)
item_length homes start entry g point here (Unary operation dest operand) = unary_item_length homes operation (variable_home homes dest) (variable_home homes operand)
item_length homes start entry g point here (Binary operation dest first second) = binary_item_length operation (variable_home homes dest) (variable_home homes first) (variable_home homes second)
item_length homes start entry g point here (Jump to) = chosen (is_next point to) _ _ _ 1 (mark_length homes) refl
item_length homes start entry g point here (Branch condition then_to else_to) =
    let home = variable_home homes condition in
    joined (source_words 5 home) _ _ _ (source_length 5 home) (branch_length g entry point (here + source_size home) (register_for 5 home) then_to else_to)
item_length homes start entry g point here (Call dest function args) = call_length homes g point here dest function (start function) args
item_length homes start entry g point here (Return value) = joined (returned_words homes value) _ _ _ (returned_length homes value) (leave_length homes)
item_length homes start entry g point here (Print args) = print_length homes args
item_length homes start entry g point here (Alloc dest count) =
    let last = fill_length 10 (variable_home homes dest) in
    joined (fetch_words 10 (variable_home homes count)) _ _ _ (fetch_length 10 (variable_home homes count)) (omega (arith, last))
item_length homes start entry g point here (Free pointer) = joined (fetch_words 10 (variable_home homes pointer)) _ _ 2 (fetch_length 10 (variable_home homes pointer)) refl
item_length homes start entry g point here (Store pointer value) =
    let home = variable_home homes value in
    let last = joined (source_words 5 home) (store_cell_words (register_for 5 home)) _ 1 (source_length 5 home) refl in
    joined (fetch_words 5 (variable_home homes pointer)) _ _ _ (fetch_length 5 (variable_home homes pointer)) (omega (arith, last))
item_length homes start entry g point here (Load dest pointer) =
    let last = target_length 5 (variable_home homes dest) in
    joined (fetch_words 5 (variable_home homes pointer)) _ _ _ (fetch_length 5 (variable_home homes pointer)) (omega (arith, last))
item_length homes start entry g point here Speculate = joined (save_words (speculate_moves homes g point)) _ _ _ (save_length (speculate_moves homes g point)) (mark_length homes)
item_length homes start entry g point here Commit = mark_length homes
item_length homes start entry g point here (Guard condition abort_to) = joined (guard_front homes g point condition abort_to) _ _ 1 (guard_front_length homes g point condition abort_to) refl
