-- The words of an item that fits have encodings.
use Rattle.std.proofs.Common.{◌≡◌, ℕ, suc, ◌+◌, ◌*◌, ◌^◌, ◌<◌, ◌≤◌, Bool, true, false, cond, eqb, List, [], ◌∷◌, ◌++◌, length, map, Option, Some, None, pos, refl, arith, mul-le-mul_left}
use Rattle.std.specs.List.{AllByRecursion}
use Rattle.std.proofs.lemmas.Int.{ints}
use Rattle.std.proofs.Math.Utf8.{scalar_fits}
use Rattle.bril_tree.specs.declared.operators.BinaryOp.{BinaryOp}
use Rattle.bril_tree.specs.declared.operators.BinaryOp.TheVariants as binary
use Rattle.bril_tree.specs.declared.operators.UnaryOp.{UnaryOp}
use Rattle.bril_tree.specs.declared.operators.UnaryOp.TheVariants as unary
use Rattle.bril_tree.specs.declared.types.Base.{Base}
use Rattle.bril_tree.specs.declared.types.Base.TheVariants as base
use Rattle.bril_tree.specs.declared.value.Value.{Value}
use Rattle.bril_tree.specs.declared.value.Value.TheVariants.{Int, Bool as Boolean, Char, Ptr}
use Rattle.bril_tree.specs.FrameWords.{frame_head}
use Rattle.bril_tree.specs.FunctionForm.{listed}
use Rattle.bril_tree.specs.Value.{IsInRange, word_of}
use Rattle.bril_tree.specs.declared.home.Home.{Home}
use Rattle.bril_tree.specs.declared.home.Home.TheVariants.{Reg, Frame}
use Rattle.rv64_words.specs.declared.word.RegisterOperation.{RegisterOperation}
use Rattle.rv64_words.specs.declared.word.RegisterOperation.TheVariants as register
use Rattle.rv64_words.specs.declared.word.Word.TheVariants.{Jalr, Ld, Sd, Op}
use Rattle.rv64_words.specs.Mnemonics.{addi, bne, div, sltiu}
use Rattle.slot_code.specs.declared.item.Printed.{Printed}
use Rattle.slot_code.specs.declared.item.Slot.TheVariants.{Variable}
use Rattle.slot_code.specs.declared.item.SlotItem.{SlotItem}
use Rattle.slot_code.specs.declared.item.SlotItem.TheVariants.{Pass, Constant, Copy, Unary, Binary, Jump, Branch, Call, Return, Print, Alloc, Free, Store, Load, Speculate, Commit, Guard}
use Rattle.slot_code.specs.declared.slots.SlotFunction.{SlotFunction}
use Rattle.rv64_words_laws.specs.sequences.Operations.{binary_takes_any, unary_words, binary_words, alloc_words, free_words, cell_words, load_cell_words, mark_cell_words, store_cell_words, pointer_words, int_to_char_words}
use Rattle.rv64_words_laws.specs.sequences.Moves.{register_for, source_words, source_size, target_words, operand_register, operand_words, result_register, fetch_words, fill_words, save_one, save_words, restore_one, restore_words}
use Rattle.rv64_words_laws.specs.sequences.Sequences.{constant_words, fault_words, frame_by_words, bytes_up, bytes_down}
use Rattle.rv64_emit_laws.specs.layout.Homes.{FunctionHomes, variable_home, argument_word, depth_at, level_word, call_moves, speculate_moves}
use Rattle.rv64_emit_laws.specs.layout.Fits.{IsReached, ItemFits}
use Rattle.rv64_emit_laws.specs.layout.Items.{item_size, item_words, unary_item_words, binary_item_words, room_words, call_result_words, keep_way_words, take_way_words, leave_words, returned_words, environment_words, print_call, value_words, spaced_words, print_words, guard_front, guard_front_size, before_call, failing_size, skip_words}
use Rattle.rv64_emit_laws.specs.layout.Passing.{Way, swapped, copied, comes_from, pass_copies, pass_loads, pass_stores, pass_words, way, with_copy, with_load, with_store}
use Rattle.rv64_emit_laws.specs.layout.Reach.{is_in_reach}
use Rattle.rv64_emit_laws.proofs.lemmas.layout.Bounding.{skip_some, source_most}
use Rattle.rv64_emit_laws.proofs.lemmas.layout.Encodable.{AreWords, words, both, immediate, branch_offset, branch_fits, fetch_fits, fill_fits, save_one_fits, restore_one_fits, source_fits, target_fits, register_fits, operand_fits, operand_register_fits, result_fits, copied_fits, leap_fits, mark_fits, saves_fit, restores_fit, constant_fits, frame_by_fits, jump_fits, one_of, skip_fits}

none : 0 < 32
none = omega arith

five : 5 < 32
five = omega arith

seven : 7 < 32
seven = omega arith

ten : 10 < 32
ten = omega arith

-- the word of a value is below 2^64
pub word_small : (v : Value) → IsInRange v → word_of v < 2 ^ 64
word_small (Int z) h = omega (arith, ints)
word_small (Boolean true) h = omega arith
word_small (Boolean false) h = omega arith
word_small (Char c) h = omega (arith, scalar_fits c h)
word_small (Ptr block offset) h = omega (arith, ints, h.0)

-- ---- operations

unary_fits : (operation : UnaryOp) (d a : ℕ) → d < 32 → a < 32 → AreWords (unary_words operation d a)
unary_fits unary.Not d a to from = ((to, from, immediate (pos 1) refl), tt)
unary_fits unary.CharToInt d a to from = tt
unary_fits unary.IntToChar d a to from = words int_to_char_words refl

unary_item_fits : (homes : FunctionHomes) (operation : UnaryOp) (dest operand : Home) → IsReached dest → IsReached operand → AreWords (unary_item_words homes operation dest operand)
unary_item_fits homes unary.Not dest operand to from =
    both (operand_words true 5 operand) _ (operand_fits true 5 operand five from)
    (both (unary_words unary.Not (result_register true dest) (operand_register true 5 operand)) _ (unary_fits unary.Not _ _ (operand_register_fits true 5 dest five to) (operand_register_fits true 5 operand five from)) (result_fits true dest to))
unary_item_fits homes unary.CharToInt dest operand to from = copied_fits homes dest operand to from
unary_item_fits homes unary.IntToChar dest operand to from =
    both (operand_words false 5 operand) _ (operand_fits false 5 operand five from) (both int_to_char_words _ (words int_to_char_words refl) (result_fits false dest to))

module _ (d a b : ℕ) (to : d < 32) (first : a < 32) (second : b < 32) where
  -- a comparison, and a test of its result
  tested : (x y : ℕ) (o : RegisterOperation) → x < 32 → y < 32 → AreWords (Op o 5 x y ∷ sltiu d 5 (pos 1) ∷ [])
  tested x y o left right = ((five, left, right), ((to, five, immediate (pos 1) refl), tt))

  binary_fits : (operation : BinaryOp) → AreWords (binary_words operation d a b)
  binary_fits binary.Add = ((to, first, second), tt)
  binary_fits binary.Sub = ((to, first, second), tt)
  binary_fits binary.Mul = ((to, first, second), tt)
  binary_fits binary.Div = ((second, none, branch_offset (pos 16) refl), both (fault_words 1) (div d a b ∷ []) (words (fault_words 1) refl) ((to, first, second), tt))
  binary_fits binary.Eq = tested a b register.Sub first second
  binary_fits binary.Lt = ((to, first, second), tt)
  binary_fits binary.Gt = ((to, second, first), tt)
  binary_fits binary.Le = tested b a register.Slt second first
  binary_fits binary.Ge = tested a b register.Slt first second
  binary_fits binary.Ceq = tested a b register.Sub first second
  binary_fits binary.Clt = ((to, first, second), tt)
  binary_fits binary.Cgt = ((to, second, first), tt)
  binary_fits binary.Cle = tested b a register.Slt second first
  binary_fits binary.Cge = tested a b register.Slt first second
  binary_fits binary.And = ((to, first, second), tt)
  binary_fits binary.Or = ((to, first, second), tt)
  binary_fits binary.PtrAdd = words pointer_words refl

binary_item_fits : (operation : BinaryOp) (dest first second : Home) → IsReached dest → IsReached first → IsReached second → AreWords (binary_item_words operation dest first second)
binary_item_fits operation dest first second to left right =
    let any = binary_takes_any operation in
    both (operand_words any 5 first) _ (operand_fits any 5 first five left)
    (both (operand_words any 7 second) _ (operand_fits any 7 second seven right)
    (both (binary_words operation (result_register any dest) (operand_register any 5 first) (operand_register any 7 second)) _
    (binary_fits _ _ _ (operand_register_fits any 5 dest five to) (operand_register_fits any 5 first five left) (operand_register_fits any 7 second seven right) operation) (result_fits any dest to)))

-- ---- cells

load_cell_fits : (d : ℕ) → d < 32 → AreWords (load_cell_words d)
load_cell_fits d to = both (Ld 5 7 (pos 0) ∷ bne 5 0 (pos 16) ∷ fault_words 6) (Ld d 7 (pos 8) ∷ []) (words (Ld 5 7 (pos 0) ∷ bne 5 0 (pos 16) ∷ fault_words 6) refl) ((to, seven, immediate (pos 8) refl), tt)

store_cell_fits : (v : ℕ) → v < 32 → AreWords (store_cell_words v)
store_cell_fits v from = ((seven, from, immediate (pos 8) refl), tt)

-- ---- what begins a function

pub keep_way_fits : (homes : FunctionHomes) → AreWords (keep_way_words homes)
keep_way_fits homes = one_of homes.leaf _ _ (λ h. tt) (λ h. words (Sd 2 1 (pos 0) ∷ []) refl)

-- and what leaves it
pub leave_fits : (homes : FunctionHomes) → AreWords (leave_words homes)
leave_fits homes =
    let last = addi 8 8 (pos 1) ∷ Jalr 0 1 (pos 0) ∷ [] in
    both (take_way_words homes) last (one_of homes.leaf _ _ (λ h. tt) (λ h. words (Ld 1 2 (pos 0) ∷ []) refl)) (words last refl)

-- ---- items

-- the number of words from the first item's on
module _ (homes : FunctionHomes) (start entry : ℕ → ℕ) (g : SlotFunction) (point here : ℕ) (starts : (f : ℕ) → start f ≤ 250000) (entries : (label : ℕ) → entry label ≤ 250000)
    (near : (to : ℕ) → is_in_reach g point to ≡ true → (entry to ≤ here + 988) × (here ≤ entry to + 988)) where
  -- the words that pass arguments
  record PassFits (to k : ℕ) (args : List ℕ) : Type 0 where
    stores : AreWords (save_words (pass_stores homes g to k args))
    copies : AreWords (pass_copies homes g to k args)
    loads : AreWords (restore_words (pass_loads homes g to k args))

  module _ (to k : ℕ) (args : List ℕ) (small : argument_word g k < 2 ^ 28) (rest : PassFits to (suc k) args) where
    abbrev MoreFit : Way → Home → Type 0
    MoreFit w from =
        AreWords (save_words (with_store w (record { home = from; word = argument_word g k }) (pass_stores homes g to (suc k) args)))
        × AreWords (with_copy w (pass_copies homes g to (suc k) args))
        × AreWords (restore_words (with_load w (argument_word g k) (pass_loads homes g to (suc k) args)))

    more_fits : (given : Option Home) (from : Home) → ((r : ℕ) → given ≡ Some (Reg r) → r < 32) → IsReached from → MoreFit (way homes given from args) from
    more_fits None from registers reached = (rest.stores, rest.copies, rest.loads)
    more_fits (Some (Frame o)) from registers reached = (both (save_one from (argument_word g k)) _ (save_one_fits from (argument_word g k) reached small) rest.stores, rest.copies, rest.loads)
    more_fits (Some (Reg r)) (Frame o) registers reached = (rest.stores, rest.copies, both (restore_one (Reg r) o) _ (restore_one_fits (Reg r) o (registers r refl) (omega arith)) rest.loads)
    more_fits (Some (Reg r)) (Reg s) registers reached = by (comes_from homes r args)
      where
        by : (t : Bool) → MoreFit (cond t (swapped r) (copied r s)) (Reg s)
        by true = (
          both (save_one (Reg s) (argument_word g k)) _ (save_one_fits (Reg s) (argument_word g k) reached small) rest.stores,
          rest.copies,
          both (restore_one (Reg r) (argument_word g k)) _ (restore_one_fits (Reg r) (argument_word g k) (registers r refl) small) rest.loads,
        )
        by false = (rest.stores, one_of (eqb r s) _ _ (λ e. rest.copies) (λ e. ((registers r refl, reached, omega arith), rest.copies)), rest.loads)

  pass_fits : (to : ℕ) → ((j r : ℕ) → homes.given to j ≡ Some (Reg r) → r < 32) → (k : ℕ) (args : List ℕ) → g.words < 2 ^ 26 → k + length args < 2 ^ 27 → AllByRecursion (λ slot. IsReached (homes.home slot)) (map Variable args) → PassFits to k args
  pass_fits to registers k [] frame few slots = record { stores = tt; copies = tt; loads = tt }
  pass_fits to registers k (a ∷ args) frame few slots =
      let more = more_fits to k args (omega arith) (pass_fits to registers (suc k) args frame (omega arith) slots.1) (homes.given to k) (variable_home homes a) (registers k) slots.0 in
      record { stores = more.0; copies = more.1; loads = more.2 }

  call_result_fits : (dest : Option ℕ) (args : List ℕ) → AllByRecursion (λ slot. IsReached (homes.home slot)) (map Variable (listed dest ++ args)) → AreWords (call_result_words homes dest)
  call_result_fits None args slots = tt
  call_result_fits (Some x) args slots = fill_fits 10 (variable_home homes x) ten slots.0

  args_fit : (dest : Option ℕ) (args : List ℕ) → AllByRecursion (λ slot. IsReached (homes.home slot)) (map Variable (listed dest ++ args)) → AllByRecursion (λ slot. IsReached (homes.home slot)) (map Variable args)
  args_fit None args slots = slots
  args_fit (Some x) args slots = slots.1

  returned_fits : (value : Option ℕ) → AllByRecursion (λ slot. IsReached (homes.home slot)) (map Variable (listed value)) → AreWords (returned_words homes value)
  returned_fits None slots = tt
  returned_fits (Some x) slots = fetch_fits 10 (variable_home homes x) ten slots.0

  call_fits : (kind : Base) → AreWords (environment_words (print_call kind))
  call_fits base.Int = words (environment_words 1) refl
  call_fits base.Bool = words (environment_words 2) refl
  call_fits base.Char = words (environment_words 3) refl

  value_fits : (a : Printed) → IsReached (variable_home homes a.variable) → AreWords (value_words homes a)
  value_fits a small = both (fetch_words 10 (variable_home homes a.variable)) (environment_words (print_call a.kind)) (fetch_fits 10 (variable_home homes a.variable) ten small) (call_fits a.kind)

  spaced_fits : (args : List Printed) → AllByRecursion (λ slot. IsReached (homes.home slot)) (map (λ a. Variable a.variable) args) → AreWords (spaced_words homes args)
  spaced_fits [] slots = tt
  spaced_fits (a ∷ args) slots = both (environment_words 4) _ (words (environment_words 4) refl) (both (value_words homes a) (spaced_words homes args) (value_fits a slots.0) (spaced_fits args slots.1))

  print_fits : (args : List Printed) → AllByRecursion (λ slot. IsReached (homes.home slot)) (map (λ a. Variable a.variable) args) → AreWords (print_words homes args)
  print_fits [] slots = words (environment_words 5) refl
  print_fits (a ∷ args) slots =
      both (value_words homes a) _ (value_fits a slots.0) (both (spaced_words homes args) (environment_words 5) (spaced_fits args slots.1) (words (environment_words 5) refl))

  level_fits : (level : ℕ) → length g.slots * (depth_at g point + 2) < 2 ^ 26 → level ≤ suc (depth_at g point) → level_word g level + (0 + length g.slots) ≤ 2 ^ 28
  level_fits level room most =
      let below : length g.slots * level ≤ length g.slots * suc (depth_at g point) = mul-le-mul_left (length g.slots) most in
      let next : length g.slots * (depth_at g point + 2) ≡ length g.slots * suc (depth_at g point) + length g.slots = grind arith in
      omega arith

  -- the words of all slots, from the frame's word 2 on
  own_fits : length g.slots * (depth_at g point + 2) < 2 ^ 26 → frame_head + (0 + length g.slots) ≤ 2 ^ 28
  own_fits room = let least : length g.slots * 1 ≤ length g.slots * (depth_at g point + 2) = mul-le-mul_left (length g.slots) (omega arith) in omega arith

  pub item_encodable : (item : SlotItem) → ItemFits homes g point item → here + item_size homes g point item ≤ 250000 → AreWords (item_words homes start entry g point here item)
  item_encodable Pass fits few = tt
  item_encodable (Constant dest value) fits few =
      let home = variable_home homes dest in
      both (constant_words (register_for 5 home) (word_of value)) (target_words 5 home) (constant_fits (register_for 5 home) (word_of value) (register_fits 5 home five fits.slots.0) (word_small value fits.constant)) (target_fits 5 home five fits.slots.0)
  item_encodable (Copy dest from) fits few = copied_fits homes (homes.home dest) (homes.home from) fits.slots.0 fits.slots.1.0
  item_encodable (Unary operation dest operand) fits few = unary_item_fits homes operation (variable_home homes dest) (variable_home homes operand) fits.slots.0 fits.slots.1.0
  item_encodable (Binary operation dest first second) fits few = binary_item_fits operation (variable_home homes dest) (variable_home homes first) (variable_home homes second) fits.slots.0 fits.slots.1.0 fits.slots.1.1.0
  item_encodable (Jump to) fits few = leap_fits homes entry point here to entries (omega arith)
  item_encodable (Branch condition then_to else_to) fits few =
      let home = variable_home homes condition in
      let size = source_most home in
      both (source_words 5 home) _ (source_fits 5 home five fits.slots.0)
      (branch_fits g entry point (here + source_size home) entries (λ to told. (let apart = near to told in (omega (arith, apart.0), omega (arith, apart.1)))) (register_for 5 home) then_to else_to (register_fits 5 home five fits.slots.0) (omega arith))
  item_encodable (Call dest function args) fits few =
      let moves = call_moves homes g point dest in
      let room = own_fits fits.levels in
      let passes = pass_fits function (fits.given function) 0 args fits.frame (let n = fits.passed in omega arith) (args_fit dest args fits.slots) in
      both room_words _ (words room_words refl)
      (both (save_words moves) _ (saves_fit homes 2 _ 0 g.slots fits.all_slots room)
      (both (pass_words homes g function args) _ (both (save_words (pass_stores homes g function 0 args)) _ passes.stores (both (pass_copies homes g function 0 args) _ passes.copies passes.loads))
      (both (frame_by_words (bytes_up g.words)) _ (frame_by_fits (bytes_up g.words)) (
        (omega arith, jump_fits (here + before_call homes g point dest function args) (start function) (omega arith) (starts function)),
        both (frame_by_words (bytes_down g.words)) _ (frame_by_fits (bytes_down g.words))
            (both (restore_words moves) (call_result_words homes dest) (restores_fit homes 2 _ 0 g.slots fits.all_slots room) (call_result_fits dest args fits.slots)),
      ))))
  item_encodable (Return value) fits few = both (returned_words homes value) (leave_words homes) (returned_fits value fits.slots) (leave_fits homes)
  item_encodable (Print args) fits few = print_fits args fits.slots
  item_encodable (Alloc dest count) fits few =
      both (fetch_words 10 (variable_home homes count)) _ (fetch_fits 10 (variable_home homes count) ten fits.slots.1.0)
      (both alloc_words (fill_words 10 (variable_home homes dest)) (words alloc_words refl) (fill_fits 10 (variable_home homes dest) ten fits.slots.0))
  item_encodable (Free pointer) fits few = both (fetch_words 10 (variable_home homes pointer)) free_words (fetch_fits 10 (variable_home homes pointer) ten fits.slots.0) (words free_words refl)
  item_encodable (Store pointer value) fits few =
      let home = variable_home homes value in
      both (fetch_words 5 (variable_home homes pointer)) _ (fetch_fits 5 (variable_home homes pointer) five fits.slots.0)
      (both cell_words (mark_cell_words ++ (source_words 5 home ++ store_cell_words (register_for 5 home))) (words cell_words refl) (both mark_cell_words _ (words mark_cell_words refl)
      (both (source_words 5 home) (store_cell_words (register_for 5 home)) (source_fits 5 home five fits.slots.1.0) (store_cell_fits (register_for 5 home) (register_fits 5 home five fits.slots.1.0)))))
  item_encodable (Load dest pointer) fits few =
      let home = variable_home homes dest in
      both (fetch_words 5 (variable_home homes pointer)) _ (fetch_fits 5 (variable_home homes pointer) five fits.slots.1.0)
      (both cell_words (load_cell_words (register_for 5 home) ++ target_words 5 home) (words cell_words refl)
      (both (load_cell_words (register_for 5 home)) (target_words 5 home) (load_cell_fits (register_for 5 home) (register_fits 5 home five fits.slots.0)) (target_fits 5 home five fits.slots.0)))
  item_encodable Speculate fits few =
      both (save_words (speculate_moves homes g point)) _
      (saves_fit homes (level_word g (suc (depth_at g point))) _ 0 g.slots fits.all_slots (level_fits (suc (depth_at g point)) fits.levels (omega arith))) (mark_fits homes)
  item_encodable Commit fits few = mark_fits homes
  item_encodable (Guard condition abort_to) fits few =
      let home = variable_home homes condition in
      let size = guard_front_size homes g point condition abort_to in
      let count = failing_size homes g point abort_to in
      let some = skip_some count in
      both (guard_front homes g point condition abort_to) _
      (both (source_words 5 home) _ (source_fits 5 home five fits.slots.0)
      (both (skip_words (register_for 5 home) count) _ (skip_fits (register_for 5 home) count (register_fits 5 home five fits.slots.0) (omega arith))
      (restores_fit homes (level_word g (depth_at g point)) _ 0 g.slots fits.all_slots (level_fits (depth_at g point) fits.levels (omega arith)))))
      ((omega arith, jump_fits (here + size) (entry abort_to) (omega arith) (entries abort_to)), tt)
