-- How many words items, functions and images have at most.
use Rattle.std.proofs.Common.{◌≡◌, ℕ, zero, suc, ◌+◌, ◌*◌, ◌<◌, ◌≤◌, Bool, true, false, cond, eqb, List, [], ◌∷◌, length, Option, Some, None, refl, sym, ap, ◌∙◌, arith}
use Rattle.std.specs.Prelude.{slice_get, option_map}
use Rattle.std.specs.List.{sum_by}
use Rattle.std.proofs.lemmas.List.{length-map}
use Rattle.std.proofs.lemmas.List.Sums.{sum_by-cons}
use Rattle.std.proofs.lemmas.Option.{slice_get-map, slice_get_within}
use Rattle.bril_tree.specs.declared.home.Home.{Home}
use Rattle.bril_tree.specs.declared.home.Home.TheVariants.{Reg, Frame}
use Rattle.bril_tree.specs.declared.operators.BinaryOp.{BinaryOp}
use Rattle.bril_tree.specs.declared.operators.UnaryOp.{UnaryOp}
use Rattle.bril_tree.specs.declared.operators.UnaryOp.TheVariants as unary
use Rattle.bril_tree.specs.declared.numbered.Instr.{Instr}
use Rattle.bril_tree.specs.declared.numbered.Instr.TheVariants.{Label, Const, Act}
use Rattle.bril_tree.specs.declared.numbered_function.Func.{Func}
use Rattle.bril_tree.specs.declared.operation.Op.{Op}
use Rattle.bril_tree.specs.declared.operation.Op.TheVariants as op
use Rattle.bril_tree.specs.declared.program.Prog.{Prog}
use Rattle.bril_tree.specs.declared.types.Ty.{Ty}
use Rattle.bril_tree.specs.FrameWords.{location_count}
use Rattle.bril_tree.specs.Value.{word_of}
use Rattle.bril_tree.proofs.Elements.{get_inside, zip-get, zip-long}
use Rattle.rv64_image_laws.specs.WordBounds.{operation_bound, word_bound, function_bound, word_bounds}
use Rattle.slot_code.specs.declared.item.Printed.{Printed}
use Rattle.slot_code.specs.declared.item.Slot.{Slot}
use Rattle.slot_code.specs.declared.item.SlotItem.{SlotItem}
use Rattle.slot_code.specs.declared.item.SlotItem.TheVariants.{Pass, Constant, Copy, Unary, Binary, Jump, Branch, Call, Return, Print, Alloc, Free, Store, Load, Speculate, Commit, Guard}
use Rattle.slot_code.specs.declared.slots.SlotFunction.{SlotFunction}
use Rattle.slot_code.specs.declared.slots.Slots.{Slots}
use Rattle.slot_code.specs.Lowered.{IsLowered, IsLoweredFunction, lowered_action, lowered_item, printed_as}
use Rattle.rv64_words_laws.specs.sequences.Operations.{unary_size, binary_size, binary_takes_any}
use Rattle.rv64_words_laws.specs.sequences.Moves.{Move, copy_size, save_one_size, save_size, restore_one_size, restore_size}
use Rattle.rv64_words_laws.specs.sequences.Sequences.{constant_size, frame_by_size, bytes_up, bytes_down, fits_12, fits_32}
pub use Rattle.rv64_words_laws.proofs.lemmas.sequences.Sizes.{load_most, store_most, fetch_most, fill_most, source_most, target_most, operand_most, result_most, copy_most}
use Rattle.rv64_emit_laws.specs.layout.Homes.{FunctionHomes, argument_word, variable_home, moves_from, moves_of, guard_moves, speculate_moves}
use Rattle.rv64_emit_laws.specs.layout.Image.{sum_below, size_or_none, size_at, function_size, function_size_or_none, main_size, opening_or_none, start_at}
use Rattle.rv64_emit_laws.specs.layout.Items.{item_size, unary_item_size, binary_item_size, call_result_size, returned_size, spaced_size, print_size, branch_size, copied_size, failing_size, is_next, jump_size, keep_way_size, mark_size, reaches_over, same_home, skip_size, way_size}
use Rattle.rv64_emit_laws.specs.layout.Laid.{AreHomes, HaveHomes}
use Rattle.rv64_emit_laws.specs.layout.Passing.{swapped, copied, comes_from, pass_copies_size, pass_loads, pass_stores, way, with_copy_size, with_load, with_store}
use Rattle.rv64_emit_laws.specs.layout.Reach.{is_in_reach, most_size}
use Rattle.rv64_emit_laws.proofs.lemmas.layout.Joining.{sum_below-most, sum_passes}
pub use Rattle.rv64_emit_laws.proofs.lemmas.layout.Registers.{call_moves_most, call_moves_back_most, opening_most}

-- ---- sequences

of_two : (t : Bool) (m n k : ℕ) → m ≤ k → n ≤ k → cond t m n ≤ k
of_two true m n k first second = first
of_two false m n k first second = second

pub constant_most : (n : ℕ) → constant_size n ≤ 8
constant_most n = of_two (fits_12 n) 1 _ 8 (omega arith) (of_two (fits_32 n) 2 8 8 (omega arith) (omega arith))

save_one_most : (home : Home) (o : ℕ) → save_one_size home o ≤ 6
save_one_most (Reg r) o = omega (arith, store_most o)
save_one_most (Frame p) o = omega (arith, load_most p, store_most o)

restore_one_most : (home : Home) (o : ℕ) → restore_one_size home o ≤ 6
restore_one_most (Reg r) o = omega (arith, load_most o)
restore_one_most (Frame p) o = omega (arith, load_most o, store_most p)

pub save_most : (moves : List Move) → save_size moves ≤ 6 * length moves
save_most [] = omega arith
save_most (m ∷ moves) = omega (arith, save_one_most m.home m.word, save_most moves)

pub restore_most : (moves : List Move) → restore_size moves ≤ 6 * length moves
restore_most [] = omega arith
restore_most (m ∷ moves) = omega (arith, restore_one_most m.home m.word, restore_most moves)

-- there are at most as many moves as slots
moves_few : (homes : FunctionHomes) (first : ℕ) (test : Slot → Bool) (i : ℕ) (slots : List Slot) → length (moves_from homes first test i slots) ≤ length slots
moves_few homes first test i [] = omega arith
moves_few homes first test i (slot ∷ slots) = by (test slot) (moves_few homes first test (suc i) slots)
  where
    by : (t : Bool) → length (moves_from homes first test (suc i) slots) ≤ length slots →
        length (cond t (record { home = homes.home slot; word = first + i } ∷ moves_from homes first test (suc i) slots) (moves_from homes first test (suc i) slots)) ≤ suc (length slots)
    by true few = omega arith
    by false few = omega arith

pub moves_save_most : (homes : FunctionHomes) (g : SlotFunction) (first : ℕ) (test : Slot → Bool) → save_size (moves_of homes g first test) ≤ 6 * length g.slots
moves_save_most homes g first test = omega (arith, save_most (moves_of homes g first test), moves_few homes first test 0 g.slots)

pub moves_restore_most : (homes : FunctionHomes) (g : SlotFunction) (first : ℕ) (test : Slot → Bool) → restore_size (moves_of homes g first test) ≤ 6 * length g.slots
moves_restore_most homes g first test = omega (arith, restore_most (moves_of homes g first test), moves_few homes first test 0 g.slots)

pub frame_by_most : (n : ℕ) → frame_by_size n ≤ 3
frame_by_most n = of_two (fits_12 n) 1 3 3 (omega arith) (omega arith)

pub keep_way_most : (homes : FunctionHomes) → keep_way_size homes ≤ 1
keep_way_most homes = of_two homes.leaf 0 1 1 (omega arith) (omega arith)

way_most : (g : SlotFunction) (point to : ℕ) → way_size g point to ≤ 2
way_most g point to = of_two (is_in_reach g point to) 1 2 2 (omega arith) (omega arith)

pub branch_most : (g : SlotFunction) (point then_to else_to : ℕ) → branch_size g point then_to else_to ≤ 3
branch_most g point then_to else_to =
    of_two (is_next point else_to) (way_size g point then_to) _ 3 (omega (arith, way_most g point then_to)) (of_two (is_next point then_to) (way_size g point else_to) 3 3 (omega (arith, way_most g point else_to)) (omega arith))

some_of_two : (t : Bool) (m n : ℕ) → 1 ≤ m → 1 ≤ n → 1 ≤ cond t m n
some_of_two true m n first second = first
some_of_two false m n first second = second

way_some : (g : SlotFunction) (point to : ℕ) → 1 ≤ way_size g point to
way_some g point to = some_of_two (is_in_reach g point to) 1 2 (omega arith) (omega arith)

pub branch_some : (g : SlotFunction) (point then_to else_to : ℕ) → 1 ≤ branch_size g point then_to else_to
branch_some g point then_to else_to =
    some_of_two (is_next point else_to) (way_size g point then_to) _ (way_some g point then_to) (some_of_two (is_next point then_to) (way_size g point else_to) 3 (way_some g point else_to) (omega arith))

pub skip_most : (count : ℕ) → skip_size count ≤ 2
skip_most count = of_two _ 1 2 2 (omega arith) (omega arith)

pub skip_some : (count : ℕ) → 1 ≤ skip_size count
skip_some count = some_of_two (reaches_over count) 1 2 (omega arith) (omega arith)

-- what one argument adds
module _ (homes : FunctionHomes) (word : ℕ) (later : List ℕ) (stores loads : List Move) (copies count : ℕ) (few : save_size stores + (copies + restore_size loads) ≤ 6 * count) where
  one_passes : (given : Option Home) (from : Home) →
      save_size (with_store (way homes given from later) (record { home = from; word = word }) stores) + (with_copy_size (way homes given from later) copies + restore_size (with_load (way homes given from later) word loads)) ≤ 6 * suc count
  one_passes None from = omega arith
  one_passes (Some (Frame p)) from = omega (arith, save_one_most from word)
  one_passes (Some (Reg r)) (Frame o) = omega (arith, load_most o)
  one_passes (Some (Reg r)) (Reg s) = by (comes_from homes r later)
    where
      same : (t : Bool) → cond t copies (suc copies) ≤ suc copies
      same true = omega arith
      same false = omega arith

      by : (t : Bool) → save_size (with_store (cond t (swapped r) (copied r s)) (record { home = Reg s; word = word }) stores)
          + (with_copy_size (cond t (swapped r) (copied r s)) copies + restore_size (with_load (cond t (swapped r) (copied r s)) word loads)) ≤ 6 * suc count
      by true = omega (arith, store_most word, load_most word)
      by false = omega (arith, same (eqb r s))

pub pass_most : (homes : FunctionHomes) (g : SlotFunction) (to k : ℕ) (args : List ℕ) →
    save_size (pass_stores homes g to k args) + (pass_copies_size homes g to k args + restore_size (pass_loads homes g to k args)) ≤ 6 * length args
pass_most homes g to k [] = omega arith
pass_most homes g to k (a ∷ args) =
    one_passes homes (argument_word g k) args (pass_stores homes g to (suc k) args) (pass_loads homes g to (suc k) args) (pass_copies_size homes g to (suc k) args) (length args) (pass_most homes g to (suc k) args)
    (homes.given to k) (variable_home homes a)

pub call_result_most : (homes : FunctionHomes) (dest : Option ℕ) → call_result_size homes dest ≤ 3
call_result_most homes None = omega arith
call_result_most homes (Some x) = fill_most (variable_home homes x)

pub returned_most : (homes : FunctionHomes) (value : Option ℕ) → returned_size homes value ≤ 3
returned_most homes None = omega arith
returned_most homes (Some x) = fetch_most (variable_home homes x)

spaced_most : (homes : FunctionHomes) (args : List Printed) → spaced_size homes args ≤ 7 * length args
spaced_most homes [] = omega arith
spaced_most homes (a ∷ args) = omega (arith, fetch_most (variable_home homes a.variable), spaced_most homes args)

pub print_most : (homes : FunctionHomes) (args : List Printed) → print_size homes args ≤ 2 + 7 * length args
print_most homes [] = omega arith
print_most homes (a ∷ args) = omega (arith, fetch_most (variable_home homes a.variable), spaced_most homes args)

-- ---- items

pub mark_most : (homes : FunctionHomes) → mark_size homes ≤ 1
mark_most homes = of_two homes.marked 1 0 1 (omega arith) (omega arith)

pub jump_most : (homes : FunctionHomes) (point to : ℕ) → jump_size homes point to ≤ 1
jump_most homes point to = of_two (is_next point to) (mark_size homes) 1 1 (mark_most homes) (omega arith)

pub copied_most : (homes : FunctionHomes) (dest from : Home) → copied_size homes dest from ≤ 6
copied_most homes dest from = of_two (same_home dest from) (mark_size homes) (copy_size dest from) 6 (omega (arith, mark_most homes)) (copy_most dest from)

pub unary_item_most : (homes : FunctionHomes) (operation : UnaryOp) (dest operand : Home) → unary_item_size homes operation dest operand ≤ 6 + unary_size operation
unary_item_most homes unary.Not dest operand = omega (arith, operand_most true operand, result_most true dest)
unary_item_most homes unary.CharToInt dest operand = copied_most homes dest operand
unary_item_most homes unary.IntToChar dest operand = omega (arith, operand_most false operand, result_most false dest)

pub binary_item_most : (operation : BinaryOp) (dest first second : Home) → binary_item_size operation dest first second ≤ 9 + binary_size operation
binary_item_most operation dest first second =
    let any = binary_takes_any operation in
    omega (arith, operand_most any first, operand_most any second, result_most any dest)

module _ (homes : FunctionHomes) (f : Func) (g : SlotFunction) (is : IsLoweredFunction f g) (are : AreHomes g homes) (point : ℕ) where
  pub item_most : (item : SlotItem) → item_size homes g point item ≤ most_size (length g.slots) item
  item_most Pass = omega arith
  item_most (Constant dest value) = omega (arith, constant_most (word_of value), target_most (variable_home homes dest))
  item_most (Copy dest from) = copied_most homes (homes.home dest) (homes.home from)
  item_most (Unary operation dest operand) = unary_item_most homes operation (variable_home homes dest) (variable_home homes operand)
  item_most (Binary operation dest first second) = binary_item_most operation (variable_home homes dest) (variable_home homes first) (variable_home homes second)
  item_most (Jump to) = jump_most homes point to
  item_most (Branch condition then_to else_to) = omega (arith, source_most (variable_home homes condition), branch_most g point then_to else_to)
  item_most (Call dest function args) =
      omega (arith, call_moves_most homes f g is are point dest, call_moves_back_most homes f g is are point dest, pass_most homes g function 0 args, frame_by_most (bytes_up g.words), frame_by_most (bytes_down g.words), call_result_most homes dest)
  item_most (Return value) = omega (arith, returned_most homes value, keep_way_most homes)
  item_most (Print args) = print_most homes args
  item_most (Alloc dest count) = omega (arith, fetch_most (variable_home homes count), fill_most (variable_home homes dest))
  item_most (Free pointer) = omega (arith, fetch_most (variable_home homes pointer))
  item_most (Store pointer value) = omega (arith, fetch_most (variable_home homes pointer), source_most (variable_home homes value))
  item_most (Load dest pointer) = omega (arith, fetch_most (variable_home homes pointer), target_most (variable_home homes dest))
  item_most Speculate = let most : save_size (speculate_moves homes g point) ≤ 6 * length g.slots = moves_save_most homes g _ _ in omega (arith, mark_most homes)
  item_most Commit = mark_most homes
  item_most (Guard condition abort_to) =
      let most : restore_size (guard_moves homes g point abort_to) ≤ 6 * length g.slots = moves_restore_most homes g _ _ in
      omega (arith, source_most (variable_home homes condition), skip_most (failing_size homes g point abort_to))

module _ (f : Func) (locations : ℕ) where
  action_bounded : (operation : Op) (dest : Option ℕ) (ty : Option Ty) (args funcs labels : List ℕ) →
      most_size locations (lowered_action f operation dest ty args funcs labels) ≤ operation_bound operation locations (length args)
  action_bounded op.Print dest ty args funcs labels = omega (arith, length-map args (printed_as f.vars))
  action_bounded op.Undef (Some x) None args funcs labels = omega arith
  action_bounded op.Undef (Some x) (Some t) args funcs labels = omega arith
  action_bounded op.Undef None ty args funcs labels = omega arith
  action_bounded _ None ty args funcs labels = omega arith
  action_bounded _ (Some x) ty args funcs labels = omega arith

  pub instruction_bounded : (item : Instr) → most_size locations (lowered_item f item) ≤ word_bound locations item
  instruction_bounded (Label l) = omega arith
  instruction_bounded (Const dest ty value) = omega arith
  instruction_bounded (Act dest ty operation args funcs labels) = action_bounded operation dest ty args funcs labels

-- ---- sums over lists

module _ {X : Type 0} (count : X → ℕ) where
  abbrev pub count_or_none : Option X → ℕ
  count_or_none None = 0
  count_or_none (Some x) = count x

  first_apart : (counts : ℕ → ℕ) (n : ℕ) → sum_below counts (suc n) ≡ counts 0 + sum_below (λ k. counts (suc k)) n
  first_apart counts zero = omega arith
  first_apart counts (suc n) = omega (arith, first_apart counts n)

  pub sum_of_list : (xs : List X) → sum_below (λ k. count_or_none (slice_get xs k)) (length xs) ≡ sum_by count xs
  sum_of_list [] = refl
  sum_of_list (x ∷ xs) = omega (arith, first_apart (λ k. count_or_none (slice_get (x ∷ xs) k)) (length xs), sum_of_list xs, sum_by-cons count x xs)

  -- an element counts at most as much as all
  pub one_of_sum : (xs : List X) (k : ℕ) (x : X) → slice_get xs k ≡ Some x → count x ≤ sum_by count xs
  one_of_sum xs k x is =
      let counts : ℕ → ℕ = λ i. count_or_none (slice_get xs i) in
      let here : counts k ≡ count x = ap count_or_none is in
      omega (arith, here, sum_passes counts k (length xs) (slice_get_within xs k x is), sum_of_list xs)

-- ---- functions and programs

-- the item of a function that was made into one of the code over slots
pub instruction_at : (f : Func) (g : SlotFunction) → IsLoweredFunction f g → (point : ℕ) (item : SlotItem) → slice_get g.code point ≡ Some item →
    (instr : Instr) × (slice_get f.code point ≡ Some instr) × (item ≡ lowered_item f instr)
instruction_at f g is point item at = by (slice_get f.code point) refl
  where
    made : slice_get g.code point ≡ option_map (lowered_item f) (slice_get f.code point)
    made = ap (λ code. slice_get code point) is.code ∙ slice_get-map (lowered_item f) f.code point

    by : (o : Option Instr) → slice_get f.code point ≡ o → (instr : Instr) × (slice_get f.code point ≡ Some instr) × (item ≡ lowered_item f instr)
    by None e = absurd (let h : Some item ≡ None = sym at ∙ made ∙ ap (option_map (lowered_item f)) e in cc)
    by (Some instr) e = (instr, e, (let h : Some item ≡ Some (lowered_item f instr) = sym at ∙ made ∙ ap (option_map (lowered_item f)) e in cc))

code_length : (f : Func) (g : SlotFunction) → IsLoweredFunction f g → length g.code ≡ length f.code
code_length f g is = ap length is.code ∙ length-map f.code (lowered_item f)

pub function_bounded : (homes : FunctionHomes) (f : Func) (g : SlotFunction) → IsLoweredFunction f g → AreHomes g homes → function_size homes g + 36 ≤ function_bound f
function_bounded homes f g is are = omega (arith, keep_way_most homes, sum_below-most (size_at homes g) bounds each (length g.code), lengths, sum_of_list (word_bound locations) f.code)
  where
    locations : ℕ
    locations = location_count f

    bounds : ℕ → ℕ
    bounds = λ k. count_or_none (word_bound locations) (slice_get f.code k)

    lengths : sum_below bounds (length g.code) ≡ sum_below bounds (length f.code)
    lengths = ap (sum_below bounds) (code_length f g is)

    each : (k : ℕ) → size_at homes g k ≤ bounds k
    each k = by (slice_get g.code k) refl
      where
        by : (o : Option SlotItem) → slice_get g.code k ≡ o → size_or_none homes g k o ≤ bounds k
        by None e = omega arith
        by (Some item) e =
            let w = instruction_at f g is k item e in
            let size = item_most homes f g is are k item in
            let slots : most_size (length g.slots) item ≡ most_size locations (lowered_item f w.0) = ap (λ n. most_size n item) is.count ∙ ap (most_size locations) w.2 in
            let bound : bounds k ≡ word_bound locations w.0 = ap (count_or_none (word_bound locations)) w.1 in
            omega (arith, size, slots, instruction_bounded f locations w.0, bound)

-- the function of the program of which a function of the code over slots was made
pub function_made : (p : Prog) (slots : Slots) → IsLowered p slots → (k : ℕ) (g : SlotFunction) → slice_get slots.funcs k ≡ Some g → (f : Func) × (slice_get p.funcs k ≡ Some f) × IsLoweredFunction f g
function_made p slots is k g e =
    let inside : k < length p.funcs = omega (arith, slice_get_within slots.funcs k g e, zip-long IsLoweredFunction p.funcs slots.funcs is.funcs) in
    let w = get_inside p.funcs k inside in
    (w.0, w.1, zip-get IsLoweredFunction p.funcs slots.funcs k w.0 g is.funcs w.1 e)

-- the arguments of `main` take few words
pub main_most : (homes : ℕ → FunctionHomes) (p : Prog) (slots : Slots) → IsLowered p slots → HaveHomes homes slots → main_size homes slots ≤ 23
main_most homes p slots is have = by (slice_get slots.funcs slots.main) refl
  where
    by : (o : Option SlotFunction) → slice_get slots.funcs slots.main ≡ o → restore_size (opening_or_none (homes slots.main) o) ≤ 23
    by None e = omega arith
    by (Some g) e = let made = function_made p slots is slots.main g e in opening_most (homes slots.main) made.0 g made.2 (have slots.main g e)

pub image_bounded : (homes : ℕ → FunctionHomes) (p : Prog) (slots : Slots) → IsLowered p slots → HaveHomes homes slots → start_at homes slots (length slots.funcs) + 3 ≤ word_bounds p
image_bounded homes p slots is have = omega (arith, main_most homes p slots is have, sum_below-most (λ k. function_size_or_none (homes k) (slice_get slots.funcs k)) bounds each (length slots.funcs), lengths, sum_of_list function_bound p.funcs)
  where
    bounds : ℕ → ℕ
    bounds = λ k. count_or_none function_bound (slice_get p.funcs k)

    lengths : sum_below bounds (length slots.funcs) ≡ sum_below bounds (length p.funcs)
    lengths = ap (sum_below bounds) (sym (zip-long IsLoweredFunction p.funcs slots.funcs is.funcs))

    each : (k : ℕ) → function_size_or_none (homes k) (slice_get slots.funcs k) ≤ bounds k
    each k = by (slice_get slots.funcs k) refl
      where
        by : (o : Option SlotFunction) → slice_get slots.funcs k ≡ o → function_size_or_none (homes k) o ≤ bounds k
        by None e = omega arith
        by (Some g) e =
            let inside : k < length p.funcs = omega (arith, slice_get_within slots.funcs k g e, zip-long IsLoweredFunction p.funcs slots.funcs is.funcs) in
            let w = get_inside p.funcs k inside in
            let bound : bounds k ≡ function_bound w.0 = ap (count_or_none function_bound) w.1 in
            omega (arith, function_bounded (homes k) w.0 g (zip-get IsLoweredFunction p.funcs slots.funcs k w.0 g is.funcs w.1 e) (have k g e), bound)
