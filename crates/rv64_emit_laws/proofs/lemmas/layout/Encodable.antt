-- The words of sequences have encodings.
use Rattle.std.proofs.Common.{◌≡◌, ℕ, suc, ◌+◌, ◌*◌, ◌%◌, ◌-◌, ◌^◌, ◌<◌, ◌≤◌, Bool, true, false, cond, ◌&&◌, eqb, ltb, leb, ℤ, pos, negsuc, List, [], ◌∷◌, ◌++◌, length, refl, ap, arith}
use Rattle.std.proofs.lemmas.Bool.{and_parts, ltb-true, eqb-true}
use Rattle.std.proofs.lemmas.Bool.Decides.{nat_tests}
use Rattle.std.proofs.lemmas.Int.{ints}
use Rattle.std.specs.List.{AllByRecursion}
use Rattle.bril_tree.specs.declared.home.Home.{Home}
use Rattle.bril_tree.specs.declared.home.Home.TheVariants.{Reg, Frame}
use Rattle.rv64_words.specs.declared.word.Condition.{Condition}
use Rattle.rv64_words.specs.declared.word.Condition.TheVariants as tests
use Rattle.rv64_words.specs.declared.word.Word.{Word}
use Rattle.rv64_words.specs.declared.word.Word.TheVariants.{Lui, Jal, Jalr, Branch, Ld, Sd, OpImm, ShiftImm, Op, Ecall}
use Rattle.rv64_words.specs.Encoding.{IsWord}
use Rattle.rv64_words.specs.Fields.{IsImmediate, IsBranchOffset, IsJumpOffset}
use Rattle.rv64_words.proofs.Encodings.{IsImmediate-signed_12}
use Rattle.slot_code.specs.declared.item.Slot.{Slot}
use Rattle.slot_code.specs.declared.slots.SlotFunction.{SlotFunction}
use Rattle.rv64_words_laws.specs.sequences.Moves.{register_for, source_words, target_words, copy_words, operand_register, operand_words, result_words, fetch_words, fill_words, save_one, save_words, restore_one, restore_words}
use Rattle.rv64_emit_laws.specs.layout.Fits.{IsReached}
use Rattle.rv64_emit_laws.specs.layout.Homes.{FunctionHomes, moves_from}
use Rattle.rv64_emit_laws.specs.layout.Items.{branch_size, branch_words, copied_words, is_next, jump_words, mark_words, nop_word, reaches_over, same_home, skip_words, way_size, way_words}
use Rattle.rv64_emit_laws.specs.layout.Reach.{is_in_reach}
use Rattle.rv64_words_laws.specs.sequences.Sequences.{high_part, low_part, constant_words, load_words, store_words, frame_by_words, jump_offset, fits_12, fits_32, is_near}

-- ---- a test of words

abbrev is_immediate : ℤ → Bool
is_immediate (pos n) = ltb n 2048
is_immediate (negsuc n) = ltb n 2048

abbrev is_branch_offset : ℤ → Bool
is_branch_offset (pos n) = ltb n 4096 && eqb (n % 2) 0
is_branch_offset (negsuc n) = ltb n 4096 && eqb (n % 2) 1

abbrev is_jump_offset : ℤ → Bool
is_jump_offset (pos n) = ltb n 1048576 && eqb (n % 2) 0
is_jump_offset (negsuc n) = ltb n 1048576 && eqb (n % 2) 1

abbrev is_word : Word → Bool
is_word (Lui rd u) = ltb rd 32 && ltb u (2 ^ 20)
is_word (Jal rd d) = ltb rd 32 && is_jump_offset d
is_word (Jalr rd rs1 i) = ltb rd 32 && (ltb rs1 32 && is_immediate i)
is_word (Branch c rs1 rs2 d) = ltb rs1 32 && (ltb rs2 32 && is_branch_offset d)
is_word (Ld rd rs1 i) = ltb rd 32 && (ltb rs1 32 && is_immediate i)
is_word (Sd rs1 rs2 i) = ltb rs1 32 && (ltb rs2 32 && is_immediate i)
is_word (OpImm o rd rs1 i) = ltb rd 32 && (ltb rs1 32 && is_immediate i)
is_word (ShiftImm o rd rs1 s) = ltb rd 32 && (ltb rs1 32 && ltb s 64)
is_word (Op o rd rs1 rs2) = ltb rd 32 && (ltb rs1 32 && ltb rs2 32)
is_word Ecall = true

abbrev pub are_words : List Word → Bool
are_words [] = true
are_words (w ∷ ws) = is_word w && are_words ws

pub immediate : (i : ℤ) → is_immediate i ≡ true → IsImmediate i
immediate (pos n) h = let k = ltb-true n 2048 h in (omega (arith, ints), omega (arith, ints))
immediate (negsuc n) h = let k = ltb-true n 2048 h in (omega (arith, ints), omega (arith, ints))

pub branch_offset : (d : ℤ) → is_branch_offset d ≡ true → IsBranchOffset d
branch_offset (pos n) h =
    let parts = and_parts (ltb n 4096) (eqb (n % 2) 0) h in
    let k = ltb-true n 4096 parts.0 in
    let even = eqb-true (n % 2) 0 parts.1 in
    (omega (arith, ints), omega (arith, ints), omega arith)
branch_offset (negsuc n) h =
    let parts = and_parts (ltb n 4096) (eqb (n % 2) 1) h in
    let k = ltb-true n 4096 parts.0 in
    let odd = eqb-true (n % 2) 1 parts.1 in
    (omega (arith, ints), omega (arith, ints), omega arith)

jump_offset_fits : (d : ℤ) → is_jump_offset d ≡ true → IsJumpOffset d
jump_offset_fits (pos n) h =
    let parts = and_parts (ltb n 1048576) (eqb (n % 2) 0) h in
    let k = ltb-true n 1048576 parts.0 in
    let even = eqb-true (n % 2) 0 parts.1 in
    (omega (arith, ints), omega (arith, ints), omega arith)
jump_offset_fits (negsuc n) h =
    let parts = and_parts (ltb n 1048576) (eqb (n % 2) 1) h in
    let k = ltb-true n 1048576 parts.0 in
    let odd = eqb-true (n % 2) 1 parts.1 in
    (omega (arith, ints), omega (arith, ints), omega arith)

word : (w : Word) → is_word w ≡ true → IsWord w
word (Lui rd u) h = let p = and_parts (ltb rd 32) (ltb u (2 ^ 20)) h in (ltb-true rd 32 p.0, ltb-true u (2 ^ 20) p.1)
word (Jal rd d) h = let p = and_parts (ltb rd 32) (is_jump_offset d) h in (ltb-true rd 32 p.0, jump_offset_fits d p.1)
word (Jalr rd rs1 i) h =
    let p = and_parts (ltb rd 32) (ltb rs1 32 && is_immediate i) h in
    let q = and_parts (ltb rs1 32) (is_immediate i) p.1 in
    (ltb-true rd 32 p.0, ltb-true rs1 32 q.0, immediate i q.1)
word (Branch c rs1 rs2 d) h =
    let p = and_parts (ltb rs1 32) (ltb rs2 32 && is_branch_offset d) h in
    let q = and_parts (ltb rs2 32) (is_branch_offset d) p.1 in
    (ltb-true rs1 32 p.0, ltb-true rs2 32 q.0, branch_offset d q.1)
word (Ld rd rs1 i) h =
    let p = and_parts (ltb rd 32) (ltb rs1 32 && is_immediate i) h in
    let q = and_parts (ltb rs1 32) (is_immediate i) p.1 in
    (ltb-true rd 32 p.0, ltb-true rs1 32 q.0, immediate i q.1)
word (Sd rs1 rs2 i) h =
    let p = and_parts (ltb rs1 32) (ltb rs2 32 && is_immediate i) h in
    let q = and_parts (ltb rs2 32) (is_immediate i) p.1 in
    (ltb-true rs1 32 p.0, ltb-true rs2 32 q.0, immediate i q.1)
word (OpImm o rd rs1 i) h =
    let p = and_parts (ltb rd 32) (ltb rs1 32 && is_immediate i) h in
    let q = and_parts (ltb rs1 32) (is_immediate i) p.1 in
    (ltb-true rd 32 p.0, ltb-true rs1 32 q.0, immediate i q.1)
word (ShiftImm o rd rs1 s) h =
    let p = and_parts (ltb rd 32) (ltb rs1 32 && ltb s 64) h in
    let q = and_parts (ltb rs1 32) (ltb s 64) p.1 in
    (ltb-true rd 32 p.0, ltb-true rs1 32 q.0, ltb-true s 64 q.1)
word (Op o rd rs1 rs2) h =
    let p = and_parts (ltb rd 32) (ltb rs1 32 && ltb rs2 32) h in
    let q = and_parts (ltb rs1 32) (ltb rs2 32) p.1 in
    (ltb-true rd 32 p.0, ltb-true rs1 32 q.0, ltb-true rs2 32 q.1)
word Ecall h = tt

-- ---- lists of words

abbrev pub AreWords : List Word → Type 0
AreWords [] = Unit {0}
AreWords (w ∷ ws) = IsWord w × AreWords ws

pub words : (ws : List Word) → are_words ws ≡ true → AreWords ws
words [] h = tt
words (w ∷ ws) h = let p = and_parts (is_word w) (are_words ws) h in (word w p.0, words ws p.1)

pub both : (xs ys : List Word) → AreWords xs → AreWords ys → AreWords (xs ++ ys)
both [] ys front rest = rest
both (x ∷ xs) ys front rest = (front.0, both xs ys front.1 rest)

pub one_of : (t : Bool) (xs ys : List Word) → (t ≡ true → AreWords xs) → (t ≡ false → AreWords ys) → AreWords (cond t xs ys)
one_of true xs ys first second = first refl
one_of false xs ys first second = second refl

-- ---- parts of numbers

pub low : (n : ℕ) → IsImmediate (low_part n)
low n = IsImmediate-signed_12 (n % 4096) (omega arith)

-- ---- the words of a frame

-- a word of a frame that has an encoding
abbrev pub IsFar : ℕ → Type 0
IsFar o = o < 2 ^ 28

near : (o : ℕ) → is_near o ≡ true → IsImmediate (pos (8 * o))
near o h = let k = ltb-true o 256 h in (omega (arith, ints), omega (arith, ints))

pub load_fits : (r o : ℕ) → r < 32 → IsFar o → AreWords (load_words r o)
load_fits r o register far =
    let two : 2 < 32 = omega arith in
    let six : 6 < 32 = omega arith in
    let upper : high_part (8 * o) < 2 ^ 20 = omega arith in
    one_of (is_near o) _ _ (λ h. ((register, two, near o h), tt)) (λ h. ((six, upper), ((six, six, two), ((register, six, low (8 * o)), tt))))

pub store_fits : (r o : ℕ) → r < 32 → IsFar o → AreWords (store_words r o)
store_fits r o register far =
    let two : 2 < 32 = omega arith in
    let six : 6 < 32 = omega arith in
    let upper : high_part (8 * o) < 2 ^ 20 = omega arith in
    one_of (is_near o) _ _ (λ h. ((two, register, near o h), tt)) (λ h. ((six, upper), ((six, six, two), ((six, register, low (8 * o)), tt))))

-- the words between a register and a home, and between a home and a word of the frame
pub fetch_fits : (r : ℕ) (home : Home) → r < 32 → IsReached home → AreWords (fetch_words r home)
fetch_fits r (Reg s) register reached = ((register, reached, omega arith), tt)
fetch_fits r (Frame o) register reached = load_fits r o register (omega arith)

pub fill_fits : (r : ℕ) (home : Home) → r < 32 → IsReached home → AreWords (fill_words r home)
fill_fits r (Reg s) register reached = ((reached, register, omega arith), tt)
fill_fits r (Frame o) register reached = store_fits r o register (omega arith)

-- the register in which operands are found and results are left
pub register_fits : (r : ℕ) (home : Home) → r < 32 → IsReached home → register_for r home < 32
register_fits r (Reg s) register reached = reached
register_fits r (Frame o) register reached = register

pub source_fits : (r : ℕ) (home : Home) → r < 32 → IsReached home → AreWords (source_words r home)
source_fits r (Reg s) register reached = tt
source_fits r (Frame o) register reached = load_fits r o register (omega arith)

pub target_fits : (r : ℕ) (home : Home) → r < 32 → IsReached home → AreWords (target_words r home)
target_fits r (Reg s) register reached = tt
target_fits r (Frame o) register reached = store_fits r o register (omega arith)

pub operand_register_fits : (any : Bool) (r : ℕ) (home : Home) → r < 32 → IsReached home → operand_register any r home < 32
operand_register_fits true r home register reached = register_fits r home register reached
operand_register_fits false r home register reached = register

pub operand_fits : (any : Bool) (r : ℕ) (home : Home) → r < 32 → IsReached home → AreWords (operand_words any r home)
operand_fits true r home register reached = source_fits r home register reached
operand_fits false r home register reached = fetch_fits r home register reached

pub result_fits : (any : Bool) (home : Home) → IsReached home → AreWords (result_words any home)
result_fits true home reached = target_fits 5 home (omega arith) reached
result_fits false home reached = fill_fits 5 home (omega arith) reached

pub copy_fits : (dest from : Home) → IsReached dest → IsReached from → AreWords (copy_words dest from)
copy_fits dest (Reg s) reached_dest reached = fill_fits s dest reached reached_dest
copy_fits dest (Frame o) reached_dest reached =
    let five : 5 < 32 = omega arith in
    both (load_words (register_for 5 dest) o) (target_words 5 dest) (load_fits (register_for 5 dest) o (register_fits 5 dest five reached_dest) (omega arith)) (target_fits 5 dest five reached_dest)

-- items for which nothing may be to be done
pub mark_fits : (homes : FunctionHomes) → AreWords (mark_words homes)
mark_fits homes = one_of homes.marked _ _ (λ h. words (nop_word ∷ []) refl) (λ h. tt)

pub copied_fits : (homes : FunctionHomes) (dest from : Home) → IsReached dest → IsReached from → AreWords (copied_words homes dest from)
copied_fits homes dest from reached_dest reached = one_of (same_home dest from) _ _ (λ h. mark_fits homes) (λ h. copy_fits dest from reached_dest reached)

pub save_one_fits : (home : Home) (o : ℕ) → IsReached home → IsFar o → AreWords (save_one home o)
save_one_fits (Reg r) o reached far = store_fits r o reached far
save_one_fits (Frame p) o reached far = let five : 5 < 32 = omega arith in both (load_words 5 p) (store_words 5 o) (load_fits 5 p five (omega arith)) (store_fits 5 o five far)

pub restore_one_fits : (home : Home) (o : ℕ) → IsReached home → IsFar o → AreWords (restore_one home o)
restore_one_fits (Reg r) o reached far = load_fits r o reached far
restore_one_fits (Frame p) o reached far = let five : 5 < 32 = omega arith in both (load_words 5 o) (store_words 5 p) (load_fits 5 o five far) (store_fits 5 p five (omega arith))

module _ (homes : FunctionHomes) (first : ℕ) (test : Slot → Bool) where
  pub saves_fit : (i : ℕ) (slots : List Slot) → AllByRecursion (λ slot. IsReached (homes.home slot)) slots → first + (i + length slots) ≤ 2 ^ 28 → AreWords (save_words (moves_from homes first test i slots))
  saves_fit i [] reached small = tt
  saves_fit i (slot ∷ slots) reached small = by (test slot) (saves_fit (suc i) slots reached.1 (omega arith))
    where
      by : (t : Bool) → AreWords (save_words (moves_from homes first test (suc i) slots)) →
          AreWords (save_words (cond t (record { home = homes.home slot; word = first + i } ∷ moves_from homes first test (suc i) slots) (moves_from homes first test (suc i) slots)))
      by true rest = both (save_one (homes.home slot) (first + i)) (save_words (moves_from homes first test (suc i) slots)) (save_one_fits (homes.home slot) (first + i) reached.0 (omega arith)) rest
      by false rest = rest

  pub restores_fit : (i : ℕ) (slots : List Slot) → AllByRecursion (λ slot. IsReached (homes.home slot)) slots → first + (i + length slots) ≤ 2 ^ 28 → AreWords (restore_words (moves_from homes first test i slots))
  restores_fit i [] reached small = tt
  restores_fit i (slot ∷ slots) reached small = by (test slot) (restores_fit (suc i) slots reached.1 (omega arith))
    where
      by : (t : Bool) → AreWords (restore_words (moves_from homes first test (suc i) slots)) →
          AreWords (restore_words (cond t (record { home = homes.home slot; word = first + i } ∷ moves_from homes first test (suc i) slots) (moves_from homes first test (suc i) slots)))
      by true rest = both (restore_one (homes.home slot) (first + i)) (restore_words (moves_from homes first test (suc i) slots)) (restore_one_fits (homes.home slot) (first + i) reached.0 (omega arith)) rest
      by false rest = rest

pub constant_fits : (r n : ℕ) → r < 32 → n < 2 ^ 64 → AreWords (constant_words r n)
constant_fits r n register small =
    let none : 0 < 32 = omega arith in
    let twelve : 12 < 64 = omega arith in
    let upper : high_part n % 2 ^ 20 < 2 ^ 20 = omega arith in
    let second = high_part n in
    let third = high_part second in
    let fourth = high_part third in
    let second_small : second ≤ 2 ^ 52 = omega arith in
    let third_small : third ≤ 2 ^ 40 = omega arith in
    let fourth_small : fourth ≤ 2 ^ 28 = omega arith in
    let first_upper : high_part fourth < 2 ^ 20 = omega arith in
    one_of (fits_12 n) _ _ (λ h. ((register, none, low n), tt))
    (λ h. one_of (fits_32 n) _ _ (λ k. ((register, upper), ((register, register, low n), tt)))
    (λ k. ((register, first_upper), ((register, register, low fourth), ((register, register, twelve), ((register, register, low third), ((register, register, twelve), ((register, register, low second), ((register, register, twelve), ((register, register, low n), tt))))))))))

pub frame_by_fits : (n : ℕ) → AreWords (frame_by_words n)
frame_by_fits n =
    let two : 2 < 32 = omega arith in
    let seven : 7 < 32 = omega arith in
    let upper : high_part n % 2 ^ 20 < 2 ^ 20 = omega arith in
    one_of (fits_12 n) _ _ (λ h. ((two, two, low n), tt)) (λ h. ((seven, upper), ((seven, seven, low n), ((two, two, seven), tt))))

-- ---- jumps

-- a jump inside 250,000 words
pub jump_fits : (a b : ℕ) → a ≤ 250000 → b ≤ 250000 → IsJumpOffset (jump_offset a b)
jump_fits a b from to = by (leb a b) refl
  where
    by : (t : Bool) → leb a b ≡ t → IsJumpOffset (cond t (pos (4 * (b - a))) (negsuc (4 * (a - b) - 1)))
    by true h = (omega (arith, ints), omega (arith, ints), omega arith)
    by false h = let k : b < a = grind (arith, nat_tests) in (omega (arith, ints), omega (arith, ints), omega arith)

-- to an item
pub leap_fits : (homes : FunctionHomes) (entry : ℕ → ℕ) (point at to : ℕ) → ((k : ℕ) → entry k ≤ 250000) → at ≤ 250000 → AreWords (jump_words homes entry point at to)
leap_fits homes entry point at to entries few =
    let none : 0 < 32 = omega arith in
    one_of (is_next point to) _ _ (λ h. mark_fits homes) (λ h. ((none, jump_fits at (entry to) few (entries to)), tt))

-- over so many words: one branch where it reaches
pub skip_fits : (r count : ℕ) → r < 32 → suc count ≤ 250000 → AreWords (skip_words r count)
skip_fits r count register few =
    let none : 0 < 32 = omega arith in
    one_of (reaches_over count) _ _ (λ h. ((register, none, reach h), tt)) (λ h. ((register, none, branch_offset (pos 8) refl), ((none, jump_fits 0 (suc count) (omega arith) few), tt)))
  where
    reach : reaches_over count ≡ true → IsBranchOffset (pos (4 * suc count))
    reach h = let k = ltb-true count 1023 h in (omega (arith, ints), omega (arith, ints), omega arith)

-- a branch over at most 1,000 words, from word a to word b
near_fits : (a b : ℕ) → a ≤ b + 1000 → b ≤ a + 1000 → IsBranchOffset (jump_offset a b)
near_fits a b down up = by (leb a b) refl
  where
    by : (t : Bool) → leb a b ≡ t → IsBranchOffset (cond t (pos (4 * (b - a))) (negsuc (4 * (a - b) - 1)))
    by true h = let k : a ≤ b = grind (arith, nat_tests) in (omega (arith, ints), omega (arith, ints), omega arith)
    by false h = let k : b < a = grind (arith, nat_tests) in (omega (arith, ints), omega (arith, ints), omega arith)

-- to one item or to another
module _ (g : SlotFunction) (entry : ℕ → ℕ) (point at : ℕ) (entries : (k : ℕ) → entry k ≤ 250000) (near : (to : ℕ) → is_in_reach g point to ≡ true → (entry to ≤ at + 1000) × (at ≤ entry to + 1000)) where
  way_fits : (leads skips : Condition) (r to : ℕ) → r < 32 → at + way_size g point to ≤ 250000 → AreWords (way_words g entry point at leads skips r to)
  way_fits leads skips r to register few =
      let none : 0 < 32 = omega arith in
      let first = branch_offset (pos 8) refl in
      one_of (is_in_reach g point to) _ _ (λ h. (let apart = near to h in ((register, none, near_fits at (entry to) apart.1 apart.0), tt)))
      (λ h. (let two : way_size g point to ≡ 2 = ap (λ t. cond t 1 2) h in ((register, none, first), ((none, jump_fits (at + 1) (entry to) (omega arith) (entries to)), tt))))

  pub branch_fits : (r then_to else_to : ℕ) → r < 32 → at + branch_size g point then_to else_to ≤ 250000 → AreWords (branch_words g entry point at r then_to else_to)
  branch_fits r then_to else_to register few =
      let none : 0 < 32 = omega arith in
      let first = branch_offset (pos 8) refl in
      one_of (is_next point else_to) _ _
      (λ h. (let size : branch_size g point then_to else_to ≡ way_size g point then_to = ap (λ t. cond t (way_size g point then_to) (cond (is_next point then_to) (way_size g point else_to) 3)) h in
      way_fits tests.Ne tests.Eq r then_to register (omega arith)))
      (λ h. (let size : branch_size g point then_to else_to ≡ cond (is_next point then_to) (way_size g point else_to) 3 = ap (λ t. cond t (way_size g point then_to) (cond (is_next point then_to) (way_size g point else_to) 3)) h in
      one_of (is_next point then_to) _ _
      (λ k. (let other : cond (is_next point then_to) (way_size g point else_to) 3 ≡ way_size g point else_to = ap (λ t. cond t (way_size g point else_to) 3) k in
      way_fits tests.Eq tests.Ne r else_to register (omega arith)))
      (λ k. (let three : cond (is_next point then_to) (way_size g point else_to) 3 ≡ 3 = ap (λ t. cond t (way_size g point else_to) 3) k in (
        (register, none, first),
        ((none, jump_fits (at + 1) (entry then_to) (omega arith) (entries then_to)), ((none, jump_fits (at + 2) (entry else_to) (omega arith) (entries else_to)), tt)),
      )))))
