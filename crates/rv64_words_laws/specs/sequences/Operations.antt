-- The words of the operations that compute, and those of the memory extension. Most take their operands from any registers and
-- put the result into any; some take them from registers 5 and 7 alone, and put it into 5. Registers 5, 6 and 7 may change; a
-- fault ends the run.
use Rattle.std.specs.Prelude.{ℕ, Bool, true, false, pos, negsuc, List, [], ◌∷◌, ◌++◌, length}
use Rattle.bril_tree.specs.declared.operators.BinaryOp.{BinaryOp}
use Rattle.bril_tree.specs.declared.operators.BinaryOp.TheVariants as binary
use Rattle.bril_tree.specs.declared.operators.UnaryOp.{UnaryOp}
use Rattle.bril_tree.specs.declared.operators.UnaryOp.TheVariants as unary
use Rattle.rv64_words.specs.declared.word.Word.{Word}
use Rattle.rv64_words.specs.declared.word.Word.TheVariants.{Lui, Ld, Sd, Ecall}
use Rattle.rv64_words.specs.Mnemonics.{addi, sltiu, slli, srli, srai, add, sub, slt, or, and, mul, div, beq, bne, bgeu, bltu}
use Rattle.rv64_words_laws.specs.sequences.Sequences.{fault_words}

-- ---- one operand

-- a scalar value of Unicode is below 0x110000, and its bits from bit 11 on are not those of 0xD800
abbrev pub int_to_char_words : List Word
int_to_char_words = Lui 6 0x110 ∷ bgeu 5 6 (pos 16) ∷ srli 6 5 11 ∷ addi 6 6 (negsuc 26) ∷ bne 6 0 (pos 16) ∷ fault_words 2

-- whether the operation takes its operand from any register, and puts its result into any
abbrev pub unary_takes_any : UnaryOp → Bool
unary_takes_any unary.IntToChar = false
unary_takes_any _ = true

-- from register a to register d; the number of a char is its word already
abbrev pub unary_words : UnaryOp → (d a : ℕ) → List Word
unary_words unary.Not d a = sltiu d a (pos 1) ∷ []
unary_words unary.CharToInt d a = []
unary_words unary.IntToChar d a = int_to_char_words

-- how many they are, whatever the registers
abbrev pub unary_size : UnaryOp → ℕ
unary_size operation = length (unary_words operation 0 0)

-- ---- two operands

-- whether the operation takes its operands from any registers, and puts its result into any
abbrev pub binary_takes_any : BinaryOp → Bool
binary_takes_any binary.PtrAdd = false
binary_takes_any _ = true

-- The pointer of register 5 is moved by so many cells as register 7 has: the fault PtrRange where the offset leaves the
-- signed range of 32 bits.
abbrev pub pointer_words : List Word
pointer_words =
    slli 6 5 32 ∷ srai 6 6 32 ∷ add 7 6 7 ∷ slli 6 7 32 ∷ srai 6 6 32 ∷ beq 6 7 (pos 16) ∷ fault_words 10 ++
    srli 5 5 32 ∷ slli 5 5 32 ∷ slli 7 7 32 ∷ srli 7 7 32 ∷ add 5 5 7 ∷ []

-- from registers a and b to register d
module _ (d a b : ℕ) where
  -- they are equal
  abbrev pub same_words : List Word
  same_words = sub 5 a b ∷ sltiu d 5 (pos 1) ∷ []

  -- the first is less than the second, or the second less than the first; and that it isn't so
  abbrev pub less_words : List Word
  less_words = slt d a b ∷ []

  abbrev pub greater_words : List Word
  greater_words = slt d b a ∷ []

  abbrev pub not_greater_words : List Word
  not_greater_words = slt 5 b a ∷ sltiu d 5 (pos 1) ∷ []

  abbrev pub not_less_words : List Word
  not_less_words = slt 5 a b ∷ sltiu d 5 (pos 1) ∷ []

  abbrev pub division_words : List Word
  division_words = bne b 0 (pos 16) ∷ fault_words 1 ++ div d a b ∷ []

abbrev pub binary_words : BinaryOp → (d a b : ℕ) → List Word
binary_words binary.Add d a b = add d a b ∷ []
binary_words binary.Sub d a b = sub d a b ∷ []
binary_words binary.Mul d a b = mul d a b ∷ []
binary_words binary.Div d a b = division_words d a b
binary_words binary.Eq d a b = same_words d a b
binary_words binary.Lt d a b = less_words d a b
binary_words binary.Gt d a b = greater_words d a b
binary_words binary.Le d a b = not_greater_words d a b
binary_words binary.Ge d a b = not_less_words d a b
binary_words binary.Ceq d a b = same_words d a b
binary_words binary.Clt d a b = less_words d a b
binary_words binary.Cgt d a b = greater_words d a b
binary_words binary.Cle d a b = not_greater_words d a b
binary_words binary.Cge d a b = not_less_words d a b
binary_words binary.And d a b = and d a b ∷ []
binary_words binary.Or d a b = or d a b ∷ []
binary_words binary.PtrAdd d a b = pointer_words

-- how many they are, whatever the registers
abbrev pub binary_size : BinaryOp → ℕ
binary_size operation = length (binary_words operation 0 0 0)

-- ---- memory

-- a new block of so many cells as register 10 has; register 10 becomes its pointer
abbrev pub alloc_words : List Word
alloc_words = addi 17 0 (pos 6) ∷ Ecall ∷ []

-- the block of the pointer of register 10 is freed
abbrev pub free_words : List Word
free_words = addi 17 0 (pos 7) ∷ Ecall ∷ []

-- Register 7 becomes the address of the cell to which the pointer of register 5 points: the fault Access where its
-- offset isn't inside a live block.
abbrev pub cell_words : List Word
cell_words =
    srli 6 5 32 ∷ slli 6 6 4 ∷ Lui 7 0x20000 ∷ add 6 6 7 ∷ slli 5 5 32 ∷ srai 5 5 32 ∷ Ld 7 6 (pos 8) ∷ bltu 5 7 (pos 16) ∷
    fault_words 5 ++ Ld 6 6 (pos 0) ∷ slli 5 5 4 ∷ add 7 6 5 ∷ []

-- register d becomes what the cell at the address of register 7 holds: the fault Uninit where nothing was stored there
abbrev pub load_cell_words : ℕ → List Word
load_cell_words d = Ld 5 7 (pos 0) ∷ bne 5 0 (pos 16) ∷ fault_words 6 ++ Ld d 7 (pos 8) ∷ []

-- the cell at the address of register 7 was stored; and it holds register v
abbrev pub mark_cell_words : List Word
mark_cell_words = addi 5 0 (pos 1) ∷ Sd 7 5 (pos 0) ∷ []

abbrev pub store_cell_words : ℕ → List Word
store_cell_words v = Sd 7 v (pos 8) ∷ []
