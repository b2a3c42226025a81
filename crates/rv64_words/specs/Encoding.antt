-- The 32 bits of a word: the base instruction formats and the listings of RV64I and RV64M of the RISC-V Unprivileged
-- ISA manual. opcode is the lowest 7 bits; then follow rd (or the low part of an immediate), funct3, rs1, and 12 bits
-- for rs2 and funct7, or an immediate, or its high part.
use Rattle.std.specs.Prelude.{ℕ, ◌+◌, ◌*◌, ◌/◌, ◌%◌, ◌^◌, ◌==◌, if◌then◌else◌, Option, Some, None}
use Rattle.std.specs.Option.{option_map}
use Rattle.rv64_words.specs.declared.word.Condition.{Condition}
use Rattle.rv64_words.specs.declared.word.Condition.TheVariants as condition
use Rattle.rv64_words.specs.declared.word.ImmediateOperation.{ImmediateOperation}
use Rattle.rv64_words.specs.declared.word.ImmediateOperation.TheVariants as immediate
use Rattle.rv64_words.specs.declared.word.RegisterOperation.{RegisterOperation}
use Rattle.rv64_words.specs.declared.word.RegisterOperation.TheVariants as register
use Rattle.rv64_words.specs.declared.word.ShiftOperation.{ShiftOperation}
use Rattle.rv64_words.specs.declared.word.ShiftOperation.TheVariants as shift
use Rattle.rv64_words.specs.declared.word.Word.{Word}
use Rattle.rv64_words.specs.declared.word.Word.TheVariants.{Lui, Jal, Jalr, Branch, Ld, Sd, OpImm, ShiftImm, Op, Ecall}
use Rattle.rv64_words.specs.Fields.{IsRegister, IsUpper, IsShift, IsImmediate, IsBranchOffset, IsJumpOffset, bits_12, signed_12, bits_13, signed_13, bits_21, signed_21}

-- each field of the word is in its range
abbrev pub IsWord : Word → Type 0
IsWord (Lui rd u) = IsRegister rd × IsUpper u
IsWord (Jal rd d) = IsRegister rd × IsJumpOffset d
IsWord (Jalr rd rs1 i) = IsRegister rd × IsRegister rs1 × IsImmediate i
IsWord (Branch c rs1 rs2 d) = IsRegister rs1 × IsRegister rs2 × IsBranchOffset d
IsWord (Ld rd rs1 i) = IsRegister rd × IsRegister rs1 × IsImmediate i
IsWord (Sd rs1 rs2 i) = IsRegister rs1 × IsRegister rs2 × IsImmediate i
IsWord (OpImm o rd rs1 i) = IsRegister rd × IsRegister rs1 × IsImmediate i
IsWord (ShiftImm o rd rs1 s) = IsRegister rd × IsRegister rs1 × IsShift s
IsWord (Op o rd rs1 rs2) = IsRegister rd × IsRegister rs1 × IsRegister rs2
IsWord Ecall = Unit {0}

-- ---- operations as numbers

-- funct3 of a branch
abbrev pub condition_number : Condition → ℕ
condition_number condition.Eq = 0
condition_number condition.Ne = 1
condition_number condition.Lt = 4
condition_number condition.Ge = 5
condition_number condition.Ltu = 6
condition_number condition.Geu = 7

abbrev pub condition_of : ℕ → Option Condition
condition_of f =
    if f == 0 then Some condition.Eq
    else (if f == 1 then Some condition.Ne
    else (if f == 4 then Some condition.Lt
    else (if f == 5 then Some condition.Ge
    else (if f == 6 then Some condition.Ltu
    else (if f == 7 then Some condition.Geu else None)))))

-- funct3 of an operation with an immediate
abbrev pub immediate_number : ImmediateOperation → ℕ
immediate_number immediate.Addi = 0
immediate_number immediate.Slti = 2
immediate_number immediate.Sltiu = 3
immediate_number immediate.Xori = 4
immediate_number immediate.Ori = 6
immediate_number immediate.Andi = 7

abbrev pub immediate_of : ℕ → Option ImmediateOperation
immediate_of f =
    if f == 0 then Some immediate.Addi
    else (if f == 2 then Some immediate.Slti
    else (if f == 3 then Some immediate.Sltiu
    else (if f == 4 then Some immediate.Xori
    else (if f == 6 then Some immediate.Ori
    else (if f == 7 then Some immediate.Andi else None)))))

-- funct3 of a shift by a constant, and its upper six bits
abbrev pub shift_number : ShiftOperation → ℕ
shift_number shift.Slli = 1
shift_number shift.Srli = 5
shift_number shift.Srai = 5

abbrev pub shift_upper : ShiftOperation → ℕ
shift_upper shift.Slli = 0
shift_upper shift.Srli = 0
shift_upper shift.Srai = 0x10

abbrev pub left_shift_of : ℕ → Option ShiftOperation
left_shift_of upper = if upper == 0 then Some shift.Slli else None

abbrev pub right_shift_of : ℕ → Option ShiftOperation
right_shift_of upper = if upper == 0 then Some shift.Srli else (if upper == 0x10 then Some shift.Srai else None)

-- funct3 and funct7 of an operation on registers
abbrev pub register_number : RegisterOperation → ℕ
register_number register.Add = 0
register_number register.Sll = 1
register_number register.Slt = 2
register_number register.Sltu = 3
register_number register.Xor = 4
register_number register.Srl = 5
register_number register.Or = 6
register_number register.And = 7
register_number register.Sub = 0
register_number register.Sra = 5
register_number register.Mul = 0
register_number register.Div = 4

abbrev pub register_upper : RegisterOperation → ℕ
register_upper register.Sub = 0x20
register_upper register.Sra = 0x20
register_upper register.Mul = 1
register_upper register.Div = 1
register_upper _ = 0

abbrev pub base_operation_of : ℕ → Option RegisterOperation
base_operation_of f =
    if f == 0 then Some register.Add
    else (if f == 1 then Some register.Sll
    else (if f == 2 then Some register.Slt
    else (if f == 3 then Some register.Sltu
    else (if f == 4 then Some register.Xor
    else (if f == 5 then Some register.Srl
    else (if f == 6 then Some register.Or
    else (if f == 7 then Some register.And else None)))))))

abbrev pub other_operation_of : ℕ → Option RegisterOperation
other_operation_of f = if f == 0 then Some register.Sub else (if f == 5 then Some register.Sra else None)

abbrev pub product_operation_of : ℕ → Option RegisterOperation
product_operation_of f = if f == 0 then Some register.Mul else (if f == 4 then Some register.Div else None)

abbrev pub register_of : ℕ → ℕ → Option RegisterOperation
register_of f upper =
    if upper == 0 then base_operation_of f
    else (if upper == 0x20 then other_operation_of f
    else (if upper == 1 then product_operation_of f else None))

-- ---- the bits of a word

-- opcode, rd, funct3, rs1 and what stands above, 12 bits
abbrev pub laid_out : ℕ → ℕ → ℕ → ℕ → ℕ → ℕ
laid_out opcode rd funct3 rs1 above = opcode + 2 ^ 7 * (rd + 2 ^ 5 * (funct3 + 2 ^ 3 * (rs1 + 2 ^ 5 * above)))

-- opcode, rd and 20 bits
abbrev pub laid_out_upper : ℕ → ℕ → ℕ → ℕ
laid_out_upper opcode rd upper = opcode + 2 ^ 7 * (rd + 2 ^ 5 * upper)

-- The 13 bits of a branch's offset, of which bit 0 is 0: bits 4 to 1 and 11, which stand at rd, and bits 12 and 10 to
-- 5, which stand at funct7.
abbrev pub branch_low : ℕ → ℕ
branch_low n = n / 2 ^ 11 % 2 + 2 * (n / 2 % 2 ^ 4)

abbrev pub branch_high : ℕ → ℕ
branch_high n = n / 2 ^ 5 % 2 ^ 6 + 2 ^ 6 * (n / 2 ^ 12)

-- and back
abbrev pub branch_bits : ℕ → ℕ → ℕ
branch_bits low high = 2 * (low / 2) + 2 ^ 5 * (high % 2 ^ 6) + 2 ^ 11 * (low % 2) + 2 ^ 12 * (high / 2 ^ 6)

-- The 21 bits of a jump's offset, of which bit 0 is 0, in the upper 20 bits of its word: bits 20, 10 to 1, 11 and 19
-- to 12, from above.
abbrev pub jump_upper : ℕ → ℕ
jump_upper n = n / 2 ^ 12 % 2 ^ 8 + 2 ^ 8 * (n / 2 ^ 11 % 2) + 2 ^ 9 * (n / 2 % 2 ^ 10) + 2 ^ 19 * (n / 2 ^ 20)

-- and back
abbrev pub jump_bits : ℕ → ℕ
jump_bits u = 2 * (u / 2 ^ 9 % 2 ^ 10) + 2 ^ 11 * (u / 2 ^ 8 % 2) + 2 ^ 12 * (u % 2 ^ 8) + 2 ^ 20 * (u / 2 ^ 19)

abbrev pub encoded : Word → ℕ
encoded (Lui rd u) = laid_out_upper 0x37 rd u
encoded (Jal rd d) = laid_out_upper 0x6F rd (jump_upper (bits_21 d))
encoded (Jalr rd rs1 i) = laid_out 0x67 rd 0 rs1 (bits_12 i)
encoded (Branch c rs1 rs2 d) = laid_out 0x63 (branch_low (bits_13 d)) (condition_number c) rs1 (rs2 + 2 ^ 5 * branch_high (bits_13 d))
encoded (Ld rd rs1 i) = laid_out 0x03 rd 3 rs1 (bits_12 i)
encoded (Sd rs1 rs2 i) = laid_out 0x23 (bits_12 i % 2 ^ 5) 3 rs1 (rs2 + 2 ^ 5 * (bits_12 i / 2 ^ 5))
encoded (OpImm o rd rs1 i) = laid_out 0x13 rd (immediate_number o) rs1 (bits_12 i)
encoded (ShiftImm o rd rs1 s) = laid_out 0x13 rd (shift_number o) rs1 (s + 2 ^ 6 * shift_upper o)
encoded (Op o rd rs1 rs2) = laid_out 0x33 rd (register_number o) rs1 (rs2 + 2 ^ 5 * register_upper o)
encoded Ecall = 0x73

-- ---- the word of some bits

-- the fields of 32 bits
abbrev pub opcode_of : ℕ → ℕ
opcode_of b = b % 2 ^ 7

abbrev pub rd_of : ℕ → ℕ
rd_of b = b / 2 ^ 7 % 2 ^ 5

abbrev pub funct3_of : ℕ → ℕ
funct3_of b = b / 2 ^ 12 % 2 ^ 3

abbrev pub rs1_of : ℕ → ℕ
rs1_of b = b / 2 ^ 15 % 2 ^ 5

-- the upper 20 bits, and the upper 12
abbrev pub upper_of : ℕ → ℕ
upper_of b = b / 2 ^ 12

abbrev pub above_of : ℕ → ℕ
above_of b = b / 2 ^ 20

abbrev pub rs2_of : ℕ → ℕ
rs2_of b = above_of b % 2 ^ 5

abbrev pub funct7_of : ℕ → ℕ
funct7_of b = above_of b / 2 ^ 5

-- the words of an opcode, by funct3
abbrev pub jalr_of : ℕ → ℕ → Option Word
jalr_of f b = if f == 0 then Some (Jalr (rd_of b) (rs1_of b) (signed_12 (above_of b))) else None

abbrev pub branch_of : Option Condition → ℕ → Option Word
branch_of o b = option_map (λ c. Branch c (rs1_of b) (rs2_of b) (signed_13 (branch_bits (rd_of b) (funct7_of b)))) o

abbrev pub load_of : ℕ → ℕ → Option Word
load_of f b = if f == 3 then Some (Ld (rd_of b) (rs1_of b) (signed_12 (above_of b))) else None

abbrev pub store_of : ℕ → ℕ → Option Word
store_of f b = if f == 3 then Some (Sd (rs1_of b) (rs2_of b) (signed_12 (rd_of b + 2 ^ 5 * funct7_of b))) else None

abbrev pub shift_of : Option ShiftOperation → ℕ → Option Word
shift_of o b = option_map (λ s. ShiftImm s (rd_of b) (rs1_of b) (above_of b % 2 ^ 6)) o

abbrev pub op_imm_of : ℕ → ℕ → Option Word
op_imm_of f b =
    if f == 1 then shift_of (left_shift_of (above_of b / 2 ^ 6)) b
    else (if f == 5 then shift_of (right_shift_of (above_of b / 2 ^ 6)) b
    else option_map (λ o. OpImm o (rd_of b) (rs1_of b) (signed_12 (above_of b))) (immediate_of f))

abbrev pub op_of : Option RegisterOperation → ℕ → Option Word
op_of o b = option_map (λ r. Op r (rd_of b) (rs1_of b) (rs2_of b)) o

abbrev pub ecall_of : ℕ → Option Word
ecall_of b = if b == 0x73 then Some Ecall else None

abbrev pub decoded_by : ℕ → ℕ → Option Word
decoded_by opcode b =
    if opcode == 0x37 then Some (Lui (rd_of b) (upper_of b))
    else (if opcode == 0x6F then Some (Jal (rd_of b) (signed_21 (jump_bits (upper_of b))))
    else (if opcode == 0x67 then jalr_of (funct3_of b) b
    else (if opcode == 0x63 then branch_of (condition_of (funct3_of b)) b
    else (if opcode == 0x03 then load_of (funct3_of b) b
    else (if opcode == 0x23 then store_of (funct3_of b) b
    else (if opcode == 0x13 then op_imm_of (funct3_of b) b
    else (if opcode == 0x33 then op_of (register_of (funct3_of b) (funct7_of b)) b
    else ecall_of b)))))))

-- The word whose encoding is b, below 2^32, where there is one.
abbrev pub decoded : ℕ → Option Word
decoded b = decoded_by (opcode_of b) b
