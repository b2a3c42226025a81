-- Words by the manual's mnemonics, as an assembler takes them.
use Rattle.std.specs.Prelude.{ℕ, ℤ}
use Rattle.rv64_words.specs.declared.word.Condition.TheVariants as condition
use Rattle.rv64_words.specs.declared.word.ImmediateOperation.TheVariants as immediate
use Rattle.rv64_words.specs.declared.word.RegisterOperation.TheVariants as register
use Rattle.rv64_words.specs.declared.word.ShiftOperation.TheVariants as shift
use Rattle.rv64_words.specs.declared.word.Word.{Word}
use Rattle.rv64_words.specs.declared.word.Word.TheVariants.{Branch, OpImm, ShiftImm, Op}

-- rs1, rs2 and the offset in bytes
abbrev pub beq : ℕ → ℕ → ℤ → Word
beq rs1 rs2 d = Branch condition.Eq rs1 rs2 d

abbrev pub bne : ℕ → ℕ → ℤ → Word
bne rs1 rs2 d = Branch condition.Ne rs1 rs2 d

abbrev pub blt : ℕ → ℕ → ℤ → Word
blt rs1 rs2 d = Branch condition.Lt rs1 rs2 d

abbrev pub bge : ℕ → ℕ → ℤ → Word
bge rs1 rs2 d = Branch condition.Ge rs1 rs2 d

abbrev pub bltu : ℕ → ℕ → ℤ → Word
bltu rs1 rs2 d = Branch condition.Ltu rs1 rs2 d

abbrev pub bgeu : ℕ → ℕ → ℤ → Word
bgeu rs1 rs2 d = Branch condition.Geu rs1 rs2 d

-- rd, rs1 and the immediate
abbrev pub addi : ℕ → ℕ → ℤ → Word
addi rd rs1 i = OpImm immediate.Addi rd rs1 i

abbrev pub slti : ℕ → ℕ → ℤ → Word
slti rd rs1 i = OpImm immediate.Slti rd rs1 i

abbrev pub sltiu : ℕ → ℕ → ℤ → Word
sltiu rd rs1 i = OpImm immediate.Sltiu rd rs1 i

abbrev pub xori : ℕ → ℕ → ℤ → Word
xori rd rs1 i = OpImm immediate.Xori rd rs1 i

abbrev pub ori : ℕ → ℕ → ℤ → Word
ori rd rs1 i = OpImm immediate.Ori rd rs1 i

abbrev pub andi : ℕ → ℕ → ℤ → Word
andi rd rs1 i = OpImm immediate.Andi rd rs1 i

-- rd, rs1 and the amount
abbrev pub slli : ℕ → ℕ → ℕ → Word
slli rd rs1 s = ShiftImm shift.Slli rd rs1 s

abbrev pub srli : ℕ → ℕ → ℕ → Word
srli rd rs1 s = ShiftImm shift.Srli rd rs1 s

abbrev pub srai : ℕ → ℕ → ℕ → Word
srai rd rs1 s = ShiftImm shift.Srai rd rs1 s

-- rd, rs1 and rs2
abbrev pub add : ℕ → ℕ → ℕ → Word
add rd rs1 rs2 = Op register.Add rd rs1 rs2

abbrev pub sll : ℕ → ℕ → ℕ → Word
sll rd rs1 rs2 = Op register.Sll rd rs1 rs2

abbrev pub slt : ℕ → ℕ → ℕ → Word
slt rd rs1 rs2 = Op register.Slt rd rs1 rs2

abbrev pub sltu : ℕ → ℕ → ℕ → Word
sltu rd rs1 rs2 = Op register.Sltu rd rs1 rs2

abbrev pub xor : ℕ → ℕ → ℕ → Word
xor rd rs1 rs2 = Op register.Xor rd rs1 rs2

abbrev pub srl : ℕ → ℕ → ℕ → Word
srl rd rs1 rs2 = Op register.Srl rd rs1 rs2

abbrev pub or : ℕ → ℕ → ℕ → Word
or rd rs1 rs2 = Op register.Or rd rs1 rs2

abbrev pub and : ℕ → ℕ → ℕ → Word
and rd rs1 rs2 = Op register.And rd rs1 rs2

abbrev pub sub : ℕ → ℕ → ℕ → Word
sub rd rs1 rs2 = Op register.Sub rd rs1 rs2

abbrev pub sra : ℕ → ℕ → ℕ → Word
sra rd rs1 rs2 = Op register.Sra rd rs1 rs2

abbrev pub mul : ℕ → ℕ → ℕ → Word
mul rd rs1 rs2 = Op register.Mul rd rs1 rs2

abbrev pub div : ℕ → ℕ → ℕ → Word
div rd rs1 rs2 = Op register.Div rd rs1 rs2
