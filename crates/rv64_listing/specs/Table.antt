-- The words by their mnemonics and operands: one table, by which lines are written and read.
use Rattle.std.specs.Prelude.{ℕ, ℤ, pos, List, [], ◌∷◌, Option, Some, None, codes, bytes_eq, if◌then◌else◌}
use Rattle.rv64_words.specs.declared.word.Condition.TheVariants as condition
use Rattle.rv64_words.specs.declared.word.ImmediateOperation.TheVariants as immediate
use Rattle.rv64_words.specs.declared.word.RegisterOperation.TheVariants as register
use Rattle.rv64_words.specs.declared.word.ShiftOperation.TheVariants as shift
use Rattle.rv64_words.specs.declared.word.Word.{Word}
use Rattle.rv64_words.specs.declared.word.Word.TheVariants as word
use Rattle.rv64_listing.specs.declared.form.Form.{Form}
use Rattle.rv64_listing.specs.declared.form.Form.TheVariants.{Lui, Jal, Jalr, Branch, Ld, Sd, OpImm, ShiftImm, Op, Ecall}

-- the mnemonic of a form
abbrev pub name_of : Form → List ℕ
name_of Lui = codes "lui"
name_of Jal = codes "jal"
name_of Jalr = codes "jalr"
name_of (Branch condition.Eq) = codes "beq"
name_of (Branch condition.Ne) = codes "bne"
name_of (Branch condition.Lt) = codes "blt"
name_of (Branch condition.Ge) = codes "bge"
name_of (Branch condition.Ltu) = codes "bltu"
name_of (Branch condition.Geu) = codes "bgeu"
name_of Ld = codes "ld"
name_of Sd = codes "sd"
name_of (OpImm immediate.Addi) = codes "addi"
name_of (OpImm immediate.Slti) = codes "slti"
name_of (OpImm immediate.Sltiu) = codes "sltiu"
name_of (OpImm immediate.Xori) = codes "xori"
name_of (OpImm immediate.Ori) = codes "ori"
name_of (OpImm immediate.Andi) = codes "andi"
name_of (ShiftImm shift.Slli) = codes "slli"
name_of (ShiftImm shift.Srli) = codes "srli"
name_of (ShiftImm shift.Srai) = codes "srai"
name_of (Op register.Add) = codes "add"
name_of (Op register.Sll) = codes "sll"
name_of (Op register.Slt) = codes "slt"
name_of (Op register.Sltu) = codes "sltu"
name_of (Op register.Xor) = codes "xor"
name_of (Op register.Srl) = codes "srl"
name_of (Op register.Or) = codes "or"
name_of (Op register.And) = codes "and"
name_of (Op register.Sub) = codes "sub"
name_of (Op register.Sra) = codes "sra"
name_of (Op register.Mul) = codes "mul"
name_of (Op register.Div) = codes "div"
name_of Ecall = codes "ecall"

-- all forms
abbrev pub forms : List Form
forms =
    Lui ∷ Jal ∷ Jalr
    ∷ Branch condition.Eq ∷ Branch condition.Ne ∷ Branch condition.Lt ∷ Branch condition.Ge ∷ Branch condition.Ltu ∷ Branch condition.Geu
    ∷ Ld ∷ Sd
    ∷ OpImm immediate.Addi ∷ OpImm immediate.Slti ∷ OpImm immediate.Sltiu ∷ OpImm immediate.Xori ∷ OpImm immediate.Ori ∷ OpImm immediate.Andi
    ∷ ShiftImm shift.Slli ∷ ShiftImm shift.Srli ∷ ShiftImm shift.Srai
    ∷ Op register.Add ∷ Op register.Sll ∷ Op register.Slt ∷ Op register.Sltu ∷ Op register.Xor ∷ Op register.Srl ∷ Op register.Or ∷ Op register.And
    ∷ Op register.Sub ∷ Op register.Sra ∷ Op register.Mul ∷ Op register.Div
    ∷ Ecall ∷ []

abbrev pub form_among : List Form → List ℕ → Option Form
form_among [] name = None
form_among (f ∷ fs) name = if bytes_eq name (name_of f) then Some f else form_among fs name

-- the form of a mnemonic
unfoldable pub form_named : List ℕ → Option Form
form_named name = form_among forms name

-- the mnemonic of a line that tells a word by its bits
abbrev pub bits_name : List ℕ
bits_name = codes "word"

-- What stands behind a mnemonic: a register and a number; two registers and a number; a register, a number and an address's
-- register; three registers; nothing.
pub data Operands : Type 0 where
  Nothing : Operands
  Short : (r : ℕ) (n : ℤ) → Operands
  Long : (r s : ℕ) (n : ℤ) → Operands
  At : (r : ℕ) (n : ℤ) (s : ℕ) → Operands
  Three : (r s t : ℕ) → Operands

abbrev pub form_of : Word → Form
form_of (word.Lui rd u) = Lui
form_of (word.Jal rd d) = Jal
form_of (word.Jalr rd rs1 i) = Jalr
form_of (word.Branch c rs1 rs2 d) = Branch c
form_of (word.Ld rd rs1 i) = Ld
form_of (word.Sd rs1 rs2 i) = Sd
form_of (word.OpImm o rd rs1 i) = OpImm o
form_of (word.ShiftImm o rd rs1 s) = ShiftImm o
form_of (word.Op o rd rs1 rs2) = Op o
form_of word.Ecall = Ecall

abbrev pub operands_of : Word → Operands
operands_of (word.Lui rd u) = Short rd (pos u)
operands_of (word.Jal rd d) = Short rd d
operands_of (word.Jalr rd rs1 i) = Long rd rs1 i
operands_of (word.Branch c rs1 rs2 d) = Long rs1 rs2 d
operands_of (word.Ld rd rs1 i) = At rd i rs1
operands_of (word.Sd rs1 rs2 i) = At rs2 i rs1
operands_of (word.OpImm o rd rs1 i) = Long rd rs1 i
operands_of (word.ShiftImm o rd rs1 s) = Long rd rs1 (pos s)
operands_of (word.Op o rd rs1 rs2) = Three rd rs1 rs2
operands_of word.Ecall = Nothing
