-- That decoding gives a word back from its bits.
use Rattle.std.proofs.Common.{◌≡◌, ℕ, ◌+◌, ◌*◌, ◌/◌, ◌%◌, ◌-◌, ◌^◌, ◌<◌, ◌≤◌, Bool, true, false, cond, eqb, ltb, ℤ, pos, negsuc, Option, Some, None, refl, ap, ◌∙◌, arith}
use Rattle.std.specs.Option.{option_map}
use Rattle.std.proofs.lemmas.Int.{ints}
use Rattle.std.proofs.lemmas.Bool.{ltb-true, ltb-false, lt-ltb, le-ltb}
use Rattle.rv64_words.specs.declared.word.Condition.{Condition}
use Rattle.rv64_words.specs.declared.word.Condition.TheVariants as condition
use Rattle.rv64_words.specs.declared.word.ImmediateOperation.{ImmediateOperation}
use Rattle.rv64_words.specs.declared.word.ImmediateOperation.TheVariants as immediate
use Rattle.rv64_words.specs.declared.word.RegisterOperation.{RegisterOperation}
use Rattle.rv64_words.specs.declared.word.RegisterOperation.TheVariants as register
use Rattle.rv64_words.specs.declared.word.ShiftOperation.{ShiftOperation}
use Rattle.rv64_words.specs.declared.word.ShiftOperation.TheVariants as shift
use Rattle.rv64_words.specs.declared.word.Word.{Word}
use Rattle.rv64_words.specs.declared.word.Word.TheVariants.{Lui, Jal, Jalr, Branch, Ld, Sd, OpImm, ShiftImm, Op, Ecall}
use Rattle.rv64_words.specs.Fields.{IsImmediate, IsBranchOffset, IsJumpOffset, bits_12, signed_12, bits_13, signed_13, bits_21, signed_21}
use Rattle.rv64_words.specs.Encoding.{IsWord, condition_number, condition_of, immediate_number, immediate_of, shift_number, shift_upper, left_shift_of, right_shift_of, register_number, register_upper, register_of, laid_out, laid_out_upper, branch_low, branch_high, branch_bits, jump_upper, jump_bits, encoded, opcode_of, rd_of, funct3_of, rs1_of, upper_of, above_of, decoded_by, decoded}

-- ---- signed numbers

pub bits_12-below : (i : ℤ) → IsImmediate i → bits_12 i < 4096
bits_12-below (pos n) h = omega (arith, ints)
bits_12-below (negsuc n) h = omega arith

pub signed_12-bits_12 : (i : ℤ) → IsImmediate i → signed_12 (bits_12 i) ≡ i
signed_12-bits_12 (pos n) h = let s : n < 2048 = omega (arith, ints) in rw (lt-ltb n 2048 s) refl
signed_12-bits_12 (negsuc n) h =
    let s : n < 2048 = omega (arith, ints) in
    let k : 2048 ≤ 4095 - n = omega arith in
    let e : 4095 - (4095 - n) ≡ n = omega arith in
    rw (le-ltb (4095 - n) 2048 k, e) refl

IsImmediate_by : (n : ℕ) (t : Bool) → n < 4096 → ltb n 2048 ≡ t → IsImmediate (cond t (pos n) (negsuc (4095 - n)))
IsImmediate_by n true h e = let k = ltb-true n 2048 e in (omega (arith, ints), omega (arith, ints))
IsImmediate_by n false h e = let k = ltb-false n 2048 e in (omega (arith, ints), omega (arith, ints))

pub IsImmediate-signed_12 : (n : ℕ) → n < 4096 → IsImmediate (signed_12 n)
IsImmediate-signed_12 n h = IsImmediate_by n (ltb n 2048) h refl

bits_13-below : (d : ℤ) → IsBranchOffset d → bits_13 d < 8192
bits_13-below (pos n) h = let k = h.1 in omega (arith, ints)
bits_13-below (negsuc n) h = omega arith

signed_13-bits_13 : (d : ℤ) → IsBranchOffset d → signed_13 (bits_13 d) ≡ d
signed_13-bits_13 (pos n) h = let k = h.1 in let s : n < 4096 = omega (arith, ints) in rw (lt-ltb n 4096 s) refl
signed_13-bits_13 (negsuc n) h =
    let j = h.0 in
    let s : n < 4096 = omega (arith, ints) in
    let k : 4096 ≤ 8191 - n = omega arith in
    let e : 8191 - (8191 - n) ≡ n = omega arith in
    rw (le-ltb (8191 - n) 4096 k, e) refl

bits_21-below : (d : ℤ) → IsJumpOffset d → bits_21 d < 2097152
bits_21-below (pos n) h = let k = h.1 in omega (arith, ints)
bits_21-below (negsuc n) h = omega arith

signed_21-bits_21 : (d : ℤ) → IsJumpOffset d → signed_21 (bits_21 d) ≡ d
signed_21-bits_21 (pos n) h = let k = h.1 in let s : n < 1048576 = omega (arith, ints) in rw (lt-ltb n 1048576 s) refl
signed_21-bits_21 (negsuc n) h =
    let j = h.0 in
    let s : n < 1048576 = omega (arith, ints) in
    let k : 1048576 ≤ 2097151 - n = omega arith in
    let e : 2097151 - (2097151 - n) ≡ n = omega arith in
    rw (le-ltb (2097151 - n) 1048576 k, e) refl

-- ---- the offsets of branches and jumps in their fields

branch_low-below : (n : ℕ) → n < 8192 → branch_low n < 32
branch_low-below n h = omega arith

branch_bits-again : (n : ℕ) → n < 8192 → n % 2 ≡ 0 → branch_bits (branch_low n) (branch_high n) ≡ n
branch_bits-again n h even = omega arith

jump_bits-again : (n : ℕ) → n < 2097152 → n % 2 ≡ 0 → jump_bits (jump_upper n) ≡ n
jump_bits-again n h even = omega arith

-- ---- operations and their numbers

condition_again : (c : Condition) → condition_of (condition_number c) ≡ Some c
condition_again condition.Eq = refl
condition_again condition.Ne = refl
condition_again condition.Lt = refl
condition_again condition.Ge = refl
condition_again condition.Ltu = refl
condition_again condition.Geu = refl

condition_below : (c : Condition) → condition_number c < 8
condition_below condition.Eq = omega arith
condition_below condition.Ne = omega arith
condition_below condition.Lt = omega arith
condition_below condition.Ge = omega arith
condition_below condition.Ltu = omega arith
condition_below condition.Geu = omega arith

register_again : (o : RegisterOperation) → register_of (register_number o) (register_upper o) ≡ Some o
register_again register.Add = refl
register_again register.Sll = refl
register_again register.Slt = refl
register_again register.Sltu = refl
register_again register.Xor = refl
register_again register.Srl = refl
register_again register.Or = refl
register_again register.And = refl
register_again register.Sub = refl
register_again register.Sra = refl
register_again register.Mul = refl
register_again register.Div = refl

register_below : (o : RegisterOperation) → register_number o < 8
register_below register.Add = omega arith
register_below register.Sll = omega arith
register_below register.Slt = omega arith
register_below register.Sltu = omega arith
register_below register.Xor = omega arith
register_below register.Srl = omega arith
register_below register.Or = omega arith
register_below register.And = omega arith
register_below register.Sub = omega arith
register_below register.Sra = omega arith
register_below register.Mul = omega arith
register_below register.Div = omega arith

immediate_below : (o : ImmediateOperation) → immediate_number o < 8
immediate_below immediate.Addi = omega arith
immediate_below immediate.Slti = omega arith
immediate_below immediate.Sltiu = omega arith
immediate_below immediate.Xori = omega arith
immediate_below immediate.Ori = omega arith
immediate_below immediate.Andi = omega arith

-- ---- the fields of what is laid out

record HasFields (b opcode rd funct3 rs1 above : ℕ) : Type 0 where
  opcode_is : opcode_of b ≡ opcode
  rd_is : rd_of b ≡ rd
  funct3_is : funct3_of b ≡ funct3
  rs1_is : rs1_of b ≡ rs1
  above_is : above_of b ≡ above

fields : (opcode rd funct3 rs1 above : ℕ) → opcode < 128 → rd < 32 → funct3 < 8 → rs1 < 32 → HasFields (laid_out opcode rd funct3 rs1 above) opcode rd funct3 rs1 above
fields opcode rd funct3 rs1 above o d f s = record {
  opcode_is = omega arith;
  rd_is = omega arith;
  funct3_is = omega arith;
  rs1_is = omega arith;
  above_is = omega arith;
}

-- what the words of an opcode are read from
by_opcode : (b opcode : ℕ) → opcode_of b ≡ opcode → decoded b ≡ decoded_by opcode b
by_opcode b opcode e = ap (λ o. decoded_by o b) e

-- a register, a second one or a number of 5 bits, and what stands above it
low_part : (low high : ℕ) → low < 32 → (low + 2 ^ 5 * high) % 2 ^ 5 ≡ low
low_part low high h = omega arith

high_part : (low high : ℕ) → low < 32 → (low + 2 ^ 5 * high) / 2 ^ 5 ≡ high
high_part low high h = omega arith

shift_low : (s high : ℕ) → s < 64 → (s + 2 ^ 6 * high) % 2 ^ 6 ≡ s
shift_low s high h = omega arith

shift_high : (s high : ℕ) → s < 64 → (s + 2 ^ 6 * high) / 2 ^ 6 ≡ high
shift_high s high h = omega arith

-- ---- decoding gives the word back, by formats

upper_row : (make : ℕ → ℕ → Option Word) (opcode rd u : ℕ) → opcode < 128 → rd < 32
    → ((b : ℕ) → decoded_by opcode b ≡ make (rd_of b) (upper_of b))
    → decoded (laid_out_upper opcode rd u) ≡ make rd u
upper_row make opcode rd u o d at_it =
    let b : ℕ = laid_out_upper opcode rd u in
    let op : opcode_of b ≡ opcode = omega arith in
    let r : rd_of b ≡ rd = omega arith in
    let k : upper_of b ≡ u = omega arith in
    by_opcode b opcode op ∙ (at_it b ∙ (ap (λ x. make x (upper_of b)) r ∙ ap (make rd) k))

row : (make : ℕ → ℕ → ℕ → ℕ → Option Word) (opcode rd funct3 rs1 above : ℕ) → opcode < 128 → rd < 32 → funct3 < 8 → rs1 < 32
    → ((b : ℕ) → decoded_by opcode b ≡ make (rd_of b) (funct3_of b) (rs1_of b) (above_of b))
    → decoded (laid_out opcode rd funct3 rs1 above) ≡ make rd funct3 rs1 above
row make opcode rd funct3 rs1 above o d f s at_it =
    let b : ℕ = laid_out opcode rd funct3 rs1 above in
    let p = fields opcode rd funct3 rs1 above o d f s in
    by_opcode b opcode p.opcode_is
    ∙ (at_it b
    ∙ (ap (λ x. make x (funct3_of b) (rs1_of b) (above_of b)) p.rd_is
    ∙ (ap (λ x. make rd x (rs1_of b) (above_of b)) p.funct3_is
    ∙ (ap (λ x. make rd funct3 x (above_of b)) p.rs1_is
    ∙ ap (make rd funct3 rs1) p.above_is))))

-- the words of each opcode, from their fields
abbrev jump_made : ℕ → ℕ → Option Word
jump_made rd u = Some (Jal rd (signed_21 (jump_bits u)))

abbrev jalr_made : ℕ → ℕ → ℕ → ℕ → Option Word
jalr_made rd f rs1 above = cond (eqb f 0) (Some (Jalr rd rs1 (signed_12 above))) None

abbrev branch_made : ℕ → ℕ → ℕ → ℕ → Option Word
branch_made low f rs1 above = option_map (λ c. Branch c rs1 (above % 2 ^ 5) (signed_13 (branch_bits low (above / 2 ^ 5)))) (condition_of f)

abbrev load_made : ℕ → ℕ → ℕ → ℕ → Option Word
load_made rd f rs1 above = cond (eqb f 3) (Some (Ld rd rs1 (signed_12 above))) None

abbrev store_made : ℕ → ℕ → ℕ → ℕ → Option Word
store_made low f rs1 above = cond (eqb f 3) (Some (Sd rs1 (above % 2 ^ 5) (signed_12 (low + 2 ^ 5 * (above / 2 ^ 5))))) None

abbrev shift_made : Option ShiftOperation → ℕ → ℕ → ℕ → Option Word
shift_made o rd rs1 above = option_map (λ s. ShiftImm s rd rs1 (above % 2 ^ 6)) o

abbrev op_imm_made : ℕ → ℕ → ℕ → ℕ → Option Word
op_imm_made rd f rs1 above =
    cond (eqb f 1) (shift_made (left_shift_of (above / 2 ^ 6)) rd rs1 above)
    (cond (eqb f 5) (shift_made (right_shift_of (above / 2 ^ 6)) rd rs1 above)
    (option_map (λ o. OpImm o rd rs1 (signed_12 above)) (immediate_of f)))

abbrev op_made : ℕ → ℕ → ℕ → ℕ → Option Word
op_made rd f rs1 above = option_map (λ o. Op o rd rs1 (above % 2 ^ 5)) (register_of f (above / 2 ^ 5))

jal_row : (rd : ℕ) (d : ℤ) → rd < 32 → IsJumpOffset d → decoded (encoded (Jal rd d)) ≡ Some (Jal rd d)
jal_row rd d r h =
    let n : bits_21 d < 2097152 = bits_21-below d h in
    upper_row jump_made 0x6F rd (jump_upper (bits_21 d)) (omega arith) r (λ b. refl)
    ∙ ap (λ x. Some (Jal rd x)) (ap signed_21 (jump_bits-again (bits_21 d) n h.2) ∙ signed_21-bits_21 d h)

branch_row : (c : Condition) (rs1 rs2 : ℕ) (d : ℤ) → rs1 < 32 → rs2 < 32 → IsBranchOffset d → decoded (encoded (Branch c rs1 rs2 d)) ≡ Some (Branch c rs1 rs2 d)
branch_row c rs1 rs2 d s t h =
    let n : bits_13 d < 8192 = bits_13-below d h in
    let low : ℕ = branch_low (bits_13 d) in
    let high : ℕ = branch_high (bits_13 d) in
    row branch_made 0x63 low (condition_number c) rs1 (rs2 + 2 ^ 5 * high) (omega arith) (branch_low-below (bits_13 d) n) (condition_below c) s (λ b. refl)
    ∙ (ap (λ x. option_map (λ k. Branch k rs1 x (signed_13 (branch_bits low ((rs2 + 2 ^ 5 * high) / 2 ^ 5)))) (condition_of (condition_number c))) (low_part rs2 high t)
    ∙ (ap (λ x. option_map (λ k. Branch k rs1 rs2 (signed_13 (branch_bits low x))) (condition_of (condition_number c))) (high_part rs2 high t)
    ∙ (ap (option_map (λ k. Branch k rs1 rs2 (signed_13 (branch_bits low high)))) (condition_again c)
    ∙ ap (λ x. Some (Branch c rs1 rs2 x)) (ap signed_13 (branch_bits-again (bits_13 d) n h.2) ∙ signed_13-bits_13 d h))))

store_row : (rs1 rs2 : ℕ) (i : ℤ) → rs1 < 32 → rs2 < 32 → IsImmediate i → decoded (encoded (Sd rs1 rs2 i)) ≡ Some (Sd rs1 rs2 i)
store_row rs1 rs2 i s t h =
    let n : bits_12 i < 4096 = bits_12-below i h in
    let low : ℕ = bits_12 i % 2 ^ 5 in
    let high : ℕ = bits_12 i / 2 ^ 5 in
    let again : low + 2 ^ 5 * high ≡ bits_12 i = omega arith in
    row store_made 0x23 low 3 rs1 (rs2 + 2 ^ 5 * high) (omega arith) (omega arith) (omega arith) s (λ b. refl)
    ∙ (ap (λ x. Some (Sd rs1 x (signed_12 (low + 2 ^ 5 * ((rs2 + 2 ^ 5 * high) / 2 ^ 5))))) (low_part rs2 high t)
    ∙ (ap (λ x. Some (Sd rs1 rs2 (signed_12 (low + 2 ^ 5 * x)))) (high_part rs2 high t)
    ∙ ap (λ x. Some (Sd rs1 rs2 x)) (ap signed_12 again ∙ signed_12-bits_12 i h)))

-- an operation with an immediate isn't a shift
op_imm_row : (o : ImmediateOperation) (rd rs1 : ℕ) (above : ℕ) → op_imm_made rd (immediate_number o) rs1 above ≡ Some (OpImm o rd rs1 (signed_12 above))
op_imm_row immediate.Addi rd rs1 above = refl
op_imm_row immediate.Slti rd rs1 above = refl
op_imm_row immediate.Sltiu rd rs1 above = refl
op_imm_row immediate.Xori rd rs1 above = refl
op_imm_row immediate.Ori rd rs1 above = refl
op_imm_row immediate.Andi rd rs1 above = refl

-- a shift by a constant
shift_row : (o : ShiftOperation) (rd rs1 s : ℕ) → s < 64 → op_imm_made rd (shift_number o) rs1 (s + 2 ^ 6 * shift_upper o) ≡ Some (ShiftImm o rd rs1 s)
shift_row shift.Slli rd rs1 s h = ap (λ u. shift_made (left_shift_of u) rd rs1 (s + 2 ^ 6 * 0)) (shift_high s 0 h) ∙ ap (λ x. Some (ShiftImm shift.Slli rd rs1 x)) (shift_low s 0 h)
shift_row shift.Srli rd rs1 s h = ap (λ u. shift_made (right_shift_of u) rd rs1 (s + 2 ^ 6 * 0)) (shift_high s 0 h) ∙ ap (λ x. Some (ShiftImm shift.Srli rd rs1 x)) (shift_low s 0 h)
shift_row shift.Srai rd rs1 s h = ap (λ u. shift_made (right_shift_of u) rd rs1 (s + 2 ^ 6 * 0x10)) (shift_high s 0x10 h) ∙ ap (λ x. Some (ShiftImm shift.Srai rd rs1 x)) (shift_low s 0x10 h)

shift_below : (o : ShiftOperation) → shift_number o < 8
shift_below shift.Slli = omega arith
shift_below shift.Srli = omega arith
shift_below shift.Srai = omega arith

op_row : (o : RegisterOperation) (rd rs1 rs2 : ℕ) → rs2 < 32 → op_made rd (register_number o) rs1 (rs2 + 2 ^ 5 * register_upper o) ≡ Some (Op o rd rs1 rs2)
op_row o rd rs1 rs2 h =
    ap (λ x. option_map (λ r. Op r rd rs1 x) (register_of (register_number o) ((rs2 + 2 ^ 5 * register_upper o) / 2 ^ 5))) (low_part rs2 (register_upper o) h)
    ∙ (ap (λ x. option_map (λ r. Op r rd rs1 rs2) (register_of (register_number o) x)) (high_part rs2 (register_upper o) h)
    ∙ ap (option_map (λ r. Op r rd rs1 rs2)) (register_again o))

-- decoding gives the word back
pub decoded-encoded : (w : Word) → IsWord w → decoded (encoded w) ≡ Some w
decoded-encoded (Lui rd u) h = upper_row (λ x y. Some (Lui x y)) 0x37 rd u (omega arith) h.0 (λ b. refl)
decoded-encoded (Jal rd d) h = jal_row rd d h.0 h.1
decoded-encoded (Jalr rd rs1 i) h = row jalr_made 0x67 rd 0 rs1 (bits_12 i) (omega arith) h.0 (omega arith) h.1 (λ b. refl) ∙ ap (λ x. Some (Jalr rd rs1 x)) (signed_12-bits_12 i h.2)
decoded-encoded (Branch c rs1 rs2 d) h = branch_row c rs1 rs2 d h.0 h.1 h.2
decoded-encoded (Ld rd rs1 i) h = row load_made 0x03 rd 3 rs1 (bits_12 i) (omega arith) h.0 (omega arith) h.1 (λ b. refl) ∙ ap (λ x. Some (Ld rd rs1 x)) (signed_12-bits_12 i h.2)
decoded-encoded (Sd rs1 rs2 i) h = store_row rs1 rs2 i h.0 h.1 h.2
decoded-encoded (OpImm o rd rs1 i) h =
    row op_imm_made 0x13 rd (immediate_number o) rs1 (bits_12 i) (omega arith) h.0 (immediate_below o) h.1 (λ b. refl)
    ∙ (op_imm_row o rd rs1 (bits_12 i) ∙ ap (λ x. Some (OpImm o rd rs1 x)) (signed_12-bits_12 i h.2))
decoded-encoded (ShiftImm o rd rs1 s) h =
    row op_imm_made 0x13 rd (shift_number o) rs1 (s + 2 ^ 6 * shift_upper o) (omega arith) h.0 (shift_below o) h.1 (λ b. refl) ∙ shift_row o rd rs1 s h.2
decoded-encoded (Op o rd rs1 rs2) h =
    row op_made 0x33 rd (register_number o) rs1 (rs2 + 2 ^ 5 * register_upper o) (omega arith) h.0 (register_below o) h.1 (λ b. refl) ∙ op_row o rd rs1 rs2 h.2
decoded-encoded Ecall h = refl
