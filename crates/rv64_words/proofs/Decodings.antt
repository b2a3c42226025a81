-- What bits decode as is a word, and encodes as the bits.
use Rattle.std.proofs.Common.{◌≡◌, ℕ, ◌+◌, ◌*◌, ◌/◌, ◌%◌, ◌-◌, ◌^◌, ◌<◌, cond, eqb, ltb, Option, Some, None, refl, sym, ap, subst, ◌∙◌, ⊎_elim, arith}
use Rattle.std.specs.Prelude.{pos, negsuc}
use Rattle.std.specs.Option.{option_map}
use Rattle.std.proofs.lemmas.Int.{ints}
use Rattle.std.proofs.lemmas.Bool.{cases_eq, eq-eqb, ne_eqb, cases_lt, lt-ltb, le-ltb}
use Rattle.rv64_words.specs.declared.word.Condition.{Condition}
use Rattle.rv64_words.specs.declared.word.Condition.TheVariants as condition
use Rattle.rv64_words.specs.declared.word.ImmediateOperation.{ImmediateOperation}
use Rattle.rv64_words.specs.declared.word.ImmediateOperation.TheVariants as immediate
use Rattle.rv64_words.specs.declared.word.RegisterOperation.{RegisterOperation}
use Rattle.rv64_words.specs.declared.word.RegisterOperation.TheVariants as register
use Rattle.rv64_words.specs.declared.word.ShiftOperation.{ShiftOperation}
use Rattle.rv64_words.specs.declared.word.ShiftOperation.TheVariants as shift
use Rattle.rv64_words.specs.declared.word.Word.{Word}
use Rattle.rv64_words.specs.declared.word.Word.TheVariants.{Lui, Jal, Jalr, Branch, Ld, Sd, OpImm, ShiftImm, Op, Ecall}
use Rattle.rv64_words.specs.Fields.{IsImmediate, IsBranchOffset, IsJumpOffset, bits_12, signed_12, bits_13, signed_13, bits_21, signed_21}
use Rattle.rv64_words.specs.Encoding.{IsWord, condition_number, condition_of, immediate_number, shift_number, shift_upper, register_number, register_upper, register_of, laid_out, laid_out_upper, branch_low, branch_high, branch_bits, jump_upper, jump_bits, encoded, opcode_of, rd_of, funct3_of, rs1_of, rs2_of, funct7_of, upper_of, above_of, decoded, jalr_of, branch_of, load_of, store_of, shift_of, op_imm_of, op_of}
use Rattle.rv64_words.proofs.Encodings.{IsImmediate-signed_12}

-- The bits are those of this word.
pub record IsOf (b : ℕ) (w : Word) : Type 0 where
  pub word : IsWord w
  pub bits : encoded w ≡ b

abbrev Of : ℕ → Option Word → Type 0
Of b None = Unit {0}
Of b (Some w) = IsOf b w

bits_12-signed_12 : (n : ℕ) → n < 4096 → bits_12 (signed_12 n) ≡ n
bits_12-signed_12 n h = ⊎_elim
    (λ a. ap bits_12 (let e : signed_12 n ≡ pos n = rw (lt-ltb n 2048 a) refl in e))
    (λ a. ap bits_12 (let e : signed_12 n ≡ negsuc (4095 - n) = rw (le-ltb n 2048 a) refl in e) ∙ (let e : 4095 - (4095 - n) ≡ n = omega arith in e))
    (cases_lt n 2048)

bits_13-signed_13 : (n : ℕ) → n < 8192 → bits_13 (signed_13 n) ≡ n
bits_13-signed_13 n h = ⊎_elim
    (λ a. ap bits_13 (let e : signed_13 n ≡ pos n = rw (lt-ltb n 4096 a) refl in e))
    (λ a. ap bits_13 (let e : signed_13 n ≡ negsuc (8191 - n) = rw (le-ltb n 4096 a) refl in e) ∙ (let e : 8191 - (8191 - n) ≡ n = omega arith in e))
    (cases_lt n 4096)

bits_21-signed_21 : (n : ℕ) → n < 2097152 → bits_21 (signed_21 n) ≡ n
bits_21-signed_21 n h = ⊎_elim
    (λ a. ap bits_21 (let e : signed_21 n ≡ pos n = rw (lt-ltb n 1048576 a) refl in e))
    (λ a. ap bits_21 (let e : signed_21 n ≡ negsuc (2097151 - n) = rw (le-ltb n 1048576 a) refl in e) ∙ (let e : 2097151 - (2097151 - n) ≡ n = omega arith in e))
    (cases_lt n 1048576)

offset_13 : (n : ℕ) → n < 8192 → n % 2 ≡ 0 → IsBranchOffset (signed_13 n)
offset_13 n h even = ⊎_elim
    (λ a. subst IsBranchOffset (sym (let e : signed_13 n ≡ pos n = rw (lt-ltb n 4096 a) refl in e)) (omega (arith, ints), omega (arith, ints), even))
    (λ a. subst IsBranchOffset (sym (let e : signed_13 n ≡ negsuc (8191 - n) = rw (le-ltb n 4096 a) refl in e)) (omega (arith, ints), omega (arith, ints), (let k : (8191 - (8191 - n)) % 2 ≡ 0 = omega arith in k)))
    (cases_lt n 4096)

offset_21 : (n : ℕ) → n < 2097152 → n % 2 ≡ 0 → IsJumpOffset (signed_21 n)
offset_21 n h even = ⊎_elim
    (λ a. subst IsJumpOffset (sym (let e : signed_21 n ≡ pos n = rw (lt-ltb n 1048576 a) refl in e)) (omega (arith, ints), omega (arith, ints), even))
    (λ a. subst IsJumpOffset (sym (let e : signed_21 n ≡ negsuc (2097151 - n) = rw (le-ltb n 1048576 a) refl in e)) (omega (arith, ints), omega (arith, ints), (let k : (2097151 - (2097151 - n)) % 2 ≡ 0 = omega arith in k)))
    (cases_lt n 1048576)

-- the fields of bits give the bits
again : (b : ℕ) → laid_out (opcode_of b) (rd_of b) (funct3_of b) (rs1_of b) (above_of b) ≡ b
again b = let g : b % 128 + 128 * (b / 128 % 32 + 32 * (b / 4096 % 8 + 8 * (b / 32768 % 32 + 32 * (b / 1048576)))) ≡ b = omega arith in g

by_fields : (b o d f s a : ℕ) → opcode_of b ≡ o → rd_of b ≡ d → funct3_of b ≡ f → rs1_of b ≡ s → above_of b ≡ a → laid_out o d f s a ≡ b
by_fields b o d f s a eo ed ef es ea =
    ap (λ x. laid_out x d f s a) (sym eo) ∙ (ap (λ x. laid_out (opcode_of b) x f s a) (sym ed) ∙ (ap (λ x. laid_out (opcode_of b) (rd_of b) x s a) (sym ef)
    ∙ (ap (λ x. laid_out (opcode_of b) (rd_of b) (funct3_of b) x a) (sym es) ∙ (ap (λ x. laid_out (opcode_of b) (rd_of b) (funct3_of b) (rs1_of b) x) (sym ea) ∙ again b))))

above-below : (b : ℕ) → b < 4294967296 → above_of b < 4096
above-below b h = omega arith

below_32 : (n : ℕ) → n % 32 < 32
below_32 n = omega arith

-- ---- by opcodes

lui_of : (b : ℕ) → b < 4294967296 → opcode_of b ≡ 0x37 → IsOf b (Lui (rd_of b) (upper_of b))
lui_of b h e = record { word = (below_32 (b / 2 ^ 7), (let u : b / 4096 < 1048576 = omega arith in u)); bits = (let o : b % 128 ≡ 55 = e in let g : 55 + 128 * (b / 128 % 32 + 32 * (b / 4096)) ≡ b = omega arith in g) }

jump_small : (u : ℕ) → u < 1048576 → (jump_bits u < 2097152) × (jump_bits u % 2 ≡ 0)
jump_small u h = (omega arith, omega arith)

jump_back : (u : ℕ) → u < 1048576 → jump_upper (jump_bits u) ≡ u
jump_back u h = omega arith

jal_of : (b : ℕ) → b < 4294967296 → opcode_of b ≡ 0x6F → IsOf b (Jal (rd_of b) (signed_21 (jump_bits (upper_of b))))
jal_of b h e =
    let u : upper_of b < 1048576 = (let g : b / 4096 < 1048576 = omega arith in g) in
    let p = jump_small (upper_of b) u in
    record {
      word = (below_32 (b / 2 ^ 7), offset_21 (jump_bits (upper_of b)) p.0 p.1);
      bits = ap (λ x. laid_out_upper 0x6F (rd_of b) (jump_upper x)) (bits_21-signed_21 (jump_bits (upper_of b)) p.0) ∙ (ap (laid_out_upper 0x6F (rd_of b)) (jump_back (upper_of b) u) ∙ (let o : b % 128 ≡ 111 = e in let g : 111 + 128 * (b / 128 % 32 + 32 * (b / 4096)) ≡ b = omega arith in g));
    }

immediate_bits : (b : ℕ) → b < 4294967296 → bits_12 (signed_12 (above_of b)) ≡ above_of b
immediate_bits b h = bits_12-signed_12 (above_of b) (above-below b h)

immediate_ranged : (b : ℕ) → b < 4294967296 → IsImmediate (signed_12 (above_of b))
immediate_ranged b h = IsImmediate-signed_12 (above_of b) (above-below b h)

chain : {A : Type 0} (P : A → Type 0) (x k : ℕ) (p q : A) → (x ≡ k → P p) → ((x ≡ k → ⊥) → P q) → P (cond (eqb x k) p q)
chain P x k p q here there = ⊎_elim
    (λ e. subst (λ t. P (cond t p q)) (sym (eq-eqb x k e)) (here e))
    (λ n. subst (λ t. P (cond t p q)) (sym (ne_eqb x k n)) (there n))
    (cases_eq x k)

jalr_ok : (b : ℕ) → b < 4294967296 → opcode_of b ≡ 0x67 → Of b (jalr_of (funct3_of b) b)
jalr_ok b h e = chain (Of b) (funct3_of b) 0 (Some (Jalr (rd_of b) (rs1_of b) (signed_12 (above_of b)))) None
    (λ z. record { word = (below_32 (b / 2 ^ 7), below_32 (b / 2 ^ 15), immediate_ranged b h); bits = by_fields b 0x67 (rd_of b) 0 (rs1_of b) (bits_12 (signed_12 (above_of b))) e refl z refl (sym (immediate_bits b h)) })
    (λ n. tt)

load_ok : (b : ℕ) → b < 4294967296 → opcode_of b ≡ 0x03 → Of b (load_of (funct3_of b) b)
load_ok b h e = chain (Of b) (funct3_of b) 3 (Some (Ld (rd_of b) (rs1_of b) (signed_12 (above_of b)))) None
    (λ z. record { word = (below_32 (b / 2 ^ 7), below_32 (b / 2 ^ 15), immediate_ranged b h); bits = by_fields b 0x03 (rd_of b) 3 (rs1_of b) (bits_12 (signed_12 (above_of b))) e refl z refl (sym (immediate_bits b h)) })
    (λ n. tt)

funct7-below : (b : ℕ) → b < 4294967296 → funct7_of b < 128
funct7-below b h = (let g : b / 1048576 / 32 < 128 = omega arith in g)

-- what stands above rs1 is rs2 and funct7
above_parts : (b : ℕ) → rs2_of b + 2 ^ 5 * funct7_of b ≡ above_of b
above_parts b = let a : ℕ = above_of b in let g : a % 32 + 32 * (a / 32) ≡ a = omega arith in g

store_parts : (low high : ℕ) → low < 32 → high < 128 → ((low + 2 ^ 5 * high) < 4096) × ((low + 2 ^ 5 * high) % 2 ^ 5 ≡ low) × ((low + 2 ^ 5 * high) / 2 ^ 5 ≡ high)
store_parts low high l h = ((omega arith), (omega arith), (omega arith))

store_ok : (b : ℕ) → b < 4294967296 → opcode_of b ≡ 0x23 → Of b (store_of (funct3_of b) b)
store_ok b h e = chain (Of b) (funct3_of b) 3 (Some (Sd (rs1_of b) (rs2_of b) (signed_12 (rd_of b + 2 ^ 5 * funct7_of b)))) None
    (λ z.
    let p = store_parts (rd_of b) (funct7_of b) (below_32 (b / 2 ^ 7)) (funct7-below b h) in
    let n : ℕ = rd_of b + 2 ^ 5 * funct7_of b in
    let back : bits_12 (signed_12 n) ≡ n = bits_12-signed_12 n p.0 in
    record {
      word = (below_32 (b / 2 ^ 15), below_32 (above_of b), IsImmediate-signed_12 n p.0);
      bits = by_fields b 0x23 (bits_12 (signed_12 n) % 2 ^ 5) 3 (rs1_of b) (rs2_of b + 2 ^ 5 * (bits_12 (signed_12 n) / 2 ^ 5)) e
          (sym (ap (λ m. m % 2 ^ 5) back ∙ p.1)) z refl (sym (ap (λ m. rs2_of b + 2 ^ 5 * m) (ap (λ m. m / 2 ^ 5) back ∙ p.2) ∙ above_parts b));
    })
    (λ n. tt)

branch_parts : (low high : ℕ) → low < 32 → high < 128 → (branch_bits low high < 8192) × (branch_bits low high % 2 ≡ 0) × (branch_low (branch_bits low high) ≡ low) × (branch_high (branch_bits low high) ≡ high)
branch_parts low high l h = ((omega arith), (omega arith), (omega arith), (omega arith))

branch_word : (b : ℕ) → b < 4294967296 → opcode_of b ≡ 0x63 → (c : Condition) → funct3_of b ≡ condition_number c → IsOf b (Branch c (rs1_of b) (rs2_of b) (signed_13 (branch_bits (rd_of b) (funct7_of b))))
branch_word b h e c f =
    let p = branch_parts (rd_of b) (funct7_of b) (below_32 (b / 2 ^ 7)) (funct7-below b h) in
    let n : ℕ = branch_bits (rd_of b) (funct7_of b) in
    let back : bits_13 (signed_13 n) ≡ n = bits_13-signed_13 n p.0 in
    record {
      word = (below_32 (b / 2 ^ 15), below_32 (above_of b), offset_13 n p.0 p.1);
      bits = by_fields b 0x63 (branch_low (bits_13 (signed_13 n))) (condition_number c) (rs1_of b) (rs2_of b + 2 ^ 5 * branch_high (bits_13 (signed_13 n))) e
          (sym (ap branch_low back ∙ p.2)) f refl (sym (ap (λ m. rs2_of b + 2 ^ 5 * m) (ap branch_high back ∙ p.3) ∙ above_parts b));
    }

branch_ok : (b : ℕ) → b < 4294967296 → opcode_of b ≡ 0x63 → Of b (branch_of (condition_of (funct3_of b)) b)
branch_ok b h e =
    let P : Option Condition → Type 0 = λ o. Of b (branch_of o b) in let f : ℕ = funct3_of b in
    chain P f 0 _ _ (branch_word b h e condition.Eq) (λ _. chain P f 1 _ _ (branch_word b h e condition.Ne) (λ _. chain P f 4 _ _ (branch_word b h e condition.Lt) (λ _. chain P f 5 _ _ (branch_word b h e condition.Ge)
    (λ _. chain P f 6 _ _ (branch_word b h e condition.Ltu) (λ _. chain P f 7 _ _ (branch_word b h e condition.Geu) (λ _. tt))))))

immediate_word : (b : ℕ) → b < 4294967296 → opcode_of b ≡ 0x13 → (o : ImmediateOperation) → funct3_of b ≡ immediate_number o → IsOf b (OpImm o (rd_of b) (rs1_of b) (signed_12 (above_of b)))
immediate_word b h e o f = record {
  word = (below_32 (b / 2 ^ 7), below_32 (b / 2 ^ 15), immediate_ranged b h);
  bits = by_fields b 0x13 (rd_of b) (immediate_number o) (rs1_of b) (bits_12 (signed_12 (above_of b))) e refl f refl (sym (immediate_bits b h));
}

shift_parts : (a u : ℕ) → a / 2 ^ 6 ≡ u → a % 2 ^ 6 + 2 ^ 6 * u ≡ a
shift_parts a u e = omega arith

shift_word : (b : ℕ) → opcode_of b ≡ 0x13 → (o : ShiftOperation) → funct3_of b ≡ shift_number o → above_of b / 2 ^ 6 ≡ shift_upper o → IsOf b (ShiftImm o (rd_of b) (rs1_of b) (above_of b % 2 ^ 6))
shift_word b e o f u = record {
  word = (below_32 (b / 2 ^ 7), below_32 (b / 2 ^ 15), (let a : ℕ = above_of b in let g : a % 64 < 64 = omega arith in g));
  bits = by_fields b 0x13 (rd_of b) (shift_number o) (rs1_of b) (above_of b % 2 ^ 6 + 2 ^ 6 * shift_upper o) e refl f refl (sym (shift_parts (above_of b) (shift_upper o) u));
}

op_imm_ok : (b : ℕ) → b < 4294967296 → opcode_of b ≡ 0x13 → Of b (op_imm_of (funct3_of b) b)
op_imm_ok b h e =
    let f : ℕ = funct3_of b in let u : ℕ = above_of b / 2 ^ 6 in
    let S : Option ShiftOperation → Type 0 = λ o. Of b (shift_of o b) in
    let I : Option ImmediateOperation → Type 0 = λ o. Of b (option_map (λ o. OpImm o (rd_of b) (rs1_of b) (signed_12 (above_of b))) o) in
    chain (Of b) f 1 _ _ (λ one. chain S u 0 _ _ (shift_word b e shift.Slli one) (λ _. tt))
    (λ _. chain (Of b) f 5 _ _ (λ five. chain S u 0 _ _ (shift_word b e shift.Srli five) (λ _. chain S u 0x10 _ _ (shift_word b e shift.Srai five) (λ _. tt)))
    (λ _. chain I f 0 _ _ (immediate_word b h e immediate.Addi) (λ _. chain I f 2 _ _ (immediate_word b h e immediate.Slti) (λ _. chain I f 3 _ _ (immediate_word b h e immediate.Sltiu)
    (λ _. chain I f 4 _ _ (immediate_word b h e immediate.Xori) (λ _. chain I f 6 _ _ (immediate_word b h e immediate.Ori) (λ _. chain I f 7 _ _ (immediate_word b h e immediate.Andi) (λ _. tt))))))))

register_word : (b : ℕ) → opcode_of b ≡ 0x33 → (o : RegisterOperation) → funct7_of b ≡ register_upper o → funct3_of b ≡ register_number o → IsOf b (Op o (rd_of b) (rs1_of b) (rs2_of b))
register_word b e o u f = record {
  word = (below_32 (b / 2 ^ 7), below_32 (b / 2 ^ 15), below_32 (above_of b));
  bits = by_fields b 0x33 (rd_of b) (register_number o) (rs1_of b) (rs2_of b + 2 ^ 5 * register_upper o) e refl f refl (sym (ap (λ m. rs2_of b + 2 ^ 5 * m) (sym u) ∙ above_parts b));
}

op_ok : (b : ℕ) → opcode_of b ≡ 0x33 → Of b (op_of (register_of (funct3_of b) (funct7_of b)) b)
op_ok b e =
    let P : Option RegisterOperation → Type 0 = λ o. Of b (op_of o b) in let f : ℕ = funct3_of b in let u : ℕ = funct7_of b in
    chain P u 0 _ _
    (λ z. chain P f 0 _ _ (register_word b e register.Add z) (λ _. chain P f 1 _ _ (register_word b e register.Sll z) (λ _. chain P f 2 _ _ (register_word b e register.Slt z) (λ _. chain P f 3 _ _ (register_word b e register.Sltu z)
    (λ _. chain P f 4 _ _ (register_word b e register.Xor z) (λ _. chain P f 5 _ _ (register_word b e register.Srl z) (λ _. chain P f 6 _ _ (register_word b e register.Or z) (λ _. chain P f 7 _ _ (register_word b e register.And z) (λ _. tt)))))))))
    (λ _. chain P u 0x20 _ _
    (λ z. chain P f 0 _ _ (register_word b e register.Sub z) (λ _. chain P f 5 _ _ (register_word b e register.Sra z) (λ _. tt)))
    (λ _. chain P u 1 _ _
    (λ z. chain P f 0 _ _ (register_word b e register.Mul z) (λ _. chain P f 4 _ _ (register_word b e register.Div z) (λ _. tt)))
    (λ _. tt)))

all_ok : (b : ℕ) → b < 4294967296 → Of b (decoded b)
all_ok b h =
    let o : ℕ = opcode_of b in
    chain (Of b) o 0x37 _ _ (lui_of b h) (λ _. chain (Of b) o 0x6F _ _ (jal_of b h) (λ _. chain (Of b) o 0x67 _ _ (jalr_ok b h) (λ _. chain (Of b) o 0x63 _ _ (branch_ok b h)
    (λ _. chain (Of b) o 0x03 _ _ (load_ok b h) (λ _. chain (Of b) o 0x23 _ _ (store_ok b h) (λ _. chain (Of b) o 0x13 _ _ (op_imm_ok b h) (λ _. chain (Of b) o 0x33 _ _ (op_ok b)
    (λ _. chain (Of b) b 0x73 (Some Ecall) None (λ is. record { word = tt; bits = sym is }) (λ _. tt)))))))))

-- the word of 32 bits, where they have one, encodes as these
pub encoded-decoded : (b : ℕ) (w : Word) → b < 2 ^ 32 → decoded b ≡ Some w → IsOf b w
encoded-decoded b w h e = subst (Of b) e (all_ok b h)
