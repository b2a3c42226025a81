-- Mnemonics tell forms, and registers and digits their numbers.
use Rattle.std.proofs.Common.{◌≡◌, ℕ, ◌+◌, ◌/◌, ◌%◌, ◌^◌, ◌<◌, ◌≤◌, Bool, true, false, cond, List, [], ◌∷◌, Some, refl, sym, ap, subst, ◌∙◌, ⊎_elim, arith}
use Rattle.std.specs.Prelude.{bytes_eq}
use Rattle.std.proofs.lemmas.Bool.{cases_lt, lt-ltb, le-ltb}
use Rattle.std.proofs.lemmas.Option.{none-some, same_Some}
use Rattle.std.proofs.lemmas.Slice.Eq.{bytes_eq-Decides}
use Rattle.rv64_words.specs.declared.word.Condition.TheVariants as condition
use Rattle.rv64_words.specs.declared.word.ImmediateOperation.TheVariants as immediate
use Rattle.rv64_words.specs.declared.word.RegisterOperation.TheVariants as register
use Rattle.rv64_words.specs.declared.word.ShiftOperation.TheVariants as shift
use Rattle.rv64_listing.specs.declared.form.Form.{Form}
use Rattle.rv64_listing.specs.declared.form.Form.TheVariants.{Lui, Jal, Jalr, Branch, Ld, Sd, OpImm, ShiftImm, Op, Ecall}
use Rattle.rv64_listing.specs.Table.{name_of, bits_name, forms, form_among, form_named}
use Rattle.rv64_words.specs.Hexadecimal.{hex_digit}
use Rattle.rv64_listing.specs.Line.{register_text, hex_text}
use Rattle.rv64_listing.specs.Tokens.{class, is_plain}
use Rattle.rv64_listing.proofs.Cut.{is_plain_text, plain_above}

pub name_finds : (f : Form) → form_named (name_of f) ≡ Some f
unfolding form_named
name_finds Lui = refl
name_finds Jal = refl
name_finds Jalr = refl
name_finds (Branch condition.Eq) = refl
name_finds (Branch condition.Ne) = refl
name_finds (Branch condition.Lt) = refl
name_finds (Branch condition.Ge) = refl
name_finds (Branch condition.Ltu) = refl
name_finds (Branch condition.Geu) = refl
name_finds Ld = refl
name_finds Sd = refl
name_finds (OpImm immediate.Addi) = refl
name_finds (OpImm immediate.Slti) = refl
name_finds (OpImm immediate.Sltiu) = refl
name_finds (OpImm immediate.Xori) = refl
name_finds (OpImm immediate.Ori) = refl
name_finds (OpImm immediate.Andi) = refl
name_finds (ShiftImm shift.Slli) = refl
name_finds (ShiftImm shift.Srli) = refl
name_finds (ShiftImm shift.Srai) = refl
name_finds (Op register.Add) = refl
name_finds (Op register.Sll) = refl
name_finds (Op register.Slt) = refl
name_finds (Op register.Sltu) = refl
name_finds (Op register.Xor) = refl
name_finds (Op register.Srl) = refl
name_finds (Op register.Or) = refl
name_finds (Op register.And) = refl
name_finds (Op register.Sub) = refl
name_finds (Op register.Sra) = refl
name_finds (Op register.Mul) = refl
name_finds (Op register.Div) = refl
name_finds Ecall = refl

-- no mnemonic is the name of bits
pub name_is_no_bits : (f : Form) → bytes_eq (name_of f) bits_name ≡ false
name_is_no_bits Lui = refl
name_is_no_bits Jal = refl
name_is_no_bits Jalr = refl
name_is_no_bits (Branch condition.Eq) = refl
name_is_no_bits (Branch condition.Ne) = refl
name_is_no_bits (Branch condition.Lt) = refl
name_is_no_bits (Branch condition.Ge) = refl
name_is_no_bits (Branch condition.Ltu) = refl
name_is_no_bits (Branch condition.Geu) = refl
name_is_no_bits Ld = refl
name_is_no_bits Sd = refl
name_is_no_bits (OpImm immediate.Addi) = refl
name_is_no_bits (OpImm immediate.Slti) = refl
name_is_no_bits (OpImm immediate.Sltiu) = refl
name_is_no_bits (OpImm immediate.Xori) = refl
name_is_no_bits (OpImm immediate.Ori) = refl
name_is_no_bits (OpImm immediate.Andi) = refl
name_is_no_bits (ShiftImm shift.Slli) = refl
name_is_no_bits (ShiftImm shift.Srli) = refl
name_is_no_bits (ShiftImm shift.Srai) = refl
name_is_no_bits (Op register.Add) = refl
name_is_no_bits (Op register.Sll) = refl
name_is_no_bits (Op register.Slt) = refl
name_is_no_bits (Op register.Sltu) = refl
name_is_no_bits (Op register.Xor) = refl
name_is_no_bits (Op register.Srl) = refl
name_is_no_bits (Op register.Or) = refl
name_is_no_bits (Op register.And) = refl
name_is_no_bits (Op register.Sub) = refl
name_is_no_bits (Op register.Sra) = refl
name_is_no_bits (Op register.Mul) = refl
name_is_no_bits (Op register.Div) = refl
name_is_no_bits Ecall = refl

pub name_plain : (f : Form) → is_plain_text (name_of f) ≡ true
name_plain Lui = refl
name_plain Jal = refl
name_plain Jalr = refl
name_plain (Branch condition.Eq) = refl
name_plain (Branch condition.Ne) = refl
name_plain (Branch condition.Lt) = refl
name_plain (Branch condition.Ge) = refl
name_plain (Branch condition.Ltu) = refl
name_plain (Branch condition.Geu) = refl
name_plain Ld = refl
name_plain Sd = refl
name_plain (OpImm immediate.Addi) = refl
name_plain (OpImm immediate.Slti) = refl
name_plain (OpImm immediate.Sltiu) = refl
name_plain (OpImm immediate.Xori) = refl
name_plain (OpImm immediate.Ori) = refl
name_plain (OpImm immediate.Andi) = refl
name_plain (ShiftImm shift.Slli) = refl
name_plain (ShiftImm shift.Srli) = refl
name_plain (ShiftImm shift.Srai) = refl
name_plain (Op register.Add) = refl
name_plain (Op register.Sll) = refl
name_plain (Op register.Slt) = refl
name_plain (Op register.Sltu) = refl
name_plain (Op register.Xor) = refl
name_plain (Op register.Srl) = refl
name_plain (Op register.Or) = refl
name_plain (Op register.And) = refl
name_plain (Op register.Sub) = refl
name_plain (Op register.Sra) = refl
name_plain (Op register.Mul) = refl
name_plain (Op register.Div) = refl
name_plain Ecall = refl

-- ---- registers

pub short_register : (r : ℕ) → r < 10 → register_text r ≡ 120 ∷ (48 + r) ∷ []
short_register r h = rw (lt-ltb r 10 h) refl

pub long_register : (r : ℕ) → 10 ≤ r → register_text r ≡ 120 ∷ (48 + r / 10) ∷ (48 + r % 10) ∷ []
long_register r h = rw (le-ltb r 10 h) refl

pub register_same : (r s : ℕ) → register_text r ≡ register_text s → r ≡ s
register_same r s e = ⊎_elim
    (λ a. ⊎_elim
    (λ b. let k : 120 ∷ (48 + r) ∷ [] ≡ 120 ∷ (48 + s) ∷ [] = sym (short_register r a) ∙ e ∙ short_register s b in let h : 48 + r ≡ 48 + s = cc in omega arith)
    (λ b. absurd (let k : 120 ∷ (48 + r) ∷ [] ≡ 120 ∷ (48 + s / 10) ∷ (48 + s % 10) ∷ [] = sym (short_register r a) ∙ e ∙ long_register s b in cc))
    (cases_lt s 10))
    (λ a. ⊎_elim
    (λ b. absurd (let k : 120 ∷ (48 + r / 10) ∷ (48 + r % 10) ∷ [] ≡ 120 ∷ (48 + s) ∷ [] = sym (long_register r a) ∙ e ∙ short_register s b in cc))
    (λ b.
    let k : 120 ∷ (48 + r / 10) ∷ (48 + r % 10) ∷ [] ≡ 120 ∷ (48 + s / 10) ∷ (48 + s % 10) ∷ [] = sym (long_register r a) ∙ e ∙ long_register s b in
    let h : 48 + r / 10 ≡ 48 + s / 10 = cc in let i : 48 + r % 10 ≡ 48 + s % 10 = cc in omega arith)
    (cases_lt s 10))
    (cases_lt r 10)

pub register_plain : (r : ℕ) → r < 32 → is_plain_text (register_text r) ≡ true
register_plain r h = ⊎_elim
    (λ a. ap is_plain_text (short_register r a) ∙ rw (plain_above (48 + r) (omega arith)) refl)
    (λ a. ap is_plain_text (long_register r a) ∙ rw (plain_above (48 + r / 10) (omega arith), plain_above (48 + r % 10) (omega arith)) refl)
    (cases_lt r 10)

-- ---- hexadecimal digits

pub hex_digit_high : (d : ℕ) → 48 ≤ hex_digit d
hex_digit_high d = ⊎_elim
    (λ a. subst (λ c. 48 ≤ c) (sym (let e : hex_digit d ≡ 48 + d = rw (lt-ltb d 10 a) refl in e)) (omega arith))
    (λ a. subst (λ c. 48 ≤ c) (sym (let e : hex_digit d ≡ 87 + d = rw (le-ltb d 10 a) refl in e)) (omega arith))
    (cases_lt d 10)

hex_plain_digit : (d : ℕ) → is_plain (class (hex_digit d)) ≡ true
hex_plain_digit d = ⊎_elim
    (λ a. let e : hex_digit d ≡ 48 + d = rw (lt-ltb d 10 a) refl in ap (λ c. is_plain (class c)) e ∙ plain_above (48 + d) (omega arith))
    (λ a. let e : hex_digit d ≡ 87 + d = rw (le-ltb d 10 a) refl in ap (λ c. is_plain (class c)) e ∙ plain_above (87 + d) (omega arith))
    (cases_lt d 10)

pub hex_plain : (bits : ℕ) → is_plain_text (hex_text bits) ≡ true
hex_plain w = rw (hex_plain_digit (w / 2 ^ 28 % 16), hex_plain_digit (w / 2 ^ 24 % 16), hex_plain_digit (w / 2 ^ 20 % 16), hex_plain_digit (w / 2 ^ 16 % 16), hex_plain_digit (w / 2 ^ 12 % 16), hex_plain_digit (w / 2 ^ 8 % 16), hex_plain_digit (w / 2 ^ 4 % 16), hex_plain_digit (w % 16)) refl

-- ---- the form of a mnemonic

named_is : (fs : List Form) (name : List ℕ) (f : Form) → form_among fs name ≡ Some f → name ≡ name_of f
named_is [] name f e = absurd (none-some f e)
named_is (g ∷ fs) name f e = by (bytes_eq name (name_of g)) refl e (named_is fs name f)
  where
    by : (b : Bool) → bytes_eq name (name_of g) ≡ b → cond b (Some g) (form_among fs name) ≡ Some f → (form_among fs name ≡ Some f → name ≡ name_of f) → name ≡ name_of f
    by true same e more = (bytes_eq-Decides name (name_of g)).0 same ∙ ap name_of (same_Some g f e)
    by false same e more = more e

pub form_is : (name : List ℕ) (f : Form) → form_named name ≡ Some f → name ≡ name_of f
unfolding form_named
form_is name f e = named_is forms name f e
