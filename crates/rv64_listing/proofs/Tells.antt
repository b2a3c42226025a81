-- What a line tells: one word at most; and what is written of words is read.
use Rattle.std.proofs.Common.{◌≡◌, ℕ, ◌^◌, ◌<◌, Bool, true, false, cond, List, [], ◌∷◌, Option, Some, None, bytes_eq, refl, sym, ap, ◌∙◌, inl, inr, arith}
use Rattle.std.specs.Prelude.{ℤ, pos, negsuc, FitsSigned, IsTrue}
use Rattle.std.specs.Int.{w64}
use Rattle.std.specs.List.{flat_map}
use Rattle.std.proofs.lemmas.Int.{ints, fits_signed_from_abs}
use Rattle.std.proofs.lemmas.List.Elements.{All-nil, All-cons}
use Rattle.std.proofs.lemmas.Option.{none-some, option_and_then_some, same_Some}
use Rattle.std.proofs.lemmas.Slice.Eq.{bytes_eq-Decides}
use Rattle.bril_nums.proofs.IntText.{int_of-complete}
use Rattle.bril_nums.proofs.PlainText.{IsInt-signed_decimal}
use Rattle.rv64_words.specs.declared.word.Word.{Word}
use Rattle.rv64_words.specs.declared.word.Word.TheVariants as word
use Rattle.rv64_words.specs.Fields.{IsImmediate, IsBranchOffset, IsJumpOffset}
use Rattle.rv64_words.specs.Encoding.{IsWord, encoded, decoded}
use Rattle.rv64_words.proofs.Decodings.{encoded-decoded}
use Rattle.rv64_listing.specs.declared.form.Form.TheVariants.{Lui, Jal, Jalr, Branch, Ld, Sd, OpImm, ShiftImm, Op, Ecall}
use Rattle.rv64_listing.specs.declared.line.Told.TheVariants as tells
use Rattle.rv64_listing.specs.Table.{name_of, bits_name, form_named, form_of, operands_of, Short, Long, At, Three}
use Rattle.rv64_listing.specs.Line.{Piece, Name, Gap, Comma, Open, Close, Register, Number, Hex, operand_pieces, word_pieces, bits_pieces, pieces_by, hex_text, register_text, written, line_of, is_blank, SpellAll, HasPieces, IsEmptyLine, TellsWord}
use Rattle.rv64_listing.specs.Tokens.{Token, Space, CommaT, OpenT, CloseT, Run, Skips, cut, tokens}
use Rattle.rv64_listing.specs.Reading.{◌>>=◌, is_end, word_in, bits_in, word_told, told_word, told_by, told_in, told}
use Rattle.rv64_listing.specs.Laws.{LinesTellOneWord}
use Rattle.rv64_listing.proofs.Cut.{TokensAre, Proper, line_lexed, empty_lexed}
use Rattle.rv64_listing.proofs.Uncut.{line_spelled}
use Rattle.rv64_listing.proofs.Front.{behind_first}
use Rattle.rv64_listing.proofs.Names.{form_is, name_finds, name_is_no_bits, name_plain, register_plain, hex_plain}
use Rattle.rv64_listing.proofs.Fields.{natural_again, immediate_again, branch_again, jump_again}
use Rattle.rv64_listing.proofs.Words.{flat, short_again, long_again, at_again, three_again, word_there, bits_list, bits_there, bits_in_again}

-- ---- the pieces of words are proper

short_proper : (r : ℕ) (n : ℤ) → r < 32 → Proper (operand_pieces (Short r n))
short_proper r n h = (tt, (register_plain r h, tt, (tt, (tt, tt))))

long_proper : (r s : ℕ) (n : ℤ) → r < 32 → s < 32 → Proper (operand_pieces (Long r s n))
long_proper r s n h k = (tt, (register_plain r h, tt, (tt, (register_plain s k, tt, (tt, (tt, tt))))))

at_proper : (r s : ℕ) (n : ℤ) → r < 32 → s < 32 → Proper (operand_pieces (At r n s))
at_proper r s n h k = (tt, (register_plain r h, tt, (tt, (tt, (register_plain s k, tt, tt)))))

three_proper : (r s t : ℕ) → r < 32 → s < 32 → t < 32 → Proper (operand_pieces (Three r s t))
three_proper r s t h k l = (tt, (register_plain r h, tt, (tt, (register_plain s k, tt, (tt, (register_plain t l, tt, tt))))))

word_proper : (w : Word) → IsWord w → Proper (word_pieces w)
word_proper (word.Lui rd u) h = (name_plain (form_of (word.Lui rd u)), tt, short_proper rd (pos u) h.0)
word_proper (word.Jal rd d) h = (name_plain (form_of (word.Jal rd d)), tt, short_proper rd d h.0)
word_proper (word.Jalr rd rs1 i) h = (name_plain (form_of (word.Jalr rd rs1 i)), tt, long_proper rd rs1 i h.0 h.1)
word_proper (word.Branch c rs1 rs2 d) h = (name_plain (form_of (word.Branch c rs1 rs2 d)), tt, long_proper rs1 rs2 d h.0 h.1)
word_proper (word.Ld rd rs1 i) h = (name_plain (form_of (word.Ld rd rs1 i)), tt, at_proper rd rs1 i h.0 h.1)
word_proper (word.Sd rs1 rs2 i) h = (name_plain (form_of (word.Sd rs1 rs2 i)), tt, at_proper rs2 rs1 i h.1 h.0)
word_proper (word.OpImm o rd rs1 i) h = (name_plain (form_of (word.OpImm o rd rs1 i)), tt, long_proper rd rs1 i h.0 h.1)
word_proper (word.ShiftImm o rd rs1 s) h = (name_plain (form_of (word.ShiftImm o rd rs1 s)), tt, long_proper rd rs1 (pos s) h.0 h.1)
word_proper (word.Op o rd rs1 rs2) h = (name_plain (form_of (word.Op o rd rs1 rs2)), tt, three_proper rd rs1 rs2 h.0 h.1 h.2)
word_proper word.Ecall h = (name_plain (form_of word.Ecall), tt, tt)

bits_proper : (bits : ℕ) → Proper (bits_pieces bits)
bits_proper bits = (refl, tt, (tt, (hex_plain bits, tt, tt)))

-- ---- what is written is read

abbrev pub NumbersFit : List Piece → Type 0
NumbersFit [] = Unit {0}
NumbersFit (Number n ∷ ps) = FitsSigned w64 n × NumbersFit ps
NumbersFit (Name text ∷ ps) = NumbersFit ps
NumbersFit (Register r ∷ ps) = NumbersFit ps
NumbersFit (Hex bits ∷ ps) = NumbersFit ps
NumbersFit (Gap ∷ ps) = NumbersFit ps
NumbersFit (Comma ∷ ps) = NumbersFit ps
NumbersFit (Open ∷ ps) = NumbersFit ps
NumbersFit (Close ∷ ps) = NumbersFit ps

written_spells : (ps : List Piece) → NumbersFit ps → SpellAll ps (flat_map written ps)
written_spells [] h = ([], [], refl, All-nil (λ b. IsTrue (is_blank b)), tt)
written_spells (Number n ∷ ps) h = (written (Number n), flat_map written ps, refl, IsInt-signed_decimal n h.0, written_spells ps h.1)
written_spells (Gap ∷ ps) h = (32 ∷ [], flat_map written ps, refl, ((λ e. let k : 32 ∷ [] ≡ [] = e in cc), All-cons (λ b. IsTrue (is_blank b)) 32 [] refl (All-nil (λ b. IsTrue (is_blank b)))), written_spells ps h)
written_spells (Name text ∷ ps) h = (text, flat_map written ps, refl, refl, written_spells ps h)
written_spells (Register r ∷ ps) h = (register_text r, flat_map written ps, refl, refl, written_spells ps h)
written_spells (Hex bits ∷ ps) h = (hex_text bits, flat_map written ps, refl, refl, written_spells ps h)
written_spells (Comma ∷ ps) h = (44 ∷ [], flat_map written ps, refl, refl, written_spells ps h)
written_spells (Open ∷ ps) h = (40 ∷ [], flat_map written ps, refl, refl, written_spells ps h)
written_spells (Close ∷ ps) h = (41 ∷ [], flat_map written ps, refl, refl, written_spells ps h)

written_has : (ps : List Piece) → NumbersFit ps → HasPieces ps (flat_map written ps)
written_has ps h = ([], flat_map written ps, refl, All-nil (λ b. IsTrue (is_blank b)), written_spells ps h)

natural_fits : (n : ℕ) → n < 4294967296 → FitsSigned w64 (pos n)
natural_fits n h = fits_signed_from_abs w64 (pos n) (omega arith)

immediate_fits : (i : ℤ) → IsImmediate i → FitsSigned w64 i
immediate_fits (pos n) h = natural_fits n (let k = h.1 in let g : n < 2048 = omega (arith, ints) in omega arith)
immediate_fits (negsuc n) h = let k = h.0 in let g : n < 2048 = omega (arith, ints) in fits_signed_from_abs w64 (negsuc n) (omega arith)

branch_fits : (d : ℤ) → IsBranchOffset d → FitsSigned w64 d
branch_fits (pos n) h = natural_fits n (let k = h.1 in let g : n < 4096 = omega (arith, ints) in omega arith)
branch_fits (negsuc n) h = let k = h.0 in let g : n < 4096 = omega (arith, ints) in fits_signed_from_abs w64 (negsuc n) (omega arith)

jump_fits : (d : ℤ) → IsJumpOffset d → FitsSigned w64 d
jump_fits (pos n) h = natural_fits n (let k = h.1 in let g : n < 1048576 = omega (arith, ints) in omega arith)
jump_fits (negsuc n) h = let k = h.0 in let g : n < 1048576 = omega (arith, ints) in fits_signed_from_abs w64 (negsuc n) (omega arith)

pub word_fits : (w : Word) → IsWord w → NumbersFit (word_pieces w)
word_fits (word.Lui rd u) h = (natural_fits u (let k = h.1 in let g : u < 1048576 = k in omega arith), tt)
word_fits (word.Jal rd d) h = (jump_fits d h.1, tt)
word_fits (word.Jalr rd rs1 i) h = (immediate_fits i h.2, tt)
word_fits (word.Branch c rs1 rs2 d) h = (branch_fits d h.2, tt)
word_fits (word.Ld rd rs1 i) h = (immediate_fits i h.2, tt)
word_fits (word.Sd rs1 rs2 i) h = (immediate_fits i h.2, tt)
word_fits (word.OpImm o rd rs1 i) h = (immediate_fits i h.2, tt)
word_fits (word.ShiftImm o rd rs1 s) h = (natural_fits s (let k = h.2 in let g : s < 64 = k in omega arith), tt)
word_fits (word.Op o rd rs1 rs2) h = tt
word_fits word.Ecall h = tt

written_by : (bits : ℕ) (o : Option Word) → bits < 2 ^ 32 → decoded bits ≡ o → TellsWord (flat_map written (pieces_by bits o)) bits
written_by bits None h e = inr (h, written_has (bits_pieces bits) tt)
written_by bits (Some w) h e = let i = encoded-decoded bits w h e in inl (w, i.word, i.bits, written_has (word_pieces w) (word_fits w i.word))

pub written_is_read : (bits : ℕ) → bits < 2 ^ 32 → TellsWord (line_of bits) bits
written_is_read bits h = written_by bits (decoded bits) h refl

-- ---- what is there is told

word_again : (w : Word) (ts : List Token) → IsWord w → TokensAre (operand_pieces (operands_of w)) ts → word_in (form_of w) ts ≡ Some w
word_again (word.Lui rd u) ts h t =
    let f = flat (Short rd (pos u)) ts t in
    ap (word_in Lui) f.1 ∙ rw (short_again rd f.0 (pos u) h.0 (int_of-complete f.0 (pos u) (word_fits (word.Lui rd u) h).0 f.2), natural_again (2 ^ 20) u h.1) refl
word_again (word.Jal rd d) ts h t =
    let f = flat (Short rd d) ts t in
    ap (word_in Jal) f.1 ∙ rw (short_again rd f.0 d h.0 (int_of-complete f.0 d (word_fits (word.Jal rd d) h).0 f.2), jump_again d h.1) refl
word_again (word.Jalr rd rs1 i) ts h t =
    let f = flat (Long rd rs1 i) ts t in
    ap (word_in Jalr) f.1 ∙ rw (long_again rd rs1 f.0 i h.0 h.1 (int_of-complete f.0 i (word_fits (word.Jalr rd rs1 i) h).0 f.2), immediate_again i h.2) refl
word_again (word.Branch c rs1 rs2 d) ts h t =
    let f = flat (Long rs1 rs2 d) ts t in
    ap (word_in (Branch c)) f.1 ∙ rw (long_again rs1 rs2 f.0 d h.0 h.1 (int_of-complete f.0 d (word_fits (word.Branch c rs1 rs2 d) h).0 f.2), branch_again d h.2) refl
word_again (word.Ld rd rs1 i) ts h t =
    let f = flat (At rd i rs1) ts t in
    ap (word_in Ld) f.1 ∙ rw (at_again rd rs1 f.0 i h.0 h.1 (int_of-complete f.0 i (word_fits (word.Ld rd rs1 i) h).0 f.2), immediate_again i h.2) refl
word_again (word.Sd rs1 rs2 i) ts h t =
    let f = flat (At rs2 i rs1) ts t in
    ap (word_in Sd) f.1 ∙ rw (at_again rs2 rs1 f.0 i h.1 h.0 (int_of-complete f.0 i (word_fits (word.Sd rs1 rs2 i) h).0 f.2), immediate_again i h.2) refl
word_again (word.OpImm o rd rs1 i) ts h t =
    let f = flat (Long rd rs1 i) ts t in
    ap (word_in (OpImm o)) f.1 ∙ rw (long_again rd rs1 f.0 i h.0 h.1 (int_of-complete f.0 i (word_fits (word.OpImm o rd rs1 i) h).0 f.2), immediate_again i h.2) refl
word_again (word.ShiftImm o rd rs1 s) ts h t =
    let f = flat (Long rd rs1 (pos s)) ts t in
    ap (word_in (ShiftImm o)) f.1 ∙ rw (long_again rd rs1 f.0 (pos s) h.0 h.1 (int_of-complete f.0 (pos s) (word_fits (word.ShiftImm o rd rs1 s) h).0 f.2), natural_again 64 s h.2) refl
word_again (word.Op o rd rs1 rs2) ts h t = ap (word_in (Op o)) (flat (Three rd rs1 rs2) ts t) ∙ rw (three_again rd rs1 rs2 h.0 h.1 h.2) refl
word_again word.Ecall ts h t = ap (word_in Ecall) t

word_line : (w : Word) (ts : List Token) → IsWord w → TokensAre (word_pieces w) ts → told_in ts ≡ tells.Word (encoded w)
word_line w ts h t = ap told_in t.1 ∙ rw (name_is_no_bits (form_of w), name_finds (form_of w), word_again w t.0 h t.2) refl

bits_line : (bits : ℕ) (ts : List Token) → bits < 2 ^ 32 → TokensAre (bits_pieces bits) ts → told_in ts ≡ tells.Word bits
bits_line bits ts h t =
    let a = t.1 in let b = t.2.1 in let c = t.2.2.1 in let d = t.2.2.2 in
    let is : ts ≡ Run bits_name ∷ bits_list bits = cc in
    ap told_in is ∙ ap told_by (bits_in_again bits h)

-- a line is told as what it tells
pub tells_told : (line : List ℕ) (bits : ℕ) → TellsWord line bits → told line ≡ tells.Word bits
tells_told line bits (inl a) = word_line a.0 (tokens line) a.1 (line_lexed (word_pieces a.0) line (word_proper a.0 a.1) tt a.3) ∙ ap tells.Word a.2
tells_told line bits (inr a) = bits_line bits (tokens line) a.0 (line_lexed (bits_pieces bits) line (bits_proper bits) tt a.1)

pub empty_told : (line : List ℕ) → IsEmptyLine line → told line ≡ tells.Empty
empty_told line h = ap told_in (empty_lexed line h)

-- ---- what is told is there

by_told : (o : Option ℕ) (bits : ℕ) → told_by o ≡ tells.Word bits → o ≡ Some bits
by_told None bits e = absurd (let k : tells.Bad ≡ tells.Word bits = e in cc)
by_told (Some b) bits e = (let k : tells.Word b ≡ tells.Word bits = e in let same : b ≡ bits = cc in ap Some same)

not_empty : (o : Option ℕ) → told_by o ≡ tells.Empty → ⊥
not_empty None e = let k : tells.Bad ≡ tells.Empty = e in cc
not_empty (Some b) e = let k : tells.Word b ≡ tells.Empty = e in cc

run_there : (ts : List Token) (bits : ℕ) → told_word ts ≡ Some bits → (name : List ℕ) × (rest : List Token) × (ts ≡ Run name ∷ rest) × (word_told name rest ≡ Some bits)
run_there [] bits e = absurd (none-some bits e)
run_there (Space ∷ ts) bits e = absurd (none-some bits e)
run_there (CommaT ∷ ts) bits e = absurd (none-some bits e)
run_there (OpenT ∷ ts) bits e = absurd (none-some bits e)
run_there (CloseT ∷ ts) bits e = absurd (none-some bits e)
run_there (Run name ∷ ts) bits e = (name, ts, refl, e)

word_tells : (line name : List ℕ) (rest : List Token) (bits : ℕ) → tokens line ≡ Run name ∷ rest → word_told name rest ≡ Some bits → TellsWord line bits
word_tells line name rest bits is e = by (bytes_eq name bits_name) refl e
  where
    by : (b : Bool) → bytes_eq name bits_name ≡ b → cond b (bits_in rest) (form_named name >>= (λ f. word_in f rest >>= (λ w. Some (encoded w)))) ≡ Some bits → TellsWord line bits
    by true b e =
        let n : name ≡ bits_name = (bytes_eq-Decides name bits_name).0 b in
        let d = bits_there rest bits e in
        inr (d.1, line_spelled (bits_pieces bits) line (rest, is ∙ ap (λ x. Run x ∷ rest) n, (_, d.0, (_, refl, refl))))
    by false b e = option_and_then_some _ (form_named name) bits e (λ f found e1. option_and_then_some _ (word_in f rest) bits e1 (λ w there e2.
        let r = word_there f rest w there in
        let n : name ≡ name_of f = form_is name f found in
        inl (w, r.ranged, same_Some (encoded w) bits e2, line_spelled (word_pieces w) line (rest, is ∙ ap (λ x. Run x ∷ rest) (n ∙ ap name_of (sym r.form)), r.operands))))

told_word_tells : (line : List ℕ) (ts : List Token) (bits : ℕ) → tokens line ≡ ts → told_in ts ≡ tells.Word bits → TellsWord line bits
told_word_tells line [] bits is e = absurd (let k : tells.Empty ≡ tells.Word bits = e in cc)
told_word_tells line (t ∷ ts) bits is e = let r = run_there (t ∷ ts) bits (by_told (told_word (t ∷ ts)) bits e) in word_tells line r.0 r.1 bits (is ∙ r.2) r.3

pub told_tells : (line : List ℕ) (bits : ℕ) → told line ≡ tells.Word bits → TellsWord line bits
told_tells line bits e = told_word_tells line (tokens line) bits refl e

told_empties : (line : List ℕ) (ts : List Token) → tokens line ≡ ts → told_in ts ≡ tells.Empty → IsEmptyLine line
told_empties line [] is e = line_spelled [] line is
told_empties line (t ∷ ts) is e = absurd (not_empty (told_word (t ∷ ts)) e)

pub told_empty : (line : List ℕ) → told line ≡ tells.Empty → IsEmptyLine line
told_empty line e = told_empties line (tokens line) refl e

-- ---- one word at most

pub one_word : LinesTellOneWord
one_word = record {
  one = λ line bits other a b. let k : tells.Word bits ≡ tells.Word other = sym (tells_told line bits a) ∙ tells_told line other b in cc;
  some = λ line bits a b. let k : tells.Word bits ≡ tells.Empty = sym (tells_told line bits a) ∙ empty_told line b in cc;
}

-- ---- steps of reading

pub read_empty : (line rest : List ℕ) → Skips line rest → true ≡ is_end (cut rest) → tells.Empty ≡ told line
read_empty line rest skips end = ap (λ b. cond b tells.Empty (told_by (told_word (cut rest)))) end ∙ ap told_in (behind_first line rest skips)

pub read_more : (line rest : List ℕ) (o : Option ℕ) → Skips line rest → false ≡ is_end (cut rest) → o ≡ told_word (cut rest) → told_by o ≡ told line
read_more line rest o skips end e =
    ap told_by e ∙ (ap (λ b. cond b tells.Empty (told_by (told_word (cut rest)))) end ∙ ap told_in (behind_first line rest skips))
