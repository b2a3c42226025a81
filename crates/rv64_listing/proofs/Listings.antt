-- Listings: what is written is read, and readings are one.
use Rattle.std.proofs.Common.{◌≡◌, ◌⊎◌, ℕ, suc, ◌+◌, ◌/◌, ◌%◌, ◌^◌, ◌<◌, ◌≤◌, Bool, true, false, List, [], ◌∷◌, ◌++◌, length, Option, Some, None, Result, Ok, Err, IfOk, IfErr, IsErrOf, MatchResult, refl, sym, ap, ap₂, subst, ◌∙◌, inl, inr, ⊎_elim, arith, append_assoc, append-nil, length-append}
use Rattle.std.specs.Prelude.{◌==◌, ◌&&◌, not, ℤ, IsTrue}
use Rattle.std.specs.List.{All, flat_map}
use Rattle.std.specs.Str.Parse.{AllDigits}
use Rattle.std.proofs.lemmas.Str.Parse.{digit_from_value}
use Rattle.std.proofs.lemmas.Bool.{ne_eqb, cases_lt}
use Rattle.std.proofs.lemmas.List.Elements.{All-nil, All-head, All-tail}
use Rattle.std.proofs.lemmas.Option.{none-some, same_Some}
use Rattle.bril_nums.specs.Decimal.{IsInt, Sign, no_sign, plus, minus, sign_text}
use Rattle.bril_nums.proofs.PlainText.{IsInt-signed_decimal}
use Rattle.rv64_words.specs.declared.word.Condition.TheVariants as condition
use Rattle.rv64_words.specs.declared.word.ImmediateOperation.TheVariants as immediate
use Rattle.rv64_words.specs.declared.word.RegisterOperation.TheVariants as register
use Rattle.rv64_words.specs.declared.word.ShiftOperation.TheVariants as shift
use Rattle.rv64_words.specs.declared.word.Word.{Word}
use Rattle.rv64_words.specs.Encoding.{decoded}
use Rattle.rv64_words.specs.Hexadecimal.{hex_digit}
use Rattle.rv64_listing.specs.declared.form.Form.{Form}
use Rattle.rv64_listing.specs.declared.form.Form.TheVariants.{Lui, Jal, Jalr, Branch, Ld, Sd, OpImm, ShiftImm, Op, Ecall}
use Rattle.rv64_listing.specs.Table.{name_of, form_of, operands_of, Operands, Nothing, Short, Long, At, Three}
use Rattle.rv64_listing.specs.Line.{Piece, Name, Gap, Comma, Open, Close, Register, Number, Hex, operand_pieces, word_pieces, bits_pieces, pieces_by, hex_text, register_text, written, line_of, listing, is_blank, IsEmptyLine, TellsWord}
use Rattle.rv64_listing.specs.Listing.{lacks_lf, cut_at, lines_in, Tell, IsListing, IsFirstFault, IsFaultOf}
use Rattle.rv64_listing.specs.Laws.{ListingsAreExact}
use Rattle.rv64_listing.proofs.Names.{short_register, long_register, hex_digit_high}
use Rattle.rv64_words.proofs.Decodings.{encoded-decoded}
use Rattle.rv64_listing.proofs.Tells.{NumbersFit, word_fits, written_is_read, one_word, told_tells, told_empty, tells_told, empty_told}
use Rattle.rv64_listing.specs.declared.fault.ListingFault.{ListingFault}
use Rattle.rv64_listing.specs.declared.fault.ListingFault.TheVariants.{Line, Memory}
use Rattle.rv64_listing.specs.declared.line.Told.{Told}
use Rattle.rv64_listing.specs.declared.line.Told.TheVariants as tells
use Rattle.rv64_listing.specs.Reading.{told, Lines, Words, Fault, with_words, line_then, lines_told, listing_told, Adds, IsLineFault, IsToldFault, fault_told, told_as}

high : (b : ℕ) → 11 ≤ b → not (b == 10) ≡ true
high b h = let n : b ≡ 10 → ⊥ = omega arith in rw (ne_eqb b 10 n) refl

lacks-append : (xs ys : List ℕ) → lacks_lf xs ≡ true → lacks_lf ys ≡ true → lacks_lf (xs ++ ys) ≡ true
lacks-append [] ys h k = k
lacks-append (x ∷ xs) ys h k = by (not (x == 10)) h (lacks-append xs ys)
  where
    by : (b : Bool) → (b && lacks_lf xs) ≡ true → (lacks_lf xs ≡ true → lacks_lf ys ≡ true → lacks_lf (xs ++ ys) ≡ true) → (b && lacks_lf (xs ++ ys)) ≡ true
    by true h again = again h k
    by false h again = absurd (let e : false ≡ true = h in cc)

digits_lack : (ds : List ℕ) → AllDigits 10 ds → lacks_lf ds ≡ true
digits_lack [] h = refl
digits_lack (d ∷ ds) h = let r = digit_from_value d h.0 in let l = r.0 in rw (high d (omega arith), digits_lack ds h.1) refl

signed_lacks : (sign : Sign) (ds : List ℕ) → AllDigits 10 ds → lacks_lf (sign_text sign ++ ds) ≡ true
signed_lacks no_sign ds h = digits_lack ds h
signed_lacks plus ds h = digits_lack ds h
signed_lacks minus ds h = digits_lack ds h

int_lacks : (text : List ℕ) (n : ℤ) → IsInt text n → lacks_lf text ≡ true
int_lacks text n h = ap lacks_lf h.spelling ∙ signed_lacks h.sign h.digits h.numeral.1

register_lacks : (r : ℕ) → lacks_lf (register_text r) ≡ true
register_lacks r = ⊎_elim
    (λ a. ap lacks_lf (short_register r a) ∙ rw (high (48 + r) (omega arith)) refl)
    (λ a. ap lacks_lf (long_register r a) ∙ rw (high (48 + r / 10) (omega arith), high (48 + r % 10) (omega arith)) refl)
    (cases_lt r 10)

digit_lacks : (d : ℕ) → not (hex_digit d == 10) ≡ true
digit_lacks d = high (hex_digit d) (let h = hex_digit_high d in omega arith)

hex_lacks : (w : ℕ) → lacks_lf (hex_text w) ≡ true
hex_lacks w = rw (digit_lacks (w / 2 ^ 28 % 16), digit_lacks (w / 2 ^ 24 % 16), digit_lacks (w / 2 ^ 20 % 16), digit_lacks (w / 2 ^ 16 % 16), digit_lacks (w / 2 ^ 12 % 16), digit_lacks (w / 2 ^ 8 % 16), digit_lacks (w / 2 ^ 4 % 16), digit_lacks (w % 16)) refl

name_lacks : (f : Form) → lacks_lf (name_of f) ≡ true
name_lacks Lui = refl
name_lacks Jal = refl
name_lacks Jalr = refl
name_lacks (Branch condition.Eq) = refl
name_lacks (Branch condition.Ne) = refl
name_lacks (Branch condition.Lt) = refl
name_lacks (Branch condition.Ge) = refl
name_lacks (Branch condition.Ltu) = refl
name_lacks (Branch condition.Geu) = refl
name_lacks Ld = refl
name_lacks Sd = refl
name_lacks (OpImm immediate.Addi) = refl
name_lacks (OpImm immediate.Slti) = refl
name_lacks (OpImm immediate.Sltiu) = refl
name_lacks (OpImm immediate.Xori) = refl
name_lacks (OpImm immediate.Ori) = refl
name_lacks (OpImm immediate.Andi) = refl
name_lacks (ShiftImm shift.Slli) = refl
name_lacks (ShiftImm shift.Srli) = refl
name_lacks (ShiftImm shift.Srai) = refl
name_lacks (Op register.Add) = refl
name_lacks (Op register.Sll) = refl
name_lacks (Op register.Slt) = refl
name_lacks (Op register.Sltu) = refl
name_lacks (Op register.Xor) = refl
name_lacks (Op register.Srl) = refl
name_lacks (Op register.Or) = refl
name_lacks (Op register.And) = refl
name_lacks (Op register.Sub) = refl
name_lacks (Op register.Sra) = refl
name_lacks (Op register.Mul) = refl
name_lacks (Op register.Div) = refl
name_lacks Ecall = refl

-- the names of pieces lack LF
abbrev NamesLack : List Piece → Type 0
NamesLack [] = Unit {0}
NamesLack (Name text ∷ ps) = (lacks_lf text ≡ true) × NamesLack ps
NamesLack (Number n ∷ ps) = NamesLack ps
NamesLack (Register r ∷ ps) = NamesLack ps
NamesLack (Hex bits ∷ ps) = NamesLack ps
NamesLack (Gap ∷ ps) = NamesLack ps
NamesLack (Comma ∷ ps) = NamesLack ps
NamesLack (Open ∷ ps) = NamesLack ps
NamesLack (Close ∷ ps) = NamesLack ps

pieces_lack : (ps : List Piece) → NumbersFit ps → NamesLack ps → lacks_lf (flat_map written ps) ≡ true
pieces_lack [] h n = refl
pieces_lack (Name text ∷ ps) h n = lacks-append text (flat_map written ps) n.0 (pieces_lack ps h n.1)
pieces_lack (Number z ∷ ps) h n = lacks-append (written (Number z)) (flat_map written ps) (int_lacks (written (Number z)) z (IsInt-signed_decimal z h.0)) (pieces_lack ps h.1 n)
pieces_lack (Register r ∷ ps) h n = lacks-append (register_text r) (flat_map written ps) (register_lacks r) (pieces_lack ps h n)
pieces_lack (Hex bits ∷ ps) h n = lacks-append (hex_text bits) (flat_map written ps) (hex_lacks bits) (pieces_lack ps h n)
pieces_lack (Gap ∷ ps) h n = pieces_lack ps h n
pieces_lack (Comma ∷ ps) h n = pieces_lack ps h n
pieces_lack (Open ∷ ps) h n = pieces_lack ps h n
pieces_lack (Close ∷ ps) h n = pieces_lack ps h n

operands_lack : (w : Word) → NamesLack (word_pieces w)
operands_lack w = (name_lacks (form_of w), by (operands_of w))
  where
    by : (o : Operands) → NamesLack (operand_pieces o)
    by Nothing = tt
    by (Short r n) = tt
    by (Long r s n) = tt
    by (At r n s) = tt
    by (Three r s t) = tt

line_lacks_by : (bits : ℕ) (o : Option Word) → bits < 2 ^ 32 → decoded bits ≡ o → lacks_lf (flat_map written (pieces_by bits o)) ≡ true
line_lacks_by bits None h e = pieces_lack (bits_pieces bits) tt (refl, tt)
line_lacks_by bits (Some w) h e = pieces_lack (word_pieces w) (word_fits w (encoded-decoded bits w h e).word) (operands_lack w)

-- ---- lines

pub cut_line : (line bytes : List ℕ) → lacks_lf line ≡ true → lines_in (line ++ 10 ∷ bytes) ≡ line ∷ lines_in bytes
cut_line [] bytes h = refl
cut_line (b ∷ line) bytes h = by (b == 10) h (cut_line line bytes)
  where
    by : (t : Bool) → (not t && lacks_lf line) ≡ true → (lacks_lf line ≡ true → lines_in (line ++ 10 ∷ bytes) ≡ line ∷ lines_in bytes) → cut_at t b (lines_in (line ++ 10 ∷ bytes)) ≡ (b ∷ line) ∷ lines_in bytes
    by true h again = absurd (let e : false ≡ true = h in cc)
    by false h again = ap (cut_at false b) (again h)

empty_line : IsEmptyLine []
empty_line = ([], [], refl, All-nil (λ b. IsTrue (is_blank b)), ([], [], refl, All-nil (λ b. IsTrue (is_blank b)), tt))

listing_again : (words : List ℕ) → All (λ w. w < 2 ^ 32) words → IsListing (listing words) words
listing_again [] all = inl (empty_line, refl)
listing_again (w ∷ words) all =
    let low = All-head (λ w. w < 2 ^ 32) w words all in
    let more = listing_again words (All-tail (λ w. w < 2 ^ 32) w words all) in
    let lines : lines_in (listing (w ∷ words)) ≡ line_of w ∷ lines_in (listing words) =
    ap lines_in (append_assoc (line_of w) (10 ∷ []) (listing words)) ∙ cut_line (line_of w) (listing words) (line_lacks_by w (decoded w) low refl) in
    subst (λ ls. Tell ls (w ∷ words)) (sym lines) (inr (w, words, written_is_read w low, refl, more))

tell_one : (lines : List (List ℕ)) (v w : List ℕ) → Tell lines v → Tell lines w → v ≡ w
tell_one [] v w h k = h ∙ sym k
tell_one (line ∷ lines) v w (inl h) (inl k) = tell_one lines v w h.1 k.1
tell_one (line ∷ lines) v w (inl h) (inr k) = absurd (one_word.some line k.0 k.2 h.0)
tell_one (line ∷ lines) v w (inr h) (inl k) = absurd (one_word.some line h.0 h.2 k.0)
tell_one (line ∷ lines) v w (inr h) (inr k) = h.3 ∙ (ap₂ (λ x (xs : List ℕ). x ∷ xs) (one_word.one line h.0 k.0 h.2 k.2) (tell_one lines h.1 k.1 h.4 k.4) ∙ sym k.3)

none_bad : (before : List (List ℕ)) (bad : List ℕ) (after : List (List ℕ)) (words : List ℕ) → Tell (before ++ bad ∷ after) words → (IsEmptyLine bad → ⊥) → ((bits : ℕ) → TellsWord bad bits → ⊥) → ⊥
none_bad [] bad after words (inl h) e b = e h.0
none_bad [] bad after words (inr h) e b = b h.0 h.2
none_bad (line ∷ before) bad after words (inl h) e b = none_bad before bad after words h.1 e b
none_bad (line ∷ before) bad after words (inr h) e b = none_bad before bad after h.1 h.4 e b

-- a first line that is empty or tells a word isn't bad
begun : (line : List ℕ) (lines : List (List ℕ)) (words : List ℕ) → Tell (line ∷ lines) words → (IsEmptyLine line → ⊥) → ((bits : ℕ) → TellsWord line bits → ⊥) → ⊥
begun line lines words (inl h) e b = e h.0
begun line lines words (inr h) e b = b h.0 h.2

record Rest (lines : List (List ℕ)) : Type 0 where
  words : List ℕ
  tell : Tell lines words

rest_of : (line : List ℕ) (lines : List (List ℕ)) (words : List ℕ) → Tell (line ∷ lines) words → Rest lines
rest_of line lines words (inl h) = record { words = words; tell = h.1 }
rest_of line lines words (inr h) = record { words = h.1; tell = h.4 }

first_one : (xs ys : List (List ℕ)) (a b : List ℕ) (cs ds : List (List ℕ)) (v w : List ℕ) → xs ++ a ∷ cs ≡ ys ++ b ∷ ds → Tell xs v → Tell ys w
    → (IsEmptyLine a → ⊥) → ((bits : ℕ) → TellsWord a bits → ⊥) → (IsEmptyLine b → ⊥) → ((bits : ℕ) → TellsWord b bits → ⊥) → length xs ≡ length ys
first_one [] [] a b cs ds v w e h k p q r s = refl
first_one [] (y ∷ ys) a b cs ds v w e h k p q r s =
    absurd (let f : a ∷ cs ≡ y ∷ (ys ++ b ∷ ds) = e in let same : y ≡ a = cc in begun a ys w (subst (λ l. Tell (l ∷ ys) w) same k) p q)
first_one (x ∷ xs) [] a b cs ds v w e h k p q r s =
    absurd (let f : x ∷ (xs ++ a ∷ cs) ≡ b ∷ ds = e in let same : x ≡ b = cc in begun b xs v (subst (λ l. Tell (l ∷ xs) v) same h) r s)
first_one (x ∷ xs) (y ∷ ys) a b cs ds v w e h k p q r s =
    let f : x ∷ (xs ++ a ∷ cs) ≡ y ∷ (ys ++ b ∷ ds) = e in let rest : xs ++ a ∷ cs ≡ ys ++ b ∷ ds = cc in
    let i = rest_of x xs v h in let j = rest_of y ys w k in
    ap suc (first_one xs ys a b cs ds i.words j.words rest i.tell j.tell p q r s)

-- ---- what lines tell

told_words : (lines : List (List ℕ)) (before : ℕ) (words : List ℕ) → lines_told before lines ≡ Words words → Tell lines words
told_words [] before words e = let k : Words [] ≡ Words words = e in let same : [] ≡ words = cc in sym same
told_words (line ∷ lines) before words e = by (told line) (lines_told (suc before) lines) refl e (told_words lines (suc before))
  where
    by : (t : Told) (rest : Lines) → told line ≡ t → line_then t before rest ≡ Words words → ((ws : List ℕ) → rest ≡ Words ws → Tell lines ws) → Tell (line ∷ lines) words
    by tells.Empty rest is e again = inl (told_empty line is, again words e)
    by (tells.Word bits) (Words ws) is e again =
        let k : Words (bits ∷ ws) ≡ Words words = e in let same : bits ∷ ws ≡ words = cc in
        inr (bits, ws, told_tells line bits is, sym same, again ws refl)
    by (tells.Word bits) (Fault n) is e again = absurd (let k : Fault n ≡ Words words = e in cc)
    by tells.Bad rest is e again = absurd (let k : Fault (suc before) ≡ Words words = e in cc)

record FaultIn (lines : List (List ℕ)) (from line : ℕ) : Type 0 where
  before : List (List ℕ)
  bad : List ℕ
  after : List (List ℕ)
  split : lines ≡ before ++ bad ∷ after
  place : line ≡ suc (from + length before)
  words : List ℕ
  tell : Tell before words
  filled : IsEmptyLine bad → ⊥
  broken : (bits : ℕ) → TellsWord bad bits → ⊥

told_fault : (lines : List (List ℕ)) (from n : ℕ) → lines_told from lines ≡ Fault n → FaultIn lines from n
told_fault [] from n e = absurd (let k : Words [] ≡ Fault n = e in cc)
told_fault (line ∷ lines) from n e = by (told line) (lines_told (suc from) lines) refl e (told_fault lines (suc from) n)
  where
    by : (t : Told) (rest : Lines) → told line ≡ t → line_then t from rest ≡ Fault n → (rest ≡ Fault n → FaultIn lines (suc from) n) → FaultIn (line ∷ lines) from n
    by tells.Empty rest is e again =
        let r = again e in
        let p = r.place in
        record {
          before = line ∷ r.before;
          bad = r.bad;
          after = r.after;
          split = ap (λ x. line ∷ x) r.split;
          place = omega arith;
          words = r.words;
          tell = inl (told_empty line is, r.tell);
          filled = r.filled;
          broken = r.broken;
        }
    by (tells.Word bits) (Words ws) is e again = absurd (let k : Words (bits ∷ ws) ≡ Fault n = e in cc)
    by (tells.Word bits) (Fault m) is e again =
        let r = again e in
        let p = r.place in
        record {
          before = line ∷ r.before;
          bad = r.bad;
          after = r.after;
          split = ap (λ x. line ∷ x) r.split;
          place = omega arith;
          words = bits ∷ r.words;
          tell = inr (bits, r.words, told_tells line bits is, refl, r.tell);
          filled = r.filled;
          broken = r.broken;
        }
    by tells.Bad rest is e again =
        let k : Fault (suc from) ≡ Fault n = e in let same : suc from ≡ n = cc in
        record {
          before = [];
          bad = line;
          after = lines;
          split = refl;
          place = omega arith;
          words = [];
          tell = refl;
          filled = λ h. (let m : tells.Empty ≡ tells.Bad = sym (empty_told line h) ∙ is in cc);
          broken = λ bits h. (let m : tells.Word bits ≡ tells.Bad = sym (tells_told line bits h) ∙ is in cc);
        }

pub told_listing : (source words : List ℕ) → listing_told source ≡ Words words → IsListing source words
told_listing source words e = told_words (lines_in source) 0 words e

pub told_first : (source : List ℕ) (line : ℕ) → listing_told source ≡ Fault line → IsFirstFault source line
told_first source line e =
    let r = told_fault (lines_in source) 0 line e in
    record { before = r.before; bad = r.bad; after = r.after; split = r.split; place = (let p = r.place in omega arith); words = r.words; tell = r.tell; filled = r.filled; broken = r.broken }

each_source : (source : List ℕ) → ((words : List ℕ) × IsListing source words) ⊎ ((line : ℕ) × IsFirstFault source line)
each_source source = by (listing_told source) refl
  where
    by : (o : Lines) → listing_told source ≡ o → ((words : List ℕ) × IsListing source words) ⊎ ((line : ℕ) × IsFirstFault source line)
    by (Words words) e = inl (words, told_listing source words e)
    by (Fault line) e = inr (line, told_first source line e)

pub exact : ListingsAreExact
exact = record {
  again = listing_again;
  each = each_source;
  one = λ source v w h k. tell_one (lines_in source) v w h k;
  sound = λ source words line h f. none_bad f.before f.bad f.after words (subst (λ ls. Tell ls words) f.split h) f.filled f.broken;
  first = λ source m n f g. f.place ∙ (ap suc (first_one f.before g.before f.bad g.bad f.after g.after f.words g.words (sym f.split ∙ g.split) f.tell g.tell f.filled f.broken g.filled g.broken) ∙ sym g.place);
}

-- ---- what reading answers

pub reads_listing : (source : List ℕ) (r : Result (List ℕ) ListingFault) → IfOk r (λ words. listing_told source ≡ Words words) → IfErr r (IsToldFault source)
    → (words : List ℕ) → IsListing source words → MatchResult r (λ found. found ≡ words) (λ fault. fault ≡ Memory)
reads_listing source (Ok found) ok err words h = exact.one source found words (told_listing source found ok) h
reads_listing source (Err Memory) ok err words h = refl
reads_listing source (Err (Line line)) ok err words h = absurd (exact.sound source words line h (told_first source line err))

pub is_listing : (source : List ℕ) (r : Result (List ℕ) ListingFault) → IfOk r (λ words. listing_told source ≡ Words words) → IfOk r (λ words. IsListing source words)
is_listing source (Ok words) ok = told_listing source words ok
is_listing source (Err fault) ok = tt

pub is_fault : (source : List ℕ) (r : Result (List ℕ) ListingFault) → IfErr r (IsToldFault source) → IfErr r (IsFaultOf source)
is_fault source (Ok words) err = tt
is_fault source (Err Memory) err = by (listing_told source) refl err
  where
    by : (o : Lines) → listing_told source ≡ o → fault_told o ≡ None → (words : List ℕ) × IsListing source words
    by (Words words) is e = (words, told_listing source words is)
    by (Fault line) is e = absurd (none-some line (sym e))
is_fault source (Err (Line line)) err = told_first source line err

pub tells_fault : (source : List ℕ) (r : Result (List ℕ) ListingFault) → IfOk r (λ words. listing_told source ≡ Words words) → IfErr r (IsToldFault source) → (line : ℕ) → IsFirstFault source line → IsErrOf r (Line line)
tells_fault source (Ok words) ok err line h = absurd (exact.sound source words line (told_listing source words ok) h)
tells_fault source (Err Memory) ok err line h = (let w = is_fault source (Err Memory) err in absurd (exact.sound source w.0 line w.1 h))
tells_fault source (Err (Line other)) ok err line h = ap (λ n. Err (Line n)) (exact.first source other line (told_first source other err) h)

-- ---- steps of reading

pub last_line : (line : List ℕ) → lacks_lf line ≡ true → lines_in line ≡ line ∷ []
last_line [] h = refl
last_line (b ∷ line) h = by (b == 10) h (last_line line)
  where
    by : (t : Bool) → (not t && lacks_lf line) ≡ true → (lacks_lf line ≡ true → lines_in line ≡ line ∷ []) → cut_at t b (lines_in line) ≡ (b ∷ line) ∷ []
    by true h again = absurd (let e : false ≡ true = h in cc)
    by false h again = ap (cut_at false b) (again h)

-- the words so far, and those of the lines left, are those of the source
pub record IsReadTo (source rest : List ℕ) (before : ℕ) (words : List ℕ) : Type 0 where
  pub so_far : with_words words (lines_told before (lines_in rest)) ≡ listing_told source
  pub place : before + length rest ≤ length source

with_more : (old more : List ℕ) (o : Lines) → with_words (old ++ more) o ≡ with_words old (with_words more o)
with_more old more (Words ws) = ap Words (append_assoc old more ws)
with_more old more (Fault n) = refl

-- a line's words are in front of those of the lines behind it
adds_line : (t : Told) (old new : List ℕ) (before : ℕ) (rest : Lines) → Adds t old new → with_words old (line_then t before rest) ≡ with_words new rest
adds_line tells.Empty old new before rest h = ap (λ ws. with_words ws rest) (sym h)
adds_line (tells.Word bits) old new before rest h = sym (ap (λ ws. with_words ws rest) h ∙ with_more old (bits ∷ []) rest)
adds_line tells.Bad old new before rest h = absurd h

pub read_more : (source rest line after : List ℕ) (before : ℕ) (old new : List ℕ) → IsReadTo source rest before old → rest ≡ line ++ 10 ∷ after → lacks_lf line ≡ true → Adds (told line) old new
    → IsReadTo source after (suc before) new
read_more source rest line after before old new r is lacks adds =
    let lines : lines_in rest ≡ line ∷ lines_in after = ap lines_in is ∙ cut_line line after lacks in
    let p = r.place in
    let l : length rest ≡ length line + suc (length after) = ap length is ∙ length-append line (10 ∷ after) in
    record {
      so_far = sym (adds_line (told line) old new before (lines_told (suc before) (lines_in after)) adds) ∙ (ap (λ ls. with_words old (lines_told before ls)) (sym lines) ∙ r.so_far);
      place = omega arith;
    }

pub read_all : (source rest : List ℕ) (before : ℕ) (old new : List ℕ) → IsReadTo source rest before old → lacks_lf rest ≡ true → Adds (told rest) old new → listing_told source ≡ Words new
read_all source rest before old new r lacks adds =
    sym (sym (ap (λ ws. Words ws) (append-nil new)) ∙ (sym (adds_line (told rest) old new before (Words []) adds) ∙ (ap (λ ls. with_words old (lines_told before ls)) (sym (last_line rest lacks)) ∙ r.so_far)))

-- a line that tells nothing it may is the first fault
fault_here : (source rest : List ℕ) (lines : List (List ℕ)) (line : List ℕ) (before : ℕ) (old : List ℕ) (fault : ListingFault) → IsReadTo source rest before old → lines_in rest ≡ line ∷ lines → fault_told (listing_told source) ≡ None
    → ((fault ≡ Memory) ⊎ IsLineFault (told line) before fault) → IsToldFault source fault
fault_here source rest lines line before old fault r is none h = ⊎_elim
    (λ m. subst (IsToldFault source) (sym m) none)
    (λ b. subst (IsToldFault source) (sym b.1) (sym r.so_far ∙ (ap (λ ls. with_words old (lines_told before ls)) is ∙ ap (λ t. with_words old (line_then t before (lines_told (suc before) lines))) b.0)))
    h

pub fault_in : (source rest line after : List ℕ) (before : ℕ) (old : List ℕ) (fault : ListingFault) → IsReadTo source rest before old → rest ≡ line ++ 10 ∷ after → lacks_lf line ≡ true → fault_told (listing_told source) ≡ None
    → ((fault ≡ Memory) ⊎ IsLineFault (told line) before fault) → IsToldFault source fault
fault_in source rest line after before old fault r is lacks none h = fault_here source rest (lines_in after) line before old fault r (ap lines_in is ∙ cut_line line after lacks) none h

pub fault_last : (source rest : List ℕ) (before : ℕ) (old : List ℕ) (fault : ListingFault) → IsReadTo source rest before old → lacks_lf rest ≡ true → fault_told (listing_told source) ≡ None
    → ((fault ≡ Memory) ⊎ IsLineFault (told rest) before fault) → IsToldFault source fault
fault_last source rest before old fault r lacks none h = fault_here source rest [] rest before old fault r (last_line rest lacks) none h

-- ---- steps of looking

-- the lines left have the source's fault
pub record IsSeenTo (source rest : List ℕ) (before : ℕ) : Type 0 where
  pub so_far : fault_told (lines_told before (lines_in rest)) ≡ fault_told (listing_told source)
  pub place : before + length rest ≤ length source

fault_with : (words : List ℕ) (o : Lines) → fault_told (with_words words o) ≡ fault_told o
fault_with words (Words ws) = refl
fault_with words (Fault n) = refl

fault_past : (o : Option ℕ) (t : Told) (before : ℕ) (rest : Lines) → t ≡ told_as o → fault_told (line_then t before rest) ≡ fault_told rest
fault_past None t before rest e = ap (λ t. fault_told (line_then t before rest)) e
fault_past (Some bits) t before rest e = ap (λ t. fault_told (line_then t before rest)) e ∙ fault_with (bits ∷ []) rest

has_fault : (o : Lines) (n : ℕ) → fault_told o ≡ Some n → o ≡ Fault n
has_fault (Words ws) n e = absurd (none-some n e)
has_fault (Fault m) n e = ap Fault (same_Some m n e)

pub seen_more : (source rest line after : List ℕ) (before : ℕ) (o : Option ℕ) → IsSeenTo source rest before → rest ≡ line ++ 10 ∷ after → lacks_lf line ≡ true → told line ≡ told_as o → IsSeenTo source after (suc before)
seen_more source rest line after before o s is lacks tells =
    let lines : lines_in rest ≡ line ∷ lines_in after = ap lines_in is ∙ cut_line line after lacks in
    let p = s.place in
    let l : length rest ≡ length line + suc (length after) = ap length is ∙ length-append line (10 ∷ after) in
    record {
      so_far = sym (fault_past o (told line) before (lines_told (suc before) (lines_in after)) tells) ∙ (ap (λ ls. fault_told (lines_told before ls)) (sym lines) ∙ s.so_far);
      place = omega arith;
    }

pub seen_all : (source rest : List ℕ) (before : ℕ) (o : Option ℕ) → IsSeenTo source rest before → lacks_lf rest ≡ true → told rest ≡ told_as o → fault_told (listing_told source) ≡ None
seen_all source rest before o s lacks tells = sym s.so_far ∙ (ap (λ ls. fault_told (lines_told before ls)) (last_line rest lacks) ∙ fault_past o (told rest) before (Words []) tells)

bad_here : (source rest : List ℕ) (lines : List (List ℕ)) (line : List ℕ) (before : ℕ) (fault : ListingFault) → IsSeenTo source rest before → lines_in rest ≡ line ∷ lines → IsLineFault (told line) before fault → IsToldFault source fault
bad_here source rest lines line before fault s is h =
    let e : fault_told (listing_told source) ≡ Some (suc before) = sym s.so_far ∙ (ap (λ ls. fault_told (lines_told before ls)) is ∙ ap (λ t. fault_told (line_then t before (lines_told (suc before) lines))) h.0) in
    subst (IsToldFault source) (sym h.1) (has_fault (listing_told source) (suc before) e)

pub bad_in : (source rest line after : List ℕ) (before : ℕ) (fault : ListingFault) → IsSeenTo source rest before → rest ≡ line ++ 10 ∷ after → lacks_lf line ≡ true → IsLineFault (told line) before fault → IsToldFault source fault
bad_in source rest line after before fault s is lacks h = bad_here source rest (lines_in after) line before fault s (ap lines_in is ∙ cut_line line after lacks) h

pub bad_last : (source rest : List ℕ) (before : ℕ) (fault : ListingFault) → IsSeenTo source rest before → lacks_lf rest ≡ true → IsLineFault (told rest) before fault → IsToldFault source fault
bad_last source rest before fault s lacks h = bad_here source rest [] rest before fault s (last_line rest lacks) h
