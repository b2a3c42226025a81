-- What the tokens of a line tell, step by step from the front, and what lines tell.
use Rattle.std.specs.Prelude.{◌≡◌, ℕ, zero, suc, ◌+◌, ◌-◌, ◌*◌, ◌%◌, ◌^◌, ◌==◌, ◌&&◌, nat_lt, nat_le, if◌then◌else◌, ℤ, pos, negsuc, unsigned_abs, Bool, true, false, List, [], ◌∷◌, ◌++◌, length, Option, Some, None, bytes_eq, option_and_then}
use Rattle.bril_nums.specs.Decimal.{int_of}
use Rattle.rv64_words.specs.declared.word.Word.{Word}
use Rattle.rv64_words.specs.declared.word.Word.TheVariants as word
use Rattle.rv64_words.specs.Encoding.{encoded}
use Rattle.rv64_listing.specs.declared.fault.ListingFault.{ListingFault}
use Rattle.rv64_listing.specs.declared.fault.ListingFault.TheVariants.{Line, Memory}
use Rattle.rv64_listing.specs.declared.form.Form.{Form}
use Rattle.rv64_listing.specs.declared.form.Form.TheVariants.{Lui, Jal, Jalr, Branch, Ld, Sd, OpImm, ShiftImm, Op, Ecall}
use Rattle.rv64_listing.specs.declared.line.Told.{Told}
use Rattle.rv64_listing.specs.declared.line.Told.TheVariants as tells
use Rattle.rv64_listing.specs.Table.{bits_name, form_named}
use Rattle.rv64_listing.specs.Line.{register_text}
use Rattle.rv64_listing.specs.Tokens.{Token, Space, CommaT, OpenT, CloseT, Run, tokens}
use Rattle.rv64_listing.specs.Listing.{lines_in}

infixl 10 ◌>>=◌
abbrev pub ◌>>=◌ : {A B : Type 0} → Option A → (A → Option B) → Option B
o >>= f = option_and_then f o

-- ---- tokens

abbrev pub behind_space : List Token → Option (List Token)
behind_space (Space ∷ ts) = Some ts
behind_space _ = None

abbrev pub behind_comma : List Token → Option (List Token)
behind_comma (CommaT ∷ ts) = Some ts
behind_comma _ = None

abbrev pub behind_open : List Token → Option (List Token)
behind_open (OpenT ∷ ts) = Some ts
behind_open _ = None

abbrev pub behind_close : List Token → Option (List Token)
behind_close (CloseT ∷ ts) = Some ts
behind_close _ = None

-- a run, and what stands behind it
abbrev pub run_in : List Token → Option (List ℕ × List Token)
run_in (Run text ∷ ts) = Some (text, ts)
run_in _ = None

-- no token is left
abbrev pub is_end : List Token → Bool
is_end [] = true
is_end (t ∷ ts) = false

-- the value, where no token is left
abbrev pub ended : {A : Type 0} → A → List Token → Option A
ended x ts = if is_end ts then Some x else None

-- ---- registers, numbers and digits

abbrev pub register_from : ℕ → ℕ → List ℕ → Option ℕ
register_from zero r text = None
register_from (suc n) r text = if bytes_eq text (register_text r) then Some r else register_from n (suc r) text

-- the register of a text
unfoldable pub register_told : List ℕ → Option ℕ
register_told text = register_from 32 0 text

-- the digit of a code
unfoldable pub digit_told : ℕ → Option ℕ
digit_told c =
    if nat_le 48 c && nat_lt c 58 then Some (c - 48)
    else (if nat_le 97 c && nat_lt c 103 then Some (c - 87) else None)

-- the number of so many bits and these digits behind them
abbrev pub number_told : ℕ → List ℕ → Option ℕ
number_told bits [] = Some bits
number_told bits (c ∷ cs) = do
  d ← digit_told c
  number_told (16 * bits + d) cs

-- the bits of eight digits
unfoldable pub bits_told : List ℕ → Option ℕ
bits_told text = if length text == 8 then number_told 0 text else None

-- ---- the ranges of numbers

-- a number from 0 on, below this
abbrev pub natural_told : ℕ → ℤ → Option ℕ
natural_told bound (pos n) = if nat_lt n bound then Some n else None
natural_told bound (negsuc n) = None

-- from -bound to bound - 1
abbrev pub is_within : ℕ → ℤ → Bool
is_within bound (pos n) = nat_lt n bound
is_within bound (negsuc n) = nat_lt n bound

abbrev pub is_even : ℤ → Bool
is_even z = unsigned_abs z % 2 == 0

abbrev pub within_told : ℕ → ℤ → Option ℤ
within_told bound z = if is_within bound z then Some z else None

abbrev pub even_told : ℕ → ℤ → Option ℤ
even_told bound z = if is_within bound z then (if is_even z then Some z else None) else None

-- ---- operands

abbrev pub register_in : List Token → Option (ℕ × List Token)
register_in ts = do
  run ← run_in ts
  r ← register_told run.0
  Some (r, run.1)

abbrev pub number_in : List Token → Option (ℤ × List Token)
number_in ts = do
  run ← run_in ts
  n ← int_of run.0
  Some (n, run.1)

-- a register behind blanks
unfoldable pub first_in : List Token → Option (ℕ × List Token)
first_in ts = do
  rest ← behind_space ts
  register_in rest

-- a register behind a comma and blanks
unfoldable pub next_in : List Token → Option (ℕ × List Token)
next_in ts = do
  rest ← behind_comma ts
  first_in rest

-- a number behind a comma and blanks
unfoldable pub next_number_in : List Token → Option (ℤ × List Token)
next_number_in ts = do
  behind ← behind_comma ts
  rest ← behind_space behind
  number_in rest

-- a register in parentheses
unfoldable pub base_in : List Token → Option (ℕ × List Token)
base_in ts = do
  behind ← behind_open ts
  r ← register_in behind
  rest ← behind_close r.1
  Some (r.0, rest)

-- the operands of a line, to its end
unfoldable pub short_in : List Token → Option (ℕ × ℤ)
short_in ts = do
  r ← first_in ts
  n ← next_number_in r.1
  ended (r.0, n.0) n.1

unfoldable pub long_in : List Token → Option (ℕ × ℕ × ℤ)
long_in ts = do
  r ← first_in ts
  s ← next_in r.1
  n ← next_number_in s.1
  ended (r.0, s.0, n.0) n.1

unfoldable pub at_in : List Token → Option (ℕ × ℤ × ℕ)
at_in ts = do
  r ← first_in ts
  n ← next_number_in r.1
  s ← base_in n.1
  ended (r.0, n.0, s.0) s.1

unfoldable pub three_in : List Token → Option (ℕ × ℕ × ℕ)
three_in ts = do
  r ← first_in ts
  s ← next_in r.1
  t ← next_in s.1
  ended (r.0, s.0, t.0) t.1

-- ---- words

-- the word of a form that the tokens behind its mnemonic tell
abbrev pub word_in : Form → List Token → Option Word
word_in Lui ts = do
  o ← short_in ts
  u ← natural_told (2 ^ 20) o.1
  Some (word.Lui o.0 u)
word_in Jal ts = do
  o ← short_in ts
  d ← even_told 1048576 o.1
  Some (word.Jal o.0 d)
word_in Jalr ts = do
  o ← long_in ts
  i ← within_told 2048 o.2
  Some (word.Jalr o.0 o.1 i)
word_in (Branch c) ts = do
  o ← long_in ts
  d ← even_told 4096 o.2
  Some (word.Branch c o.0 o.1 d)
word_in Ld ts = do
  o ← at_in ts
  i ← within_told 2048 o.1
  Some (word.Ld o.0 o.2 i)
word_in Sd ts = do
  o ← at_in ts
  i ← within_told 2048 o.1
  Some (word.Sd o.2 o.0 i)
word_in (OpImm op) ts = do
  o ← long_in ts
  i ← within_told 2048 o.2
  Some (word.OpImm op o.0 o.1 i)
word_in (ShiftImm op) ts = do
  o ← long_in ts
  s ← natural_told 64 o.2
  Some (word.ShiftImm op o.0 o.1 s)
word_in (Op op) ts = do
  o ← three_in ts
  Some (word.Op op o.0 o.1 o.2)
word_in Ecall ts = ended word.Ecall ts

-- the bits that eight digits tell behind blanks, to the line's end
unfoldable pub bits_in : List Token → Option ℕ
bits_in ts = do
  rest ← behind_space ts
  run ← run_in rest
  bits ← bits_told run.0
  ended bits run.1

-- the bits of a word whose line begins with this run
abbrev pub word_told : List ℕ → List Token → Option ℕ
word_told name ts =
    if bytes_eq name bits_name then bits_in ts
    else (do
      f ← form_named name
      w ← word_in f ts
      Some (encoded w))

abbrev pub told_word : List Token → Option ℕ
told_word ts = do
  run ← run_in ts
  word_told run.0 run.1

abbrev pub told_by : Option ℕ → Told
told_by None = tells.Bad
told_by (Some bits) = tells.Word bits

-- what the tokens of a line tell
abbrev pub told_in : List Token → Told
told_in ts = if is_end ts then tells.Empty else told_by (told_word ts)

abbrev pub told : List ℕ → Told
told line = told_in (tokens line)

-- ---- listings

-- the words of lines, or the first line that tells nothing it may
pub data Lines : Type 0 where
  Words : (words : List ℕ) → Lines
  Fault : (line : ℕ) → Lines

-- words in front of those of lines
abbrev pub with_words : List ℕ → Lines → Lines
with_words words (Words more) = Words (words ++ more)
with_words words (Fault line) = Fault line

-- a line, behind so many, and the lines behind it
abbrev pub line_then : Told → ℕ → Lines → Lines
line_then tells.Empty before rest = rest
line_then (tells.Word bits) before rest = with_words (bits ∷ []) rest
line_then tells.Bad before rest = Fault (suc before)

-- what lines behind so many tell
abbrev pub lines_told : ℕ → List (List ℕ) → Lines
lines_told before [] = Words []
lines_told before (line ∷ lines) = line_then (told line) before (lines_told (suc before) lines)

abbrev pub listing_told : List ℕ → Lines
listing_told source = lines_told 0 (lines_in source)

-- ---- steps of reading

-- what a line adds to words
abbrev pub Adds : Told → (old new : List ℕ) → Type 0
Adds tells.Empty old new = new ≡ old
Adds (tells.Word bits) old new = new ≡ old ++ bits ∷ []
Adds tells.Bad old new = ⊥

-- what a line tells that is empty, or tells these bits
abbrev pub told_as : Option ℕ → Told
told_as None = tells.Empty
told_as (Some bits) = tells.Word bits

-- a line behind so many has this fault
abbrev pub IsLineFault : Told → (before : ℕ) → ListingFault → Type 0
IsLineFault told before fault = (told ≡ tells.Bad) × (fault ≡ Line (suc before))

-- the first fault of lines
abbrev pub fault_told : Lines → Option ℕ
fault_told (Words words) = None
fault_told (Fault line) = Some line

-- a source has this fault, or memory was wanting for one without
abbrev pub IsToldFault : List ℕ → ListingFault → Type 0
IsToldFault source (Line line) = listing_told source ≡ Fault line
IsToldFault source Memory = fault_told (listing_told source) ≡ None
