-- Lines: what is written of a word, and what a line tells.
use Rattle.std.specs.Fmt.{signed_decimal}
use Rattle.std.specs.List.{flat_map}
use Rattle.std.specs.Prelude.{◌≡◌, ◌≢◌, ◌⊎◌, ℕ, ◌+◌, ◌/◌, ◌%◌, ◌^◌, ◌<◌, ℤ, Bool, ◌||◌, ◌==◌, nat_lt, if◌then◌else◌, List, [], ◌∷◌, ◌++◌, All, IsTrue, Option, Some, None}
use Rattle.bril_nums.specs.Decimal.{IsInt}
use Rattle.rv64_words.specs.Hexadecimal.{hex_digit}
use Rattle.rv64_words.specs.declared.word.Word.{Word}
use Rattle.rv64_words.specs.Encoding.{IsWord, encoded, decoded}
use Rattle.rv64_listing.specs.Table.{name_of, bits_name, form_of, operands_of, Operands, Nothing, Short, Long, At, Three}

-- ---- pieces of a line

-- a name, a blank, a mark, a register, a number, or eight digits
pub data Piece : Type 0 where
  Name : List ℕ → Piece
  Gap : Piece
  Comma : Piece
  Open : Piece
  Close : Piece
  Register : ℕ → Piece
  Number : ℤ → Piece
  Hex : ℕ → Piece

-- operands with a comma and a blank between each two; those of an address are one
abbrev pub operand_pieces : Operands → List Piece
operand_pieces Nothing = []
operand_pieces (Short r n) = Gap ∷ Register r ∷ Comma ∷ Gap ∷ Number n ∷ []
operand_pieces (Long r s n) = Gap ∷ Register r ∷ Comma ∷ Gap ∷ Register s ∷ Comma ∷ Gap ∷ Number n ∷ []
operand_pieces (At r n s) = Gap ∷ Register r ∷ Comma ∷ Gap ∷ Number n ∷ Open ∷ Register s ∷ Close ∷ []
operand_pieces (Three r s t) = Gap ∷ Register r ∷ Comma ∷ Gap ∷ Register s ∷ Comma ∷ Gap ∷ Register t ∷ []

abbrev pub word_pieces : Word → List Piece
word_pieces w = Name (name_of (form_of w)) ∷ operand_pieces (operands_of w)

abbrev pub bits_pieces : ℕ → List Piece
bits_pieces bits = Name bits_name ∷ Gap ∷ Hex bits ∷ []

-- ---- what is written

-- eight hexadecimal digits
abbrev pub hex_text : ℕ → List ℕ
hex_text w =
    hex_digit (w / 2 ^ 28 % 16) ∷ hex_digit (w / 2 ^ 24 % 16) ∷ hex_digit (w / 2 ^ 20 % 16) ∷ hex_digit (w / 2 ^ 16 % 16) ∷
    hex_digit (w / 2 ^ 12 % 16) ∷ hex_digit (w / 2 ^ 8 % 16) ∷ hex_digit (w / 2 ^ 4 % 16) ∷ hex_digit (w % 16) ∷ []

-- `x` and the number, below 32, without a leading zero
abbrev pub register_text : ℕ → List ℕ
register_text r = if nat_lt r 10 then 120 ∷ (48 + r) ∷ [] else 120 ∷ (48 + r / 10) ∷ (48 + r % 10) ∷ []

abbrev pub written : Piece → List ℕ
written (Name text) = text
written Gap = 32 ∷ []
written Comma = 44 ∷ []
written Open = 40 ∷ []
written Close = 41 ∷ []
written (Register r) = register_text r
written (Number n) = signed_decimal n
written (Hex bits) = hex_text bits

abbrev pub pieces_by : ℕ → Option Word → List Piece
pieces_by bits None = bits_pieces bits
pieces_by bits (Some w) = word_pieces w

-- the line of 32 bits, without LF
abbrev pub line_of : ℕ → List ℕ
line_of bits = flat_map written (pieces_by bits (decoded bits))

-- the lines of words, each with LF
abbrev pub listing : List ℕ → List ℕ
listing words = flat_map (λ bits. line_of bits ++ 10 ∷ []) words

-- ---- what a line tells

abbrev pub is_blank : ℕ → Bool
is_blank b = (b == 32) || (b == 9)

abbrev pub AreBlank : List ℕ → Type 0
AreBlank bytes = All (λ b. IsTrue (is_blank b)) bytes

-- nothing, or a comment
abbrev pub IsComment : List ℕ → Type 0
IsComment [] = Unit {0}
IsComment (b ∷ bytes) = b ≡ 35

-- how a piece may be spelled: as it is written, but for blanks and numbers
abbrev pub Spells : Piece → List ℕ → Type 0
Spells Gap bytes = (bytes ≢ []) × AreBlank bytes
Spells (Number n) bytes = IsInt bytes n
Spells piece bytes = bytes ≡ written piece

-- pieces one after another, with blanks and a comment behind them
abbrev pub SpellAll : List Piece → List ℕ → Type 0
SpellAll [] bytes = (blanks rest : List ℕ) × (bytes ≡ blanks ++ rest) × AreBlank blanks × IsComment rest
SpellAll (p ∷ ps) bytes = (front rest : List ℕ) × (bytes ≡ front ++ rest) × Spells p front × SpellAll ps rest

-- the line has blanks, and then these pieces
abbrev pub HasPieces : List Piece → List ℕ → Type 0
HasPieces ps line = (blanks rest : List ℕ) × (line ≡ blanks ++ rest) × AreBlank blanks × SpellAll ps rest

-- the line tells nothing
abbrev pub IsEmptyLine : List ℕ → Type 0
IsEmptyLine line = HasPieces [] line

-- the line tells these 32 bits: by a word that has them, or by their digits
abbrev pub TellsWord : List ℕ → ℕ → Type 0
TellsWord line bits = ((w : Word) × IsWord w × (encoded w ≡ bits) × HasPieces (word_pieces w) line) ⊎ ((bits < 2 ^ 32) × HasPieces (bits_pieces bits) line)
