-- The longest piece at the front of the bytes, computed.
use Rattle.std.specs.Prelude.{ℕ, ◌+◌, Bool, not, ◌&&◌, ◌||◌, ◌==◌, nat_lt, nat_le, List, [], ◌∷◌, length, take, drop, slice_index, Option, Some, None, is_some, if◌then◌else◌}
use Rattle.std.specs.List.{prefix_len}
use Rattle.std.specs.Char.{is_ascii_digit}
use Rattle.std.specs.Str.{is_utf8, continuation_len}
use Rattle.std.specs.Str.Lossy.{utf8_valid_len}
use Rattle.bril_tree.specs.Identifier.{begins_identifier, continues_identifier}
use Rattle.bril_tree.specs.Path.{is_path_byte}
use Rattle.bril_lex.specs.Spelling.{is_mark, is_blank, makes_float, continues_float, escaped}
use Rattle.bril_lex.specs.Piece.{stays_in_line}
use Rattle.bril_lex.specs.declared.token.Kind.{Kind}
use Rattle.bril_lex.specs.declared.token.Kind.TheVariants as kind
use Rattle.bril_lex.specs.declared.class.Class.TheVariants.{OfKind, Blank, Comment}
use Rattle.bril_lex.specs.declared.scan.Front.{Front}
use Rattle.bril_lex.specs.declared.scan.Lead.{Lead}
use Rattle.bril_lex.specs.declared.scan.Lead.TheVariants as lead

-- `+` or `-`
abbrev pub is_sign : ℕ → Bool
is_sign byte = (byte == 45) || (byte == 43)

-- what a first byte begins
abbrev pub lead_of : ℕ → Lead
lead_of byte =
    if is_mark byte then lead.Mark
    else (if is_blank byte then lead.Blank
    else (if begins_identifier byte then lead.Identifier
    else (if is_sign byte || is_ascii_digit byte then lead.Number
    else (if byte == 64 then lead.Function
    else (if byte == 46 then lead.Label
    else (if byte == 39 then lead.Char
    else (if byte == 34 then lead.Path
    else (if byte == 35 then lead.Comment
    else lead.Nothing))))))))

-- the byte at this index is there and equals `byte`
abbrev pub stands_at : ℕ → ℕ → List ℕ → Bool
stands_at byte index bytes = nat_lt index (length bytes) && (slice_index bytes index == byte)

-- a token of one byte and n others, if n is not 0
abbrev pub front_after : Kind → ℕ → Option Front
front_after kind n = if n == 0 then None else Some (record { class = OfKind kind; length = n + 1 })

-- the length of the identifier at the front, 0 where there is none
abbrev pub identifier_len : List ℕ → ℕ
identifier_len [] = 0
identifier_len (first ∷ rest) = if begins_identifier first then prefix_len continues_identifier rest + 1 else 0

-- the length of a sign at the front
abbrev pub sign_len : List ℕ → ℕ
sign_len [] = 0
sign_len (first ∷ rest) = if is_sign first then 1 else 0

-- the number of digits after a sign at the front
abbrev pub digits_len : List ℕ → ℕ
digits_len bytes = prefix_len is_ascii_digit (drop (sign_len bytes) bytes)

-- the length of what turns the number before it into a float, 0 where nothing does
abbrev pub fraction_len : List ℕ → ℕ
fraction_len [] = 0
fraction_len (first ∷ rest) = if makes_float first then prefix_len continues_float rest + 1 else 0

-- a number of this length, or the float that continues it
abbrev pub front_of_digits : ℕ → ℕ → Front
front_of_digits number fraction =
    if fraction == 0 then record { class = OfKind kind.Number; length = number }
    else record { class = OfKind kind.Float; length = number + fraction }

-- the number or float at the front
abbrev pub number_front : List ℕ → Option Front
number_front bytes =
    if digits_len bytes == 0 then None
    else Some (front_of_digits (sign_len bytes + digits_len bytes) (fraction_len (drop (sign_len bytes + digits_len bytes) bytes)))

-- the length of the UTF-8 of the scalar value at the front, 0 where there is none
abbrev pub scalar_len : List ℕ → ℕ
scalar_len bytes =
    if nat_le (continuation_len (slice_index bytes 0) + 1) (length bytes) && is_utf8 (take (continuation_len (slice_index bytes 0) + 1) bytes)
    then continuation_len (slice_index bytes 0) + 1 else 0

-- `\`, the letter of an escape, `'`
abbrev pub begins_escape : List ℕ → Bool
begins_escape bytes = (stands_at 92 0 bytes && stands_at 39 2 bytes) && is_some (escaped (slice_index bytes 1))

-- the length of a scalar value other than LF and a quote at the front, 0 where there is none
abbrev pub plain_len : List ℕ → ℕ
plain_len bytes =
    if (nat_lt 0 (scalar_len bytes) && not (stands_at 10 0 bytes)) && stands_at 39 (scalar_len bytes) bytes
    then scalar_len bytes + 1 else 0

-- the length of a char literal after its first quote, 0 where there is none
abbrev pub char_len : List ℕ → ℕ
char_len bytes = if begins_escape bytes then 3 else plain_len bytes

-- the length of a path after its first quote, 0 where there is none
abbrev pub path_len : List ℕ → ℕ
path_len bytes =
    if ((nat_lt 0 (prefix_len is_path_byte bytes) && nat_le (prefix_len is_path_byte bytes) 4096)
    && stands_at 34 (prefix_len is_path_byte bytes) bytes) && is_utf8 (take (prefix_len is_path_byte bytes) bytes)
    then prefix_len is_path_byte bytes + 1 else 0

-- the length of a comment after `#`
abbrev pub comment_len : List ℕ → ℕ
comment_len bytes = utf8_valid_len (take (prefix_len stays_in_line bytes) bytes)

-- the longest piece, by what its first byte begins
abbrev pub front_at : Lead → ℕ → List ℕ → Option Front
front_at lead.Mark first rest = Some (record { class = OfKind kind.Mark; length = 1 })
front_at lead.Blank first rest = Some (record { class = Blank; length = 1 })
front_at lead.Identifier first rest = Some (record { class = OfKind kind.Identifier; length = prefix_len continues_identifier rest + 1 })
front_at lead.Number first rest = number_front (first ∷ rest)
front_at lead.Function first rest = front_after kind.Function (identifier_len rest)
front_at lead.Label first rest = front_after kind.Label (identifier_len rest)
front_at lead.Char first rest = front_after kind.Char (char_len rest)
front_at lead.Path first rest = front_after kind.Path (path_len rest)
front_at lead.Comment first rest = Some (record { class = Comment; length = comment_len rest + 1 })
front_at lead.Nothing first rest = None

-- the longest piece at the front of the bytes, if any piece begins them
abbrev pub front_of : List ℕ → Option Front
front_of [] = None
front_of (first ∷ rest) = front_at (lead_of first) first rest
