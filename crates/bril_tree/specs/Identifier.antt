-- Identifiers of Bril's text form.
use Rattle.std.specs.Prelude.{ℕ, Bool, false, ◌&&◌, ◌||◌, ◌==◌, List, [], ◌∷◌}
use Rattle.std.specs.List.{list_all}
use Rattle.std.specs.Char.{is_ascii_alphabetic, is_ascii_digit}

-- an ASCII letter, `_` or `%`
abbrev pub begins_identifier : ℕ → Bool
begins_identifier byte = (is_ascii_alphabetic byte || (byte == 95)) || (byte == 37)

-- a byte that begins an identifier, `.` or a digit
abbrev pub continues_identifier : ℕ → Bool
continues_identifier byte = (begins_identifier byte || (byte == 46)) || is_ascii_digit byte

abbrev pub is_identifier : List ℕ → Bool
is_identifier [] = false
is_identifier (first ∷ rest) = begins_identifier first && list_all continues_identifier rest
