-- Runs of `_` with which names begin.
use Rattle.std.specs.Prelude.{ℕ, suc, ◌==◌, List, [], ◌∷◌, Option, Some, None, option_map, if◌then◌else◌}
use Rattle.std.specs.Char.{is_ascii_digit}

-- how many `_` the name begins with before a digit, where a digit is next
abbrev pub run_of : List ℕ → Option ℕ
run_of [] = None
run_of (byte ∷ bytes) = if byte == 95 then option_map suc (run_of bytes) else if is_ascii_digit byte then Some 0 else None
