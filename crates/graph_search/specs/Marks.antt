-- Marks of numbers.
use Rattle.std.specs.Prelude.{ℕ, Bool, false, List, slice_index_or}

-- the number is marked; none is past the end of the list
abbrev pub is_marked : List Bool → ℕ → Bool
is_marked marks number = slice_index_or marks number false
