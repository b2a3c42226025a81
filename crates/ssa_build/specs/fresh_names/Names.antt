-- The names of definitions.
use Rattle.std.specs.Prelude.{ℕ, zero, suc, ◌+◌, ◌-◌, ◌==◌, Bool, List, [], ◌∷◌, ◌++◌, length, map, take, replicate, nat_lt, slice_index_or, if◌then◌else◌}
use Rattle.std.specs.Int.Digits.{digits_of}
use Rattle.std.specs.List.{list_any}
use Rattle.bril_tree.specs.Numbered.{named}

-- ---- texts

-- the place of the last `.` among bytes that begin at a place, or `end` where there is none
abbrev pub stem_end : (place end : ℕ) → List ℕ → ℕ
stem_end place end [] = end
stem_end place end (byte ∷ bytes) = stem_end (place + 1) (if byte == 46 then place else end) bytes

-- a name as far as its last `.`
abbrev pub stem_of : List ℕ → List ℕ
stem_of name = take (stem_end 0 (length name) name) name

-- how many `_` a name begins with
abbrev pub marks : List ℕ → ℕ
marks [] = 0
marks (byte ∷ bytes) = if byte == 95 then suc (marks bytes) else 0

-- it has a `.`
abbrev pub has_dot : List ℕ → Bool
has_dot name = list_any (λ byte. byte == 46) name

-- the decimal of a number
abbrev pub number_text : ℕ → List ℕ
number_text zero = 48 ∷ []
number_text (suc n) = map (λ digit. 48 + digit) (digits_of 10 (suc n))

-- ---- names

-- how many `_` a made name has to begin with, so that it isn't this argument's
abbrev pub front_of : List ℕ → ℕ
front_of name = if has_dot name then marks name + 1 else 0

-- The name of a definition of the variable of this name: it as far as its last `.`, with so many `_` in front at least, a `.`, and
-- the number of the definition.
abbrev pub made_name : ℕ → List ℕ → ℕ → List ℕ
made_name front name y = replicate (front - marks (stem_of name)) 95 ++ stem_of name ++ 46 ∷ number_text y

-- the name of a variable; `v` for a number that no variable has
abbrev pub base_name : List (List ℕ) → ℕ → List ℕ
base_name names x = slice_index_or names x (118 ∷ [])

-- The name of any definition, where these are the names of variables and the first `args` of them arguments. `variable` has the
-- variable of each other definition.
abbrev pub definition_name : List (List ℕ) → ℕ → ℕ → (ℕ → ℕ) → ℕ → List ℕ
definition_name names args front variable y = if nat_lt y args then named names y else made_name front (base_name names (variable y)) y
