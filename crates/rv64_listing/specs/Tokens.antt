-- Lines as tokens: what stands between blanks and marks, which are tokens themselves.
use Rattle.std.specs.Prelude.{◌≡◌, ◌==◌, if◌then◌else◌, ℕ, ◌≤◌, Bool, true, false, List, [], ◌∷◌, ◌++◌, length, take, drop}
use Rattle.std.specs.List.{list_all}
use Rattle.rv64_listing.specs.Line.{is_blank, AreBlank}

-- blanks, marks, and runs of other bytes
pub data Token : Type 0 where
  Space : Token
  CommaT : Token
  OpenT : Token
  CloseT : Token
  Run : List ℕ → Token

-- what a byte is to tokens
pub data Class : Type 0 where
  Blank : Class
  CommaC : Class
  OpenC : Class
  CloseC : Class
  Hash : Class
  Plain : Class

abbrev pub class_by : Bool → ℕ → Class
class_by true b = Blank
class_by false b = if b == 44 then CommaC else (if b == 40 then OpenC else (if b == 41 then CloseC else (if b == 35 then Hash else Plain)))

abbrev pub class : ℕ → Class
class b = class_by (is_blank b) b

abbrev pub is_plain : Class → Bool
is_plain Plain = true
is_plain _ = false

abbrev pub is_plain_byte : ℕ → Bool
is_plain_byte b = is_plain (class b)

-- blanks in front of tokens
abbrev pub space : Token → List Token → List Token
space Space ts = Space ∷ ts
space t ts = Space ∷ t ∷ ts

abbrev pub spaced : List Token → List Token
spaced [] = []
spaced (t ∷ ts) = space t ts

-- a plain byte in front of tokens
abbrev pub run_on : ℕ → Token → List Token → List Token
run_on b (Run r) ts = Run (b ∷ r) ∷ ts
run_on b t ts = Run (b ∷ []) ∷ t ∷ ts

abbrev pub joined : ℕ → List Token → List Token
joined b [] = Run (b ∷ []) ∷ []
joined b (t ∷ ts) = run_on b t ts

abbrev pub add : Class → ℕ → List Token → List Token
add Blank b ts = spaced ts
add CommaC b ts = CommaT ∷ ts
add OpenC b ts = OpenT ∷ ts
add CloseC b ts = CloseT ∷ ts
add Hash b ts = []
add Plain b ts = joined b ts

-- the tokens of bytes: from `#` on there is none, and no blank at the end
abbrev pub cut : List ℕ → List Token
cut [] = []
cut (b ∷ bs) = add (class b) b (cut bs)

abbrev pub unspaced : List Token → List Token
unspaced (Space ∷ ts) = ts
unspaced ts = ts

-- the tokens of a line, whose first blanks say nothing
abbrev pub tokens : List ℕ → List Token
tokens line = unspaced (cut line)

-- ---- the front of what is left of a line

abbrev pub FirstIs : (ℕ → Bool) → Bool → List ℕ → Type 0
FirstIs test t [] = Unit {0}
FirstIs test t (b ∷ bytes) = test b ≡ t

-- blanks were skipped, all of them
pub record Skips (rest after : List ℕ) : Type 0 where
  pub blanks : List ℕ
  pub is : rest ≡ blanks ++ after
  pub blank : AreBlank blanks
  pub begins : FirstIs is_blank false after

-- so many plain bytes stand at the front, and no more
pub record IsPlainLength (rest : List ℕ) (n : ℕ) : Type 0 where
  pub within : n ≤ length rest
  pub plain : list_all is_plain_byte (take n rest) ≡ true
  pub ends : FirstIs is_plain_byte false (drop n rest)
