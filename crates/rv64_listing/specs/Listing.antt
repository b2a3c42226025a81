-- Listings: the words that lines tell, and the first line that tells nothing it may.
use Rattle.std.specs.Prelude.{◌≡◌, ◌⊎◌, ◌==◌, ℕ, suc, Bool, true, false, not, List, [], ◌∷◌, ◌++◌, length}
use Rattle.std.specs.List.{list_all}
use Rattle.rv64_listing.specs.declared.fault.ListingFault.{ListingFault}
use Rattle.rv64_listing.specs.declared.fault.ListingFault.TheVariants.{Line, Memory}
use Rattle.rv64_listing.specs.Line.{IsEmptyLine, TellsWord}

abbrev pub cut_at : Bool → ℕ → List (List ℕ) → List (List ℕ)
cut_at true b lines = [] ∷ lines
cut_at false b [] = (b ∷ []) ∷ []
cut_at false b (line ∷ lines) = (b ∷ line) ∷ lines

-- the lines of a source, which LF parts: the last one is what stands behind the last LF, perhaps nothing
abbrev pub lines_in : List ℕ → List (List ℕ)
lines_in [] = [] ∷ []
lines_in (b ∷ bytes) = cut_at (b == 10) b (lines_in bytes)

-- no byte is LF
abbrev pub lacks_lf : List ℕ → Bool
lacks_lf bytes = list_all (λ b. not (b == 10)) bytes

-- each line tells nothing or a word, and these are the words
abbrev pub Tell : List (List ℕ) → List ℕ → Type 0
Tell [] words = words ≡ []
Tell (line ∷ lines) words = (IsEmptyLine line × Tell lines words) ⊎ ((bits : ℕ) × (rest : List ℕ) × TellsWord line bits × (words ≡ bits ∷ rest) × Tell lines rest)

abbrev pub IsListing : List ℕ → List ℕ → Type 0
IsListing source words = Tell (lines_in source) words

-- The lines before this one, counted from 1, tell words, and it neither is empty nor tells one.
pub record IsFirstFault (source : List ℕ) (line : ℕ) : Type 0 where
  pub before : List (List ℕ)
  pub bad : List ℕ
  pub after : List (List ℕ)
  pub split : lines_in source ≡ before ++ bad ∷ after
  pub place : line ≡ suc (length before)
  pub words : List ℕ
  pub tell : Tell before words
  pub filled : IsEmptyLine bad → ⊥
  pub broken : (bits : ℕ) → TellsWord bad bits → ⊥

-- what a source's fault says of it; memory may be wanting for a listing alone
abbrev pub IsFaultOf : List ℕ → ListingFault → Type 0
IsFaultOf source (Line line) = IsFirstFault source line
IsFaultOf source Memory = (words : List ℕ) × IsListing source words
