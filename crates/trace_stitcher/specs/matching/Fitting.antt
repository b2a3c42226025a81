-- The entries that fit, as they are found one after another.
use Rattle.std.specs.Prelude.{◌≡◌, ◌≢◌, ℕ, ◌+◌, ◌*◌, ◌<◌, ◌≤◌, ◌&&◌, ◌==◌, nat_lt, Bool, false, List, [], ◌∷◌, ◌++◌, length, map, Option, Some, None}
use Rattle.std.specs.List.{All, sum_by}
use Rattle.bril_profile.specs.declared.profile.Entry.{Entry}
use Rattle.bril_tree.specs.declared.numbered.Instr.{Instr}
use Rattle.bril_tree.specs.declared.program.Prog.{Prog}
use Rattle.bril_tree.specs.Edge.{Branch}
use Rattle.bril_tree.specs.Sites.{sites_of, most_sites}
use Rattle.bril_tree.specs.Step.{code_of}
use Rattle.bril_tree.specs.Walk.{IsWalk, IsReached, end_of}
use Rattle.trace_stitcher.specs.declared.matching.fitting.Fitting.{Fitting}
use Rattle.trace_paths.specs.Fits.{Fit, FitsAre, IsFit, Repeats, fit_path}
use Rattle.trace_paths.specs.Path.{path_of}
use Rattle.trace_paths.specs.Walked.{leg_of}

-- ---- what is kept

abbrev pub fit_of : Fitting → Fit
fit_of x = record { function = x.function; point = x.point; choices = x.choices }

-- An entry with its path through the program. Its function, its label and where the path stops are there.
pub record HasPath (P : Prog) (x : Fitting) : Type 0 where
  pub legs : map leg_of x.path.legs.items ≡ (fit_path P (fit_of x)).legs
  pub stop : x.path.stop ≡ (fit_path P (fit_of x)).stop
  pub function : x.function < length P.funcs
  pub point : x.point < length (code_of P x.function)
  pub within : x.path.stop ≤ length (code_of P x.function)

-- the entries are at different labels
abbrev pub IsElsewhere : Fitting → Fitting → Type 0
IsElsewhere x y = x.function ≡ y.function → x.point ≡ y.point → ⊥

-- the entries that were found, the last one first
abbrev pub seen_of : List Fitting → List Fit → List Fit
seen_of [] seen = seen
seen_of (x ∷ found) seen = seen_of found (fit_of x ∷ seen)

-- an entry, where it fits, as a list
abbrev pub listed_fit : Option Fitting → List Fitting
listed_fit None = []
listed_fit (Some x) = x ∷ []

-- ---- at a label

-- one of these is at the point of the function
abbrev pub is_at : ℕ → ℕ → Fitting → Bool
is_at function point x = (x.function == function) && (x.point == point)

-- some walk leads to the point, and each that does with fewer than 8 open sites
pub record MaySpeculate (code : List Instr) (point : ℕ) : Type 0 where
  pub reached : IsReached code point
  pub few : (walk : List Branch) → IsWalk code walk → end_of walk ≡ point → length (sites_of code walk) < most_sites

-- an entry at a point of a function with these choices
abbrev pub candidate : (function point : ℕ) → List Bool → Fit
candidate function point choices = record { function = function; point = point; choices = choices }

-- It may speculate, its path lays an item, and none that was found is at the point.
pub record IsFoundSo (code : List Instr) (function point : ℕ) (choices : List Bool) (found : List Fitting) (x : Fitting) : Type 0 where
  pub is : fit_of x ≡ candidate function point choices
  pub may : MaySpeculate code point
  pub lays : (path_of code point choices).legs ≢ []
  pub new : Repeats (seen_of found []) (candidate function point choices) → ⊥
  pub apart : All (λ y. IsElsewhere y x) found
  pub legs : map leg_of x.path.legs.items ≡ (path_of code point choices).legs
  pub stop : x.path.stop ≡ (path_of code point choices).stop
  pub within : x.path.stop ≤ length code

-- what becomes of it behind those that were found
abbrev pub IsFoundAt : List Instr → (function point : ℕ) → List Bool → List Fitting → Option Fitting → Type 0
IsFoundAt code function point choices found None = MaySpeculate code point → (path_of code point choices).legs ≢ [] → Repeats (seen_of found []) (candidate function point choices)
IsFoundAt code function point choices found (Some x) = IsFoundSo code function point choices found x

-- the open sites of a point leave room for one more; where no walk leads there is none
abbrev pub has_room : Option (Option (List ℕ)) → Bool
has_room None = false
has_room (Some None) = false
has_room (Some (Some sites)) = nat_lt (length sites) 8

-- ---- an entry

-- What becomes of an entry of the program behind those that were found: it fits and is at another label than they are, or it
-- doesn't or is at the label of one.
abbrev pub IsFound : Prog → Entry → List Fitting → Option Fitting → Type 0
IsFound P e found None = (y : Fit) → IsFit P e y → Repeats (seen_of found []) y
IsFound P e found (Some x) = IsFit P e (fit_of x) × (Repeats (seen_of found []) (fit_of x) → ⊥) × HasPath P x × All (λ y. IsElsewhere y x) found

-- ---- the bound

-- so many items more for each
abbrev pub added_by : List Fitting → ℕ
added_by found = sum_by (λ x. 2 * length x.path.legs.items + 5) found

-- all that was found of the first entries: whatever fits of the further ones, all together are the entries that fit
abbrev pub FitSoFar : Prog → List Entry → List Fitting → Type 0
FitSoFar P entries found = (rest : List Entry) (fits : List Fit) → FitsAre P (seen_of found []) rest fits → FitsAre P [] (entries ++ rest) (map fit_of found ++ fits)
