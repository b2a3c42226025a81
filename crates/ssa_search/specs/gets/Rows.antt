-- Rows of `get`s, one for each point, in one list.
use Rattle.std.specs.Prelude.{◌≡◌, ◌≢◌, ◌↔◌, ℕ, suc, ◌+◌, ◌<◌, ◌≤◌, List, [], ◌∷◌, length, map, Some, slice_get, slice_index, slice_range}
use Rattle.std.specs.List.{AllPairs, Contains}
use Rattle.ssa_search.specs.declared.renaming.now.WantedGet.{WantedGet}

-- `get`s of these locations, with definitions from a number on
abbrev pub gets_from : ℕ → List ℕ → List WantedGet
gets_from definition [] = []
gets_from definition (x ∷ xs) = record { location = x; definition = definition } ∷ gets_from (suc definition) xs

abbrev pub locations_of : List WantedGet → List ℕ
locations_of gets = map (λ get. get.location) gets

-- they are one for each location of which a fact holds
pub record IsRow (Has : ℕ → Type 0) (gets : List WantedGet) : Type 0 where
  pub differ : AllPairs (λ x y. x ≢ y) (locations_of gets)
  pub exact : (x : ℕ) → Contains (locations_of gets) x ↔ Has x

-- the rows of the points before a bound
pub record AreRowsBefore (Has : ℕ → ℕ → Type 0) (base bound : ℕ) (starts : List ℕ) (list : List WantedGet) : Type 0 where
  pub long : length starts ≡ suc bound
  pub first : slice_index starts 0 ≡ 0
  pub last : slice_index starts bound ≡ length list
  pub rising : (k : ℕ) → k < bound → slice_index starts k ≤ slice_index starts (suc k)
  pub within : (k : ℕ) → slice_index starts k ≤ length list
  pub rows : (k : ℕ) → k < bound → IsRow (Has k) (slice_range list (slice_index starts k) (slice_index starts (suc k)))
  pub numbered : (t : ℕ) (get : WantedGet) → slice_get list t ≡ Some get → get.definition ≡ base + t

-- each row is a part of the list
pub record AreParts (starts : List ℕ) (list : List WantedGet) : Type 0 where
  pub within : (k : ℕ) → slice_index starts k ≤ length list
  pub rising : (k : ℕ) → suc k < length starts → slice_index starts k ≤ slice_index starts (suc k)
