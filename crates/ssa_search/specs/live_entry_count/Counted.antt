-- Live entries by the points of labels, and how many of them there are.
use Rattle.std.specs.Prelude.{◌≡◌, ℕ, ◌+◌, ◌^◌, ◌<◌, ◌≤◌, List, [], ◌∷◌, Option, min, slice_index}
use Rattle.std.specs.Int.RustNames.{count_ones}
use Rattle.std.specs.List.{All}
use Rattle.bril_tree.specs.declared.numbered.Instr.{Instr}
use Rattle.bril_tree.specs.Live.{IsLive}
use Rattle.bril_tree.specs.Operand.{Location}
use Rattle.flow_graph.specs.Location.{number_of}
use Rattle.program_numbers.specs.Entries.{AreSoMany}
use Rattle.ssa_search.specs.declared.accesses.entries.Entry.{Entry}
use Rattle.ssa_search.specs.accesses.Entries.{EntersAt}

-- an edge goes from the leave point to the label at the point, where the location is live, and the location's number is from one
-- number on and below another
pub record IsLiveBetween (code : List Instr) (from to : ℕ) (entry : Option ℕ × ℕ × Location) : Type 0 where
  pub enters : EntersAt code entry.0 entry.1
  pub live : IsLive code entry.2 entry.1
  pub low : from ≤ number_of entry.2
  pub high : number_of entry.2 < to

-- so many are told, or 2^64 - 1 where there are more
pub record TellsCount (P : Option ℕ × ℕ × Location → Type 0) (told : ℕ) : Type 0 where
  pub count : ℕ
  pub is : AreSoMany P count
  pub tells : told ≡ min count 18446744073709551615

-- how many bits of the words of these entries' labels are 1
abbrev pub ones_in : List ℕ → List Entry → ℕ
ones_in words [] = 0
ones_in words (entry ∷ entries) = count_ones (slice_index words entry.label) + ones_in words entries

-- they are words of 64 bits
abbrev pub AreWords : List ℕ → List Entry → Type 0
AreWords words entries = All (λ entry. slice_index words entry.label < 2 ^ 64) entries

-- the live entries of the locations below some number that is no less than the bound are told
pub record CountsTo (code : List Instr) (bound told : ℕ) : Type 0 where
  pub reach : ℕ
  pub enough : bound ≤ reach
  pub counted : TellsCount (IsLiveBetween code 0 reach) told
