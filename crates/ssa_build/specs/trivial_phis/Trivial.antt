-- The loop over the `get`s: which of them are left out, and for what each of these stands.
use Rattle.std.specs.Prelude.{◌≡◌, ◌≢◌, ◌⊎◌, ℕ, ◌+◌, ◌<◌, ◌≤◌, Bool, true, false, List, length, map, not, Option, Some, None, slice_index, slice_index_or}
use Rattle.std.specs.List.{Contains, count_by}
use Rattle.graph_search.specs.Adjacency.{EndsRow}
use Rattle.ssa_build.specs.declared.trivial_phis.operands.Operand.{Operand}
use Rattle.ssa_build.specs.declared.trivial_phis.trivial.Look.{Look}
use Rattle.ssa_build.specs.declared.trivial_phis.trivial.Look.TheVariants as look
use Rattle.ssa_build.specs.trivial_phis.Classes.{ClassesView, count_of, find_in}

-- so many `get`s, and what they are set from
pub record OperandsView : Type 0 where
  pub gets : ℕ
  pub list : List Operand

-- the `get` is set from the definition
abbrev pub Sets : OperandsView → ℕ → ℕ → Type 0
Sets v t z = Contains v.list (record { get = t; from = z })

abbrev pub keys_of : OperandsView → List ℕ
keys_of v = map (λ o. o.get) v.list

abbrev pub sources_of : OperandsView → List ℕ
sources_of v = map (λ o. o.from) v.list

-- ---- what is found; the definition of the `get` number t is `base + t`

-- it is set from two other definitions that differ
pub record HasTwo (v : OperandsView) (base : ℕ) (find : ℕ → ℕ) (t : ℕ) : Type 0 where
  pub first : ℕ
  pub second : ℕ
  pub is_first : Sets v t first
  pub is_second : Sets v t second
  pub differ : find first ≢ find second
  pub other_first : find first ≢ base + t
  pub other_second : find second ≢ base + t

-- it is set from itself alone
abbrev pub OnlyOwn : OperandsView → ℕ → (ℕ → ℕ) → ℕ → Type 0
OnlyOwn v base find t = (z : ℕ) → Sets v t z → find z ≡ base + t

abbrev pub Stays : OperandsView → ℕ → (ℕ → ℕ) → ℕ → Type 0
Stays v base find t = HasTwo v base find t ⊎ OnlyOwn v base find t

-- No trivial `get` is left: each that was left out is set from one definition alone, itself apart, and stands for it.
pub record IsResolved (v : OperandsView) (base : ℕ) (find : ℕ → ℕ) : Type 0 where
  -- arguments and items stand for themselves
  pub fixed : (d : ℕ) → d < base → find d ≡ d
  pub within : (d : ℕ) → d < base + v.gets → find d < base + v.gets
  pub own : (d : ℕ) → d < base + v.gets → find (find d) ≡ find d
  pub gone : (t z : ℕ) → t < v.gets → find (base + t) ≢ base + t → Sets v t z → find z ≡ find (base + t)
  pub left : (t : ℕ) → t < v.gets → find (base + t) ≡ base + t → Stays v base find t

-- ---- the state of the loop

-- the operands from the end on were passed: each stands for the `get` or for what its first operand stands for
pub record IsLooked (v : OperandsView) (base : ℕ) (find : ℕ → ℕ) (t end : ℕ) (first : Option ℕ) : Type 0 where
  pub bound : ℕ
  pub ends : EndsRow (keys_of v) t bound end
  pub within : bound ≤ length v.list
  pub first_is : (w : ℕ) → first ≡ Some w → Sets v t w
  pub passed : (place : ℕ) → end ≤ place → place < length v.list → slice_index (keys_of v) place ≡ t → (find (slice_index (sources_of v) place) ≡ base + t) ⊎ ((w : ℕ) × (first ≡ Some w) × (find (slice_index (sources_of v) place) ≡ find w))

pub record IsWork (v : OperandsView) (base : ℕ) (classes : ClassesView) (gone : List Bool) (ends : List ℕ) (firsts : List (Option ℕ)) : Type 0 where
  pub count : count_of classes ≡ base + v.gets
  pub long : length gone ≡ v.gets
  pub ends_long : length ends ≡ v.gets
  pub firsts_long : length firsts ≡ v.gets
  pub marks : (t : ℕ) → t < v.gets → slice_index_or gone t false ≡ false → find_in classes (base + t) ≡ base + t
  pub marked : (t : ℕ) → t < v.gets → slice_index_or gone t false ≡ true → find_in classes (base + t) ≢ base + t
  pub fixed : (d : ℕ) → d < base → find_in classes d ≡ d
  pub own : (d : ℕ) → d < base + v.gets → find_in classes (find_in classes d) ≡ find_in classes d
  pub found : (d : ℕ) → d < base + v.gets → find_in classes d < base + v.gets
  pub left_out : (t z : ℕ) → t < v.gets → slice_index_or gone t false ≡ true → Sets v t z → find_in classes z ≡ find_in classes (base + t)
  pub looked : (t : ℕ) → t < v.gets → slice_index_or gone t false ≡ false → IsLooked v base (find_in classes) t (slice_index ends t) (slice_index_or firsts t None)

-- how many `get`s stand
abbrev pub standing : List Bool → ℕ
standing gone = count_by not gone

-- what passing an operand makes of the first one: the operand stands for y, or for what the first one stands for
pub data Passes (find : ℕ → ℕ) (y from : ℕ) (old new : Option ℕ) : Type 0 where
  Own : find from ≡ y → new ≡ old → Passes find y from old new
  First : ((w : ℕ) → old ≡ Some w → find w ≡ y) → new ≡ Some from → Passes find y from old new
  Again : (w : ℕ) → old ≡ Some w → find from ≡ find w → new ≡ old → Passes find y from old new

-- the operand is a second one
pub record Differs (find : ℕ → ℕ) (y from : ℕ) (first : Option ℕ) : Type 0 where
  pub other : ℕ
  pub is : first ≡ Some other
  pub not_own : find from ≢ y
  pub first_not_own : find other ≢ y
  pub differ : find other ≢ find from

-- what a look tells
abbrev pub Tells : OperandsView → ℕ → (ℕ → ℕ) → ℕ → Look → Type 0
Tells v base find t look.Stays = Stays v base find t
Tells v base find t (look.Trivial s) = (s < base + v.gets) × (s ≢ base + t) × (find s ≡ s) × ((z : ℕ) → Sets v t z → (find z ≡ base + t) ⊎ (find z ≡ s))
