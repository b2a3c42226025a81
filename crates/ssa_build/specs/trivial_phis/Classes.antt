-- Definitions in classes, as they are kept: each has a parent, the same or a lesser one, and the root of a class has the
-- definition that stands for the whole class.
use Rattle.std.specs.Prelude.{◌≡◌, ℕ, zero, suc, ◌<◌, ◌≤◌, ◌==◌, if◌then◌else◌, List, length, slice_index}

pub record ClassesView : Type 0 where
  pub parents : List ℕ
  pub stands : List ℕ

abbrev pub count_of : ClassesView → ℕ
count_of v = length v.parents

-- the root, found in at most so many steps
abbrev pub root_from : ℕ → List ℕ → ℕ → ℕ
root_from zero parents d = d
root_from (suc fuel) parents d = if slice_index parents d == d then d else root_from fuel parents (slice_index parents d)

abbrev pub root_in : List ℕ → ℕ → ℕ
root_in parents d = root_from d parents d

-- the definition that stands for another
abbrev pub find_in : ClassesView → ℕ → ℕ
find_in v d = slice_index v.stands (root_in v.parents d)

pub record AreClasses (v : ClassesView) : Type 0 where
  pub long : length v.stands ≡ length v.parents
  -- parents are lesser
  pub lesser : (d : ℕ) → d < length v.parents → slice_index v.parents d ≤ d
  -- what stands for a class is one of it
  pub own : (c : ℕ) → c < length v.parents → slice_index v.parents c ≡ c → (slice_index v.stands c < length v.parents) × (root_in v.parents (slice_index v.stands c) ≡ c)

-- each stands for what it stood for before
pub record SameClasses (v w : ClassesView) : Type 0 where
  pub count : length w.parents ≡ length v.parents
  pub find : (d : ℕ) → d < length v.parents → find_in w d ≡ find_in v d

-- the class of y has joined that of z, which stands for both
pub record Joined (y z : ℕ) (v w : ClassesView) : Type 0 where
  pub count : length w.parents ≡ length v.parents
  pub find : (d : ℕ) → d < length v.parents → find_in w d ≡ (if find_in v d == y then z else find_in v d)
