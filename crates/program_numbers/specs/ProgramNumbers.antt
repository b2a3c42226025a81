-- The numbers of a program, in which bounds on passes and on the words of the machine are told: each is the greatest of
-- its functions' numbers, or their sum.
use Rattle.std.specs.Prelude.{◌≡◌, ℕ, ◌+◌, ◌≤◌, List, [], ◌∷◌, map, max}
use Rattle.std.specs.List.{Contains}
use Rattle.bril_tree.specs.declared.numbered_function.Func.{Func}
use Rattle.bril_tree.specs.declared.program.Prog.{Prog}
use Rattle.program_numbers.specs.Entries.{IsEntryCount, IsEntryWidth}
use Rattle.bril_tree.specs.FrameWords.{IsDepth, AreFrameWords, location_count}

-- the greatest of numbers, 0 where there is none
abbrev pub greatest : List ℕ → ℕ
greatest [] = 0
greatest (n ∷ ns) = max n (greatest ns)

-- The number is that of some function of the program, and no function has a greater one.
pub record IsGreatest (P : Func → ℕ → Type 0) (p : Prog) (number : ℕ) : Type 0 where
  pub func : Func
  pub is : Contains p.funcs func
  pub has : P func number
  pub most : (other : Func) (n : ℕ) → Contains p.funcs other → P other n → n ≤ number

-- the greatest number of locations of a function
abbrev pub most_locations : Prog → ℕ
most_locations p = greatest (map location_count p.funcs)

-- the greatest number of sites that are open on a walk
abbrev pub IsGreatestDepth : Prog → ℕ → Type 0
IsGreatestDepth p depth = IsGreatest (λ f n. IsDepth f.code n) p depth

-- the words of the largest frame
abbrev pub IsLargestFrame : Prog → ℕ → Type 0
IsLargestFrame p words = IsGreatest AreFrameWords p words

-- the greatest number of labels to which edges go from one leave point
abbrev pub IsGreatestWidth : Prog → ℕ → Type 0
IsGreatestWidth p width = IsGreatest (λ f n. IsEntryWidth f.code n) p width

-- the sum of the functions' numbers
abbrev pub IsSum : (Func → ℕ → Type 0) → List Func → ℕ → Type 0
IsSum P [] number = number ≡ 0
IsSum P (f ∷ funcs) number = (first : ℕ) × (rest : ℕ) × P f first × IsSum P funcs rest × (number ≡ first + rest)

-- the number of entries of all functions
abbrev pub AreEntries : Prog → ℕ → Type 0
AreEntries p entries = IsSum (λ f n. IsEntryCount f.code n) p.funcs entries
