-- How the numbers of a program compare with those of the program that it was made of.
use Rattle.std.specs.Prelude.{◌≡◌, ℕ, ◌+◌, ◌≤◌, length, Some, slice_get}
use Rattle.std.specs.List.{AllZip, range_with_len, sum_by}
use Rattle.bril_tree.specs.Accepted.{IsAccepted}
use Rattle.program_numbers.specs.Cost.{longest_arguments, longest_in}
use Rattle.program_numbers.specs.Entries.{IsEntryCount, IsEntryWidth}
use Rattle.bril_tree.specs.FrameWords.{IsDepth, location_count}
use Rattle.program_numbers.specs.ProgramNumbers.{AreEntries, IsGreatestDepth, IsGreatestWidth, most_locations}
use Rattle.bril_tree.specs.declared.numbered_function.Func.{Func}
use Rattle.bril_tree.specs.declared.program.Prog.{Prog}

-- How great each number may be after a pass, by what it was before.
pub record Growth : Type 0 where
  pub locations : ℕ → ℕ
  pub arguments : ℕ → ℕ
  pub depth : ℕ → ℕ
  pub entries : ℕ → ℕ
  pub width : ℕ → ℕ

-- No number of Q is greater than it may be by that of P.
pub record NumbersGrow (P Q : Prog) (growth : Growth) : Type 0 where
  pub locations : most_locations Q ≤ growth.locations (most_locations P)
  pub arguments : longest_arguments Q ≤ growth.arguments (longest_arguments P)
  pub depth : (d e : ℕ) → IsGreatestDepth P d → IsGreatestDepth Q e → e ≤ growth.depth d
  pub entries : (d e : ℕ) → AreEntries P d → AreEntries Q e → e ≤ growth.entries d
  pub width : (d e : ℕ) → IsGreatestWidth P d → IsGreatestWidth Q e → e ≤ growth.width d

-- the same of a function
pub record FunctionGrows (growth : Growth) (F G : Func) : Type 0 where
  pub locations : location_count G ≤ growth.locations (location_count F)
  pub arguments : longest_in G ≤ growth.arguments (longest_in F)
  pub depth : (d e : ℕ) → IsDepth F.code d → IsDepth G.code e → e ≤ growth.depth d
  pub entries : (d e : ℕ) → IsEntryCount F.code d → IsEntryCount G.code e → e ≤ growth.entries d
  pub width : (d e : ℕ) → IsEntryWidth F.code d → IsEntryWidth G.code e → e ≤ growth.width d

-- Nothing grows, but for so many labels more to which edges go from one leave point.
abbrev pub widened : ℕ → Growth
widened wider = record { locations = λ n. n; arguments = λ n. n; depth = λ n. n; entries = λ n. n; width = λ n. n + wider }

-- No number of Q is greater than that of P, but for so many labels more to which edges go from one leave point.
abbrev pub NumbersWithin : Prog → Prog → ℕ → Type 0
NumbersWithin P Q wider = NumbersGrow P Q (widened wider)

-- the same of a function
abbrev pub FunctionWithin : ℕ → Func → Func → Type 0
FunctionWithin wider F G = FunctionGrows (widened wider) F G

-- ---- from functions to programs

-- Where a number was greater it may be as great at least: asked of those of which the program's is the greatest of its functions'.
pub record IsRising (growth : Growth) : Type 0 where
  pub locations : (m n : ℕ) → m ≤ n → growth.locations m ≤ growth.locations n
  pub arguments : (m n : ℕ) → m ≤ n → growth.arguments m ≤ growth.arguments n
  pub depth : (m n : ℕ) → m ≤ n → growth.depth m ≤ growth.depth n
  pub width : (m n : ℕ) → m ≤ n → growth.width m ≤ growth.width n

-- the growth of a function that gets so many entries more
abbrev pub adding : Growth → ℕ → Growth
adding growth more = record { locations = growth.locations; arguments = growth.arguments; depth = growth.depth; entries = λ n. n + more; width = growth.width }

-- The numbers of a program grow as those of its functions do, of which each gets some entries more, and all together no more
-- than the program may get.
abbrev pub FunctionsGrow : Type 0
FunctionsGrow = (P Q : Prog) (growth : Growth) (more : ℕ → ℕ) → IsAccepted P → IsRising growth → ((n : ℕ) → n + sum_by more (range_with_len 0 (length P.funcs)) ≤ growth.entries n) → length P.funcs ≡ length Q.funcs
    → ((f : ℕ) (F G : Func) → slice_get P.funcs f ≡ Some F → slice_get Q.funcs f ≡ Some G → FunctionGrows (adding growth (more f)) F G) → NumbersGrow P Q growth

-- The numbers of a program follow from those of its functions.
abbrev pub FunctionsBound : Type 0
FunctionsBound = (P Q : Prog) (wider : ℕ) → IsAccepted P → AllZip (FunctionWithin wider) P.funcs Q.funcs → NumbersWithin P Q wider
