-- Which file of a program a function of the linked program stands in.
use Rattle.std.specs.Prelude.{ℕ, ◌≡◌, ◌<◌, ◌+◌, List, length, Option}
use Rattle.std.specs.List.{sum_by}
use Rattle.bril_outside.specs.Files.{FileMap}
use Rattle.import_linker.specs.Reading.{IsRead, StopsAt}
use Rattle.import_linker.specs.declared.sources.Source.{Source}

-- how many functions files have
abbrev pub functions_of : List Source → ℕ
functions_of sources = sum_by (λ (s : Source). length s.tree.funcs) sources

-- The function of this number in the linked program is a function of the file at the path, by its own number there: the file is the next
-- after others whose functions come before it.
pub record IsFunctionOf (holds : Option FileMap) (root : List ℕ) (func : ℕ) (path : List ℕ) (own : ℕ) : Type 0 where
  pub done : List Source
  pub stops : StopsAt holds root path done
  pub file : Source
  pub read : IsRead holds file
  pub at : file.path ≡ path
  pub number : func ≡ functions_of done + own
  pub inside : own < length file.tree.funcs
