-- The live entries of a program, as they are counted.
use Rattle.std.specs.Prelude.{◌≡◌, ℕ, List, min}
use Rattle.bril_tree.specs.declared.numbered_function.Func.{Func}
use Rattle.ssa_laws.specs.live_entries.LiveEntries.{IsLiveEntryCount}
use Rattle.program_numbers.specs.ProgramNumbers.{IsSum}

-- those of some functions are told, or 2^64 - 1 where there are more
pub record TellsEntries (funcs : List Func) (told : ℕ) : Type 0 where
  pub count : ℕ
  pub are : IsSum (λ f n. IsLiveEntryCount f.code n) funcs count
  pub tells : told ≡ min count 18446744073709551615
