-- The laws of paths.
use Rattle.std.specs.Prelude.{ℕ, ◌≤◌, Bool, List, length}
use Rattle.bril_tree.specs.declared.numbered.Instr.{Instr}
use Rattle.trace_paths.specs.Path.{path_of, turns}

-- What a path lays and takes.
pub record IsShort (code : List Instr) (own : ℕ) (choices : List Bool) : Type 0 where
  pub laid : length (path_of code own choices).legs ≤ 256
  pub taken : length (turns (path_of code own choices).legs) ≤ length choices

abbrev pub PathsAreShort : Type 0
PathsAreShort = (code : List Instr) (own : ℕ) (choices : List Bool) → IsShort code own choices
