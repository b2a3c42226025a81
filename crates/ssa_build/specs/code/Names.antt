-- The names of all definitions of a function.
use Rattle.std.specs.Prelude.{◌≡◌, ℕ, ◌+◌, ◌-◌, ◌/◌, ◌<◌, ◌≤◌, List, [], ◌++◌, length, map, Option, Some, None, slice_index, slice_index_or}
use Rattle.bril_tree.specs.declared.numbered.Instr.{Instr}
use Rattle.bril_tree.specs.declared.numbered.VarInfo.{VarInfo}
use Rattle.bril_tree.specs.Numbered.{named, variable_names}
use Rattle.bril_tree.specs.Operand.{dest_of}
use Rattle.ssa_build.specs.fresh_names.Names.{definition_name, front_of}
use Rattle.ssa_search.specs.declared.renaming.now.WantedGet.{WantedGet}

-- the variable that an item is a definition of; a number that none has where it assigns none
abbrev pub or_none : Option ℕ → ℕ
or_none None = 4294967295
or_none (Some x) = x

-- that of each item's definition, and of each wanted `get`'s
abbrev pub variables_written : List Instr → List WantedGet → List ℕ
variables_written code list = map (λ item. or_none (dest_of item)) code ++ map (λ get. get.location / 2) list

-- The names of the definitions by their numbers: those of arguments, items and wanted `get`s.
pub record AreNames (vars : List VarInfo) (args : ℕ) (variables : List ℕ) (names : List (List ℕ)) : Type 0 where
  pub front : ℕ
  pub enough : (x : ℕ) → x < args → front_of (named (variable_names vars) x) ≤ front
  pub long : length names ≡ args + length variables
  pub each : (y : ℕ) → y < args + length variables → slice_index_or names y [] ≡ definition_name (variable_names vars) args front (λ y. slice_index variables (y - args)) y
