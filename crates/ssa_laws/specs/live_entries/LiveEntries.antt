-- How many copies a form with a copy on each edge pays for: over all pairs of a leave point and a label that an edge joins, the
-- locations that are live at the label.
use Rattle.std.specs.Prelude.{◌≡◌, ℕ, List, Option, Some, min, slice_get}
use Rattle.bril_tree.specs.declared.numbered.Instr.{Instr}
use Rattle.bril_tree.specs.declared.numbered.Instr.TheVariants.{Label}
use Rattle.bril_tree.specs.declared.program.Prog.{Prog}
use Rattle.bril_tree.specs.Live.{IsLive}
use Rattle.bril_tree.specs.Operand.{Location}
use Rattle.program_numbers.specs.Entries.{AreSoMany, Enters}
use Rattle.program_numbers.specs.ProgramNumbers.{IsSum}

-- An edge goes from the leave point to the label, and the location is live where the label stands. The start of the function counts as a leave
-- point, None, with one edge, to its first item.
pub record IsLiveEntry (code : List Instr) (entry : Option ℕ × ℕ × Location) : Type 0 where
  pub enters : Enters code entry.0 entry.1
  pub point : ℕ
  pub label : slice_get code point ≡ Some (Label entry.1)
  pub live : IsLive code entry.2 point

-- the number of different combinations of a leave point, a label that an edge joins to it, and a location that is live at the label
abbrev pub IsLiveEntryCount : List Instr → ℕ → Type 0
IsLiveEntryCount code count = AreSoMany (IsLiveEntry code) count

-- their sum over the functions of a program
abbrev pub AreLiveEntries : Prog → ℕ → Type 0
AreLiveEntries p count = IsSum (λ f n. IsLiveEntryCount f.code n) p.funcs count

-- the number is told, or 2^64 - 1 where it is greater
pub record TellsLiveEntries (code : List Instr) (told : ℕ) : Type 0 where
  pub count : ℕ
  pub is : IsLiveEntryCount code count
  pub tells : told ≡ min count 18446744073709551615
