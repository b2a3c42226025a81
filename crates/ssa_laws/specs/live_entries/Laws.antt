-- Laws of the number of live entries: there is exactly one.
use Rattle.std.specs.Prelude.{◌≡◌, ℕ, List}
use Rattle.bril_tree.specs.Accepted.{IsAccepted}
use Rattle.bril_tree.specs.declared.numbered.Instr.{Instr}
use Rattle.bril_tree.specs.declared.numbered_function.Func.{Func}
use Rattle.bril_tree.specs.declared.program.Prog.{Prog}
use Rattle.bril_tree.specs.Sites.{AreSitesSound}
use Rattle.program_numbers.specs.ProgramNumbers.{IsGreatestWidth}
use Rattle.ssa_laws.specs.live_entries.LiveEntries.{AreLiveEntries, IsLiveEntryCount}

-- A program has one number of them at most, and an accepted one has one.
abbrev pub LiveEntriesAreOne : Type 0
LiveEntriesAreOne = (p : Prog) (m n : ℕ) → AreLiveEntries p m → AreLiveEntries p n → m ≡ n

abbrev pub LiveEntriesAreThere : Type 0
LiveEntriesAreThere = (p : Prog) → IsAccepted p → (n : ℕ) × AreLiveEntries p n

-- So has each function whose open sites are sound.
abbrev pub LiveEntryCountsAreOne : Type 0
LiveEntryCountsAreOne = (code : List Instr) (m n : ℕ) → IsLiveEntryCount code m → IsLiveEntryCount code n → m ≡ n

abbrev pub LiveEntryCountsAreThere : Type 0
LiveEntryCountsAreThere = (F : Func) → AreSitesSound F.code → (n : ℕ) × IsLiveEntryCount F.code n

-- An accepted program has a greatest width of entries.
abbrev pub WidthsAreThere : Type 0
WidthsAreThere = (p : Prog) → IsAccepted p → (n : ℕ) × IsGreatestWidth p n
