-- Laws of the numbers of a program: there is one of each at most.
use Rattle.std.specs.Prelude.{◌≡◌, ℕ, List}
use Rattle.bril_tree.specs.declared.numbered.Instr.{Instr}
use Rattle.bril_tree.specs.declared.program.Prog.{Prog}
use Rattle.program_numbers.specs.Cost.{IsCost}
use Rattle.program_numbers.specs.Entries.{IsEntryCount, IsEntryWidth}
use Rattle.program_numbers.specs.ProgramNumbers.{AreEntries}

abbrev pub EntryCountsAreOne : Type 0
EntryCountsAreOne = (code : List Instr) (m n : ℕ) → IsEntryCount code m → IsEntryCount code n → m ≡ n

abbrev pub EntryWidthsAreOne : Type 0
EntryWidthsAreOne = (code : List Instr) (m n : ℕ) → IsEntryWidth code m → IsEntryWidth code n → m ≡ n

abbrev pub CostsAreOne : Type 0
CostsAreOne = (p : Prog) (m n : ℕ) → IsCost p m → IsCost p n → m ≡ n

abbrev pub EntriesAreOne : Type 0
EntriesAreOne = (p : Prog) (m n : ℕ) → AreEntries p m → AreEntries p n → m ≡ n
