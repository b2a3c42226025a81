-- Why files are not linked.
use Rattle.std.specs.Prelude.{ℕ, ◌≡◌, List, Option, Some, None, Result, Ok, Err}
use Rattle.bril_outside.specs.Files.{FileMap, FilesSeen}
use Rattle.import_linker.specs.Names.{NameFault, clash, not_there, fault_from, repeated_after}
use Rattle.import_linker.specs.Reading.{AreFiles, RefusesReading}
use Rattle.import_linker.specs.declared.fault.LinkFault.{LinkFault}
use Rattle.import_linker.specs.declared.fault.LinkFault.TheVariants as fault
use Rattle.import_linker.specs.declared.sources.Source.{Source}

-- ---- of a file

-- a name stands twice: this is the first that stands before it, too
abbrev pub IsClash : LinkFault → List ℕ → Option (List ℕ) → Type 0
IsClash (fault.Clash other name) path first = (other ≡ path) × (first ≡ Some name)
IsClash fault.Memory path first = Unit {0}
IsClash _ path first = ⊥

-- a name is that of no function: this is the first
abbrev pub IsLack : LinkFault → List ℕ → Option (List ℕ) → Type 0
IsLack (fault.NotThere other name) path first = (other ≡ path) × (first ≡ Some name)
IsLack fault.Memory path first = Unit {0}
IsLack _ path first = ⊥

-- names differ from each other and from those before, or the first that doesn't is the fault
abbrev pub Adds : {T : Type 0} → List ℕ → List (List ℕ) → List (List ℕ) → Result T LinkFault → Type 0
Adds path before names (Ok done) = repeated_after before names ≡ None
Adds path before names (Err fault) = IsClash fault path (repeated_after before names)

-- no name is that of no function, or the first that is is the fault
abbrev pub HasAll : {T : Type 0} → List ℕ → Option (List ℕ) → Result T LinkFault → Type 0
HasAll path first (Ok done) = first ≡ None
HasAll path first (Err fault) = IsLack fault path first

-- ---- of all files

-- the first fault of names, with the path of its file
abbrev pub RefusesNames : LinkFault → Option (List ℕ × NameFault) → Type 0
RefusesNames (fault.Clash path name) first = first ≡ Some (path, clash name)
RefusesNames (fault.NotThere path name) first = first ≡ Some (path, not_there name)
RefusesNames fault.Memory first = Unit {0}
RefusesNames _ first = ⊥

-- no name is at fault, or the first that is is the fault
abbrev pub AreNamed : {T : Type 0} → Option (List ℕ × NameFault) → Result T LinkFault → Type 0
AreNamed first (Ok done) = first ≡ None
AreNamed first (Err fault) = RefusesNames fault first

-- The first fault of names of the program whose root is at the path, where the files tell them.
pub record IsMisnamed (holds : Option FileMap) (root path : List ℕ) (fault : NameFault) : Type 0 where
  pub sources : List Source
  pub files : AreFiles holds root sources
  pub first : fault_from sources 0 sources ≡ Some (path, fault)

-- why files were not linked
abbrev pub RefusesLink : LinkFault → FilesSeen → FilesSeen → List ℕ → Type 0
RefusesLink (fault.Read path) before after root = RefusesReading (fault.Read path) before after root
RefusesLink (fault.Bad path why) before after root = RefusesReading (fault.Bad path why) before after root
RefusesLink (fault.NotThere path name) before after root = IsMisnamed before.holds root path (not_there name)
RefusesLink (fault.Clash path name) before after root = IsMisnamed before.holds root path (clash name)
RefusesLink fault.TooManyFiles before after root = RefusesReading fault.TooManyFiles before after root
RefusesLink fault.TooManyBytes before after root = RefusesReading fault.TooManyBytes before after root
RefusesLink fault.Memory before after root = Unit {0}
