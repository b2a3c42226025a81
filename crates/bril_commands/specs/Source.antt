-- The files of a command: the tree that they have, and the tree's program.
use Rattle.std.specs.Prelude.{ℕ, ◌≡◌, ◌≤◌, List, length, Option, Some}
use Rattle.bril_checker.specs.Faults as checker
use Rattle.bril_checker.specs.declared.fault.CheckFault.{CheckFault}
use Rattle.bril_demo.specs.Demo.{demo_tree}
use Rattle.bril_names.specs.Faults as names
use Rattle.bril_names.specs.declared.fault.NameFault.{NameFault}
use Rattle.bril_outside.specs.Files.{FileMap, FilesSeen, LacksFile, MayHold}
use Rattle.import_linker.specs.formats.Format.{format_of}
use Rattle.import_linker.specs.formats.Reading.{HasFault, IsOnlyTree, ReadsAs, most_bytes}
use Rattle.import_linker.specs.declared.formats.fault.ReadFault.{ReadFault}
use Rattle.bril_tree.specs.Accepted.{IsAccepted}
use Rattle.bril_tree.specs.Numbered.{Numbered}
use Rattle.bril_tree.specs.declared.program.Prog.{Prog}
use Rattle.bril_tree.specs.declared.tree.Tree.{Tree}
use Rattle.import_linker.specs.Linked.{Linked}
use Rattle.import_linker.specs.Reading.{RefusesSource, StopsAt}
use Rattle.import_linker.specs.Refusing.{RefusesLink}
use Rattle.import_linker.specs.declared.fault.LinkFault.{LinkFault}
use Rattle.import_linker.specs.declared.fault.LinkFault.TheVariants as fault
use Rattle.import_linker.specs.declared.sources.Source.{Source}

-- ---- the tree

-- the files that a command reads
pub data Reach : Type 0 where
  -- the one at its path
  Alone : Reach
  -- that one, and all that it imports, and that these import
  WithImports : Reach
  -- the bytes of the one at its path, which are no tree to it
  BytesAlone : Reach
  -- none: it makes the demo program of so many functions
  OfDemo : (functions : ℕ) → Reach

-- The bytes at the path, which are those that the files hold where they tell it, are few enough, and read as this tree and no other.
pub record IsFileTree (holds : Option FileMap) (path : List ℕ) (tree : Tree) : Type 0 where
  pub bytes : List ℕ
  pub held : MayHold holds path bytes
  pub short : length bytes ≤ most_bytes
  pub only : IsOnlyTree (format_of path) bytes tree

-- Few enough bytes are at the path, these, which are those that the files hold where they tell it.
pub record HoldsBytes (holds : Option FileMap) (path bytes : List ℕ) : Type 0 where
  pub held : MayHold holds path bytes
  pub short : length bytes ≤ most_bytes

-- the tree is that of the files of a command with this path, or the demo's
abbrev pub IsTreeAt : Reach → Option FileMap → List ℕ → Tree → Type 0
IsTreeAt Alone holds path tree = IsFileTree holds path tree
IsTreeAt WithImports holds path tree = Linked holds path tree
IsTreeAt BytesAlone holds path tree = ⊥
IsTreeAt (OfDemo functions) holds path tree = tree ≡ demo_tree functions

-- why the bytes of the file at a path weren't read
abbrev pub RefusesBytes : LinkFault → FilesSeen → FilesSeen → List ℕ → Type 0
RefusesBytes (fault.Bad other why) before after path = ⊥
RefusesBytes why before after path = RefusesSource why before after path most_bytes

-- why they have none
abbrev pub RefusesFiles : Reach → LinkFault → FilesSeen → FilesSeen → List ℕ → Type 0
RefusesFiles Alone why before after path = RefusesSource why before after path most_bytes
RefusesFiles WithImports why before after path = RefusesLink why before after path
RefusesFiles BytesAlone why before after path = RefusesBytes why before after path
RefusesFiles (OfDemo functions) why before after path = why ≡ fault.Memory

-- ---- the same where the files are told

-- the files that a command reads are told
abbrev pub AreTold : Reach → Option FileMap → Type 0
AreTold Alone holds = (map : FileMap) × (holds ≡ Some map)
AreTold WithImports holds = (map : FileMap) × (holds ≡ Some map)
AreTold BytesAlone holds = (map : FileMap) × (holds ≡ Some map)
AreTold (OfDemo functions) holds = Unit {0}

-- few enough bytes are at the path, and read as this tree
pub record HoldsTree (holds : Option FileMap) (path : List ℕ) (tree : Tree) : Type 0 where
  pub bytes : List ℕ
  pub held : MayHold holds path bytes
  pub short : length bytes ≤ most_bytes
  pub reads : ReadsAs (format_of path) bytes tree

-- the files of a command with this path have the tree
abbrev pub HaveTree : Reach → Option FileMap → List ℕ → Tree → Type 0
HaveTree Alone holds path tree = HoldsTree holds path tree
HaveTree WithImports holds path tree = Linked holds path tree
HaveTree BytesAlone holds path tree = ⊥
HaveTree (OfDemo functions) holds path tree = tree ≡ demo_tree functions

-- few enough bytes are at the path, and have this fault
pub record HoldsFault (holds : Option FileMap) (path : List ℕ) (why : ReadFault) : Type 0 where
  pub bytes : List ℕ
  pub held : MayHold holds path bytes
  pub short : length bytes ≤ most_bytes
  pub has : HasFault (format_of path) bytes why

-- the one file at the path has this fault
abbrev pub FileHasFault : LinkFault → FilesSeen → FilesSeen → List ℕ → Type 0
FileHasFault (fault.Bad other why) before after path = (other ≡ path) × HoldsFault before.holds path why
FileHasFault why before after path = RefusesSource why before after path most_bytes

-- the files of a command with this path have the fault
abbrev pub HaveFault : Reach → LinkFault → FilesSeen → FilesSeen → List ℕ → Type 0
HaveFault Alone why before after path = FileHasFault why before after path
HaveFault WithImports why before after path = RefusesLink why before after path
HaveFault BytesAlone why before after path = RefusesBytes why before after path
HaveFault (OfDemo functions) why before after path = ⊥

-- the file at a path is the next to be read, by a command with this one
abbrev pub IsNextFile : Reach → Option FileMap → (root path : List ℕ) → Type 0
IsNextFile Alone holds root path = path ≡ root
IsNextFile WithImports holds root path = (done : List Source) × StopsAt holds root path done
IsNextFile BytesAlone holds root path = path ≡ root
IsNextFile (OfDemo functions) holds root path = ⊥

-- The files are told; those before the one at a path were read, and it isn't there.
pub record LackFile (reach : Reach) (holds : Option FileMap) (root path : List ℕ) : Type 0 where
  pub next : IsNextFile reach holds root path
  pub lacks : LacksFile holds path

-- ---- the program of a tree

-- The tree has this fault of a name and no other, and no numbering.
pub record IsOnlyNameFault (tree : Tree) (why : NameFault) : Type 0 where
  pub has : names.HasFault tree why
  pub alone : (other : NameFault) → names.HasFault tree other → why ≡ other
  pub unnumbered : (p : Prog) → Numbered tree p → ⊥

-- The program is the tree's numbering and the only one, and the tree has no fault of a name.
pub record IsOnlyProgram (tree : Tree) (p : Prog) : Type 0 where
  pub numbered : Numbered tree p
  pub alone : (q : Prog) → Numbered tree q → p ≡ q
  pub faultless : (why : NameFault) → names.HasFault tree why → ⊥

-- The program has this fault and no other, and isn't accepted.
pub record HasOnlyCheckFault (p : Prog) (why : CheckFault) : Type 0 where
  pub has : checker.HasFault p why
  pub only : (other : CheckFault) → checker.HasFault p other → why ≡ other
  pub unaccepted : ¬ IsAccepted p

-- The files of a command with this path have a tree whose only program this is, which is accepted.
pub record IsProgramOf (reach : Reach) (holds : Option FileMap) (path : List ℕ) (p : Prog) : Type 0 where
  pub tree : Tree
  pub file : IsTreeAt reach holds path tree
  pub only : IsOnlyProgram tree p
  pub accepted : IsAccepted p
