-- Laws of linking, where the files are told.
use Rattle.std.specs.Prelude.{◌≡◌, ◌⊎◌, ℕ, List, Some}
use Rattle.bril_outside.specs.Files.{FileMap, FilesSeen, LacksFile}
use Rattle.bril_outside.specs.Sink.{Rose}
use Rattle.bril_tree.specs.declared.tree.Tree.{Tree}
use Rattle.import_linker.specs.Linked.{Linked}
use Rattle.import_linker.specs.Reading.{StopsAt}
use Rattle.import_linker.specs.Refusing.{RefusesLink}
use Rattle.import_linker.specs.declared.fault.LinkFault.{LinkFault}
use Rattle.import_linker.specs.declared.fault.LinkFault.TheVariants.{Memory, Read}
use Rattle.import_linker.specs.declared.sources.Source.{Source}

-- one tree at most is that of the program whose root is at the path
abbrev pub ProgramsHaveOneTree : Type 0
ProgramsHaveOneTree = (map : FileMap) (root : List ℕ) (t u : Tree) → Linked (Some map) root t → Linked (Some map) root u → t ≡ u

-- a program that has a tree is refused only where memory is wanting or a read failed
abbrev pub LinkedAreNotRefused : Type 0
LinkedAreNotRefused = (map : FileMap) (before after : FilesSeen) (root : List ℕ) (tree : Tree) (fault : LinkFault) → before.holds ≡ Some map
    → Linked before.holds root tree → RefusesLink fault before after root → (fault ≡ Memory) ⊎ Rose before.faults after.faults

-- a program has one refusal at most, where memory isn't wanting and no read failed
abbrev pub RefusedOnce : Type 0
RefusedOnce = (map : FileMap) (before after : FilesSeen) (root : List ℕ) (f g : LinkFault) → before.holds ≡ Some map
    → RefusesLink f before after root → RefusesLink g before after root → ((f ≡ Memory) ⊎ (g ≡ Memory)) ⊎ (Rose before.faults after.faults ⊎ (f ≡ g))

-- a program of which a file is next to be read and isn't there has no tree
abbrev pub LackingAreNotLinked : Type 0
LackingAreNotLinked = (map : FileMap) (root path : List ℕ) (done : List Source) (tree : Tree) → StopsAt (Some map) root path done → LacksFile (Some map) path → Linked (Some map) root tree → ⊥

-- it is refused for a file that wasn't read, unless memory is wanting
abbrev pub LackingAreNotRead : Type 0
LackingAreNotRead = (map : FileMap) (before after : FilesSeen) (root path : List ℕ) (done : List Source) (fault : LinkFault) → before.holds ≡ Some map
    → StopsAt before.holds root path done → LacksFile before.holds path → RefusesLink fault before after root → (fault ≡ Memory) ⊎ ((other : List ℕ) × (fault ≡ Read other))
