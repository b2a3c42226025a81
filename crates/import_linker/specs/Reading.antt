-- The reading of a program's files, one after another.
use Rattle.std.specs.Prelude.{ℕ, ◌≡◌, ◌<◌, ◌≤◌, ◌+◌, List, [], ◌∷◌, ◌++◌, length, Option, Some, slice_get}
use Rattle.std.specs.List.{sum_by}
use Rattle.bril_outside.specs.Files.{FileMap, FilesSeen, MayHold, MayFail, ReadTimes}
use Rattle.import_linker.specs.Order.{known_after, most_files}
use Rattle.import_linker.specs.formats.Format.{format_of}
use Rattle.import_linker.specs.formats.Reading.{IsOnlyTree, IsOnlyFault, most_bytes}
use Rattle.import_linker.specs.declared.fault.LinkFault.{LinkFault}
use Rattle.import_linker.specs.declared.fault.LinkFault.TheVariants as fault
use Rattle.import_linker.specs.declared.formats.fault.ReadFault.{ReadFault}
use Rattle.import_linker.specs.declared.sources.Source.{Source}

-- how many bytes files have together
abbrev pub bytes_of : List Source → ℕ
bytes_of sources = sum_by (λ (s : Source). s.size) sources

-- The file's tree is that of the bytes at its path, where the files tell them.
pub record IsRead (holds : Option FileMap) (s : Source) : Type 0 where
  pub bytes : List ℕ
  pub held : MayHold holds s.path bytes
  pub reads : IsOnlyTree (format_of s.path) bytes s.tree
  pub size : length bytes ≡ s.size

-- After these files, this path is the next.
abbrev pub IsNextPath : List ℕ → List Source → List ℕ → Type 0
IsNextPath root done path = slice_get (known_after root done) (length done) ≡ Some path

-- After these files, this is the next that was read: it was named by one of them or is the root, and the bounds hold.
pub record IsNext (holds : Option FileMap) (root : List ℕ) (done : List Source) (s : Source) : Type 0 where
  pub named : IsNextPath root done s.path
  pub read : IsRead holds s
  pub short : bytes_of done + s.size ≤ most_bytes
  pub few : length (known_after root (done ++ s ∷ [])) ≤ most_files

-- after these files, those were read in order
abbrev pub AreNext : Option FileMap → List ℕ → List Source → List Source → Type 0
AreNext holds root done [] = Unit {0}
AreNext holds root done (s ∷ more) = IsNext holds root done s × AreNext holds root (done ++ s ∷ []) more

-- The files of a program, by number: each was read in its turn, and no more are named.
pub record AreFiles (holds : Option FileMap) (root : List ℕ) (sources : List Source) : Type 0 where
  pub read : AreNext holds root [] sources
  pub all : length (known_after root sources) ≡ length sources

-- ---- why they were not all read

-- after these files, which were read, the file at this path was next
pub record StopsAt (holds : Option FileMap) (root path : List ℕ) (done : List Source) : Type 0 where
  pub read : AreNext holds root [] done
  pub next : IsNextPath root done path

pub record CannotReadNext (before after : FilesSeen) (root path : List ℕ) : Type 0 where
  pub done : List Source
  pub stops : StopsAt before.holds root path done
  pub fails : MayFail before after path

pub record PassesBytes (holds : Option FileMap) (root : List ℕ) : Type 0 where
  pub done : List Source
  pub path : List ℕ
  pub stops : StopsAt holds root path done
  pub bytes : List ℕ
  pub held : MayHold holds path bytes
  pub long : most_bytes < bytes_of done + length bytes

pub record IsMisread (holds : Option FileMap) (root path : List ℕ) (fault : ReadFault) : Type 0 where
  pub done : List Source
  pub stops : StopsAt holds root path done
  pub bytes : List ℕ
  pub held : MayHold holds path bytes
  pub short : bytes_of done + length bytes ≤ most_bytes
  pub has : IsOnlyFault (format_of path) bytes fault

pub record PassesFiles (holds : Option FileMap) (root : List ℕ) : Type 0 where
  pub done : List Source
  pub last : Source
  pub stops : StopsAt holds root last.path done
  pub read : IsRead holds last
  pub short : bytes_of done + last.size ≤ most_bytes
  pub many : most_files < length (known_after root (done ++ last ∷ []))

-- why the files were not all read
abbrev pub RefusesReading : LinkFault → FilesSeen → FilesSeen → List ℕ → Type 0
RefusesReading (fault.Read path) before after root = CannotReadNext before after root path
RefusesReading (fault.Bad path fault) before after root = IsMisread before.holds root path fault
RefusesReading (fault.NotThere path name) before after root = ⊥
RefusesReading (fault.Clash path name) before after root = ⊥
RefusesReading fault.TooManyFiles before after root = PassesFiles before.holds root
RefusesReading fault.TooManyBytes before after root = PassesBytes before.holds root
RefusesReading fault.Memory before after root = Unit {0}

-- The file at the path was tried once, after the files before it, which were read once each.
pub record TriedOnce (before after : FilesSeen) (root path : List ℕ) : Type 0 where
  pub done : List Source
  pub stops : StopsAt before.holds root path done
  pub times : ReadTimes before (length done + 1) after

-- a file that was not read was tried once
abbrev pub IsTriedOnce : LinkFault → FilesSeen → FilesSeen → List ℕ → Type 0
IsTriedOnce (fault.Read path) before after root = TriedOnce before after root path
IsTriedOnce _ before after root = Unit {0}

-- why the file at a path, of at most so many bytes, was not read
abbrev pub RefusesSource : LinkFault → FilesSeen → FilesSeen → List ℕ → ℕ → Type 0
RefusesSource (fault.Read other) before after path most = (other ≡ path) × MayFail before after path
RefusesSource (fault.Bad other fault) before after path most =
    (other ≡ path) × ((bytes : List ℕ) × MayHold before.holds path bytes × (length bytes ≤ most) × IsOnlyFault (format_of path) bytes fault)
RefusesSource (fault.NotThere other name) before after path most = ⊥
RefusesSource (fault.Clash other name) before after path most = ⊥
RefusesSource fault.TooManyFiles before after path most = ⊥
RefusesSource fault.TooManyBytes before after path most = (bytes : List ℕ) × MayHold before.holds path bytes × (most < length bytes)
RefusesSource fault.Memory before after path most = Unit {0}
