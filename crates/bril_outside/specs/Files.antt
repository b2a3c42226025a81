-- What contracts say of files.
use Rattle.std.specs.Prelude.{ℕ, ◌≡◌, ◌<◌, ◌≤◌, ◌⊎◌, List, ◌++◌, length, Option, Some, None}
use Rattle.bril_outside.specs.Sink.{Rose, amount_after}

-- the bytes at each path that has a file
abbrev pub FileMap : Type 0
FileMap = List ℕ → Option (List ℕ)

-- What is told of files: the bytes at each path, and how often a file was read, each where that is told; and how many reads failed. The
-- last never falls, and stays at the end of its type.
pub record FilesSeen : Type 0 where
  pub holds : Option FileMap
  pub reads : Option ℕ
  pub faults : ℕ

-- files were read so many times
pub record ReadTimes (s : FilesSeen) (reads : ℕ) (t : FilesSeen) : Type 0 where
  pub told : t.reads ≡ amount_after s.reads reads

-- where the files are told, these bytes are at the path
abbrev pub MayHold : Option FileMap → List ℕ → List ℕ → Type 0
MayHold None path bytes = Unit {0}
MayHold (Some map) path bytes = map path ≡ Some bytes

-- the files are told, and none is at the path
abbrev pub LacksFile : Option FileMap → List ℕ → Type 0
LacksFile None path = ⊥
LacksFile (Some map) path = map path ≡ None

-- the file at the path, of at most so many bytes, was appended
pub record AppendedFile (holds : Option FileMap) (path : List ℕ) (most : ℕ) (before after : List ℕ) : Type 0 where
  pub bytes : List ℕ
  pub held : MayHold holds path bytes
  pub short : length bytes ≤ most
  pub grew : after ≡ before ++ bytes

-- the file at the path has more bytes than that, and none was appended
pub record FoundLonger (holds : Option FileMap) (path : List ℕ) (most : ℕ) (before after : List ℕ) : Type 0 where
  pub bytes : List ℕ
  pub held : MayHold holds path bytes
  pub long : most < length bytes
  pub stays : after ≡ before

-- a read of the path may fail: the faults rose, or the files are told and have none there
abbrev pub MayFail : FilesSeen → FilesSeen → List ℕ → Type 0
MayFail s t path = Rose s.faults t.faults ⊎ LacksFile s.holds path
