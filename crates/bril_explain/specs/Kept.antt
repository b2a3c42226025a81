-- The files of a program, as they were read.
use Rattle.std.specs.Prelude.{ℕ, ◌≡◌, ◌≤◌, ◌-◌, ◌++◌, nat_lt, List, [], ◌∷◌, length, find, Option, Some, None, bytes_eq, if◌then◌else◌}
use Rattle.std.specs.Option.{option_map}
use Rattle.bril_outside.specs.Files.{FileMap, FilesSeen, MayHold}
use Rattle.import_linker.specs.Reading.{AreFiles, IsMisread, IsRead}
use Rattle.import_linker.specs.formats.Format.{format_of}
use Rattle.import_linker.specs.formats.Reading.{IsOnlyFault}
use Rattle.import_linker.specs.declared.fault.LinkFault.{LinkFault}
use Rattle.import_linker.specs.declared.fault.LinkFault.TheVariants as fault
use Rattle.import_linker.specs.declared.formats.fault.ReadFault.{ReadFault}
use Rattle.import_linker.specs.declared.formats.fault.TreeFault.{TreeFault}
use Rattle.import_linker.specs.declared.formats.fault.TreeFault.TheVariants.{Misread, Memory}
use Rattle.import_linker.specs.declared.sources.Source.{Source}
use Rattle.bril_explain.specs.declared.kept.KeptFile.{KeptFile}

-- the bytes at each path: those of the first file that has it
abbrev pub bytes_at : List KeptFile → FileMap
bytes_at kept path = option_map (λ (f : KeptFile). f.bytes) (find (λ (f : KeptFile). bytes_eq f.path path) kept)

-- what is seen of files that were kept: each is read as often as is liked, and no read fails
abbrev pub kept_seen : List KeptFile → FilesSeen
kept_seen kept = record { holds = Some (bytes_at kept); reads = None; faults = 0 }

-- the bytes at these paths are those of files, where the files tell them
abbrev pub AreOf : Option FileMap → FileMap → Type 0
AreOf holds map = (path bytes : List ℕ) → map path ≡ Some bytes → MayHold holds path bytes

-- ---- one file more

-- a file with this path and bytes that files may hold comes last
pub record Keeps (holds : Option FileMap) (path : List ℕ) (before after : List KeptFile) : Type 0 where
  pub file : KeptFile
  pub at : file.path ≡ path
  pub held : MayHold holds path file.bytes
  pub last : after ≡ before ++ file ∷ []

-- it is this source, with the number of its functions
pub record KeepsSource (path : List ℕ) (before after : List KeptFile) (s : Source) : Type 0 where
  pub file : KeptFile
  pub at : file.path ≡ path
  pub functions : file.functions ≡ length s.tree.funcs
  pub last : after ≡ before ++ file ∷ []
  pub read : IsRead (Some (bytes_at after)) s

-- it is one whose bytes, at most so many, have this fault
pub record KeepsMisread (path : List ℕ) (most : ℕ) (after : List KeptFile) (why : ReadFault) : Type 0 where
  pub bytes : List ℕ
  pub held : bytes_at after path ≡ Some bytes
  pub short : length bytes ≤ most
  pub has : IsOnlyFault (format_of path) bytes why

-- why there is no source of the file at a path, whose bytes read as no tree
abbrev pub unread_as : List ℕ → TreeFault → LinkFault
unread_as path (Misread why) = fault.Bad path why
unread_as path Memory = fault.Memory

-- what was kept where a file was not read
abbrev pub KeepsRefused : LinkFault → List ℕ → ℕ → List KeptFile → Type 0
KeepsRefused (fault.Bad other why) path most after = (other ≡ path) × KeepsMisread path most after why
KeepsRefused _ path most after = Unit {0}

-- ---- all files

-- these files were kept, in order, each with the number of its functions
abbrev pub AreKept : List KeptFile → List Source → Type 0
AreKept [] [] = Unit {0}
AreKept [] (s ∷ sources) = ⊥
AreKept (f ∷ kept) [] = ⊥
AreKept (f ∷ kept) (s ∷ sources) = (f.path ≡ s.path) × (f.functions ≡ length s.tree.funcs) × AreKept kept sources

-- all files of the program whose first file is at the path were kept
pub record AreAllKept (kept : List KeptFile) (root : List ℕ) : Type 0 where
  pub sources : List Source
  pub files : AreFiles (Some (bytes_at kept)) root sources
  pub in_order : AreKept kept sources

-- where the reading stopped at a file whose bytes read as no tree, this was kept, too
abbrev pub StopsIn : LinkFault → List KeptFile → List ℕ → Type 0
StopsIn (fault.Bad path why) kept root = IsMisread (Some (bytes_at kept)) root path why
StopsIn _ kept root = Unit {0}

-- the file in which a function of the linked program stands, and its number there
abbrev pub function_in : List KeptFile → ℕ → Option (KeptFile × ℕ)
function_in [] func = None
function_in (f ∷ kept) func = if nat_lt func f.functions then Some (f, func) else function_in kept (func - f.functions)
