-- Where the fault of a status stands, in files of which these are the bytes.
use Rattle.std.specs.Prelude.{ℕ, ◌≡◌, ◌==◌, ◌&&◌, Bool, false, List, [], ◌∷◌, Option, Some, None, bytes_eq, find, slice_range}
use Rattle.bril_lex.specs.Cut.{AreTokens}
use Rattle.bril_lex.specs.declared.token.Token.{Token}
use Rattle.bril_outside.specs.Files.{FileMap}
use Rattle.import_linker.specs.formats.Format.{format_of}
use Rattle.import_linker.specs.declared.formats.format.Format.{Format}
use Rattle.import_linker.specs.declared.formats.format.Format.TheVariants.{InText, InJson}
use Rattle.source_places.specs.Standing.{IsFunctionAt, IsItemAt}
use Rattle.bril_explain.specs.Files.{IsFunctionOf}
use Rattle.bril_explain.specs.declared.located.Located.{Located}
use Rattle.bril_explain.specs.declared.located.Spot.{Spot}
use Rattle.bril_explain.specs.declared.located.Spot.TheVariants as spot
use Rattle.bril_explain.specs.declared.target.Target.{Target}
use Rattle.bril_explain.specs.declared.target.Target.TheVariants.{Byte, Keys, Function, Item, Named, File}

-- a function of a source begins at this byte, or an item of it: its first token
abbrev pub BeginsThere : List ℕ → ℕ → Option ℕ → ℕ → Type 0
BeginsThere source func None at = IsFunctionAt source func at
BeginsThere source func (Some item) at = IsItemAt source func item at

-- it stands at a byte of the bytes of the file at the path
pub record IsAtByte (map : FileMap) (path : List ℕ) (StandsAt : List ℕ → ℕ → Type 0) (s : Spot) : Type 0 where
  pub source : List ℕ
  pub at : ℕ
  pub held : map path ≡ Some source
  pub stands : StandsAt source at
  pub is : s ≡ spot.Byte source at

-- it stands at this byte
pub record IsByteOf (map : FileMap) (path : List ℕ) (at : ℕ) (located : Located) : Type 0 where
  pub same : located.path ≡ path
  pub byte : IsAtByte map path (λ source there. there ≡ at) located.spot

abbrev pub StandsIn : Format → FileMap → List ℕ → ℕ → Option ℕ → Spot → Type 0
StandsIn InJson map path func item s = s ≡ spot.Keys func item
StandsIn InText map path func item s = IsAtByte map path (λ source at. BeginsThere source func item at) s

-- it stands where a function of the file at the path begins, or an item of it
abbrev pub StandsInFile : FileMap → List ℕ → ℕ → Option ℕ → Spot → Type 0
StandsInFile map path func item s = StandsIn (format_of path) map path func item s

-- it stands where a function of the linked program begins, or an item of it, in its file
pub record IsInProgram (map : FileMap) (root : List ℕ) (func : ℕ) (item : Option ℕ) (located : Located) : Type 0 where
  pub own : ℕ
  pub file : IsFunctionOf (Some map) root func located.path own
  pub stands : StandsInFile map located.path own item located.spot

-- the text is `@` and the name
abbrev pub is_name : List ℕ → List ℕ → Bool
is_name name [] = false
is_name name (byte ∷ bytes) = (byte == 64) && bytes_eq bytes name

-- the token of a source is `@` and the name
abbrev pub is_named : List ℕ → List ℕ → Token → Bool
is_named name source token = is_name name (slice_range source token.from token.to)

-- where a token begins, or in the file where there is none
abbrev pub spot_at : List ℕ → Option Token → Spot
spot_at source None = spot.File
spot_at source (Some token) = spot.Byte source token.from

-- it stands at the first token of the bytes of the file at the path that is `@` and the name, or in the file where none is
pub record IsFirstNamed (map : FileMap) (path name : List ℕ) (s : Spot) : Type 0 where
  pub source : List ℕ
  pub held : map path ≡ Some source
  pub tokens : List Token
  pub are : AreTokens source tokens
  pub is : s ≡ spot_at source (find (is_named name source) tokens)

abbrev pub StandsNamed : Format → FileMap → (path name : List ℕ) → Spot → Type 0
StandsNamed InJson map path name s = s ≡ spot.File
StandsNamed InText map path name s = IsFirstNamed map path name s

-- it stands where the file at the path has the name first, or in the file where that is in JSON
pub record IsNamedIn (map : FileMap) (path name : List ℕ) (located : Located) : Type 0 where
  pub same : located.path ≡ path
  pub stands : StandsNamed (format_of path) map path name located.spot

-- it stands there, in the file at a path where that is known
abbrev pub IsLocated : FileMap → (root path name : List ℕ) → Target → Located → Type 0
IsLocated map root path name (Byte at) located = IsByteOf map path at located
IsLocated map root path name (Keys func item) located = (located.path ≡ path) × (located.spot ≡ spot.Keys func item)
IsLocated map root path name (Function func) located = IsInProgram map root func None located
IsLocated map root path name (Item func item) located = IsInProgram map root func (Some item) located
IsLocated map root path name Named located = IsNamedIn map path name located
IsLocated map root path name File located = (located.path ≡ path) × (located.spot ≡ spot.File)
