-- What a message points to stands in the files that were kept.
use Rattle.std.specs.Prelude.{ℕ, ◌≡◌, ◌≤◌, ◌<◌, ◌^◌, List, length, Some}
use Rattle.bril_lex.specs.Cut.{AreTokens}
use Rattle.bril_lex.specs.declared.token.Token.{Token}
use Rattle.bril_outside.specs.Files.{FileMap}
use Rattle.import_linker.specs.formats.Format.{format_of}
use Rattle.import_linker.specs.declared.formats.format.Format.TheVariants.{InText}
use Rattle.bril_explain.specs.Files.{IsFunctionOf}
use Rattle.bril_explain.specs.Kept.{bytes_at, function_in}
use Rattle.bril_explain.specs.declared.kept.KeptFile.{KeptFile}
use Rattle.bril_explain.specs.declared.target.Target.{Target}
use Rattle.bril_explain.specs.declared.target.Target.TheVariants.{Byte, Keys, Function, Item, Named, File}

-- the bytes of the file at the path have a byte with this number, or end there
pub record HoldsByte (map : FileMap) (path : List ℕ) (at : ℕ) : Type 0 where
  pub source : List ℕ
  pub held : map path ≡ Some source
  pub inside : at ≤ length source

-- the bytes of the file at the path are few, and cut into tokens where it is in text
pub record HoldsSource (map : FileMap) (path : List ℕ) : Type 0 where
  pub source : List ℕ
  pub held : map path ≡ Some source
  pub few : length source < 2 ^ 32
  pub cut : format_of path ≡ InText → (tokens : List Token) × AreTokens source tokens

-- the function of this number stands in a file
pub record HoldsFunction (kept : List KeptFile) (root : List ℕ) (func : ℕ) : Type 0 where
  pub file : KeptFile
  pub own : ℕ
  pub found : function_in kept func ≡ Some (file, own)
  pub is : IsFunctionOf (Some (bytes_at kept)) root func file.path own
  pub source : HoldsSource (bytes_at kept) file.path

-- what a message points to stands in the files
abbrev pub HoldTarget : List KeptFile → (root path : List ℕ) → Target → Type 0
HoldTarget kept root path (Byte at) = HoldsByte (bytes_at kept) path at
HoldTarget kept root path (Keys func item) = Unit {0}
HoldTarget kept root path (Function func) = HoldsFunction kept root func
HoldTarget kept root path (Item func item) = HoldsFunction kept root func
HoldTarget kept root path Named = HoldsSource (bytes_at kept) path
HoldTarget kept root path File = Unit {0}
