-- Paths that an import may name.
use Rattle.std.specs.Prelude.{ℕ, ◌<◌, ◌≤◌, ◌≡◌, Bool, true, false, not, ◌&&◌, ◌==◌, nat_lt, nat_le, List, length, Option, Some, None}
use Rattle.std.specs.List.{list_all}
use Rattle.std.proofs.Common.{refl, ltb-true, leb-true}

-- neither `"` nor `\` nor a control character
abbrev pub is_path_byte : ℕ → Bool
is_path_byte byte = (not (nat_lt byte 32) && not (byte == 34)) && not (byte == 92)

-- 1 to 4,096 bytes that a path between quotes may have
pub record IsImportPath (path : List ℕ) : Type 0 where
  pub some : 0 < length path
  pub short : length path ≤ 4096
  pub spelled : list_all is_path_byte path ≡ true

-- a path that an import may name
pub record ImportPath : Type 0 where
  pub bytes : List ℕ
  pub is_path : IsImportPath bytes

-- the path, where it passes the three tests of `IsImportPath`
abbrev pub tested_path : (path : List ℕ) (some short spelled : Bool) → nat_lt 0 (length path) ≡ some → nat_le (length path) 4096 ≡ short → list_all is_path_byte path ≡ spelled → Option ImportPath
tested_path path true true true a b c = Some (record { bytes = path; is_path = record { some = ltb-true 0 (length path) a; short = leb-true (length path) 4096 b; spelled = c } })
tested_path path true true false a b c = None
tested_path path true false spelled a b c = None
tested_path path false short spelled a b c = None

-- the path of these bytes, where an import may name it
abbrev pub import_path : List ℕ → Option ImportPath
import_path path = tested_path path (nat_lt 0 (length path)) (nat_le (length path) 4096) (list_all is_path_byte path) refl refl refl
