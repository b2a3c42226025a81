-- The format of a file, which its path names.
use Rattle.std.specs.Prelude.{ℕ, Bool, nat_eq, List, if◌then◌else◌, codes}
use Rattle.std.specs.List.{ends_with}
use Rattle.import_linker.specs.declared.formats.format.Format.{Format}
use Rattle.import_linker.specs.declared.formats.format.Format.TheVariants.{InText, InJson}

-- the path is that of a file in JSON
abbrev pub is_json : List ℕ → Bool
is_json path = ends_with nat_eq path (codes ".json")

-- the format of the file at a path
abbrev pub format_of : List ℕ → Format
format_of path = if is_json path then InJson else InText
