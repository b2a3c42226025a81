-- The tree of a program's files: their functions under names of their own.
use Rattle.std.specs.Prelude.{ℕ, ◌≡◌, ◌<◌, ◌+◌, ◌==◌, ◌&&◌, Bool, zero, suc, true, false, List, [], ◌∷◌, ◌++◌, length, map, Option, None, get_or, bytes_eq, if◌then◌else◌, replicate}
use Rattle.std.specs.Char.{is_ascii_digit}
use Rattle.std.specs.Fmt.{decimal}
use Rattle.std.specs.List.{list_any, position_or_len}
use Rattle.bril_outside.specs.Files.{FileMap, FilesSeen, ReadTimes}
use Rattle.bril_tree.specs.declared.function_tree.FuncTree.{FuncTree}
use Rattle.bril_tree.specs.declared.function_tree.Item.{Item}
use Rattle.bril_tree.specs.declared.function_tree.Item.TheVariants as item
use Rattle.bril_tree.specs.declared.tree.Tree.{Tree}
use Rattle.import_linker.specs.Names.{Function, fault_from, local_names, meanings, names_at, paths_of}
use Rattle.import_linker.specs.Reading.{AreFiles}
use Rattle.import_linker.specs.declared.sources.Source.{Source}

-- ---- the names of functions in the tree

-- the name begins with so many `_` and a digit
abbrev pub begins_so : ℕ → List ℕ → Bool
begins_so n [] = false
begins_so zero (byte ∷ bytes) = is_ascii_digit byte
begins_so (suc n) (byte ∷ bytes) = (byte == 95) && begins_so n bytes

-- The number is the least, from 1, such that no name begins with so many `_` and a digit.
pub record IsFreshRun (names : List (List ℕ)) (n : ℕ) : Type 0 where
  pub some : 0 < n
  pub fresh : list_any (begins_so n) names ≡ false
  pub shortest : (m : ℕ) → 0 < m → m < n → list_any (begins_so m) names ≡ true

-- The name of a function in the tree: those of file 0 keep theirs, and the others get so many `_`, the number of their file and `.`
-- before it.
abbrev pub spelled : ℕ → Function → List ℕ
spelled run f = if f.file == 0 then f.name else replicate run 95 ++ decimal f.file ++ 46 ∷ f.name

-- what stands in the second list where the name stands first in the first
abbrev pub beside : List (List ℕ) → List (List ℕ) → List ℕ → List ℕ
beside names others name = get_or others (position_or_len (bytes_eq name) names) []

-- the name in the tree of the function that a name in a file stands for
abbrev pub linked_name : ℕ → List (List ℕ) → ℕ → Source → List ℕ → List ℕ
linked_name run paths number s name = beside (local_names s) (map (spelled run) (meanings paths number s)) name

-- ---- the tree

-- the item where functions have new names
abbrev pub renamed_item : (List ℕ → List ℕ) → Item → Item
renamed_item rename (item.Label name) = item.Label name
renamed_item rename (item.Const dest ty value) = item.Const dest ty value
renamed_item rename (item.Act dest op args funcs labels) = item.Act dest op args (map rename funcs) labels

-- the function of the file of a number, where functions have new names
abbrev pub renamed_function : ℕ → ℕ → (List ℕ → List ℕ) → FuncTree → FuncTree
renamed_function run number rename f = record f { name = spelled run (record { file = number; name = f.name }); code = map (renamed_item rename) f.code }

-- the functions of a file in the tree
abbrev pub linked_file : ℕ → List (List ℕ) → ℕ → Source → List FuncTree
linked_file run paths number s = map (renamed_function run number (linked_name run paths number s)) s.tree.funcs

-- the functions of files, which are numbered from this number, in the tree
abbrev pub linked_from : ℕ → List (List ℕ) → ℕ → List Source → List FuncTree
linked_from run paths number [] = []
linked_from run paths number (s ∷ rest) = linked_file run paths number s ++ linked_from run paths (number + 1) rest

-- The tree is that of the files: no name is at fault, and it has the functions of all files in order.
pub record IsTreeOf (sources : List Source) (tree : Tree) : Type 0 where
  pub faultless : fault_from sources 0 sources ≡ None
  pub run : ℕ
  pub fresh : IsFreshRun (names_at sources 0) run
  pub imports : tree.imports ≡ []
  pub funcs : tree.funcs ≡ linked_from run (paths_of sources) 0 sources

-- The tree is that of the program whose root is at the path, where the files tell them.
pub record Linked (holds : Option FileMap) (root : List ℕ) (tree : Tree) : Type 0 where
  pub sources : List Source
  pub files : AreFiles holds root sources
  pub links : IsTreeOf sources tree

-- It is, and each of its files was read once.
pub record LinkedByReads (before after : FilesSeen) (root : List ℕ) (tree : Tree) : Type 0 where
  pub linked : Linked before.holds root tree
  pub times : ReadTimes before (length linked.sources) after
