-- What the bytes of a file read as.
use Rattle.std.specs.Prelude.{ℕ, ◌≡◌, List}
use Rattle.bril_json.specs.Reading as json
use Rattle.bril_text.specs.Reading as text
use Rattle.bril_tree.specs.declared.tree.Tree.{Tree}
use Rattle.import_linker.specs.declared.formats.fault.ReadFault.{ReadFault}
use Rattle.import_linker.specs.declared.formats.fault.ReadFault.TheVariants.{Text, Json}
use Rattle.import_linker.specs.declared.formats.fault.TreeFault.{TreeFault}
use Rattle.import_linker.specs.declared.formats.fault.TreeFault.TheVariants.{Misread, Memory}
use Rattle.import_linker.specs.declared.formats.format.Format.{Format}
use Rattle.import_linker.specs.declared.formats.format.Format.TheVariants.{InText, InJson}

-- at most so many bytes are read
abbrev pub most_bytes : ℕ
most_bytes = 16777216

-- in a format the bytes read as this tree
abbrev pub ReadsAs : Format → List ℕ → Tree → Type 0
ReadsAs InText bytes tree = text.Spells bytes tree
ReadsAs InJson bytes tree = json.JsonOf bytes tree

-- in a format the bytes read as no tree, for this fault
abbrev pub HasFault : Format → List ℕ → ReadFault → Type 0
HasFault InText bytes (Text fault) = text.HasFault bytes fault
HasFault InText bytes (Json fault) = ⊥
HasFault InJson bytes (Text fault) = ⊥
HasFault InJson bytes (Json fault) = json.HasFault bytes fault

-- The bytes read as this tree and no other, and have no fault.
pub record IsOnlyTree (format : Format) (bytes : List ℕ) (tree : Tree) : Type 0 where
  pub reads : ReadsAs format bytes tree
  pub alone : (other : Tree) → ReadsAs format bytes other → tree ≡ other
  pub faultless : (fault : ReadFault) → HasFault format bytes fault → ⊥

-- The bytes have this fault and no other, and read as no tree.
pub record IsOnlyFault (format : Format) (bytes : List ℕ) (fault : ReadFault) : Type 0 where
  pub has : HasFault format bytes fault
  pub alone : (other : ReadFault) → HasFault format bytes other → fault ≡ other
  pub unread : (tree : Tree) → ReadsAs format bytes tree → ⊥

-- why bytes were not read as a tree
abbrev pub RefusesTree : TreeFault → Format → List ℕ → Type 0
RefusesTree (Misread fault) format bytes = IsOnlyFault format bytes fault
RefusesTree Memory format bytes = Unit {0}
