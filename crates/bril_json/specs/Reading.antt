-- Which tree a source of the JSON form is, and which fault it has.
use Rattle.std.specs.Prelude.{◌≡◌, ℕ, ◌⊎◌, List, Some, Ok, Err, IsUtf8}
use Rattle.bril_tree.specs.declared.tree.Tree.{Tree}
use Rattle.serde_json.specs.Data.{Data}
use Rattle.serde_json.specs.Read.{read}
use Rattle.bril_json.specs.Form.{tree_of}
use Rattle.bril_json.specs.declared.fault.JsonFault.{JsonFault}
use Rattle.bril_json.specs.declared.fault.JsonFault.TheVariants.{Syntax, Shape, IntRange, Float, Deep, Memory}

-- the bytes are UTF-8 and read as this JSON value
pub record IsValue (source : List ℕ) (d : Data) : Type 0 where
  pub utf8 : IsUtf8 source
  pub reads : read source ≡ Some d

-- the bytes read as a JSON value, which is the tree
pub record JsonOf (source : List ℕ) (tree : Tree) : Type 0 where
  pub value : Data
  pub is : IsValue source value
  pub makes : tree_of value ≡ Ok tree

-- the bytes read as a JSON value, whose first fault this is
pub record HasFaultWithin (source : List ℕ) (fault : JsonFault) : Type 0 where
  pub value : Data
  pub is : IsValue source value
  pub fails : tree_of value ≡ Err fault

-- the source has this fault
abbrev pub HasFault : List ℕ → JsonFault → Type 0
HasFault source Syntax = (d : Data) → IsValue source d → ⊥
HasFault source (Shape func item) = HasFaultWithin source (Shape func item)
HasFault source (IntRange func item) = HasFaultWithin source (IntRange func item)
HasFault source (Float func item) = HasFaultWithin source (Float func item)
HasFault source (Deep func item) = HasFaultWithin source (Deep func item)
HasFault source Memory = ⊥

-- what a fault says about the source; running out of memory says nothing
abbrev pub IsFaultOf : List ℕ → JsonFault → Type 0
IsFaultOf source fault = (fault ≡ Memory) ⊎ HasFault source fault
