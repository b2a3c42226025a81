-- What the items of a function read, as one list.
use Rattle.std.specs.Prelude.{ℕ, suc, List, [], ◌∷◌, ◌++◌, map}
use Rattle.bril_tree.specs.Operand.{Location, reads_of}
use Rattle.bril_tree.specs.declared.numbered.Instr.{Instr}
use Rattle.flow_graph.specs.Location.{number_of}
use Rattle.flow_graph.specs.declared.reads.Access.{Access}

-- an access of the location by the item
abbrev pub access_at : ℕ → Location → Access
access_at item location = record { item = item; location = number_of location }

-- the reads of one item, in order
abbrev pub item_reads : ℕ → Instr → List Access
item_reads item instr = map (access_at item) (reads_of instr)

-- the reads of items that are numbered from one on
abbrev pub reads_from : ℕ → List Instr → List Access
reads_from item [] = []
reads_from item (instr ∷ code) = item_reads item instr ++ reads_from (suc item) code
