-- How a table of constants is kept: by the numbers of locations and points.
use Rattle.std.specs.Prelude.{Bool, List, slice_index_or}
use Rattle.flow_graph.specs.Location.{number_of}
use Rattle.constant_pass.specs.declared.constants.const_table.ConstTable.{ConstTable}
use Rattle.constant_pass.specs.declared.constants.known.Known.{Known}
use Rattle.constant_pass.specs.declared.constants.known.Known.TheVariants.{Nothing}
use Rattle.constant_pass.specs.constants.Answer.{Knowledge}
use Rattle.constant_pass.specs.constants.Consistent.{Table}
use Rattle.graph_search.specs.Marks.{is_marked}

-- what is kept of a location; nothing where there is no entry
abbrev pub kept : List Known → Knowledge
kept entries location = slice_index_or entries (number_of location) Nothing

abbrev pub table_of : List Known → List Bool → Table
table_of entries marks = record { known = kept entries; reached = is_marked marks }

-- the table that is told
abbrev pub told : ConstTable → Table
told t = table_of t.known.items t.reached.items
