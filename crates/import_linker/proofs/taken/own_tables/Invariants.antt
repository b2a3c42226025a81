-- The tables so far.
use Rattle.std.proofs.Common.{take}
use Rattle.import_linker.specs.Tables.{AreTables}
use Rattle.import_linker.proofs.taken.own_tables.Given as goal

abbrev pub invariant-loop-source : goal.invariant-loop-source
invariant-loop-source l = AreTables l.tables (take l.source-index l.sources)
