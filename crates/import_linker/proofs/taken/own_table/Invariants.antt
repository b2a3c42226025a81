-- The names so far.
use Rattle.std.proofs.Common.{take}
use Rattle.import_linker.specs.Names.{function_names}
use Rattle.import_linker.specs.Tables.{HaveSame}
use Rattle.import_linker.proofs.taken.own_table.Given as goal

abbrev pub invariant-loop-function : goal.invariant-loop-function
invariant-loop-function l = HaveSame l.table (function_names (take l.function-index l.functions))
