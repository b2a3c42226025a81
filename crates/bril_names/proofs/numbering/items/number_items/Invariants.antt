use Rattle.std.proofs.Common.{take}
use Rattle.std.specs.List.{All}
use Rattle.bril_names.specs.Faults.{IsKnown}
use Rattle.bril_names.specs.Numbering.{IsNumbering}
use Rattle.bril_names.proofs.numbering.items.number_items.Given as goal

-- the items so far are numbered, and all that they name is there
abbrev pub invariant-loop-k : goal.invariant-loop-k
invariant-loop-k l = record {
  numbered : IsNumbering l.functions l.labels l.fn.vars.infos.items l.vars.infos.items (take l.k l.function.code) l.code;
  known : All (IsKnown l.functions l.labels) (take l.k l.function.code);
}
