use Rattle.std.proofs.Common.{take, None}
use Rattle.bril_names.specs.Numbering.{Enters, StandFor}
use Rattle.bril_names.proofs.numbering.items.enter_all.Given as goal

-- the numbers of the names so far
abbrev pub invariant-loop-name : goal.invariant-loop-name
invariant-loop-name l = record {
  enters : Enters l.fn.vars.infos.items l.vars.infos.items l.numbers (λ _. None);
  named : StandFor l.vars.infos.items l.numbers (take l.name-index l.names);
}
