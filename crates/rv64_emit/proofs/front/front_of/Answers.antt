use Rattle.std.proofs.Common.{sym, subst}
use Rattle.rv64_emit.specs.Bounds.{AreLocationsKnown}
use Rattle.rv64_emit.proofs.Within.{lowered_known}
use Rattle.rv64_emit.proofs.front.front_of.Goals as goal

pub stack_within-requires : goal.stack_within-requires
stack_within-requires c =
    let lowered = c.in_ok-slots.ensures {u = tt} in
    subst (AreLocationsKnown c.args.prog.now.prog) (sym c.as_slice.ensures) (lowered_known c.args.prog.now.prog c.in_ok-slots.slots lowered.code)

pub returns-clause-made : goal.returns-clause-made
returns-clause-made c =
    let lowered = c.in_ok-slots.ensures {u = tt} in
    let stack = c.in_ok-stack.ensures {u = tt} in
    let placed = c.in_ok-placed.ensures {u = tt} in
    record {
      lowered = lowered.code;
      placed = record { apart = placed.apart; live = placed.live; saved = placed.saved; own = placed.own; registers = placed.registers };
      tells = c.in_ok-lives.ensures {u = tt};
      within = stack.within;
      stack = stack.stack;
    }
