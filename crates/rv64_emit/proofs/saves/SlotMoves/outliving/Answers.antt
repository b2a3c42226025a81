use Rattle.std.proofs.Common.{arith}
use Rattle.rv64_emit_laws.specs.layout.Fits.{IsReached}
use Rattle.rv64_emit.specs.Placed.{homes_in}
use Rattle.rv64_emit.proofs.Moving.{call_near, first_few, first_hold}
use Rattle.rv64_emit.proofs.saves.SlotMoves.outliving.Goals as goal

pub returns-clause-moves : goal.returns-clause-moves
returns-clause-moves c = call_near (homes_in c.args.homes.now) c.args.func.now c.requires.slots.near c.near_slots.result.now c.near_slots.ensures c.args.point c.args.dest

pub returns-clause-ready : goal.returns-clause-ready
returns-clause-ready c = record {
  reached = first_hold c.args.func.now.slots c.near_slots.result.now c.near_slots.ensures (λ slot. IsReached ((homes_in c.args.homes.now).home slot)) c.requires.slots.reached;
  meant = omega (arith, c.requires.small);
  words = first_few c.args.func.now.slots c.near_slots.result.now c.near_slots.ensures;
}
