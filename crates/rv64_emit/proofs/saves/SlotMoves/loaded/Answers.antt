use Rattle.rv64_emit_laws.specs.layout.Fits.{IsReached}
use Rattle.rv64_emit.specs.Placed.{homes_in}
use Rattle.rv64_emit.proofs.Moving.{opening_near, first_few, first_hold}
use Rattle.rv64_emit.proofs.saves.SlotMoves.loaded.Goals as goal

pub returns-clause-moves : goal.returns-clause-moves
returns-clause-moves c = opening_near (homes_in c.args.homes.now) c.args.func.now c.requires.near c.near_slots.result.now c.near_slots.ensures

pub returns-clause-ready : goal.returns-clause-ready
returns-clause-ready c = record {
  reached = first_hold c.args.func.now.slots c.near_slots.result.now c.near_slots.ensures (λ slot. IsReached ((homes_in c.args.homes.now).home slot)) c.requires.reached;
  meant = tt;
  words = first_few c.args.func.now.slots c.near_slots.result.now c.near_slots.ensures;
}
