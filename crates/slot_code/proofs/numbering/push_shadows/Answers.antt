use Rattle.slot_code.proofs.Listing.{next_shadow}
use Rattle.slot_code.proofs.numbering.push_shadows.Goals as goal

pub loop-x-preserved : goal.loop-x-preserved
loop-x-preserved c = λ test are.
    next_shadow test c.args.marks.now are c.loop-x.x c.args.slots.now c.loop-x.slots c.push_shadow.new.slots c.loop-x-test.true c.in_ok-push_shadow.ensures (c.loop-x.invariant test are)
