use Rattle.std.proofs.Common.{false, length, get_or}
use Rattle.slot_code.proofs.Listing.{next_few, next_number, next_numbers}
use Rattle.slot_code.proofs.numbering.shadow_numbers.Goals as goal

pub loop-x-preserved : goal.loop-x-preserved
loop-x-preserved c = record {
  few = next_few (length c.args.marks.now) c.loop-x.next c.loop-x.x c.number_after-next.result (get_or c.args.marks.now c.loop-x.x false) c.number_after-next.ensures c.loop-x.invariant.few;
  next_is = λ test are. next_number test c.args.marks.now are c.loop-x.x c.loop-x.next c.number_after-next.result c.loop-x-test.true c.number_after-next.ensures (c.loop-x.invariant.next_is test are);
  so_far = λ test are. next_numbers test (length c.args.marks.now) c.loop-x.x c.loop-x.next c.loop-x.numbers c.push.new.self c.in_ok-push.ensures.ok (c.loop-x.invariant.next_is test are) (c.loop-x.invariant.so_far test are);
}
