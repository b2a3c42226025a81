-- A step more is made and counted.
use Rattle.std.proofs.Common.{add-one, arith, refl}
use Rattle.bril_interpreter.proofs.Runs.{Reached-ended, Reached-more, Reached-none, RunExhausted-at, RunFailed-at}
use Rattle.step_count.proofs.Counting.{counted_last, counted_more, next_ended}
use Rattle.step_count.proofs.counted.run_counted.Goals as goal

pub loop-made-init : goal.loop-made-init
loop-made-init g c = record {
  within = omega arith;
  few = omega arith;
  reached = Reached-none c.args.interp.now _ c.requires.sound;
  runs = c.requires.runs;
  counted = refl;
}

pub loop-made-preserved : goal.loop-made-preserved
loop-made-preserved g c =
    let made = c.loop-made.invariant.reached in
    record {
      within = omega arith;
      few = omega (arith, c.next_count.ensures.few, c.loop-made.invariant.few);
      reached = rw add-one (Reached-more c.loop-made.made c.args.interp.now c.loop-made.interp c.step.new.self _ _ _ made c.in-Go.ensures.1);
      runs = rw add-one (next_ended c.loop-made.made c.args.interp.now c.loop-made.interp _ _ made _ c.in-Go.ensures.0);
      counted = rw add-one (counted_more c.loop-made.made c.args.interp.now c.loop-made.interp _ _ made c.loop-made.executed c.next_count.result c.loop-made.invariant.counted c.next_count.ensures.is);
    }

pub returns-in-End : goal.returns-in-End
returns-in-End g c =
    let made = c.loop-made.invariant.reached in
    let more = counted_more c.loop-made.made c.args.interp.now c.loop-made.interp _ _ made c.loop-made.executed c.next_count.result c.loop-made.invariant.counted c.next_count.ensures.is in
    record {
      ran = Reached-ended c.loop-made.made c.args.steps c.args.interp.now c.loop-made.interp c.step.new.self _ _ _ c.in-End.end c.loop-made-test.true made c.in-End.ensures.0 c.in-End.ensures.1;
      counted = counted_last c.loop-made.made c.args.interp.now c.loop-made.interp _ _ made c.args.steps _ c.in-End.end c.loop-made-test.true c.in-End.ensures.0 more;
    }

pub returns-in-WriteFault : goal.returns-in-WriteFault
returns-in-WriteFault g c = record {
  ran = RunFailed-at c.loop-made.made c.args.steps c.args.interp.now c.loop-made.interp c.step.new.self _ _ _ c.loop-made-test.true c.loop-made.invariant.reached c.in-WriteFault.ensures;
  counted = record { made = c.loop-made.made; within = c.loop-made.invariant.within; counted = c.loop-made.invariant.counted };
}

pub returns-in-Memory : goal.returns-in-Memory
returns-in-Memory g c = record {
  ran = RunExhausted-at c.loop-made.made c.args.steps c.args.interp.now c.loop-made.interp c.step.new.self _ _ _ c.loop-made-test.true c.loop-made.invariant.reached c.in-Memory.ensures;
  counted = record { made = c.loop-made.made; within = c.loop-made.invariant.within; counted = c.loop-made.invariant.counted };
}
