use Rattle.std.proofs.Common.{arith}
use Rattle.rv64_words.specs.State.{Finished, Trapped}
use Rattle.step_monitor.proofs.Stopping.{fails_more, goes_more, passes_first, passes_more, spends}
use Rattle.step_monitor.proofs.monitor.Monitor.advance.Goals as goal

pub returns-in-End-clause-went : goal.returns-in-End-clause-went
returns-in-End-clause-went g c = passes_first c.args.any c.args.self.now c.args.words (Finished c.in-End.end) c.run.new.self _ _ c.in-End.ensures.ran

pub returns-in-Trap-clause-went : goal.returns-in-Trap-clause-went
returns-in-Trap-clause-went g c = passes_first c.args.any c.args.self.now c.args.words (Trapped c.in-Trap.trap) c.run.new.self _ _ c.in-Trap.ensures.ran

pub returns-in-End-step-clause-went : goal.returns-in-End-step-clause-went
returns-in-End-step-clause-went g c =
    passes_more c.args.any c.args.self.now c.loop-taken.self c.loop-taken.taken _ _ c.loop-taken.invariant.goes c.args.words (Finished c.in-End-step.end) c.step.new.self _ c.loop-taken-test.true c.in-None.ensures c.in-End-step.ensures.stepped

pub returns-in-WriteFault-step-clause-went : goal.returns-in-WriteFault-step-clause-went
returns-in-WriteFault-step-clause-went g c =
    fails_more c.args.any c.args.self.now c.loop-taken.self c.loop-taken.taken _ _ c.loop-taken.invariant.goes c.args.words c.step.new.self _ c.loop-taken-test.true c.in-None.ensures c.in-WriteFault-step.ensures.stepped

pub returns-in-Trap-step-clause-went : goal.returns-in-Trap-step-clause-went
returns-in-Trap-step-clause-went g c =
    passes_more c.args.any c.args.self.now c.loop-taken.self c.loop-taken.taken _ _ c.loop-taken.invariant.goes c.args.words (Trapped c.in-Trap-step.trap) c.step.new.self _ c.loop-taken-test.true c.in-None.ensures c.in-Trap-step.ensures.stepped

pub loop-taken-preserved : goal.loop-taken-preserved
loop-taken-preserved g c = record {
  within = let less = c.loop-taken-test.true in omega arith;
  goes = goes_more c.args.any c.args.self.now c.loop-taken.self c.loop-taken.taken _ _ c.loop-taken.invariant.goes c.step.new.self _ c.in-None.ensures c.in-Go.ensures.stepped;
  stop = c.loop-taken.invariant.stop;
}

pub returns-in-None-next_here-clause-went : goal.returns-in-None-next_here-clause-went
returns-in-None-next_here-clause-went g c =
    spends c.args.any c.args.self.now c.loop-taken.self c.loop-taken.taken _ _ c.loop-taken.invariant.goes c.args.words (let past = c.loop-taken-test.false in let within = c.loop-taken.invariant.within in omega arith) c.in-None-next_here.ensures
