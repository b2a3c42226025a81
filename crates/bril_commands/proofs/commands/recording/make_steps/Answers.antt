-- The recorder and the interpreter make steps together; then the recorder sees a state, and its step is made.
use Rattle.std.proofs.Common.{add-one, arith}
use Rattle.bril_outside.specs.Sink.{count_seen}
use Rattle.bril_commands.proofs.Recording.{recorded_end, recorded_more, recorded_on, saw}
use Rattle.bril_commands.proofs.commands.recording.make_steps.Goals as goal

pub returns-in-End : goal.returns-in-End
returns-in-End c =
    let settings = c.args.settings in
    let none = count_seen c.new-printed.result in
    let now = count_seen c.loop-made.printed in
    let on = recorded_on c.args.interp.now c.args.program.now settings.limits c.args.values.now c.requires.fresh settings.hot settings.most c.loop-made.made c.loop-made.interp c.loop-made.recorder none now c.loop-made.invariant.has
    c.run_counting-made.result c.run_counting-made.new.now c.run_counting-made.new.self c.run_counting-made.ensures.ran c.run_counting-made.ensures.stands in
    let stands = saw c.args.interp.now c.args.program.now settings.limits c.args.values.now c.requires.fresh settings.hot settings.most _ c.run_counting-made.new.now c.run_counting-made.new.self none now on c.see.new.self c.in_ok-see.ensures.ok in
    recorded_end c.args.interp.now c.args.program.now settings.limits c.args.values.now c.requires.fresh settings.hot settings.most _ c.run_counting-made.new.now c.run_counting-made.new.self none now on
    c.see.new.self stands c.step.new.self (count_seen c.step.new.out) settings.steps c.in-End.end c.if-made-settings.true c.in-End.ensures.0 c.in-End.ensures.1

pub loop-made-preserved-in-Go : goal.loop-made-preserved-in-Go
loop-made-preserved-in-Go c =
    let settings = c.args.settings in
    let none = count_seen c.new-printed.result in
    let now = count_seen c.loop-made.printed in
    let on = recorded_on c.args.interp.now c.args.program.now settings.limits c.args.values.now c.requires.fresh settings.hot settings.most c.loop-made.made c.loop-made.interp c.loop-made.recorder none now c.loop-made.invariant.has
    c.run_counting-made.result c.run_counting-made.new.now c.run_counting-made.new.self c.run_counting-made.ensures.ran c.run_counting-made.ensures.stands in
    let stands = saw c.args.interp.now c.args.program.now settings.limits c.args.values.now c.requires.fresh settings.hot settings.most _ c.run_counting-made.new.now c.run_counting-made.new.self none now on c.see.new.self c.in_ok-see.ensures.ok in
    record {
      within = omega arith;
      has = rw add-one (recorded_more c.args.interp.now c.args.program.now settings.limits c.args.values.now c.requires.fresh settings.hot settings.most _ c.run_counting-made.new.now c.run_counting-made.new.self none now on
          c.see.new.self stands c.step.new.self (count_seen c.step.new.out) c.in-Go.ensures.0 c.in-Go.ensures.1);
    }

pub loop-made-preserved : goal.loop-made-preserved
loop-made-preserved c =
    let settings = c.args.settings in
    let none = count_seen c.new-printed.result in
    let now = count_seen c.loop-made.printed in
    let on = recorded_on c.args.interp.now c.args.program.now settings.limits c.args.values.now c.requires.fresh settings.hot settings.most c.loop-made.made c.loop-made.interp c.loop-made.recorder none now c.loop-made.invariant.has
    c.run_counting-made.result c.run_counting-made.new.now c.run_counting-made.new.self c.run_counting-made.ensures.ran c.run_counting-made.ensures.stands in
    record { within = omega arith; has = on }
