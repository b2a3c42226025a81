use Rattle.std.proofs.Common.{refl}
use Rattle.trace_recorder.specs.declared.counts.Tables.{Tables}
use Rattle.trace_recorder.specs.Kept.{counts_in, view_of}
use Rattle.trace_recorder.proofs.Following.{none_seen}
use Rattle.trace_recorder.proofs.Keeping.{sound_sized}
use Rattle.trace_recorder.proofs.Stretches.{sized_counted, stands_counted}
use Rattle.trace_recorder.proofs.parts.Parts.run_counting.Goals as goal

pub returns-then-counts_alone-clause-sound : goal.returns-then-counts_alone-clause-sound
returns-then-counts_alone-clause-sound c =
    let tables : Tables = record { counts = c.run_counting.new.counts; numbers = c.args.self.now.tables.numbers } in
    sound_sized c.args.self.now tables c.requires (sized_counted c.args.now.now (view_of c.args.self.now) c.run_counting.result (counts_in tables) c.run_counting.ensures.counted) refl

pub returns-then-counts_alone-clause-stands : goal.returns-then-counts_alone-clause-stands
returns-then-counts_alone-clause-stands c = λ hot most run stands.
    let p = c.args.self.now.paths in
    let tables : Tables = record { counts = c.run_counting.new.counts; numbers = c.args.self.now.tables.numbers } in
    stands_counted c.args.now.now (view_of c.args.self.now) c.requires.hot c.if-counts_alone.ensures.0 (λ s. none_seen s p.log.items p.items p.laid p.front p.held.items c.requires.paths.ended c.if-counts_alone.ensures.1)
    c.run_counting.result (counts_in tables) c.run_counting.ensures.counted hot most run stands
