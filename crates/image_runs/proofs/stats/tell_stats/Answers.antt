-- The line of a guard was told after the lines before it.
use Rattle.std.proofs.Common.{◌≡◌, ◌++◌, List, IfSome, sym, subst, arith}
use Rattle.std.specs.Prelude.{slice_get}
use Rattle.std.specs.List.{flat_map}
use Rattle.std.proofs.lemmas.List.{take_all}
use Rattle.bril_report.proofs.Telling.{Tells-append, Tells-none}
use Rattle.bril_report.specs.Stats.{words_pieces}
use Rattle.bril_report.specs.Told.{Tells}
use Rattle.rv64_machine.specs.MachineView.{state_of}
use Rattle.rv64_words.specs.declared.image.GuardAt.{GuardAt}
use Rattle.bril_commands.proofs.Counts.{stats-more}
use Rattle.bril_commands.specs.Stats.{guard_told, stats_pieces, stats_told}
use Rattle.image_runs.proofs.stats.tell_stats.Goals as goal

pub loop-number-preserved : goal.loop-number-preserved
loop-number-preserved g c =
    let counted = subst (λ (gs : List GuardAt). IfSome (slice_get gs c.loop-number.number) (λ at. c.fails-fails.result ≡ (state_of c.args.machine.now).arrivals at.word)) (sym c.requires.guards) c.fails-fails.ensures in
    subst (λ ps. Tells g.E.Sink.seen c.args.err.now ps c.put_guard.new.err)
    (stats-more c.args.program.now (state_of c.args.machine.now) c.args.guards.now c.loop-number.number _ c.fails-fails.result c.loop-number-test.true counted)
    (Tells-append g.E.Sink.seen c.loop-number.invariant c.put_guard.ensures)

-- nothing was asked for
pub returns-then-not-stats : goal.returns-then-not-stats
returns-then-not-stats g c =
    subst (λ on. Tells g.E.Sink.seen c.args.err.now (stats_told on c.args.program.now c.args.guards.now (state_of c.args.machine.now)) c.args.err.now) (sym c.if-not-stats.true) (Tells-none g.E.Sink.seen c.args.err.now)

-- all guards were told
pub returns : goal.returns
returns g c =
    let p = c.args.program.now in
    let t = state_of c.args.machine.now in
    let whole : Tells g.E.Sink.seen c.args.err.now (stats_pieces p c.args.guards.now t) c.loop-number.err =
    subst (λ gs. Tells g.E.Sink.seen c.args.err.now (words_pieces t.done ++ flat_map (guard_told p t) gs) c.loop-number.err) (take_all c.loop-number.number c.args.guards.now (omega (arith, c.loop-number-test.false))) c.loop-number.invariant in
    subst (λ on. Tells g.E.Sink.seen c.args.err.now (stats_told on p c.args.guards.now t) c.loop-number.err) (sym c.if-not-stats.false) whole
