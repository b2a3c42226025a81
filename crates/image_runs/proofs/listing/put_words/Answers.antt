-- The lines of the words were put one after another, up to one whose put failed.
use Rattle.std.proofs.Common.{subst, arith, inl, inr}
use Rattle.std.proofs.lemmas.Result.{err_from_is_err_and}
use Rattle.std.proofs.lemmas.List.{take_all}
use Rattle.bril_commands.specs.commands.Emit.{listing}
use Rattle.bril_report.proofs.Puts.{PutsAll-none}
use Rattle.bril_report.specs.Puts.{PutsAll}
use Rattle.image_runs.proofs.Listings.{listing-failed, listing-more}
use Rattle.image_runs.proofs.listing.put_words.Goals as goal

pub loop-word-init : goal.loop-word-init
loop-word-init g c = PutsAll-none (g.O.Sink.seen c.args.out.now)

pub loop-word-preserved : goal.loop-word-preserved
loop-word-preserved g c =
    let took = rw c.word_line.ensures at c.in_ok-put.ensures.ok in
    listing-more c.args.words.now c.loop-word.word-index 0 c.loop-word-test.true c.loop-word.invariant c.in_ok-put.ensures.times took

pub returns-in_err-put : goal.returns-in_err-put
returns-in_err-put g c =
    let e = err_from_is_err_and c.from_residual.result c.from_residual.ensures.1 in
    let failed = rw c.word_line.ensures at c.in_err-put.ensures.err in
    rw (e.1, e.2) (inl (listing-failed c.args.words.now c.loop-word.word-index 0 c.loop-word-test.true c.loop-word.invariant c.in_err-put.ensures.times failed.0 failed.1))

pub returns-in_err-hand_on : goal.returns-in_err-hand_on
returns-in_err-hand_on g c =
    let e = err_from_is_err_and c.from_residual-in_err-hand_on.result c.from_residual-in_err-hand_on.ensures.1 in
    let all = subst (λ ws. PutsAll (g.O.Sink.seen c.args.out.now) (listing ws) (g.O.Sink.seen c.loop-word.out)) (take_all c.loop-word.word-index c.args.words.now (omega arith)) c.loop-word.invariant in
    rw (e.1, e.2) (inr (record { between = _; puts = all; flushed = c.in_err-hand_on.ensures.kept; rose = c.in_err-hand_on.ensures.err }))

pub returns : goal.returns
returns g c =
    let all = subst (λ ws. PutsAll (g.O.Sink.seen c.args.out.now) (listing ws) (g.O.Sink.seen c.loop-word.out)) (take_all c.loop-word.word-index c.args.words.now (omega arith)) c.loop-word.invariant in
    record { between = _; puts = all; flushed = c.in_ok-hand_on.ensures.kept; out = c.in_ok-hand_on.ensures.ok }
