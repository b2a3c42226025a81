use Rattle.std.proofs.Common.{◌≡◌, ◌+◌, suc, subst, arith}
use Rattle.std.proofs.lemmas.Result.{err_from_is_err_and}
use Rattle.rv64_listing.proofs.Listings.{IsSeenTo, bad_in, bad_last, seen_all, seen_more}
use Rattle.rv64_listing.proofs.reading.look_at_lines.Goals as goal

pub returns-in_err-word_of-clause-fault : goal.returns-in_err-word_of-clause-fault
returns-in_err-word_of-clause-fault c =
    let p = err_from_is_err_and c.from_residual.result c.from_residual.ensures.1 in
    rw (p.1, p.2) (bad_in c.args.source.now c.lines.rest.now c.in-Some.line.now c.in-Some.after.now c.lines.before c.in_err-word_of.field-0.0 c.lines.invariant c.in-Some.ensures.0 c.in-Some.ensures.1 c.in_err-word_of.ensures.fault)

pub lines-preserved : goal.lines-preserved
lines-preserved c =
    let e : suc c.lines.before ≡ c.lines.before + 1 = omega arith in
    subst (λ n. IsSeenTo c.args.source.now c.in-Some.after.now n) e
    (seen_more c.args.source.now c.lines.rest.now c.in-Some.line.now c.in-Some.after.now c.lines.before c.in_ok-word_of.field-0 c.lines.invariant c.in-Some.ensures.0 c.in-Some.ensures.1 c.in_ok-word_of.ensures.word)

pub returns-in_err-word_of-2-clause-fault : goal.returns-in_err-word_of-2-clause-fault
returns-in_err-word_of-2-clause-fault c =
    let p = err_from_is_err_and c.from_residual-in_err-word_of-2.result c.from_residual-in_err-word_of-2.ensures.1 in
    rw (p.1, p.2) (bad_last c.args.source.now c.lines.rest.now c.lines.before c.in_err-word_of-2.field-0.0 c.lines.invariant c.in_default.ensures c.in_err-word_of-2.ensures.fault)

pub returns-clause-none : goal.returns-clause-none
returns-clause-none c = seen_all c.args.source.now c.lines.rest.now c.lines.before c.in_ok-word_of-2.field-0 c.lines.invariant c.in_default.ensures c.in_ok-word_of-2.ensures.word
