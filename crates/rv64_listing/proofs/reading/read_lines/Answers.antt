use Rattle.std.proofs.Common.{◌≡◌, ◌+◌, suc, subst, arith}
use Rattle.std.proofs.lemmas.Result.{err_from_is_err_and}
use Rattle.rv64_listing.proofs.Listings.{IsReadTo, fault_in, fault_last, read_all, read_more}
use Rattle.rv64_listing.proofs.reading.read_lines.Goals as goal

pub returns-in_err-add_line-clause-fault : goal.returns-in_err-add_line-clause-fault
returns-in_err-add_line-clause-fault c =
    let p = err_from_is_err_and c.from_residual.result c.from_residual.ensures.1 in
    rw (p.1, p.2)
    (fault_in c.args.source.now c.lines.rest.now c.in-Some.line.now c.in-Some.after.now c.lines.before c.lines.words c.in_err-add_line.field-0.0 c.lines.invariant c.in-Some.ensures.0 c.in-Some.ensures.1 c.requires.none c.in_err-add_line.ensures.fault)

pub lines-preserved : goal.lines-preserved
lines-preserved c =
    let e : suc c.lines.before ≡ c.lines.before + 1 = omega arith in
    subst (λ n. IsReadTo c.args.source.now c.in-Some.after.now n c.add_line.new.words) e
    (read_more c.args.source.now c.lines.rest.now c.in-Some.line.now c.in-Some.after.now c.lines.before c.lines.words c.add_line.new.words c.lines.invariant c.in-Some.ensures.0 c.in-Some.ensures.1 c.in_ok-add_line.ensures.added)

pub returns-in_err-add_line-2-clause-fault : goal.returns-in_err-add_line-2-clause-fault
returns-in_err-add_line-2-clause-fault c =
    let p = err_from_is_err_and c.from_residual-in_err-add_line-2.result c.from_residual-in_err-add_line-2.ensures.1 in
    rw (p.1, p.2) (fault_last c.args.source.now c.lines.rest.now c.lines.before c.lines.words c.in_err-add_line-2.field-0.0 c.lines.invariant c.in_default.ensures c.requires.none c.in_err-add_line-2.ensures.fault)

pub returns-clause-found : goal.returns-clause-found
returns-clause-found c = read_all c.args.source.now c.lines.rest.now c.lines.before c.lines.words c.add_line-2.new.words c.lines.invariant c.in_default.ensures c.in_ok-add_line-2.ensures.added
