use Rattle.std.proofs.Common.{◌∷◌, ◌++◌, sym, ap, ◌∙◌}
use Rattle.std.proofs.lemmas.Result.{err_from_is_err_and}
use Rattle.profile_text.proofs.Cuts.{nonempty}
use Rattle.profile_text.proofs.Faults.{fault_at, read_more}
use Rattle.profile_text.proofs.reading.read_entries.Goals as goal

pub returns-in_err-parts-clause-fault : goal.returns-in_err-parts-clause-fault
returns-in_err-parts-clause-fault c =
    let p = err_from_is_err_and c.from_residual.result c.from_residual.ensures.1 in
    rw (p.1, p.2)
    (fault_at c.args.version c.args.source.now c.lines.rest.now c.lines.line c.in_err-parts.field-0.0 (record { entries = c.lines.entries; so_far = c.lines.invariant })
    (nonempty c.lines.rest.now c.is_empty.result c.is_empty.ensures c.lines-test.true) c.in_err-parts.ensures.fault)

pub lines-preserved : goal.lines-preserved
lines-preserved c =
    read_more c.args.version c.args.source.now c.lines.rest.now c.in_ok-parts.after.now c.lines.line c.lines.entries c.push.new.self c.in_ok-entry_of.field-0 c.lines.invariant c.in_ok-push.ensures.ok (c.in_ok-entry_of.ensures.valid c.args.version c.in_ok-parts.ensures.count)
    (c.in_ok-parts.ensures.found ∙ ap (λ z. z ++ 10 ∷ c.in_ok-parts.after.now) (sym (c.in_ok-entry_of.ensures.line c.args.version))) c.in_ok-parts.ensures.few
