use Rattle.std.proofs.Common.{[], ◌∷◌, ◌++◌, refl, sym, ap, ◌∙◌}
use Rattle.std.proofs.lemmas.Result.{err_from_is_err_and}
use Rattle.profile_text.proofs.Cuts.{nonempty}
use Rattle.profile_text.proofs.Entries.{entry_from, entry_from_is, entry_from_line}
use Rattle.profile_text.proofs.Faults.{fault_at, read_more}
use Rattle.profile_text.proofs.reading.look_at_lines.Goals as goal

pub returns-in_err-after-clause-fault : goal.returns-in_err-after-clause-fault
returns-in_err-after-clause-fault c =
    let p = err_from_is_err_and c.from_residual.result c.from_residual.ensures.1 in
    rw (p.1, p.2)
    (fault_at c.args.version c.args.source.now c.lines.rest.now c.lines.line c.in_err-after.field-0.0 c.lines.invariant
    (nonempty c.lines.rest.now c.is_empty.result c.is_empty.ensures c.lines-test.true) c.in_err-after.ensures.fault)

pub lines-preserved : goal.lines-preserved
lines-preserved c =
    let parts = c.in_ok-after.field-0-0 in
    let are = c.in_ok-after.ensures.valid in
    let read = c.lines.invariant in
    record {
      entries = read.entries ++ entry_from parts are ∷ [];
      so_far = read_more c.args.version c.args.source.now c.lines.rest.now c.in_ok-after.after.now c.lines.line read.entries (read.entries ++ entry_from parts are ∷ []) (entry_from parts are) read.so_far refl (entry_from_is c.args.version parts are c.in_ok-after.ensures.count)
          (c.in_ok-after.ensures.found ∙ ap (λ z. z ++ 10 ∷ c.in_ok-after.after.now) (sym (entry_from_line c.args.version parts are))) c.in_ok-after.ensures.few;
    }
