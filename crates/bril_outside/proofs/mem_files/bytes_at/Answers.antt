-- The file at a path is the one at the first place that has it.
use Rattle.std.proofs.Common.{◌≡◌, Some, None, sym, ◌∙◌}
use Rattle.bril_outside.proofs.Stored.{file_at-place, file_at-none}
use Rattle.bril_outside.proofs.mem_files.bytes_at.Goals as goal

pub returns-in_err-place : goal.returns-in_err-place
returns-in_err-place c =
    let none : c.place_of.result ≡ None = c.in_err-place.was in
    rw c.from_residual.ensures (sym (file_at-none c.args.files.now c.args.path.now (sym c.place_of.ensures ∙ none)))

pub returns : goal.returns
returns c =
    let some : c.place_of.result ≡ Some c.in_ok-place.place = c.in_ok-place.was in
    sym (file_at-place c.args.files.now c.args.path.now c.in_ok-place.place c.index-files-place.result (sym c.place_of.ensures ∙ some))
