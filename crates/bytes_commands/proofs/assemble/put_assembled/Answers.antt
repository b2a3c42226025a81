-- The bytes are no listing, or its words were put.
use Rattle.std.proofs.Common.{[], refl, inl, inr, ◌≡◌}
use Rattle.std.proofs.lemmas.Result.{err_from_is_err_and}
use Rattle.bril_commands.proofs.Works.{Works-told}
use Rattle.bril_commands.specs.commands.Emit.{listing}
use Rattle.bril_report.specs.StageFaults.{status_of}
use Rattle.bytes_commands.proofs.assemble.put_assembled.Goals as goal

pub returns-in_err-words : goal.returns-in_err-words
returns-in_err-words g c =
    let e = err_from_is_err_and c.from_residual.result c.from_residual.ensures.1 in
    rw (e.1, e.2) (λ args. inl (c.in_err-words.ensures.err, (refl, refl)))

pub returns : goal.returns
returns g c =
    let put = rw c.as_slice.ensures at c.put_words.ensures in
    let words = c.in_ok-words.words in
    let works = Works-told [] (λ output. output ≡ listing words) (listing words) refl (status_of c.put_words.result) _ _ put in
    λ args. inr (words, c.in_ok-words.ensures.ok, inr ([], refl, works))
