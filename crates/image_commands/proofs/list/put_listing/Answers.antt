-- The list made no program, no image was made of what it made, or the listing of the image was put.
use Rattle.std.proofs.Common.{[], refl, inl, inr, ⊎_elim}
use Rattle.std.proofs.lemmas.Result.{err_from_is_err_and}
use Rattle.bril_report.specs.StageFaults.{status_of}
use Rattle.rv64_listing.specs.Line.{listing}
use Rattle.rv64_words.specs.declared.image.Image.{Image}
use Rattle.image_commands.proofs.Images.{shows_image}
use Rattle.image_commands.proofs.list.put_listing.Goals as goal

pub returns-in_err-made-clause-does : goal.returns-in_err-made-clause-does
returns-in_err-made-clause-does g c =
    let e = err_from_is_err_and c.from_residual.result c.from_residual.ensures.1 in
    rw (e.1, e.2) (inr ([], refl, ⊎_elim (λ unread. inl (unread.0, ((refl, refl), unread.1))) (λ refused. inr (refused.0, refused.1, inl (refused.2, (refl, refl)))) c.in_err-made.ensures.err))

pub returns-in_err-image-clause-does : goal.returns-in_err-image-clause-does
returns-in_err-image-clause-does g c =
    let e = err_from_is_err_and c.from_residual-in_err-image.result c.from_residual-in_err-image.ensures.1 in
    let made = c.in_ok-made.ensures.ok in
    rw (e.1, e.2) (inr ([], refl, inr (made.entries, made.profiled, inr (c.in_ok-made.made.prog, made.made, inl ((c.args.limits, (refl, refl), c.in_err-image.ensures.err), (refl, refl))))))

pub returns-clause-does : goal.returns-clause-does
returns-clause-does g c =
    let put = rw c.as_slice.ensures at c.put_words.ensures in
    let made = c.in_ok-made.ensures.ok in
    let q = c.in_ok-made.made.prog in
    let works = shows_image (λ (x : Image). listing x.words) q c.args.limits c.in_ok-image.image c.in_ok-image.ensures.implements (status_of c.put_words.result) _ _ put in
    inr ([], refl, inr (made.entries, made.profiled, inr (q, made.made, inr ((c.args.limits, (refl, refl), c.in_ok-image.ensures.within), works))))
