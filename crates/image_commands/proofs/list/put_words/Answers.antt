-- There was no memory for the listing, or it was put, or its put failed.
use Rattle.std.proofs.Common.{refl, inl}
use Rattle.std.proofs.lemmas.Result.{err_from_is_err_and}
use Rattle.image_commands.proofs.list.put_words.Goals as goal

pub returns-in_err-text : goal.returns-in_err-text
returns-in_err-text g c =
    let e = err_from_is_err_and c.from_residual.result c.from_residual.ensures.1 in
    rw (e.1, e.2) (refl, inl refl)

pub returns : goal.returns
returns g c = rw (c.as_slice.ensures, c.in_ok-text.ensures) at c.put_alone.ensures
