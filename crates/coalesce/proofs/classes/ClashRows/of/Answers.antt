use Rattle.std.proofs.Common.{ap, length, arith, ◌∙◌}
use Rattle.coalesce.proofs.Firsts.{length-firsts}
use Rattle.coalesce.proofs.classes.ClashRows.of.Goals as goal

pub of-requires : goal.of-requires
of-requires c =
    let a = c.in_ok-keys.ensures in
    let b = c.as_slice.ensures.value in
    let d = ap length a ∙ length-firsts 0 c.as_slice.result.now ∙ ap length b in
    let e = c.in_ok-number_of_length.ensures.fits in
    let f = c.len.ensures in omega (arith, d, e, f)
