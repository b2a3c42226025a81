-- A piece is cut off what is left of the bytes.
use Rattle.std.proofs.Common.{◌≡◌, ◌∷◌, ◌∙◌}
use Rattle.roolvist_lib.proofs.Pieces.{cut_more}
use Rattle.roolvist_lib.proofs.given.cut.Goals as goal

pub pieces-preserved : goal.pieces-preserved
pieces-preserved c =
    let left : c.pieces.left.now ≡ c.in-Some.length.now ∷ c.in-Some.others.now = c.in-Some.ensures.cases.0 in
    let split = c.in-Some-split_at_checked.ensures.cases in
    let more = cut_more c.pieces.pieces c.in-Some.length.now c.pieces.rest.now c.in-Some.others.now split.0 ∙ (rw left at c.pieces.invariant) in
    rw (c.in_ok-push.ensures.ok, c.in_ok-copy_of.ensures, split.1, split.2) more
