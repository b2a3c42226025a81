use Rattle.std.proofs.Common.{subst}
use Rattle.bril_tree.specs.declared.program.Prog.{Prog}
use Rattle.bril_tree.specs.Accepted.{IsAccepted}
use Rattle.bril_tree.specs.Size.{IsCounted}
use Rattle.trace_laws.proofs.Made.{traces-link}
use Rattle.trace_laws.specs.lines.Traced.{IsTracedTree}
use Rattle.trace_stitcher.proofs.stitch.StitchEditEdit.edit.Goals as goal

pub returns : goal.returns
returns c =
    let P = c.args.prog.now.prog in
    let profile = c.args.profile.now in
    let tree = c.in_ok-stitched.field-0 in
    let same = c.prog.ensures.value in
    traces-link P profile tree (subst IsAccepted same c.prog.ensures.accepted) (subst IsCounted same c.prog.ensures.counted) c.requires
    (subst (λ (Q : Prog). IsTracedTree Q profile tree) same c.in_ok-stitched.ensures)
