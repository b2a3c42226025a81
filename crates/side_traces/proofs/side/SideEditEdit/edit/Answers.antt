use Rattle.std.proofs.Common.{subst}
use Rattle.bril_tree.specs.declared.program.Prog.{Prog}
use Rattle.bril_tree.specs.Accepted.{IsAccepted}
use Rattle.bril_tree.specs.Size.{IsCounted}
use Rattle.side_laws.specs.Sided.{IsSidedTree}
use Rattle.side_traces.proofs.side.SideEditEdit.edit.Goals as goal

pub returns : goal.returns
returns c =
    let P = c.args.prog.now.prog in
    let tree = c.in_ok-sided.field-0 in
    let same = c.prog.ensures.value in
    c.side_exits_link.ensures P c.args._profile.now tree (subst IsAccepted same c.prog.ensures.accepted) (subst IsCounted same c.prog.ensures.counted) c.requires
    (subst (λ (Q : Prog). IsSidedTree Q tree) same c.in_ok-sided.ensures)
