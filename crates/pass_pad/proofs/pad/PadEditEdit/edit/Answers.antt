use Rattle.std.proofs.Common.{◌≡◌, subst}
use Rattle.bril_tree.specs.declared.program.Prog.{Prog}
use Rattle.bril_tree.specs.Accepted.{IsAccepted}
use Rattle.bril_tree.specs.Numbered.{tree_of}
use Rattle.pass_pad.specs.Padded.{padded_tree}
use Rattle.pass_pad.proofs.Made.{padded-linked}
use Rattle.pass_pad.proofs.pad.PadEditEdit.edit.Goals as goal

pub returns : goal.returns
returns c =
    let same = c.prog.ensures.value in
    padded-linked c.args.prog.now.prog c.in_ok-padded.field-0 (subst IsAccepted same c.prog.ensures.accepted) (subst (λ (P : Prog). c.in_ok-padded.field-0 ≡ padded_tree (tree_of P)) same c.in_ok-padded.ensures) c.requires c.args._profile.now
