use Rattle.std.proofs.Common.{subst}
use Rattle.bril_tree.specs.declared.program.Prog.{Prog}
use Rattle.pass_make.specs.Edited.{IsLinkedTo}
use Rattle.pass_make.specs.declared.made.Made.TheVariants.{Tree}
use Rattle.ssa_exit.specs.Unssa.{unssa_meaning}
use Rattle.ssa_exit.proofs.Made.{edited}
use Rattle.ssa_exit.proofs.unssa.UnssaEditEdit.edit.Goals as goal

pub returns : goal.returns
returns c =
    subst (λ (P : Prog). IsLinkedTo unssa_meaning c.args._profile.now P (Tree c.in_ok-unssaed.field-0)) c.prog.ensures.value
    (edited c.prog.result.now c.prog.ensures.accepted c.in_ok-unssaed.field-0 c.in_ok-unssaed.ensures c.prog.ensures.counted c.args._profile.now)
