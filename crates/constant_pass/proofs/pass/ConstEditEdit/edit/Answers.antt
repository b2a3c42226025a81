use Rattle.std.proofs.Common.{subst}
use Rattle.bril_tree.specs.declared.program.Prog.{Prog}
use Rattle.pass_make.specs.Edited.{IsLinkedTo}
use Rattle.pass_make.specs.declared.made.Made.TheVariants.{Tree}
use Rattle.constant_pass.specs.Const.{const_meaning}
use Rattle.constant_pass.proofs.Made.{edited}
use Rattle.constant_pass.proofs.pass.ConstEditEdit.edit.Goals as goal

pub returns : goal.returns
returns c =
    subst (λ (P : Prog). IsLinkedTo const_meaning c.args._profile.now P (Tree c.in_ok-folded.field-0)) c.prog.ensures.value
    (edited c.prog.result.now c.prog.ensures.accepted c.in_ok-folded.field-0 c.in_ok-folded.ensures c.prog.ensures.counted c.args._profile.now)
