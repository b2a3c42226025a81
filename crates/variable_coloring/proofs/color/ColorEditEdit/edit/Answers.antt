use Rattle.std.proofs.Common.{subst}
use Rattle.bril_tree.specs.declared.program.Prog.{Prog}
use Rattle.pass_make.specs.Edited.{IsLinkedTo}
use Rattle.pass_make.specs.declared.made.Made.TheVariants.{Tree}
use Rattle.variable_coloring.specs.Color.{color_meaning}
use Rattle.variable_coloring.proofs.Made.{edited}
use Rattle.variable_coloring.proofs.color.ColorEditEdit.edit.Goals as goal

pub returns : goal.returns
returns c =
    subst (λ (P : Prog). IsLinkedTo color_meaning c.args._profile.now P (Tree c.in_ok-renamed_tree.field-0)) c.prog.ensures.value
    (edited c.prog.result.now c.prog.ensures.accepted c.in_ok-renamed_tree.field-0 c.in_ok-renamed_tree.ensures c.prog.ensures.counted c.args._profile.now)
