use Rattle.std.proofs.Common.{subst}
use Rattle.bril_tree.specs.declared.program.Prog.{Prog}
use Rattle.bril_tree.specs.Size.{item_count}
use Rattle.pass_make.specs.Edited.{HasRoom, IsLinkedTo}
use Rattle.pass_make.specs.declared.made.Made.TheVariants.{Tree}
use Rattle.ssa_form_laws.specs.form.Numbers.{IsSsaBound}
use Rattle.ssa_form_laws.specs.form.Ssa.{ssa_meaning}
use Rattle.braun_ssa.proofs.Made.{edited}
use Rattle.braun_ssa.proofs.ssa.SsaEditEdit.edit.Goals as goal

pub returns : goal.returns
returns c =
    subst (λ (P : Prog). HasRoom (IsSsaBound P) (item_count P) → IsLinkedTo ssa_meaning c.args._profile.now P (Tree c.in_ok-tree.tree)) c.prog.ensures.value
    (edited c.prog.result.now c.prog.ensures.accepted c.in_ok-tree.tree c.in_ok-tree.ensures c.prog.ensures.counted c.args._profile.now) c.requires
