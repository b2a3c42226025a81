use Rattle.std.proofs.Common.{subst}
use Rattle.bril_tree.specs.declared.program.Prog.{Prog}
use Rattle.pass_law.specs.Meaning.{Link}
use Rattle.coalesce.specs.Merge.{merge_meaning}
use Rattle.coalesce.proofs.Made.{linked}
use Rattle.coalesce.proofs.merge.MergeEditEdit.edit.Goals as goal

pub returns : goal.returns
returns c =
    subst (λ (P : Prog). Link merge_meaning c.args._profile.now P c.in_ok-merged.field-0.prog) c.prog.ensures.value
    (linked c.prog.result.now c.in_ok-merged.field-0.prog c.args._profile.now c.in_ok-merged.ensures)
