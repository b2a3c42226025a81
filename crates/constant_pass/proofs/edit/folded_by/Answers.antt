use Rattle.std.proofs.Common.{◌≡◌, ◌+◌, [], ◌∷◌, length, sym, subst, arith}
use Rattle.std.specs.Prelude.{is_some}
use Rattle.std.proofs.lemmas.List.{length-append}
use Rattle.flow_graph.proofs.BranchRows.{code_labelled}
use Rattle.constant_pass.specs.constants.Kept.{told}
use Rattle.constant_pass.specs.Edit.{IsMade, AreMade}
use Rattle.constant_pass.proofs.Editing.{made-more}
use Rattle.constant_pass.proofs.edit.folded_by.Goals as goal

pub made_item-requires : goal.made_item-requires
made_item-requires c = let F = c.args.func.now in record { labelled = code_labelled (is_some F.ret) (length F.labels) F.code c.requires.shaped F.formed.targets }

pub loop-item-preserved : goal.loop-item-preserved
loop-item-preserved c =
    let F = c.args.func.now in
    let t = told c.args.table.now in
    let inv = c.loop-item.invariant in
    let items = c.loop-item.yielded in
    let item = c.in-Some.item in
    let made = c.in_ok-made.made in
    let at : c.loop-item.point ≡ 0 + length items = omega (arith, inv.0) in (
      omega (arith, inv.0, length-append items (item ∷ [])),
      subst (AreMade F t 0 _) (sym c.in_ok-push.ensures.ok) (made-more F t 0 items c.loop-item.code item made inv.1 (subst (λ n. IsMade F t n item made) at c.in_ok-made.ensures)),
    )
