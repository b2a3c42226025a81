use Rattle.std.proofs.Common.{◌≡◌, length, sym, ap, ◌∙◌, subst}
use Rattle.std.specs.Prelude.{is_some}
use Rattle.std.specs.List.{All}
use Rattle.flow_graph.specs.Branches.{HasLabels}
use Rattle.flow_graph.proofs.BranchRows.{code_labelled}
use Rattle.dead_code.proofs.sweep.swept.Goals as goal

pub look-requires-clause-labelled : goal.look-requires-clause-labelled
look-requires-clause-labelled c =
    let f = c.args.func.now in
    let many : length c.as_slice.result.now ≡ length f.labels = ap length c.as_slice.ensures.value ∙ c.in_ok-points.ensures.all in
    subst (λ n. All (HasLabels n) f.code) (sym many) (code_labelled (is_some f.ret) (length f.labels) f.code c.requires.shaped f.formed.targets)
