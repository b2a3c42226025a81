use Rattle.std.proofs.Common.{◌≡◌, ◌++◌, length, sym, ap, ◌∙◌, subst}
use Rattle.std.specs.Prelude.{is_some}
use Rattle.std.specs.List.{All}
use Rattle.flow_graph.specs.Branches.{HasLabels}
use Rattle.flow_graph.proofs.BranchRows.{code_labelled}
use Rattle.live_sets.specs.Arcs.{AreBackArcs, abort_arcs, arcs_from}
use Rattle.live_sets.proofs.BackArcs.{back_arcs_are}
use Rattle.live_sets.proofs.arcs.back_arcs.Goals as goal

pub plain_arcs-requires-clause-labelled : goal.plain_arcs-requires-clause-labelled
plain_arcs-requires-clause-labelled c =
    let f = c.args.func.now in
    let many : length c.as_slice.result.now ≡ length f.labels = ap length c.as_slice.ensures.value ∙ c.in_ok-points.ensures.all in
    subst (λ code. All (HasLabels (length c.as_slice.result.now)) code) (sym c.as_slice-code.ensures)
    (subst (λ n. All (HasLabels n) f.code) (sym many) (code_labelled (is_some f.ret) (length f.labels) f.code c.requires.shaped f.formed.targets))

pub returns : goal.returns
returns c =
    let code = c.args.func.now.code in
    let graph = c.args.graph.now in
    let is : c.push_aborts.new.arcs.items ≡ arcs_from code 0 code ++ abort_arcs code graph.edges =
    c.in_ok-push_aborts.ensures ∙ (λ i. c.in_ok-arcs.ensures i ++ abort_arcs c.as_slice-code.result.now (c.edges.ensures i)) ∙ ap (λ items. arcs_from items 0 items ++ abort_arcs items graph.edges) c.as_slice-code.ensures in
    subst (AreBackArcs code) (sym is) (back_arcs_are code graph c.requires.graph c.requires.sound)
