use Rattle.std.proofs.Common.{◌≡◌, ◌+◌, ◌<◌, length, map, sym, ap, ◌∙◌, subst, arith}
use Rattle.std.specs.List.{All}
use Rattle.std.proofs.lemmas.List.Elements.{All-weaker}
use Rattle.definite_assignment.specs.Window.{windowed}
use Rattle.flow_graph.specs.Graph.{IsGraphOf}
use Rattle.flow_graph.specs.Reads.{reads_from}
use Rattle.flow_graph.proofs.ReadLists.{reads-inside}
use Rattle.graph_search.specs.Path.{IsBetween}
use Rattle.variable_coloring.specs.LiveWords.{AreReachedArcs, edge_arcs}
use Rattle.variable_coloring.proofs.LiveArcs.{edge_arcs-are, edge_arcs-between}
use Rattle.variable_coloring.proofs.live_flow.LiveFlow.of.Goals as goal

pub of-requires-clause-between : goal.of-requires-clause-between
of-requires-clause-between c =
    let code = c.as_slice-code.result.now in
    let graph = c.args.graph.now in
    let is : IsGraphOf code graph = subst (λ items. IsGraphOf items graph) (sym c.as_slice-code.ensures) c.requires.graph in
    let arcs : c.in_ok-arcs.arcs.items ≡ edge_arcs code graph.edges = c.in_ok-arcs.ensures ∙ ap (edge_arcs code) c.edges.ensures in
    subst (All (IsBetween (length code + 1))) (sym arcs) (edge_arcs-between code graph is)

pub invariant_of-result : goal.invariant_of-result
invariant_of-result c =
    let code = c.as_slice-code.result.now in
    let graph = c.args.graph.now in
    let is : IsGraphOf code graph = subst (λ items. IsGraphOf items graph) (sym c.as_slice-code.ensures) c.requires.graph in
    let arcs = c.in_ok-arcs-2.arcs in
    let nodes : arcs.nodes ≡ length code + 1 = c.in_ok-arcs-2.ensures.nodes in
    let list : c.in_ok-reads.reads.items ≡ reads_from 0 code = c.in_ok-reads.ensures in
    let same : arcs.arcs ≡ edge_arcs code graph.edges = c.in_ok-arcs-2.ensures.arcs ∙ c.in_ok-arcs.ensures ∙ ap (edge_arcs code) c.edges.ensures in
    record {
      rows_are = c.in_ok-rows.ensures ∙ c.in_ok-windowed.ensures ∙ ap (map windowed) c.as_slice.ensures.value;
      items = subst (λ rs. All (λ read. read.item < arcs.nodes) rs) (sym list)
          (All-weaker (λ read. read.item < 0 + length code) (λ read. read.item < arcs.nodes) (λ read low. omega (arith, nodes, low)) (reads_from 0 code) (reads-inside 0 code));
      between = subst (λ n. All (IsBetween n) arcs.arcs) (sym nodes) (subst (All (IsBetween (length code + 1))) (sym same) (edge_arcs-between code graph is));
    }

pub returns : goal.returns
returns c =
    let code = c.as_slice-code.result.now in
    let graph = c.args.graph.now in
    let items : code ≡ c.args.func.now.code = c.as_slice-code.ensures in
    let same : c.in_ok-arcs-2.arcs.arcs ≡ edge_arcs c.args.func.now.code graph.edges = c.in_ok-arcs-2.ensures.arcs ∙ c.in_ok-arcs.ensures ∙ ap (edge_arcs code) c.edges.ensures ∙ ap (λ l. edge_arcs l graph.edges) items in
    record {
      points = c.in_ok-arcs-2.ensures.nodes ∙ ap (λ l. length l + 1) items;
      items = c.in_ok-reads.ensures ∙ ap (reads_from 0) items;
      arcs = subst (AreReachedArcs c.args.func.now.code) (sym same) (edge_arcs-are c.args.func.now.code graph c.requires.graph c.requires.sound);
    }
