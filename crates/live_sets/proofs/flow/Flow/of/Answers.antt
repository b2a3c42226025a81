use Rattle.std.proofs.Common.{◌≡◌, ◌+◌, ◌<◌, length, sym, ap, ◌∙◌, subst, arith}
use Rattle.std.specs.List.{All}
use Rattle.std.proofs.lemmas.List.Elements.{All-weaker}
use Rattle.flow_graph.specs.Reads.{reads_from}
use Rattle.flow_graph.proofs.ReadLists.{reads-inside}
use Rattle.graph_search.specs.Path.{IsBetween}
use Rattle.live_sets.proofs.flow.Flow.of.Goals as goal

pub invariant_of-result : goal.invariant_of-result
invariant_of-result c =
    let code = c.args.func.now.code in
    let arcs = c.in_ok-of-2.field-0 in
    let list : c.in_ok-of.field-0.list ≡ reads_from 0 code = c.in_ok-of.ensures ∙ c.in_ok-reads.ensures ∙ ap (reads_from 0) c.as_slice.ensures in
    let nodes : arcs.nodes ≡ length code + 1 = c.in_ok-of-2.ensures.nodes ∙ ap (λ l. length l + 1) c.as_slice-2.ensures in
    let few = c.requires.few in (
      subst (λ l. All (λ read. read.item < arcs.nodes) l) (sym list)
          (All-weaker (λ read. read.item < 0 + length code) (λ read. read.item < arcs.nodes) (λ read low. omega (arith, nodes, low)) (reads_from 0 code) (reads-inside 0 code)),
      (subst (λ n. All (IsBetween n) arcs.arcs) (sym nodes) (subst (All (IsBetween (length code + 1))) (sym c.in_ok-of-2.ensures.arcs) c.in_ok-arcs.ensures.between), (omega (arith, nodes, few), tt)),
    )
