use Rattle.std.proofs.Common.{◌≡◌, ◌<◌, length, sym, ap, ◌∙◌, subst, arith}
use Rattle.std.specs.List.{All}
use Rattle.bril_tree.specs.Sites.{AreSitesSound}
use Rattle.flow_graph.specs.declared.reads.Access.{Access}
use Rattle.ssa_search.proofs.lemmas.accesses.Heads.{heads-inside, readers-inside, writers-inside}
use Rattle.ssa_search.proofs.accesses.blocks.blocks_of.Goals as goal

pub block_arcs-requires-clause-sound : goal.block_arcs-requires-clause-sound
block_arcs-requires-clause-sound c = subst AreSitesSound (sym c.as_slice-code.ensures) c.requires.sound

pub invariant_of-result : goal.invariant_of-result
invariant_of-result c =
    let code = c.args.func.now.code in
    let read = c.as_slice-code.result.now in
    let nodes = c.in_ok-arc_graph.ensures.nodes in
    let own : length code ≡ c.in_ok-arc_graph.field-0.nodes = ap length (sym c.as_slice-code.ensures) ∙ sym nodes in
    record {
      points = c.in_ok-heads.ensures.long ∙ sym nodes;
      few = let few = c.requires.few in omega (arith, own, few);
      inside = subst (λ n. All (λ head. head < n) c.in_ok-heads.heads.items) (sym nodes) (heads-inside read c.in_ok-heads.heads.items c.in_ok-heads.ensures.long c.in_ok-heads.ensures.heads);
      readers = subst (λ n. All (λ (access : Access). access.item < n) c.in_ok-accesses.accesses.exposed.list) own (readers-inside code c.in_ok-accesses.accesses.exposed.list c.in_ok-accesses.accesses.firsts.list c.in_ok-accesses.ensures);
      writers = subst (λ n. All (λ (access : Access). access.item < n) c.in_ok-accesses.accesses.firsts.list) own (writers-inside code c.in_ok-accesses.accesses.exposed.list c.in_ok-accesses.accesses.firsts.list c.in_ok-accesses.ensures);
    }
