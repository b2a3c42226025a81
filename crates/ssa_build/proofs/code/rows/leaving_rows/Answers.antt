use Rattle.std.proofs.Common.{◌<◌, ◌∙◌, List, [], get_or, sym, subst, ap}
use Rattle.std.specs.List.{Contains}
use Rattle.std.proofs.lemmas.List.Elements.{Contains-get_or}
use Rattle.bril_tree.specs.declared.edge.Edge.{Edge}
use Rattle.flow_graph.specs.declared.reads.Access.{Access}
use Rattle.ssa_build.specs.code.Rows.{IsRow, leaves_of}
use Rattle.ssa_build.proofs.lemmas.code.Growing.{leaves-within}
use Rattle.ssa_build.proofs.code.rows.leaving_rows.Goals as goal

pub rows_of-requires-clause-within : goal.rows_of-requires-clause-within
rows_of-requires-clause-within c = λ k d low.
    let list = c.in_ok-lists.lists.list in
    let h = leaves-within c.args.code.now c.edges.result.now (get_or list k d) (subst (λ l. Contains l (get_or list k d)) c.in_ok-lists.ensures (Contains-get_or list k d low)) in
    subst (λ n. (get_or list k d).item < n) (sym c.in_ok-none.ensures.nodes) h

pub returns : goal.returns
returns c =
    let lists = c.in_ok-lists.ensures ∙ ap (λ (edges : List Edge). leaves_of c.args.code.now edges) c.edges.ensures in
    record {
      long = c.in_ok-rows.ensures.long;
      each = λ point low. subst (λ (l : List Access). IsRow l point (get_or c.in_ok-rows.rows.items point [])) lists (c.in_ok-rows.ensures.each point low);
    }
