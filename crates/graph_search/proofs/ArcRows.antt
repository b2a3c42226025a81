-- The row of the arcs from a node.
use Rattle.std.proofs.Common.{◌≡◌, ℕ, ◌+◌, List, length, map, ap, ◌∙◌, subst}
use Rattle.std.specs.Prelude.{slice_index}
use Rattle.std.proofs.lemmas.List.{length-map}
use Rattle.graph_search.specs.Adjacency.{EndsRow}
use Rattle.graph_search.specs.declared.graph.Arc.{Arc}

module _ (arcs : List Arc) (keys : List ℕ) (same : keys ≡ map (λ arc. arc.from) arcs) (node : ℕ) where
  -- all of it
  pub row-all : (end : ℕ) → EndsRow keys node (length keys) end → EndsRow (map (λ arc. arc.from) arcs) node (length arcs) end
  row-all end row =
      subst (λ n. EndsRow (map (λ arc. arc.from) arcs) node n end) (length-map arcs (λ arc. arc.from)) (subst (λ ks. EndsRow ks node (length ks) end) same row)

  -- what is before its last place
  pub row-rest : (place end bound earlier : ℕ) → place + 1 ≡ end → EndsRow (map (λ arc. arc.from) arcs) node bound end → EndsRow keys (slice_index keys place) place earlier →
      EndsRow (map (λ arc. arc.from) arcs) node place earlier
  row-rest place end bound earlier here row rest =
      subst (λ key. EndsRow (map (λ arc. arc.from) arcs) key place earlier) (ap (λ ks. slice_index ks place) same ∙ row.stands place here)
      (subst (λ ks. EndsRow ks (slice_index keys place) place earlier) same rest)
