-- Paths backwards.
use Rattle.std.proofs.Common.{ℕ, suc, zero, List, [], ◌∷◌, map, sym, subst, arith}
use Rattle.std.specs.List.{Contains}
use Rattle.definite_assignment.specs.Leaving.{turned}
use Rattle.bril_tree.proofs.Members.{Contains-map}
use Rattle.graph_search.proofs.Paths.{reached_step, reached_all}
use Rattle.graph_search.specs.Path.{IsReached, Leads, other_than}
use Rattle.graph_search.specs.declared.graph.Arc.{Arc}

turned_leads : (arcs : List Arc) (barred m n : ℕ) → Leads arcs (other_than barred) m n → Leads (map turned arcs) (other_than barred) n m
turned_leads arcs barred m n l = record {
  arc = turned l.arc;
  there = Contains-map turned arcs l.arc l.there;
  leaves = l.enters;
  enters = l.leaves;
  passes = l.passes;
}

-- from a node to which a path leads from the start, the turned arcs lead back to the start
pub turned-reaches : (arcs : List Arc) (seeds : List ℕ) (barred n : ℕ) → IsReached arcs (0 ∷ []) (other_than barred) n → IsReached (map turned arcs) seeds (other_than barred) n →
    IsReached (map turned arcs) seeds (other_than barred) 0
turned-reaches arcs seeds barred =
    let back : ℕ → Type 0 = IsReached (map turned arcs) seeds (other_than barred) in
    reached_all arcs (0 ∷ []) (other_than barred) (λ n. back n → back 0) start
    (λ m n before leads r. before (reached_step (map turned arcs) seeds (other_than barred) n m r (turned_leads arcs barred m n leads)))
  where
    start : (n : ℕ) → Contains (0 ∷ []) n → IsReached (map turned arcs) seeds (other_than barred) n → IsReached (map turned arcs) seeds (other_than barred) 0
    start n (zero, low, e) r = subst (IsReached (map turned arcs) seeds (other_than barred)) (sym e) r
    start n (suc k, low, e) r = absurd (omega arith)
