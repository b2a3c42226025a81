-- What a flow graph tells of the walks of its function.
use Rattle.std.proofs.Common.{◌≡◌, ℕ, ◌<◌, true, List, [], ◌∷◌, length, Option, Some, None, refl, sym, ap, ◌∙◌, subst, arith}
use Rattle.std.specs.Prelude.{slice_get, IsTrue, nat_lt}
use Rattle.std.proofs.lemmas.Bool.{ltb-true, lt-ltb}
use Rattle.bril_tree.specs.declared.numbered_function.Func.{Func}
use Rattle.bril_tree.specs.Accepted.{leaves_frame}
use Rattle.bril_tree.specs.Sites.{AreSitesSound, sites_of}
use Rattle.flow_graph.specs.Graph.{GraphView, IsGraphOf}
use Rattle.bril_tree.proofs.Elements.{get_inside}
use Rattle.flow_graph.proofs.Told.{sites_of_walk, walk_to}
use Rattle.bril_checker.specs.Faults.{LeavesOpen}

nonempty : (xs : List ℕ) → (xs ≡ [] → ⊥) → 0 < length xs
nonempty [] some = absurd (some refl)
nonempty (x ∷ xs) some = omega arith

-- the number of the sites that are open at a point, as the graph tells it
module _ (f : Func) (graph : GraphView) (is_graph : IsGraphOf f.code graph) (point n : ℕ)
    (reached : (sites : List ℕ) → slice_get graph.sites point ≡ Some (Some sites) → n ≡ length sites)
    (unreached : slice_get graph.sites point ≡ Some None → n ≡ 0) where
  open_at : leaves_frame (slice_get f.code point) ≡ true → 0 < n → (o : Option (List ℕ)) → slice_get graph.sites point ≡ Some o → LeavesOpen f point
  open_at leaves some None e = absurd (omega (arith, unreached e))
  open_at leaves some (Some sites) e =
      let w = walk_to f.code graph is_graph point sites e in
      record {
        walk = w.0;
        is = w.1;
        ends = w.2;
        leaves = leaves;
        opened = λ none.
            let many : n ≡ length (sites_of f.code w.0) = reached sites e ∙ ap length (sym w.3) in
            let nothing : n ≡ 0 = many ∙ ap length none in
            absurd (omega arith);
      }

  pub leaves_if : leaves_frame (slice_get f.code point) ≡ true → point < length graph.sites → IsTrue (nat_lt 0 n) → LeavesOpen f point
  leaves_if leaves inside some =
      let here = get_inside graph.sites point inside in
      open_at leaves (ltb-true 0 n some) here.0 here.1

  pub open_if : AreSitesSound f.code → LeavesOpen f point → IsTrue (nat_lt 0 n)
  open_if sound o =
      let told = sites_of_walk f.code graph is_graph sound o.walk o.is in
      let many : n ≡ length (sites_of f.code o.walk) = reached (sites_of f.code o.walk) (subst (λ p. slice_get graph.sites p ≡ Some (Some (sites_of f.code o.walk))) o.ends told) in
      let some = nonempty (sites_of f.code o.walk) o.opened in
      lt-ltb 0 n (omega arith)
