-- The greatest number of open sites, point by point.
use Rattle.std.proofs.Common.{◌≡◌, ℕ, ◌+◌, ◌<◌, ◌≤◌, max, List, length, Option, Some, None, sym, ap, ◌∙◌, subst, inl, inr, arith}
use Rattle.std.specs.Prelude.{◌⊎◌, slice_get}
use Rattle.std.proofs.lemmas.Bool.{cases_lt}
use Rattle.bril_tree.specs.declared.numbered.Instr.{Instr}
use Rattle.bril_tree.specs.Edge.{Branch}
use Rattle.bril_tree.specs.FrameWords.{IsDepth}
use Rattle.bril_tree.specs.Sites.{AreSitesSound, TooMany, sites_of}
use Rattle.bril_tree.specs.Walk.{IsWalk, end_of}
use Rattle.flow_graph.specs.Graph.{GraphView, IsGraphOf}
use Rattle.bril_tree.proofs.Branches.{walk_within}
use Rattle.bril_tree.proofs.Elements.{get_inside}
use Rattle.flow_graph.proofs.Told.{walk_to, sites_of_walk}

module _ (code : List Instr) (graph : GraphView) where
  -- a walk has so many open sites
  abbrev pub HasDepth : ℕ → Type 0
  HasDepth depth = (walk : List Branch) × IsWalk code walk × (length (sites_of code walk) ≡ depth)

  -- the points before this one have no more open sites
  abbrev pub NoneDeeper : ℕ → ℕ → Type 0
  NoneDeeper point depth = (k : ℕ) (sites : List ℕ) → k < point → slice_get graph.sites k ≡ Some (Some sites) → length sites ≤ depth

  module _ (is_graph : IsGraphOf code graph) where
    module _ (point n : ℕ) (reached : (sites : List ℕ) → slice_get graph.sites point ≡ Some (Some sites) → n ≡ length sites)
        (unreached : slice_get graph.sites point ≡ Some None → n ≡ 0) where
      open_walk : 0 < n → (o : Option (List ℕ)) → slice_get graph.sites point ≡ Some o → HasDepth n
      open_walk some None e = absurd (omega (arith, unreached e))
      open_walk some (Some sites) e =
          let w = walk_to code graph is_graph point sites e in
          (w.0, w.1, ap length w.3 ∙ sym (reached sites e))

      deeper : (depth : ℕ) → (depth < n) ⊎ (n ≤ depth) → point < length graph.sites → HasDepth depth → HasDepth (max depth n)
      deeper depth (inl lt) inside has =
          let here = get_inside graph.sites point inside in
          let m : n ≡ max depth n = omega arith in
          subst HasDepth m (open_walk (omega arith) here.0 here.1)
      deeper depth (inr le) inside has =
          let m : depth ≡ max depth n = omega arith in
          subst HasDepth m has

      still_none : (depth k : ℕ) (sites : List ℕ) → (k < point) ⊎ (point ≤ k) → k < point + 1 → NoneDeeper point depth → slice_get graph.sites k ≡ Some (Some sites) → length sites ≤ max depth n
      still_none depth k sites (inl lt) within none e = omega (arith, none k sites lt e)
      still_none depth k sites (inr le) within none e =
          let same : k ≡ point = omega arith in
          omega (arith, reached sites (subst (λ p. slice_get graph.sites p ≡ Some (Some sites)) same e))

      -- one more point
      pub depth_step : (depth m : ℕ) → m ≡ max depth n → point < length graph.sites → HasDepth depth × NoneDeeper point depth → HasDepth m × NoneDeeper (point + 1) m
      depth_step depth m e inside (has, none) = (
        subst HasDepth (sym e) (deeper depth (cases_lt depth n) inside has),
        λ k sites lt told. subst (λ d. length sites ≤ d) (sym e) (still_none depth k sites (cases_lt k point) lt none told),
      )

    module _ (sound : AreSitesSound code) (depth : ℕ) (has : HasDepth depth) where
      pub is_depth : (point : ℕ) → length code < point → NoneDeeper point depth → IsDepth code depth
      is_depth point past none = record {
        deepest = has.0;
        is = has.1;
        reaches = has.2;
        most = λ walk is.
            let within = walk_within code walk is in
            none (end_of walk) (sites_of code walk) (omega arith) (sites_of_walk code graph is_graph sound walk is);
      }

      few : (8 < depth) ⊎ (depth ≤ 8) → depth ≤ 8
      few (inr le) = le
      few (inl lt) =
          absurd (sound (end_of has.0) (TooMany record {
            sites = sites_of code has.0;
            first = is_graph.reached (end_of has.0) (sites_of code has.0) (sites_of_walk code graph is_graph sound has.0 has.1);
            many = omega (arith, has.2);
          }))

      pub depth_few : depth ≤ 8
      depth_few = few (cases_lt 8 depth)
