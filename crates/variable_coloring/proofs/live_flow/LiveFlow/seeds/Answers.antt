use Rattle.std.proofs.Common.{◌≡◌, ℕ, ◌+◌, ◌-◌, ◌<◌, ◌∷◌, ◌++◌, [], Some, true, length, refl, sym, ap, ◌∙◌, subst, arith}
use Rattle.std.specs.Prelude.{slice_get}
use Rattle.std.specs.List.{All, Contains}
use Rattle.std.proofs.lemmas.List.Elements.{All-nil, All-push}
use Rattle.std.proofs.lemmas.Option.{get_or_from_slice_get, slice_get-get_or}
use Rattle.flow_graph.specs.declared.reads.Access.{Access}
use Rattle.flow_graph.proofs.AccessRows.{done-start, done-next}
use Rattle.graph_search.specs.Sets.{has_bit, seeds_of}
use Rattle.graph_search.specs.declared.reached_sets.Seed.{Seed}
use Rattle.graph_search.proofs.Seeds.{seeds-kept, seeds-pushed}
use Rattle.definite_assignment.specs.Window.{place_of, window_of}
use Rattle.definite_assignment.proofs.Windows.{long-as, read-of-window}
use Rattle.variable_coloring.proofs.Seeding.{all-read, more-read, seeds-none}
use Rattle.variable_coloring.proofs.live_flow.LiveFlow.seeds.Goals as goal

pub loop-end-init : goal.loop-end-init
loop-end-init c =
    let self = c.args.self.now in
    record {
      nodes = rw c.new-seeds.ensures.items (All-nil (λ (seed : Seed). seed.node < self.arcs.nodes));
      done = done-start self.rows.list c.args.window c.end-end.result
          (λ k access. (read : Access) → slice_get self.reads.items k ≡ Some read → Contains (seeds_of (place_of read.location) c.new-seeds.result.items) read.item) c.end-end.ensures;
      only = seeds-none self.reads.items c.args.window c.new-seeds.result.items c.new-seeds.ensures.items;
    }

pub loop-end-preserved : goal.loop-end-preserved
loop-end-preserved c =
    let self = c.args.self.now in
    let reads = self.reads.items in
    let inv = c.loop-end.invariant in
    let positive = c.loop-end-test.true in
    let k = c.loop-end.end - 1 in
    let here : k + 1 ≡ c.loop-end.end = omega (arith, positive) in
    let old = c.loop-end.seeds.items in
    let new = c.push.new.self.items in
    let seed = c.seed_of.result in
    let read = c.index.result.now in
    let grew : new ≡ old ++ seed ∷ [] = c.in_ok-push.ensures.items in
    let low : k < length reads = (let long = long-as self.rows.list reads self.rows_are c.args.window c.loop-end.end in let w = inv.done.within in let r = inv.done.row.within in omega (arith, long, w, r, here)) in
    let at : slice_get reads k ≡ Some read = slice_get-get_or reads k read low ∙ ap Some (sym c.index.ensures) in
    let is : window_of read.location ≡ c.args.window = read-of-window self.rows.list reads self.rows_are c.args.window c.loop-end.end inv.done.bound k inv.done.row here read at in
    let bits : (j : ℕ) → has_bit seed.bits j ≡ true → j ≡ place_of read.location = (λ j. (c.seed_of.ensures.bits j).0) in
    record {
      nodes = subst (All (λ (s : Seed). s.node < self.arcs.nodes)) (sym grew) (All-push (λ (s : Seed). s.node < self.arcs.nodes) old seed inv.nodes (subst (λ n. n < self.arcs.nodes) (sym c.seed_of.ensures.node) (subst (λ (r : Access). r.item < self.arcs.nodes) (sym c.index.ensures) (self.items k read low))));
      done = done-next self.rows.list c.args.window c.loop-end.end k c.before-end.result
          (λ j access. (read : Access) → slice_get reads j ≡ Some read → Contains (seeds_of (place_of read.location) old) read.item)
          (λ j access. (read : Access) → slice_get reads j ≡ Some read → Contains (seeds_of (place_of read.location) new) read.item)
          here inv.done c.before-end.ensures
          (λ j access before r e. subst (λ l. Contains (seeds_of (place_of r.location) l) r.item) (sym grew) (seeds-kept old seed r.item (place_of r.location) (before r e)))
          (λ access there r e.
          let found : read ≡ r = c.index.ensures ∙ get_or_from_slice_get reads k r read e in
          subst (λ l. Contains (seeds_of (place_of r.location) l) r.item) (sym grew)
          (subst (λ (r : Access). Contains (seeds_of (place_of r.location) (old ++ seed ∷ [])) r.item) found
          (seeds-pushed old seed read.item (place_of read.location) (c.seed_of.ensures.node, (c.seed_of.ensures.bits (place_of read.location)).1 refl))));
      only = more-read reads c.args.window old new seed read k grew at is c.seed_of.ensures.node bits inv.only;
    }

pub returns-clause-exact : goal.returns-clause-exact
returns-clause-exact c =
    let self = c.args.self.now in
    let past = c.loop-end-test.false in
    all-read self.reads.items c.args.window self.rows.list self.rows_are c.loop-end.end (omega (arith, past)) c.loop-end.seeds.items c.loop-end.invariant.done c.loop-end.invariant.only
