use Rattle.std.proofs.Common.{◌≡◌, ◌+◌, ◌-◌, ◌<◌, Some, false, ◌∙◌, subst, arith}
use Rattle.std.specs.Prelude.{slice_get}
use Rattle.std.specs.List.{Contains}
use Rattle.std.proofs.lemmas.List.Elements.{All-nil}
use Rattle.std.proofs.lemmas.Option.{get_or_from_slice_get}
use Rattle.flow_graph.specs.declared.reads.Access.{Access}
use Rattle.flow_graph.proofs.AccessRows.{done-start, done-next}
use Rattle.graph_search.specs.Sets.{seeds_of}
use Rattle.graph_search.specs.declared.reached_sets.Seed.{Seed}
use Rattle.definite_assignment.specs.Reads.{is_argument}
use Rattle.definite_assignment.specs.Window.{place_of}
use Rattle.definite_assignment.proofs.Windows.{all-of-window}
use Rattle.definite_assignment.proofs.flow.Flow.seeds.Goals as goal

pub loop-end-init : goal.loop-end-init
loop-end-init c =
    let self = c.args.self.now in
    record {
      nodes = rw c.new-seeds.ensures.items (All-nil (λ (seed : Seed). seed.node < self.forward.nodes));
      done = done-start self.rows.list c.args.window c.end-end.result
          (λ k access. (read : Access) → slice_get self.reads.items k ≡ Some read → is_argument self.args read.location ≡ false → Contains (seeds_of (place_of read.location) c.new-seeds.result.items) read.item) c.end-end.ensures;
    }

pub loop-end-preserved : goal.loop-end-preserved
loop-end-preserved c =
    let self = c.args.self.now in
    let reads = self.reads.items in
    let inv = c.loop-end.invariant in
    let positive = c.loop-end-test.true in
    let k = c.loop-end.end - 1 in
    let here : k + 1 ≡ c.loop-end.end = omega arith in
    let old = c.loop-end.seeds.items in
    let new = c.push_seed.new.seeds.items in
    record {
      nodes = c.in_ok-push_seed.ensures.nodes;
      done = done-next self.rows.list c.args.window c.loop-end.end k c.before-end.result
          (λ j access. (read : Access) → slice_get reads j ≡ Some read → is_argument self.args read.location ≡ false → Contains (seeds_of (place_of read.location) old) read.item)
          (λ j access. (read : Access) → slice_get reads j ≡ Some read → is_argument self.args read.location ≡ false → Contains (seeds_of (place_of read.location) new) read.item)
          here inv.done c.before-end.ensures
          (λ j access before read e local. c.in_ok-push_seed.ensures.kept (place_of read.location) read.item (before read e local))
          (λ access at read e local.
          let found : c.index.result.now ≡ read = c.index.ensures ∙ get_or_from_slice_get reads k read c.index.result.now e in
          subst (λ (r : Access). is_argument self.args r.location ≡ false → Contains (seeds_of (place_of r.location) new) r.item) found c.in_ok-push_seed.ensures.there local);
    }

pub returns-clause-all : goal.returns-clause-all
returns-clause-all c = λ k read e is local.
    let self = c.args.self.now in
    let past = c.loop-end-test.false in
    all-of-window self.rows.list self.reads.items self.rows_are c.args.window c.loop-end.end
    (λ j r. is_argument self.args r.location ≡ false → Contains (seeds_of (place_of r.location) c.loop-end.seeds.items) r.item) (omega arith) c.loop-end.invariant.done k read e is local
