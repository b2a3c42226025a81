use Rattle.std.proofs.Common.{◌≡◌, ◌<◌, ◌≤◌, [], ◌∷◌, length, sym, ap, ◌∙◌, subst, arith}
use Rattle.std.specs.List.{All}
use Rattle.std.proofs.lemmas.List.{length-append}
use Rattle.std.proofs.lemmas.List.Elements.{All-weaker}
use Rattle.flow_graph.specs.Reads.{reads_from}
use Rattle.flow_graph.specs.declared.reads.Access.{Access}
use Rattle.live_sets.proofs.Rows.{AreRows, no-rows, more-rows, tells}
use Rattle.live_sets.proofs.live.table_of.Goals as goal

pub loop-location-init : goal.loop-location-init
loop-location-init c = record {
  nodes = c.in_ok-reached.ensures.nodes ∙ c.points.ensures.same;
  long = ap length c.new-rows.ensures.items;
  rows = λ code are. subst (AreRows code) (sym c.new-rows.ensures.items) (no-rows code);
}

pub overflow_cast-location : goal.overflow_cast-location
overflow_cast-location c = let low = c.loop-location-test.true in let few = c.locations-locations.ensures.few in omega arith

pub loop-location-preserved : goal.loop-location-preserved
loop-location-preserved c =
    let inv = c.loop-location.invariant in
    let pushed = c.in_ok-push.ensures.items in
    record {
      nodes = c.in_ok-row_of.ensures.points ∙ inv.nodes;
      long = omega (arith, inv.long, ap length pushed, length-append c.loop-location.rows.items (c.in_ok-row_of.field-0 ∷ []));
      rows = λ code are. more-rows code c.loop-location.rows.items c.push.new.self.items c.in_ok-row_of.field-0 c.loop-location.location (sym inv.long) (inv.rows code are) (c.in_ok-row_of.ensures.row code are) pushed;
    }

pub returns : goal.returns
returns c = λ code are.
    let inv = c.loop-location.invariant in
    let rows = c.loop-location.rows.items in
    let bound = c.locations-locations.result in
    let list : c.reads.result.now.list ≡ reads_from 0 code = ap (λ v. v.list) c.reads.ensures ∙ are.reads in
    let done : bound ≤ length rows = omega (arith, inv.long, c.loop-location-test.false) in
    tells code rows (inv.rows code are)
    (All-weaker (λ (a : Access). a.location < bound) (λ (a : Access). a.location < length rows) (λ a low. omega (arith, done, low)) (reads_from 0 code) (subst (All (λ (a : Access). a.location < bound)) list c.locations-locations.ensures.above))
