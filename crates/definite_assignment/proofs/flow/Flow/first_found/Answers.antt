use Rattle.std.proofs.Common.{◌≡◌, ◌+◌, ◌-◌, ◌<◌, ◌≤◌, Some, length, inl, refl, arith}
use Rattle.std.specs.Prelude.{slice_get}
use Rattle.flow_graph.specs.declared.reads.Access.{Access}
use Rattle.flow_graph.proofs.AccessRows.{done-start, done-next}
use Rattle.definite_assignment.specs.Window.{IsFound}
use Rattle.definite_assignment.proofs.Lowering.{lower-met, lower-below, lower-here}
use Rattle.definite_assignment.proofs.Windows.{all-of-window, read-of-window, long-as}
use Rattle.definite_assignment.proofs.flow.Flow.first_found.Goals as goal

pub loop-end-init : goal.loop-end-init
loop-end-init c =
    let self = c.args.self.now in
    record {
      done = done-start self.rows.list c.args.window c.end-end.result (λ k access. (read : Access) → slice_get self.reads.items k ≡ Some read → IsFound self.args c.args.sets.now.words read → c.args.first ≤ k) c.end-end.ensures;
      below = omega arith;
      met = inl refl;
    }

pub loop-end-preserved : goal.loop-end-preserved
loop-end-preserved c =
    let self = c.args.self.now in
    let reads = self.reads.items in
    let P = IsFound self.args c.args.sets.now.words in
    let inv = c.loop-end.invariant in
    let positive = c.loop-end-test.true in
    let k = c.loop-end.end - 1 in
    let here : k + 1 ≡ c.loop-end.end = omega arith in
    let within = inv.done.within in
    let below = inv.done.row.within in
    let long : length self.rows.list ≡ length reads = long-as self.rows.list reads self.rows_are c.args.window c.loop-end.end in
    let low : k < length reads = omega arith in
    let less : c.lower_at-least.result ≤ c.loop-end.least = lower-below reads P k c.loop-end.least c.lower_at-least.result low c.lower_at-least.ensures in
    let first = inv.below in
    record {
      done = done-next self.rows.list c.args.window c.loop-end.end k c.before-end.result (λ j access. (read : Access) → slice_get reads j ≡ Some read → P read → c.loop-end.least ≤ j)
          (λ j access. (read : Access) → slice_get reads j ≡ Some read → P read → c.lower_at-least.result ≤ j) here inv.done c.before-end.ensures
          (λ j access before read e met. let old = before read e met in omega arith)
          (λ access e read at met. lower-here reads P k c.loop-end.least c.lower_at-least.result low c.lower_at-least.ensures read at met);
      below = omega arith;
      met = lower-met reads P k c.loop-end.least c.lower_at-least.result low c.lower_at-least.ensures c.args.window c.args.first
          (read-of-window self.rows.list reads self.rows_are c.args.window c.loop-end.end inv.done.bound k inv.done.row here) inv.met;
    }

pub returns : goal.returns
returns c =
    let self = c.args.self.now in
    let inv = c.loop-end.invariant in
    let past = c.loop-end-test.false in
    record {
      within = inv.below;
      met = inv.met;
      none = λ k read low e h.
          let least : c.loop-end.least ≤ k =
          all-of-window self.rows.list self.reads.items self.rows_are c.args.window c.loop-end.end (λ j r. IsFound self.args c.args.sets.now.words r → c.loop-end.least ≤ j) (omega arith) inv.done k read e h.0 h.1 in
          absurd (omega arith);
    }
