use Rattle.std.proofs.Common.{◌<◌, arith}
use Rattle.definite_assignment.specs.Window.{window_of}
use Rattle.definite_assignment.proofs.Windows.{window-below}
use Rattle.definite_assignment.proofs.flow.Flow.first_open.Goals as goal

pub returns : goal.returns
returns c =
    let self = c.args.self.now in
    let inv = c.loop-window.invariant in
    record {
      within = inv.within;
      is_open = inv.is_open;
      none = λ k read low e.
          let below : window_of read.location < c.locations-window-end.result =
          window-below self.rows.list self.reads.items self.rows_are 0 0 c.locations-window-end.result c.locations-window-end.ensures.above k read e in
          let all = c.loop-window-test.false in
          inv.none k read low e (omega arith);
    }
