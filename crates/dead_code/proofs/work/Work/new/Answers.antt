use Rattle.flow_graph.specs.Location.{number_of}
use Rattle.dead_code.proofs.Queueing.{all-are-queued, none-off}
use Rattle.dead_code.proofs.work.Work.new.Goals as goal

pub returns-clause-work : goal.returns-clause-work
returns-clause-work c =
    let marks = c.in_ok-queued.queued.items in
    let same = c.in_ok-queued.ensures.items_if_clones_equal (λ y e. e) in
    record {
      sound = c.in_ok-dead.ensures.sound;
      none_idle = c.in_ok-dead.ensures.none;
      are = all-are-queued c.in_ok-queue.queue.items marks c.args.count same c.in_ok-queue.ensures;
      settled = λ x inside off free. none-off marks c.args.count (number_of x) same inside off;
    }
