use Rattle.std.proofs.Common.{length, ap}
use Rattle.coalesce.proofs.Starting.{first-state}
use Rattle.coalesce.proofs.classes.Classes.new.Goals as goal

pub returns-clause-state : goal.returns-clause-state
returns-clause-state c =
    first-state c.args.func.now c.args._related.now c.in_ok-class.class.items c.in_ok-alone.alone.items c.in_ok-shadow.shadow.items (length c.as_slice-count.result.now) (ap length c.as_slice-count.ensures)
    c.in_ok-class.ensures.long c.in_ok-class.ensures.own (c.in_ok-alone.ensures.items_if_clones_equal (λ y e. e)) c.in_ok-shadow.ensures.long c.in_ok-shadow.ensures.all c.in_ok-shadow.ensures.only
