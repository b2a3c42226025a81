use Rattle.std.proofs.Common.{◌+◌, take, None, sym, subst}
use Rattle.bril_names.specs.Numbering.{Enters, StandFor}
use Rattle.bril_names.proofs.ItemNumbers.{stand_more, enter_more, unassigned}
use Rattle.bril_names.proofs.numbering.items.enter_all.Goals as goal

pub loop-name-preserved : goal.loop-name-preserved
loop-name-preserved c =
    let first = c.args.vars.now.infos.items in
    let before = c.loop-name.vars.infos.items in
    let after = c.enter.new.self.infos.items in
    let x = c.in_ok-enter.field-0 in
    let xs = c.loop-name.numbers in
    let k = c.loop-name.name-index in
    record {
      enters = subst (λ list. Enters first after list (λ _. None)) (sym c.in_ok-push.ensures.ok)
          (enter_more first before after xs x c.loop-name.invariant.enters c.in_ok-enter.ensures.enters);
      named = subst (λ list. StandFor after list (take (k + 1) c.args.names.now)) (sym c.in_ok-push.ensures.ok)
          (stand_more before after c.args.names.now k c.name-item.result xs x (unassigned x) c.loop-name-test.true c.name-item.is
          c.loop-name.invariant.named c.in_ok-enter.ensures.enters c.in_ok-enter.ensures.named);
    }
