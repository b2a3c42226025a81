use Rattle.std.proofs.Common.{◌≡◌, ◌↔◌, false, subst, arith}
use Rattle.std.specs.List.{Contains}
use Rattle.std.proofs.lemmas.List.{take_all}
use Rattle.graph_search.specs.Marks.{is_marked}
use Rattle.dead_code.proofs.Queueing.{alive-more}
use Rattle.dead_code.proofs.work.Work.alive.Goals as goal

pub loop-item-preserved : goal.loop-item-preserved
loop-item-preserved c = alive-more c.args.self.now.dead.items c.args.items.now c.loop-item.alive.items c.push_alive.new.alive.items c.loop-item.item-index c.loop-item-test.true c.loop-item.invariant c.in_ok-push_alive.ensures

pub returns : goal.returns
returns c = λ item.
    subst (λ items. Contains c.loop-item.alive.items item ↔ (Contains items item × (is_marked c.args.self.now.dead.items item ≡ false))) (take_all c.loop-item.item-index c.args.items.now (omega arith)) (c.loop-item.invariant item)
