use Rattle.std.proofs.Common.{sym, subst, take, take_all}
use Rattle.std.proofs.lemmas.List.Elements.{All-more, All-same}
use Rattle.bril_tree.specs.Literals.{IsLiteralInRange}
use Rattle.bril_tree.proofs.literals.items_are_in_range.Goals as goal

pub loop-item-preserved : goal.loop-item-preserved
loop-item-preserved c =
    All-more IsLiteralInRange c.args.items.now c.loop-item.item-index c.item-item.result c.loop-item-test.true c.loop-item.invariant
    (subst IsLiteralInRange c.item-item.is c.literal_is_in_range.ensures)

pub returns : goal.returns
returns c =
    All-same IsLiteralInRange c.args.items.now (take c.loop-item.item-index c.args.items.now)
    (sym (take_all c.loop-item.item-index c.args.items.now c.loop-item-test.false)) c.loop-item.invariant
