use Rattle.bril_tree.proofs.Elements.{All-one_more, All-whole}
use Rattle.bril_json.proofs.Lists.{each_more, each_all}
use Rattle.bril_json.proofs.writing.part.list_values.Goals as goal

pub loop-item-preserved : goal.loop-item-preserved
loop-item-preserved g c =
    let at = c.loop-item.item-index in
    record {
      values = each_more g.T.ListItem.json c.args.list.now at c.item-item.result c.loop-item.values.items c.push.new.self.items c.in_ok-value.field-0 c.loop-item-test.true c.item-item.is c.loop-item.invariant.values c.in_ok-value.ensures.value c.in_ok-push.ensures.items;
      valid = All-one_more g.T.ListItem.is_part c.args.list.now at c.item-item.result c.loop-item-test.true c.item-item.is c.loop-item.invariant.valid c.in_ok-value.ensures.valid;
    }

pub returns-clause-values : goal.returns-clause-values
returns-clause-values g c = each_all g.T.ListItem.json c.args.list.now c.loop-item.item-index c.loop-item.values.items c.loop-item-test.false c.loop-item.invariant.values

pub returns-clause-valid : goal.returns-clause-valid
returns-clause-valid g c = All-whole g.T.ListItem.is_part c.args.list.now c.loop-item.item-index c.loop-item-test.false c.loop-item.invariant.valid
