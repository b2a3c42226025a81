use Rattle.std.proofs.Common.{length, sym, subst}
use Rattle.bril_names.specs.Range.{AreInRange}
use Rattle.bril_names.proofs.Items.{AreInRange-at}
use Rattle.bril_names.proofs.unnumbering.items.items_of.Goals as goal

pub item_of-requires : goal.item_of-requires
item_of-requires c =
    let f = c.args.f.now in
    let code = c.as_slice-item-items.result.now in
    let all = subst (AreInRange (length c.args.funcs.now) (length f.vars) (length f.labels)) (sym c.as_slice-item-items.ensures) c.requires in
    AreInRange-at (length c.args.funcs.now) (length f.vars) (length f.labels) code c.loop-item.item-index c.item-item.result c.loop-item-test.true c.item-item.is all
