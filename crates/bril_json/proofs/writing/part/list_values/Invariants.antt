use Rattle.std.proofs.Common.{◌≡◌, take}
use Rattle.std.specs.List.{All}
use Rattle.serde_json.specs.View.{items_view}
use Rattle.bril_json.specs.Canonical.{listed}
use Rattle.bril_json.proofs.writing.part.list_values.Given as goal

abbrev pub invariant-loop-item : goal.invariant-loop-item
invariant-loop-item g l = record {
  values : items_view l.values.items ≡ listed g.T.ListItem.json (take l.item-index l.list);
  valid : All g.T.ListItem.is_part (take l.item-index l.list);
}
