use Rattle.std.proofs.Common.{arith}
use Rattle.flow_graph.proofs.AccessRows.{none-accessed}
use Rattle.flow_graph.proofs.accesses.AccessLists.items.Goals as goal

pub returns-then-location-locations : goal.returns-then-location-locations
returns-then-location-locations c = none-accessed c.args.self.now.list c.args.location c.locations.result c.new.result.items c.new.ensures.items (omega arith) c.locations.ensures.above
