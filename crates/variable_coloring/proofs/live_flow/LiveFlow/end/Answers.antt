use Rattle.variable_coloring.proofs.Seeding.{no-row}
use Rattle.variable_coloring.proofs.live_flow.LiveFlow.end.Goals as goal

pub returns-then-window-locations : goal.returns-then-window-locations
returns-then-window-locations c = no-row c.args.self.now.rows.list c.args.window c.locations.result c.locations.ensures.above c.if-window-locations.true
