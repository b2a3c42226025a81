use Rattle.graph_search.proofs.WordBits.{no-bits}
use Rattle.ssa_search.proofs.live_entry_count.lanes.lane_bit.Goals as goal

pub returns-else-point-points-clause-only : goal.returns-else-point-points-clause-only
returns-else-point-points-clause-only c = λ j h. absurd (no-bits j h)
