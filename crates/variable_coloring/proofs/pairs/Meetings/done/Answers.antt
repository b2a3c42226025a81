use Rattle.graph_search.proofs.WordBits.{no-bits}
use Rattle.variable_coloring.proofs.pairs.Meetings.done.Goals as goal

pub returns-then-index-block : goal.returns-then-index-block
returns-then-index-block c = λ k h. absurd (no-bits k h)
