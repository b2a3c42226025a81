use Rattle.side_laws.proofs.Made.{exits-link}
use Rattle.side_laws.proofs.laws.side_exits_link.Goals as goal

pub returns : goal.returns
returns c = exits-link
