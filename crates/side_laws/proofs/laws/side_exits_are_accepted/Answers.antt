use Rattle.side_laws.proofs.lemmas.acceptance.Accepting.{exits-accepted}
use Rattle.side_laws.proofs.laws.side_exits_are_accepted.Goals as goal

pub returns : goal.returns
returns c = exits-accepted
