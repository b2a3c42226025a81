-- No pass has changed its meaning.
use Rattle.shipped_passes.proofs.Making.{All-shipped-same}
use Rattle.code_tests.proofs.lists.call_on.Goals as goal

pub returns : goal.returns
returns g c = All-shipped-same _ _ _ c.bril_top-status.ensures.same c.requires
