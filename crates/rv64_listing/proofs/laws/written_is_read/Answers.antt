use Rattle.rv64_listing.proofs.Tells.{written_is_read}
use Rattle.rv64_listing.proofs.laws.written_is_read.Goals as goal

pub returns : goal.returns
returns c = written_is_read
