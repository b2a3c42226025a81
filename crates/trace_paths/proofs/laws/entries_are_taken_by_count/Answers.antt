use Rattle.trace_paths.specs.Fits.{count_of}
use Rattle.trace_paths.proofs.Order.{order_laws}
use Rattle.trace_paths.proofs.laws.entries_are_taken_by_count.Goals as goal

pub returns : goal.returns
returns c = order_laws count_of
