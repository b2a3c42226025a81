use Rattle.std.proofs.Common.{[], ◌∷◌}
use Rattle.std.proofs.lemmas.Bool.Decides.{Decides-eqb}
use Rattle.std.proofs.lemmas.Slice.Eq.{strip_prefix_is}
use Rattle.rv64_listing.proofs.Front.{open_step}
use Rattle.rv64_listing.proofs.tokens.open.Goals as goal

pub returns : goal.returns
returns c = open_step c.args.rest.now c.strip_prefix.result (strip_prefix_is Decides-eqb c.args.rest.now (40 ∷ []) c.strip_prefix.result c.strip_prefix.ensures.cases)
