use Rattle.std.proofs.Common.{◌∙◌}
use Rattle.side_traces.proofs.Names.{exits-named}
use Rattle.side_traces.proofs.exits.Exits.of.Goals as goal

pub returns : goal.returns
returns c = exits-named c.args.func.now.labels 1 c.args.pairs c.in_ok-names.names (c.in_ok-names.ensures.long ∙ c.len.ensures) c.in_ok-names.ensures.fresh
