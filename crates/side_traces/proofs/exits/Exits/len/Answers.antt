use Rattle.std.proofs.Common.{◌∙◌, length, sym, ap}
use Rattle.side_traces.proofs.Names.{exits-long}
use Rattle.side_traces.proofs.exits.Exits.len.Goals as goal

pub returns : goal.returns
returns c = c.len.ensures ∙ sym (exits-long c.self.inside.pairs c.self.inside.names c.self.invariant) ∙ ap length c.self.view_is
