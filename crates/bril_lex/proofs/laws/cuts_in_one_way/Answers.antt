use Rattle.bril_lex.proofs.Cuts.{cuts_in_one_way}
use Rattle.bril_lex.proofs.laws.cuts_in_one_way.Goals as goal

pub returns : goal.returns
returns c = cuts_in_one_way
