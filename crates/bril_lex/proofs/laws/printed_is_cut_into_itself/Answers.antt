use Rattle.bril_lex.proofs.Printing.{printed_is_cut}
use Rattle.bril_lex.proofs.laws.printed_is_cut_into_itself.Goals as goal

pub returns : goal.returns
returns c = printed_is_cut
