use Rattle.bril_lex.proofs.Bytes.{cuts_are_utf8}
use Rattle.bril_lex.proofs.laws.cut_sources_are_utf8.Goals as goal

pub returns : goal.returns
returns c = cuts_are_utf8
