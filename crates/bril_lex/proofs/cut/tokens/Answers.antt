use Rattle.bril_lex.proofs.Lexemes.{reads, stops, spelled, ordered}
use Rattle.bril_lex.proofs.cut.tokens.Goals as goal

pub returns-clause-reads : goal.returns-clause-reads
returns-clause-reads c = reads c.args.source.now c.cut.result c.cut.ensures.ok c.cut.ensures.fault

pub returns-clause-spelled : goal.returns-clause-spelled
returns-clause-spelled c = spelled c.args.source.now c.cut.result c.cut.ensures.ok

pub returns-clause-in_order : goal.returns-clause-in_order
returns-clause-in_order c = ordered c.args.source.now c.cut.result c.cut.ensures.ok

pub returns-clause-stops : goal.returns-clause-stops
returns-clause-stops c = stops c.args.source.now c.cut.result c.cut.ensures.ok c.cut.ensures.fault
